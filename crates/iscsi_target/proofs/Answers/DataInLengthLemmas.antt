-- No Data-In is longer than it may be.
use Rattle.std.proofs.Common.{◌≡◌, ◌≤◌, ℕ, zero, suc, ◌+◌, List, [], ◌∷◌, ◌++◌, length, drop, Option, Some, None, arith}
use Rattle.std.specs.List.{flat_map, AllByRecursion}
use Rattle.std.proofs.lemmas.List.{length-take}
use Rattle.iscsi_stream.specs.Segment.{segment_bytes}
use Rattle.iscsi_stream.specs.Stream.{Message}
use Rattle.iscsi_stream.specs.Pieces.{chunks_within, chunks, data_pieces}
use Rattle.iscsi_login.specs.Held.{max_burst}
use Rattle.iscsi_target_session.specs.Configured.{shortened}
use Rattle.iscsi_target_session.specs.Session.{Session, data_in_length}
use Rattle.iscsi_target.specs.Execution.{marked_parts, sequence_parts, data_in_parts, data_ins}
use Rattle.iscsi_target.specs.Tiles.{AreShortDataIn}
use Rattle.iscsi_target.proofs.Answers.DataInTilingLaw.{Parts}

-- each part has at most so many bytes
abbrev pub AreShort : ℕ → Parts → Type 0
AreShort most given = AllByRecursion (λ part. length part.0 ≤ most) given

pub all_append : {A : Type 0} (P : A → Type 0) (xs ys : List A) → AllByRecursion P xs → AllByRecursion P ys → AllByRecursion P (xs ++ ys)
all_append P [] ys p q = q
all_append P (x ∷ xs) ys p q = (p.0, all_append P xs ys p.1 q)

parts_short : (fuel size most : ℕ) (bytes : List ℕ) → size ≤ most → AllByRecursion (λ part. length part ≤ most) (chunks_within fuel size bytes)
parts_short zero size most bytes le = tt
parts_short (suc more) size most [] le = tt
parts_short (suc more) size most (b ∷ bytes) le =
    (omega (arith, le, length-take size (b ∷ bytes)), parts_short more size most (drop size (b ∷ bytes)) le)

marked_short : (most : ℕ) (xs : List (List ℕ)) → AllByRecursion (λ part. length part ≤ most) xs → AreShort most (marked_parts xs)
marked_short most [] all = tt
marked_short most (x ∷ []) all = (all.0, tt)
marked_short most (x ∷ y ∷ xs) all = (all.0, marked_short most (y ∷ xs) all.1)

runs_short : (s : Session) (most : ℕ) (runs : List (List ℕ)) → data_in_length s ≤ most → AreShort most (flat_map (sequence_parts s) runs)
runs_short s most [] le = tt
runs_short s most (run ∷ runs) le =
    all_append (λ part. length part.0 ≤ most) (sequence_parts s run) (flat_map (sequence_parts s) runs)
    (marked_short most (chunks (data_in_length s) run) (parts_short (length run) (data_in_length s) most run le)) (runs_short s most runs le)

pub given_short : (s : Session) (most : ℕ) (bytes : List ℕ) → data_in_length s ≤ most → AreShort most (data_in_parts s bytes)
given_short s most bytes le = runs_short s most (chunks (max_burst s.held) bytes) le

-- the Data-In of short parts, before an answer without data
pub ins_short : (s : Session) (most waits tag data_sn at : ℕ) (given : Parts) (last : Message) → data_pieces (last ∷ []) ≡ [] → AreShort most given
    → AreShortDataIn most (data_ins s waits tag data_sn at given ++ last ∷ [])
unfolding segment_bytes
ins_short s most waits tag data_sn at [] last e all = rw e tt
ins_short s most waits tag data_sn at (part ∷ given) last e all =
    (all.0, ins_short s most waits tag (data_sn + 1) (at + length part.0) given last e all.1)

-- ---- a length within a limit

pub shortened_within : (limit : Option ℕ) (bytes : ℕ) → shortened limit bytes ≤ bytes
shortened_within None bytes = omega arith
shortened_within (Some limit) bytes = omega arith

pub shortened_some : (limit : Option ℕ) (bytes : ℕ) → 512 ≤ bytes → 512 ≤ shortened limit bytes
shortened_some None bytes le = le
shortened_some (Some limit) bytes le = omega (arith, le)
