-- The two parts of what normalise says, and two streams of one meaning.
use Rattle.std.proofs.Common.{◌≡◌, ◌↔◌, ℕ, List, sym, ap, subst}
use Rattle.std.specs.Prelude.{Result, Ok, Err, IfOk, IfErr}
use Rattle.iscsi_pdu.specs.Meaning.{AreBytes}
use Rattle.iscsi_stream.specs.declared.fault.ToolFault.{ToolFault}
use Rattle.iscsi_stream.specs.declared.counts.Counts.{Counts}
use Rattle.iscsi_stream.specs.Segment.{no_login}
use Rattle.iscsi_stream.specs.Stream.{Message, StreamMeans, ReadsAs, longest_segment}
use Rattle.iscsi_stream.specs.Canonical.{canon}
use Rattle.iscsi_stream.specs.Normalising.{IsCanonical, IsNormalised, WriteDuePost, WritesUntil}
use Rattle.iscsi_stream.proofs.OneMeaningLaw.{canon_again, one_meaning}

pub ok_part : (P : List ℕ → Type 0) (Q : List ℕ → Type 0) (result : Result Counts ToolFault)
    → ((read : List ℕ) × (written : List ℕ) × AreBytes read × P read × Q written × WriteDuePost IsCanonical result read written)
    → IfOk result (λ counts. (read : List ℕ) × (written : List ℕ) × AreBytes read × P read × Q written × IsNormalised counts read written)
ok_part P Q (Ok counts) h = h
ok_part P Q (Err fault) h = tt

pub fault_part : (P : List ℕ → Type 0) (Q : List ℕ → Type 0) (result : Result Counts ToolFault)
    → ((read : List ℕ) × (written : List ℕ) × AreBytes read × P read × Q written × WriteDuePost IsCanonical result read written)
    → IfErr result (λ fault. (read : List ℕ) × (written : List ℕ) × AreBytes read × P read × Q written × WritesUntil IsCanonical fault read written)
fault_part P Q (Ok counts) h = tt
fault_part P Q (Err fault) h = h

-- two streams mean the same exactly if their canonical streams are equal
pub same_exactly : (s t : List ℕ) (ms ns : List Message) → AreBytes s → AreBytes t → StreamMeans s ms → StreamMeans t ns
    → (canon ms ≡ canon ns) ↔ (ms ≡ ns)
same_exactly s t ms ns s_bytes t_bytes p q =
    let first = canon_again longest_segment no_login s ms s_bytes p in
    let second = canon_again longest_segment no_login t ns t_bytes q in (
      λ e. one_meaning longest_segment no_login (canon ms) ms ns first (subst (λ (x : List ℕ). ReadsAs longest_segment no_login x ns) (sym e) second),
      λ e. ap canon e,
    )
