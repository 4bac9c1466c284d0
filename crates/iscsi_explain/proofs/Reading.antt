-- What showing a stream keeps from read to read.
use Rattle.std.proofs.Common.{◌≡◌, ℕ, false, List, [], ◌++◌, length, Option, refl, sym, ap, subst, ◌∙◌, append-nil, inl, inr}
use Rattle.std.specs.Prelude.{IsTrue, ◌⊎◌}
use Rattle.std.specs.Io.KnownBytes.{Appends, Consumes}
use Rattle.std.proofs.KnownBytes.{Appends-trans, Appends-nil, Consumes-trans, Consumes-nil}
use Rattle.std.proofs.lemmas.List.{nil_from_length}
use Rattle.iscsi_stream.specs.Segment.{no_login}
use Rattle.iscsi_stream.specs.Stream.{Message, StreamMeans, ReadsAs, longest_segment}
use Rattle.iscsi_stream.specs.Framing.{Framing, opening_framing, is_ready, HasTaken}
use Rattle.iscsi_stream.proofs.SettledBytesLemmas.{length-settled}
use Rattle.iscsi_stream.proofs.ReadyLemmas.{apart, not_whole-nil}
use Rattle.iscsi_stream.proofs.TakingLemmas.{at_opening}
use Rattle.iscsi_explain.specs.declared.form.Form.{Form}
use Rattle.iscsi_explain.specs.Showing.{AreEntries, PassesEntries}
use Rattle.iscsi_explain.proofs.Passing.{entries_append}

-- an entry for each PDU of what was read is written
pub record ReadUpTo (form : Form) (v : Framing) (r0 r1 w0 w1 : Option (List ℕ)) : Type 0 where
  pub read : List ℕ
  pub ms : List Message
  pub out : List ℕ
  pub taken : HasTaken read ms v
  pub limit : v.limit ≡ longest_segment
  pub unready : is_ready v ≡ false
  pub entries : AreEntries form ms out
  pub consumed : Consumes r0 r1 read
  pub written : Appends w0 w1 out

pub at_start : (form : Form) (r w : Option (List ℕ)) → ReadUpTo form (opening_framing longest_segment) r r w w
at_start form r w = record {
  read = [];
  ms = [];
  out = [];
  taken = at_opening longest_segment;
  limit = refl;
  unready = not_whole-nil;
  entries = refl;
  consumed = Consumes-nil r;
  written = Appends-nil w;
}

pub read_more : (form : Form) (v u : Framing) (r0 r1 r2 w0 w1 w2 : Option (List ℕ)) (piece out : List ℕ)
    (more : List Message) → ReadUpTo form v r0 r1 w0 w1 → Consumes r1 r2 piece
    → PassesEntries form v u [] out piece more → Appends w1 w2 out → ReadUpTo form u r0 r2 w0 w2
read_more form v u r0 r1 r2 w0 w1 w2 piece out more up read passes wrote = record {
  read = up.read ++ piece;
  ms = up.ms ++ more;
  out = up.out ++ out;
  taken = passes.moves up.read up.ms up.taken;
  limit = passes.limit ∙ up.limit;
  unready = passes.unready;
  entries = entries_append form up.ms more up.out out up.entries
      (subst (λ (x : List ℕ). AreEntries form more x) (sym passes.appended) passes.entries);
  consumed = Consumes-trans r0 r1 r2 up.read piece up.consumed read;
  written = Appends-trans w0 w1 w2 up.out out up.written wrote;
}

-- what a call has read and written
abbrev pub Moved : Option (List ℕ) → Option (List ℕ) → Option (List ℕ) → Option (List ℕ)
    → (List ℕ → List ℕ → Type 0) → Type 0
Moved r0 r1 w0 w1 P = (read : List ℕ) × (written : List ℕ) × Consumes r0 r1 read × Appends w0 w1 written
    × P read written

abbrev pub Nothing : List ℕ → List ℕ → Type 0
Nothing read written = Unit {0}

consumed_none : (r0 r1 r2 : Option (List ℕ)) (read : List ℕ) → Consumes r0 r1 read → Consumes r1 r2 []
    → Consumes r0 r2 read
consumed_none r0 r1 r2 read p q =
    subst (Consumes r0 r2) (append-nil read) (Consumes-trans r0 r1 r2 read [] p q)

pub ends : (form : Form) (v : Framing) (r0 r1 r2 w0 w1 : Option (List ℕ)) → ReadUpTo form v r0 r1 w0 w1
    → Consumes r1 r2 [] → Moved r0 r2 w0 w1 Nothing
ends form v r0 r1 r2 w0 w1 up read =
    (up.read, up.out, consumed_none r0 r1 r2 up.read up.consumed read, up.written, tt)

pub writes_on : (form : Form) (v : Framing) (r0 r1 r2 w0 w1 w2 : Option (List ℕ)) (piece out : List ℕ)
    → ReadUpTo form v r0 r1 w0 w1 → Consumes r1 r2 piece → Appends w1 w2 out → Moved r0 r2 w0 w2 Nothing
writes_on form v r0 r1 r2 w0 w1 w2 piece out up read wrote = (
  up.read ++ piece,
  up.out ++ out,
  Consumes-trans r0 r1 r2 up.read piece up.consumed read,
  Appends-trans w0 w1 w2 up.out out up.written wrote,
  tt,
)

pub is_done : (form : Form) (v : Framing) (r0 r1 r2 w0 w1 : Option (List ℕ)) → ReadUpTo form v r0 r1 w0 w1
    → Consumes r1 r2 [] → (v.held ≡ []) ⊎ IsTrue (is_ready v)
    → Moved r0 r2 w0 w1 (λ read written. (ms : List Message) × StreamMeans read ms × AreEntries form ms written)
is_done form v r0 r1 r2 w0 w1 up read (inr ready) = absurd (apart ready up.unready)
is_done form v r0 r1 r2 w0 w1 up read (inl none) =
    let t = up.taken in
    let rest : t.rest ≡ [] = nil_from_length t.rest (sym (length-settled t.rest) ∙ ap length (sym t.held ∙ none)) in
    let whole : t.given ≡ up.read = sym (t.whole ∙ ap (λ (x : List ℕ). t.given ++ x) rest ∙ append-nil t.given) in
    let means : StreamMeans up.read up.ms = subst (λ (x : List ℕ). ReadsAs longest_segment no_login x up.ms) whole
    (subst (λ (n : ℕ). ReadsAs n no_login t.given up.ms) up.limit t.reads) in (
      up.read,
      up.out,
      consumed_none r0 r1 r2 up.read up.consumed read,
      up.written,
      (up.ms, means, up.entries),
    )
