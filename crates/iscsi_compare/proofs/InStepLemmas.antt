-- Two streams in step.
use Rattle.std.proofs.Common.{◌≡◌, ℕ, Bool, true, false, List, [], ◌∷◌, ◌++◌, Option, Some, None, refl, sym, ap, subst, ◌∙◌, append-nil}
use Rattle.std.specs.Io.KnownBytes.{Consumes}
use Rattle.std.proofs.KnownBytes.{Consumes-trans}
use Rattle.std.proofs.lemmas.List.{same_from_push}
use Rattle.std.proofs.lemmas.List.Concat.{flat_map-cons, flat_map-append}
use Rattle.iscsi_pdu.specs.declared.head.Head.{Head}
use Rattle.iscsi_pdu.specs.Meaning.{Means, AreBytes}
use Rattle.iscsi_stream.specs.Segment.{no_login}
use Rattle.iscsi_stream.specs.Stream.{Message, longest_segment, ReadsAs}
use Rattle.iscsi_stream.specs.Canonical.{canon, canonical_bytes}
use Rattle.iscsi_stream.specs.Framing.{Framing, pdu_given_up, message_of, is_ready}
use Rattle.iscsi_stream.proofs.OneMeaningLaw.{AreBytes-front, canon_again, one_meaning}
use Rattle.iscsi_compare.specs.declared.fault.Which.{Which}
use Rattle.iscsi_compare.specs.declared.fault.Which.TheVariants.{First, Second}
use Rattle.iscsi_compare.specs.declared.fault.CompareFault.{CompareFault}
use Rattle.iscsi_compare.specs.declared.fault.CompareFault.TheVariants as fault
use Rattle.iscsi_compare.specs.declared.side.Side.{Side}
use Rattle.iscsi_compare.specs.Comparing.{ReadInput, GaveInput, BeginsWithMessages, StreamGoesOn, AgreeAtEnds, Part, ComparisonFails}
use Rattle.iscsi_compare.specs.inner.Comparing.{input_of}
use Rattle.iscsi_compare.specs.inner.Inside.{PdusGivenUp, HasRead, IsOpen, SideReadsOn, SideHasRead, SideFails, FormIf, pending}
use Rattle.iscsi_compare.proofs.SideLemmas.{read_given, reaches, begins, stands_at}
use Rattle.iscsi_stream.proofs.LoopInvariants.{sides}

-- ---- equal forms

canon-one : (m : Message) → canon (m ∷ []) ≡ canonical_bytes m
canon-one m = flat_map-cons canonical_bytes m [] ∙ append-nil (canonical_bytes m)

canon-push : (ms : List Message) (m : Message) → canon (ms ++ m ∷ []) ≡ canon ms ++ canonical_bytes m
canon-push ms m = flat_map-append canonical_bytes ms (m ∷ []) ∙ ap (λ (x : List ℕ). canon ms ++ x) (canon-one m)

form_again : (read : List ℕ) (ms : List Message) (v : Framing) (rest : List ℕ) (k : ℕ) → PdusGivenUp read ms v rest k →
    ReadsAs longest_segment no_login (canon ms) ms
form_again read ms v rest k r =
    let x = reaches read ms v rest k r in
    canon_again longest_segment no_login r.taken.given ms (AreBytes-front r.taken.given (r.taken.rest ++ rest) (subst AreBytes x.whole r.bytes)) x.reads

-- PDUs with one canonical form behind PDUs of the same meanings mean the same
pub same_next : (read other : List ℕ) (ms : List Message) (m n : Message) (v w : Framing) (a b : List ℕ) (k l : ℕ) → PdusGivenUp read (ms ++ m ∷ []) v a k →
    PdusGivenUp other (ms ++ n ∷ []) w b l
    → canonical_bytes m ≡ canonical_bytes n → m ≡ n
same_next read other ms m n v w a b k l p q e =
    let forms : canon (ms ++ m ∷ []) ≡ canon (ms ++ n ∷ []) = canon-push ms m ∙ ap (λ (x : List ℕ). canon ms ++ x) e ∙ sym (canon-push ms n) in
    let one = form_again read (ms ++ m ∷ []) v a k p in
    let two = form_again other (ms ++ n ∷ []) w b l q in
    (same_from_push ms ms m n (one_meaning longest_segment no_login (canon (ms ++ m ∷ [])) (ms ++ m ∷ [])
    (ms ++ n ∷ []) one (subst (λ (x : List ℕ). ReadsAs longest_segment no_login x (ms ++ n ∷ [])) (sym forms) two))).1

-- ---- what stands next

abbrev pub next_of : (some : Bool) (v : Framing) (form : List ℕ) → FormIf some v form → Option Message
next_of true v form f = Some (message_of v f.0 f.1)
next_of false v form f = None

pub has_read : (some : Bool) (side : Side) (x : ReadInput) (ms : List Message) → SideHasRead some side x ms → HasRead x.read ms side
has_read true side x ms r = r
has_read false side x ms r = r.0

goes_on : (some : Bool) (side : Side) (x : ReadInput) (ms : List Message) (form : List ℕ) → SideHasRead some side x ms → (f : FormIf some side.framer form) →
    StreamGoesOn x ms (next_of some side.framer form f)
goes_on true side x ms form r f =
    begins x.read (ms ++ message_of side.framer f.0 f.1 ∷ []) (pdu_given_up side.framer f.0)
    (pending side) side.reads x.left (read_given x.read ms side.framer (pending side) side.reads f.0 f.1 r f.2)
goes_on false side x ms form r f = r.1

pub begun : (some : Bool) (side : Side) (x : ReadInput) (ms : List Message) → SideHasRead some side x ms → BeginsWithMessages x ms
begun some side x ms r = begins x.read ms side.framer (pending side) side.reads x.left (has_read some side x ms r)

differ_next : (p q : Bool) (v w : Framing) (form other : List ℕ) (f : FormIf p v form) (g : FormIf q w other) → (p ≡ q → form ≡ other → ⊥) → next_of p v form f
    ≡ next_of q w other g → ⊥
differ_next true true v w form other f g differ e =
    let same : message_of v f.0 f.1 ≡ message_of w g.0 g.1 = cc in
    differ refl (f.3 ∙ ap canonical_bytes same ∙ sym g.3)
differ_next true false v w form other f g differ e = absurd cc
differ_next false true v w form other f g differ e = absurd cc
differ_next false false v w form other f g differ e = differ refl (f ∙ sym g)

part : (p q : Bool) (x y : ReadInput) (ms : List Message) (first second : Side) (form other : List ℕ) → SideHasRead p first x ms → SideHasRead q second y ms →
    FormIf p first.framer form → FormIf q second.framer other
    → (p ≡ q → form ≡ other → ⊥) → Part x y first.framer.place second.framer.place
part p q x y ms first second form other a b f g differ = record {
  ms = ms;
  at = stands_at x.read ms first.framer (pending first) first.reads x.left (has_read p first x ms a);
  other_at = stands_at y.read ms second.framer (pending second) second.reads y.left (has_read q second y ms b);
  next = next_of p first.framer form f;
  other_next = next_of q second.framer other g;
  goes_on = goes_on p first x ms form a f;
  other_goes_on = goes_on q second y ms other b g;
  differ = differ_next p q first.framer second.framer form other f g differ;
}

-- ---- faults

first_fails : (e : CompareFault) (x y : ReadInput) (ms : List Message) → SideFails e First x ms → BeginsWithMessages y ms → ComparisonFails e x y
first_fails fault.NoMemory x y ms fails begun = (ms, fails, begun)
first_fails (fault.Stream First f) x y ms fails begun = (ms, fails.1, begun)
first_fails (fault.Stream Second f) x y ms fails begun = (let no : Second ≡ First = fails.0 in absurd cc)
first_fails (fault.Read First) x y ms fails begun = (ms, fails.1, begun)
first_fails (fault.Read Second) x y ms fails begun = (let no : Second ≡ First = fails.0 in absurd cc)

second_fails : (e : CompareFault) (x y : ReadInput) (ms : List Message) (next : Option Message) → SideFails e Second y ms → BeginsWithMessages x ms
    → StreamGoesOn x ms next →
    ComparisonFails e x y
second_fails fault.NoMemory x y ms next fails begun goes = (ms, begun, fails)
second_fails (fault.Stream Second f) x y ms next fails begun goes = (ms, next, goes, fails.1)
second_fails (fault.Stream First f) x y ms next fails begun goes = (let no : First ≡ Second = fails.0 in absurd cc)
second_fails (fault.Read Second) x y ms next fails begun goes = (ms, next, goes, fails.1)
second_fails (fault.Read First) x y ms next fails begun goes = (let no : First ≡ Second = fails.0 in absurd cc)

-- ---- the loop

-- what is left of both streams, as far as that is known, and what was written
pub record Streams : Type 0 where
  pub mine : Option (List ℕ)
  pub other : Option (List ℕ)
  pub written : List ℕ

abbrev pub streams : Option (List ℕ) → Option (List ℕ) → List ℕ → Streams
streams mine other written = record { mine = mine; other = other; written = written }

-- Of both streams PDUs of the same meanings were given up.
pub record InStep (before now : Streams) (first second : Side) : Type 0 where
  pub read : List ℕ
  pub other_read : List ℕ
  pub ms : List Message
  pub consumed : Consumes before.mine now.mine read
  pub other_consumed : Consumes before.other now.other other_read
  pub has_read : HasRead read ms first
  pub other_has_read : HasRead other_read ms second
  pub inside : IsOpen first
  pub other_inside : IsOpen second
  pub which : first.which ≡ First
  pub other_which : second.which ≡ Second
  pub same : now.written ≡ before.written

-- what the contract says of what was read
abbrev pub Compared : (ReadInput → ReadInput → Type 0) → Option (List ℕ) → Option (List ℕ) → Option (List ℕ) → Option (List ℕ) → Type 0
Compared Holds mine_old mine_new other_old other_new =
    (first : ReadInput) × (second : ReadInput) × GaveInput mine_old mine_new first × GaveInput other_old other_new second
    × Holds first second

pub gave : (old mid new : Option (List ℕ)) (read piece : List ℕ) → Consumes old mid read → Consumes mid new piece → AreBytes (read ++ piece) →
    GaveInput old new (input_of (read ++ piece) new)
gave old mid new read piece p q bytes = record { bytes = bytes; consumed = Consumes-trans old mid new read piece p q; left_is = refl }

-- the first stream has a fault
pub first_stops : (e : CompareFault) (a b c d f : Option (List ℕ)) (first second : Side) (held now : List ℕ) →
    InStep (streams a d held) (streams b f now) first second →
    SideReadsOn first b c (SideFails e first.which) → Compared (ComparisonFails e) a c d f
first_stops e a b c d f first second held now step reads =
    let one = reads step.read step.ms step.has_read in
    let x = input_of (step.read ++ one.0) c in
    let y = input_of step.other_read f in (
      x,
      y,
      gave a b c step.read one.0 step.consumed one.1 one.2,
      record { bytes = step.other_has_read.bytes; consumed = step.other_consumed; left_is = refl },
      first_fails e x y step.ms (subst (λ (w : Which). SideFails e w x step.ms) step.which one.3)
          (begins step.other_read step.ms second.framer (pending second) second.reads f step.other_has_read),
    )

-- the two sides of a comparison
pub record BothSides : Type 0 where
  pub first : Side
  pub second : Side

-- both went on
pub onwards : (Holds : ReadInput → ReadInput → Type 0) (from here : Streams) (c h : Option (List ℕ)) (first second first_new second_new : Side)
    (p q : Bool) →
    InStep from here first second
    → SideReadsOn first here.mine c (SideHasRead p first_new) → SideReadsOn second here.other h (SideHasRead q second_new)
    → ((x y : ReadInput) (ms : List Message) → SideHasRead p first_new x ms → SideHasRead q second_new y ms → Holds x y) → Compared Holds from.mine c
    from.other h
onwards Holds from here c h first second first_new second_new p q step reads others so =
    let one = reads step.read step.ms step.has_read in
    let two = others step.other_read step.ms step.other_has_read in
    let x = input_of (step.read ++ one.0) c in
    let y = input_of (step.other_read ++ two.0) h in (
      x,
      y,
      gave from.mine here.mine c step.read one.0 step.consumed one.1 one.2,
      gave from.other here.other h step.other_read two.0 step.other_consumed
          two.1 two.2,
      so x y step.ms one.3 two.3,
    )

-- the second stream has a fault
pub second_stops : (e : CompareFault) (from here : Streams) (c h : Option (List ℕ)) (first second first_new : Side) (form : List ℕ) (p : Bool) →
    InStep from here first second → SideReadsOn first here.mine c (SideHasRead p first_new)
    → FormIf p first_new.framer form → SideReadsOn second here.other h (SideFails e second.which) → Compared (ComparisonFails e) from.mine c from.other h
second_stops e from here c h first second first_new form p step reads formed others =
    let one = reads step.read step.ms step.has_read in
    let two = others step.other_read step.ms step.other_has_read in
    let x = input_of (step.read ++ one.0) c in
    let y = input_of (step.other_read ++ two.0) h in (
      x,
      y,
      gave from.mine here.mine c step.read one.0 step.consumed one.1 one.2,
      gave from.other here.other h step.other_read two.0 step.other_consumed two.1 two.2,
      second_fails e x y step.ms (next_of p first_new.framer form formed) (subst (λ (w : Which). SideFails e w y step.ms) step.other_which two.3)
          (begun p first_new x step.ms one.3) (goes_on p first_new x step.ms form one.3 formed),
    )

-- memory runs out
pub memory_stops : (p q : Bool) (first second : Side) (x y : ReadInput) (ms : List Message) → SideHasRead p first x ms → SideHasRead q second y ms
    → ComparisonFails fault.NoMemory x y
memory_stops p q first second x y ms a b = (ms, begun p first x ms a, begun q second y ms b)

pub they_part : (p q : Bool) (first second : Side) (form other : List ℕ) → FormIf p first.framer form → FormIf q second.framer other →
    (p ≡ q → form ≡ other → ⊥) → (x y : ReadInput) (ms : List Message) → SideHasRead p first x ms
    → SideHasRead q second y ms → Part x y first.framer.place second.framer.place
they_part p q first second form other f g differ x y ms a b = part p q x y ms first second form other a b f g differ

pub they_agree : (p q : Bool) (first second : Side) → p ≡ false → q ≡ false → (x y : ReadInput) (ms : List Message) → SideHasRead p first x ms
    → SideHasRead q second y ms →
    AgreeAtEnds x y
they_agree true q first second e u x y ms a b = absurd cc
they_agree false true first second e u x y ms a b = absurd cc
they_agree false false first second e u x y ms a b = (ms, a.1, b.1)

-- how a side gives its PDU up
abbrev pub GivesUp : Side → Side → Type 0
GivesUp old new = (read : List ℕ) (ms : List Message) (head : Head) (segment : List ℕ) → HasRead read ms old → is_ready old.framer ≡ true →
    Means old.framer.held head segment
    → HasRead read (ms ++ message_of old.framer head segment ∷ []) new

same_given : (read other : List ℕ) (ms : List Message) (m n : Message) (first second : Side) → HasRead read (ms ++ m ∷ []) first →
    HasRead other (ms ++ n ∷ []) second → canonical_bytes m ≡ canonical_bytes n
    → HasRead other (ms ++ m ∷ []) second
same_given read other ms m n first second r s e =
    let same : n ≡ m = sym (same_next read other ms m n first.framer second.framer (pending first) (pending second) first.reads second.reads r s e) in
    subst (λ (x : Message). HasRead other (ms ++ x ∷ []) second) same s

-- both gave up a PDU of one form
pub one_more : (from here : Streams) (c h : Option (List ℕ)) (sides read left : BothSides) (form other : List ℕ) (p q : Bool) → p
    ≡ true → q ≡ true → InStep from here sides.first sides.second
    → SideReadsOn sides.first here.mine c (SideHasRead p read.first) → SideReadsOn sides.second here.other h (SideHasRead q read.second) → FormIf p
    read.first.framer form
    → FormIf q read.second.framer other →
    form ≡ other
    → is_ready read.first.framer ≡ p → is_ready read.second.framer ≡ q → GivesUp read.first left.first → GivesUp read.second left.second
    → IsOpen left.first → IsOpen left.second → left.first.which ≡ sides.first.which → left.second.which ≡ sides.second.which →
    InStep from (streams c h here.written) left.first left.second
one_more from here c h sides read left form other false q i j step reads others g k e r s up down o t w u =
    absurd cc
one_more from here c h sides read left form other true false i j step reads others g k e r s up down o t w u =
    absurd cc
one_more from here c h sides read left form other true true i j step reads others g k e r s up down o t w u =
    let one = reads step.read step.ms step.has_read in
    let two = others step.other_read step.ms step.other_has_read in
    let m = message_of read.first.framer g.0 g.1 in
    let n = message_of read.second.framer k.0 k.1 in
    let given = up (step.read ++ one.0) step.ms g.0 g.1 one.3 r g.2 in
    let other_given = down (step.other_read ++ two.0) step.ms k.0 k.1 two.3 s k.2 in
    record {
      read = step.read ++ one.0;
      other_read = step.other_read ++ two.0;
      ms = step.ms ++ m ∷ [];
      consumed = Consumes-trans from.mine here.mine c step.read one.0 step.consumed one.1;
      other_consumed = Consumes-trans from.other here.other h step.other_read two.0 step.other_consumed two.1;
      has_read = given;
      other_has_read = same_given (step.read ++ one.0) (step.other_read ++ two.0) step.ms m n left.first left.second given other_given (sym g.3 ∙ e ∙ k.3);
      inside = o;
      other_inside = t;
      which = w ∙ step.which;
      other_which = u ∙ step.other_which;
      same = step.same;
    }
