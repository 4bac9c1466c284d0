-- A direction that is read on, step by step.
use Rattle.std.proofs.Common.{◌≡◌, ◌⊎◌, ℕ, Bool, true, false, List, [], ◌∷◌, ◌++◌, length, take, drop, refl, sym, ap, ◌∙◌, subst, inl, inr, append_assoc, append-nil, arith}
use Rattle.std.specs.Prelude.{◌==◌, Option, Some, None, IfSome, OnOk, OnErr, Result, Ok, Err, not}
use Rattle.std.specs.Io.KnownBytes.{IsAtEnd}
use Rattle.std.proofs.KnownBytes.{Consumes-nil, Consumes-trans}
use Rattle.std.proofs.lemmas.Bool.{true≢false, eqb-true}
use Rattle.std.proofs.lemmas.List.{take-append-drop}
use Rattle.iscsi_captures.specs.declared.captured.Wanted.{Wanted}
use Rattle.iscsi_captures.specs.declared.fault.CapturesFault.{CapturesFault}
use Rattle.capture_connections.specs.declared.heard.Heard.{Heard}
use Rattle.iscsi_captures.specs.Meant.{HearsWanted}
use Rattle.capture_connections.specs.Following.{Table}
use Rattle.iscsi_captures.specs.Giving.{AddsWantedBytes, AddsSome, IsFaultOf, IsWhole, Listening, DirectionReadsOn, WasRead}

-- ---- bytes that were read of a file

pub read_none : (a : Option (List ℕ)) → WasRead a a
read_none a = ([], Consumes-nil a)

pub read_more : (a b c : Option (List ℕ)) → WasRead a b → WasRead b c → WasRead a c
read_more a b c p q = (p.0 ++ q.0, Consumes-trans a b c p.0 q.0 p.1 q.1)

-- ---- segments that came

pub adds_none : (wanted : Wanted) (table : Table) → AddsSome wanted table table []
adds_none wanted table = ([], (refl, refl))

pub adds_nothing : (wanted : Wanted) (table : Table) (given : List ℕ) → given ≡ []
    → (new : Table) × AddsSome wanted table new given
adds_nothing wanted table given e =
    let P : List ℕ → Type 0 = λ x. AddsSome wanted table table x in
    (table, subst P (sym e) (adds_none wanted table))

pub adds_one : (wanted : Wanted) (old new : Table) (heard : Heard) (given : List ℕ)
    → HearsWanted old heard wanted new given → AddsSome wanted old new given
adds_one wanted old new heard given h =
    (heard ∷ [], (new, given, [], h, (refl, refl), sym (append-nil given)))

adds_then : (wanted : Wanted) (xs ys : List Heard) (a b c : Table) (g h : List ℕ)
    → AddsWantedBytes wanted a xs b g → AddsWantedBytes wanted b ys c h → AddsWantedBytes wanted a (xs ++ ys) c (g ++ h)
adds_then wanted [] ys a b c g h p q =
    let e : h ≡ g ++ h = ap (λ (x : List ℕ). x ++ h) (sym p.1) in
    let P : List ℕ → Type 0 = λ x. AddsWantedBytes wanted a ys c x in
    let Q : Table → Type 0 = λ t. AddsWantedBytes wanted t ys c h in
    subst P e (subst Q (sym p.0) q)
adds_then wanted (x ∷ xs) ys a b c g h p q = (
  p.0,
  p.1,
  p.2 ++ h,
  p.3,
  adds_then wanted xs ys p.0 b c p.2 h p.4 q,
  ap (λ (v : List ℕ). v ++ h) p.5 ∙ append_assoc p.1 p.2 h,
)

pub some_then : (wanted : Wanted) (a b c : Table) (g h : List ℕ)
    → AddsSome wanted a b g → AddsSome wanted b c h → AddsSome wanted a c (g ++ h)
some_then wanted a b c g h p q = (p.0 ++ q.0, adds_then wanted p.0 q.0 a b c g h p.1 q.1)

pub on_err : {T E : Type 0} (result : Result T E) (P : Type 0) → P → OnErr result P
on_err (Ok done) P p = tt
on_err (Err e) P p = p

pub on_ok : {T E : Type 0} (result : Result T E) (P : Type 0) → P → OnOk result P
on_ok (Ok done) P p = p
on_ok (Err e) P p = tt

pub ok_one : {T E : Type 0} (result : Result T E) (wanted : Wanted) (old new : Table) (heard : Heard)
    (given : List ℕ) → OnOk result (HearsWanted old heard wanted new given)
    → OnOk result (AddsSome wanted old new given)
ok_one (Ok done) wanted old new heard given h = adds_one wanted old new heard given h
ok_one (Err e) wanted old new heard given h = tt

-- no byte is known, if `is_empty` says so
pub none_known : (is : Bool) (xs : List ℕ) (count : ℕ) → count ≡ length xs → is ≡ (count == 0)
    → is ≡ true → xs ≡ []
none_known is [] count c e f = refl
none_known true (x ∷ xs) count c e f =
    absurd (omega (arith, eqb-true count 0 (sym e), c))
none_known false (x ∷ xs) count c e f = absurd (true≢false (sym f))

-- ---- a direction that is read on

kept_fault : (fault : Option CapturesFault) (P : CapturesFault → Type 0)
    → IfSome fault (λ f. (fault ≡ Some f) ⊎ P f)
kept_fault None P = tt
kept_fault (Some f) P = inl refl

-- nothing was done
pub reads_none : (a : Listening) → DirectionReadsOn a a []
reads_none a = record {
  wanted = refl;
  read = read_none a.left;
  table = a.connections;
  more = [];
  adds = adds_none a.wanted a.connections;
  bytes = append-nil a.known;
  followed = λ _. refl;
  ended = λ e. inl e;
  fault = kept_fault a.fault (λ f. IsFaultOf a.wanted.connection a.left f);
}

none_some : (f : CapturesFault) → None ≡ Some f → ⊥
none_some f e = cc

fault_then : (number : ℕ) (left : Option (List ℕ)) (a b c : Option CapturesFault) → b ≡ None
    → IfSome c (λ f. (b ≡ Some f) ⊎ IsFaultOf number left f)
    → IfSome c (λ f. (a ≡ Some f) ⊎ IsFaultOf number left f)
fault_then number left a b None e h = tt
fault_then number left a b (Some f) e (inl p) = absurd (none_some f (sym e ∙ p))
fault_then number left a b (Some f) e (inr p) = inr p

ended_then : (a b : Bool) (P : Type 0) → b ≡ false → (b ≡ true) ⊎ P → (a ≡ true) ⊎ P
ended_then a b P goes (inl e) = absurd (true≢false (sym e ∙ goes))
ended_then a b P goes (inr p) = inr p

-- one read on after another, where the first left a direction that goes on
pub reads_then : (a b c : Listening) → b.ended ≡ false → b.fault ≡ None
    → DirectionReadsOn a b [] → DirectionReadsOn b c [] → DirectionReadsOn a c []
reads_then a b c goes none p q =
    let P : Wanted → Type 0 = λ w. AddsSome w b.connections q.table q.more in
    let Q : Table → Type 0 = λ t. AddsSome a.wanted t q.table q.more in
    let adds : AddsSome a.wanted p.table q.table q.more =
    subst Q (p.followed none) (subst P p.wanted q.adds) in
    let F : Wanted → Type 0 = λ w. IfSome c.fault (λ f. (b.fault ≡ Some f) ⊎ IsFaultOf w.connection c.left f) in
    record {
      wanted = q.wanted ∙ p.wanted;
      read = read_more a.left b.left c.left p.read q.read;
      table = q.table;
      more = p.more ++ q.more;
      adds = some_then a.wanted a.connections p.table q.table p.more q.more p.adds adds;
      bytes = sym (append_assoc a.known p.more q.more) ∙ ap (λ (x : List ℕ). x ++ q.more) p.bytes ∙ q.bytes;
      followed = q.followed;
      ended = λ e. ended_then a.ended b.ended (IsAtEnd c.left × IsWhole c.connections c.wanted) goes (q.ended e);
      fault = fault_then a.wanted.connection c.left a.fault b.fault c.fault none (subst F p.wanted q.fault);
    }

not_true : (b : Bool) → not b ≡ true → b ≡ false
not_true true e = sym e
not_true false e = refl

-- a step that went well
pub reads_step : (b : Listening) (table : Table) (out : List ℕ) (more : Bool) (left : Option (List ℕ))
    → b.known ≡ [] → WasRead b.left left → AddsSome b.wanted b.connections table out
    → (more ≡ false → (out ≡ []) × IsAtEnd left × IsWhole table b.wanted)
    → DirectionReadsOn b (record b { connections = table; known = out; ended = not more; left = left }) []
reads_step b table out more left none read adds end = record {
  wanted = refl;
  read = read;
  table = table;
  more = out;
  adds = adds;
  bytes = ap (λ (x : List ℕ). x ++ out) none;
  followed = λ _. refl;
  ended = λ e. let h = end (not_true more e) in inr (h.1, h.2);
  fault = kept_fault b.fault (λ f. IsFaultOf b.wanted.connection left f);
}

-- a step that failed
pub reads_fault : (b : Listening) (table kept : Table) (out : List ℕ) (left : Option (List ℕ))
    (fault : CapturesFault) → b.known ≡ [] → WasRead b.left left
    → AddsSome b.wanted b.connections table out → IsFaultOf b.wanted.connection left fault
    → DirectionReadsOn b (record b { connections = kept; known = out; fault = Some fault; left = left }) []
reads_fault b table kept out left fault none read adds is = record {
  wanted = refl;
  read = read;
  table = table;
  more = out;
  adds = adds;
  bytes = ap (λ (x : List ℕ). x ++ out) none;
  followed = λ e. absurd (none_some fault (sym e));
  ended = λ e. inl e;
  fault = inr is;
}

-- the first bytes that are known are given
pub reads_give : (a b : Listening) (n : ℕ) (given : List ℕ) → DirectionReadsOn a b []
    → given ≡ take n b.known → DirectionReadsOn a (record b { known = drop n b.known }) given
reads_give a b n given p e = record {
  wanted = p.wanted;
  read = p.read;
  table = p.table;
  more = p.more;
  adds = p.adds;
  bytes = p.bytes ∙ sym (ap (λ (x : List ℕ). x ++ drop n b.known) e ∙ take-append-drop n b.known);
  followed = p.followed;
  ended = p.ended;
  fault = p.fault;
}
