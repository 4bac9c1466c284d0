-- What a segment adds to the direction that is wanted.
use Rattle.std.proofs.Common.{◌≡◌, ℕ, Bool, true, false, List, [], refl, sym, ap, ◌∙◌, subst}
use Rattle.std.proofs.lemmas.Bool.{eqb-false}
use Rattle.std.specs.Prelude.{◌==◌, ◌&&◌, if◌then◌else◌, slice_get, IfSome, IfOk, IfErr, Some, None, Option, Result, Ok, Err}
use Rattle.capture_connections.specs.declared.connections.Connection.{Connection}
use Rattle.capture_connections.specs.declared.ends.Side.TheVariants.{Lower, Upper}
use Rattle.iscsi_captures.specs.declared.captured.Wanted.{Wanted}
use Rattle.capture_connections.specs.declared.ends.Side.{Side}
use Rattle.capture_connections.specs.declared.heard.Heard.{Heard}
use Rattle.capture_connections.specs.Sides.{is_side, other_side}
use Rattle.iscsi_captures.specs.Meant.{HearsWanted, IsMeant}
use Rattle.iscsi_captures.specs.inner.Meant.{IsFor}
use Rattle.capture_connections.specs.Following.{TableStep, KeepsConnections, Table}
use Rattle.iscsi_captures.specs.inner.Giving.{IfCut}
use Rattle.iscsi_captures.specs.declared.fault.CapturesFault.{CapturesFault}
use Rattle.iscsi_captures.specs.declared.fault.CapturesFault.TheVariants as faults

-- a segment, and what is given up after it
heard_so : (old : Table) (heard : Heard) (wanted : Wanted) (number : ℕ) (taken new : Table)
    (more : List ℕ) (is : Bool) → TableStep old heard number taken [] more → new.last ≡ taken.last
    → KeepsConnections taken.connections new.connections → IsFor new.connections number heard wanted is
    → HearsWanted old heard wanted new (if is then more else [])
heard_so old heard wanted number taken new more is hears last keeps for = record {
  number = number;
  side = for.side;
  more = more;
  advances = record { taken = taken; before = []; hears = hears; last = last; keeps = keeps };
  meant = for.meant;
  given_is = ap (λ (b : Bool). if b then more else []) for.is_it;
}

-- of the direction that is wanted
pub heard_wanted : (old : Table) (heard : Heard) (wanted : Wanted) (number : ℕ) (taken new : Table)
    (more : List ℕ) → TableStep old heard number taken [] more → new.last ≡ taken.last
    → KeepsConnections taken.connections new.connections → IsFor new.connections number heard wanted true
    → HearsWanted old heard wanted new more
heard_wanted old heard wanted number taken new more hears last keeps for =
    heard_so old heard wanted number taken new more true hears last keeps for

-- of another one
pub heard_other : (old : Table) (heard : Heard) (wanted : Wanted) (number : ℕ) (taken new : Table)
    (more : List ℕ) → TableStep old heard number taken [] more → new.last ≡ taken.last
    → KeepsConnections taken.connections new.connections → IsFor new.connections number heard wanted false
    → HearsWanted old heard wanted new []
heard_other old heard wanted number taken new more hears last keeps for =
    heard_so old heard wanted number taken new more false hears last keeps for

-- the same, where nothing was kept before and nothing is kept
pub heard_none : (old : Table) (heard : Heard) (wanted : Wanted) (number : ℕ) (taken new : Table)
    (before more given : List ℕ) (is : Bool) (list : List Connection) → before ≡ [] → given ≡ []
    → is ≡ false → list ≡ new.connections → TableStep old heard number taken before more
    → new.last ≡ taken.last → KeepsConnections taken.connections new.connections
    → IsFor list number heard wanted is → HearsWanted old heard wanted new given
heard_none old heard wanted number taken new before more given is list b g f l hears last keeps for =
    let P : List ℕ → Type 0 = λ x. TableStep old heard number taken x more in
    let Q : List Connection → Type 0 = λ x. IsFor x number heard wanted false in
    let R : Bool → Type 0 = λ x. IsFor list number heard wanted x in
    subst (λ (x : List ℕ). HearsWanted old heard wanted new x) (sym g)
    (heard_other old heard wanted number taken new more (subst P b hears) last keeps
    (subst Q l (subst R f for)))

-- the same, where nothing was kept before and all is kept
pub heard_all : (old : Table) (heard : Heard) (wanted : Wanted) (number : ℕ) (taken new : Table)
    (before more : List ℕ) (fault : CapturesFault) (at packet : ℕ) (list : List Connection)
    → before ≡ [] → fault ≡ faults.Cut at packet → list ≡ new.connections
    → TableStep old heard number taken before more → new.last ≡ taken.last
    → KeepsConnections taken.connections new.connections
    → IfCut fault (IsFor list number heard wanted true) → HearsWanted old heard wanted new more
heard_all old heard wanted number taken new before more fault at packet list b f l hears last keeps for =
    let P : List ℕ → Type 0 = λ x. TableStep old heard number taken x more in
    let Q : List Connection → Type 0 = λ x. IsFor x number heard wanted true in
    let R : CapturesFault → Type 0 = λ x. IfCut x (IsFor list number heard wanted true) in
    heard_wanted old heard wanted number taken new more (subst P b hears) last keeps
    (subst Q l (subst R f for))

-- ---- whether a segment is of the direction that is wanted

not_other : (b : Bool) (side : Side) → false ≡ (b && is_side (other_side side) side)
not_other false side = refl
not_other true Lower = refl
not_other true Upper = refl

-- there is no such connection
pub none_there : (list : List Connection) (number : ℕ) (heard : Heard) (wanted : Wanted)
    → slice_get list number ≡ None → IsFor list number heard wanted false
none_there list number heard wanted none =
    let side : Side = other_side heard.said.side in
    let P : Option Connection → Type 0 = λ found. IfSome found (λ c. IsMeant c wanted.end side) in
    record {
      side = side;
      meant = λ same. subst P (sym none) tt;
      is_it = not_other (number == wanted.connection) heard.said.side;
    }

same_number : (b : Bool) (number wanted : ℕ) (is : Bool) → (number == wanted) ≡ b → number ≡ wanted
    → is ≡ ((number == wanted) && is)
same_number true number wanted is e same = ap (λ (b : Bool). b && is) (sym e)
same_number false number wanted is e same = absurd (eqb-false number wanted e same)

-- it belongs to the connection that is wanted
pub one_there : (list : List Connection) (number : ℕ) (heard : Heard) (wanted : Wanted)
    (connection : Connection) (is : Bool) (side : Side) → slice_get list number ≡ Some connection
    → number ≡ wanted.connection → IsMeant connection wanted.end side
    → is ≡ is_side side heard.said.side → IsFor list number heard wanted is
one_there list number heard wanted connection is side found same meant e =
    let P : Option Connection → Type 0 = λ found. IfSome found (λ c. IsMeant c wanted.end side) in
    record {
      side = side;
      meant = λ same. subst P (sym found) meant;
      is_it = e ∙ same_number (number == wanted.connection) number wanted.connection
          (is_side side heard.said.side) refl same;
    }

pub one_result : {E : Type 0} (list : List Connection) (number : ℕ) (heard : Heard) (wanted : Wanted)
    (connection : Connection) (result : Result Bool E) → slice_get list number ≡ Some connection
    → number ≡ wanted.connection
    → IfOk result (λ is. (side : Side) × IsMeant connection wanted.end side
    × (is ≡ is_side side heard.said.side)) → IfOk result (λ is. IsFor list number heard wanted is)
one_result list number heard wanted connection (Ok is) found same h =
    one_there list number heard wanted connection is h.0 found same h.1 h.2
one_result list number heard wanted connection (Err e) found same h = tt

-- what a fault of bytes that were not captured says, and what follows from it
cut_then : (fault : CapturesFault) (P Q : Type 0) → (P → Q) → IfCut fault P → IfCut fault Q
cut_then faults.NoMemory P Q g h = tt
cut_then faults.Read P Q g h = tt
cut_then faults.Absent P Q g h = tt
cut_then faults.NotPermitted P Q g h = tt
cut_then faults.Directory P Q g h = tt
cut_then (faults.Reads a) P Q g h = tt
cut_then faults.Empty P Q g h = tt
cut_then faults.Gzip P Q g h = tt
cut_then faults.NoSession P Q g h = tt
cut_then faults.Write P Q g h = tt
cut_then (faults.Format a) P Q g h = tt
cut_then (faults.Length a) P Q g h = tt
cut_then (faults.Truncated a) P Q g h = tt
cut_then (faults.Link a b c) P Q g h = tt
cut_then (faults.Interface a) P Q g h = tt
cut_then (faults.Fragment a b) P Q g h = tt
cut_then (faults.Cut a b) P Q g h = g h
cut_then (faults.Gap a b c) P Q g h = tt
cut_then (faults.Conflict a b c) P Q g h = tt
cut_then (faults.Long a) P Q g h = tt
cut_then (faults.Stream a b) P Q g h = tt
cut_then (faults.Protocol a b) P Q g h = tt
cut_then (faults.Begun a) P Q g h = tt
cut_then (faults.Assumed a b c d) P Q g h = tt
cut_then (faults.Digest a b c d e) P Q g h = tt
cut_then (faults.NoConnection a) P Q g h = tt

pub one_cut : {T : Type 0} (list : List Connection) (number : ℕ) (heard : Heard) (wanted : Wanted)
    (connection : Connection) (result : Result T CapturesFault)
    → slice_get list number ≡ Some connection → number ≡ wanted.connection
    → IfErr result (λ fault. IfCut fault ((side : Side) × IsMeant connection wanted.end side
    × (true ≡ is_side side heard.said.side)))
    → IfErr result (λ fault. IfCut fault (IsFor list number heard wanted true))
one_cut list number heard wanted connection (Ok is) found same h = tt
one_cut list number heard wanted connection (Err fault) found same h =
    cut_then fault ((side : Side) × IsMeant connection wanted.end side
    × (true ≡ is_side side heard.said.side)) (IsFor list number heard wanted true)
    (λ p. one_there list number heard wanted connection true p.0 found same p.1 p.2) h
