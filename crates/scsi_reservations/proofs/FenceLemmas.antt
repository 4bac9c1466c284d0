-- What keeps a port out that is not registered.
use Rattle.std.proofs.Common.{◌≡◌, ℕ, Bool, true, false, List, [], ◌∷◌, Option, Some, None, refl, sym, ap, ◌∙◌}
use Rattle.std.specs.Prelude.{not, ◌==◌, ◌&&◌, ◌||◌, if◌then◌else◌, filter, length, cond, ◌++◌}
use Rattle.std.proofs.lemmas.Bool.{false≢true}
use Rattle.scsi_reservations.specs.Reservations.{Nexus, Registration, Holding, Reservations, Answered, is_nexus, is_listed, is_listed_with, is_registered_key, is_of_all, is_holder, type_code, nothing_changed, without_port, without_key, without_others, only, with_key, has_room, keyed, with_registrations, still_held, registering, taking, reserving, releasing, removing, preempting, acting, may_ask_for, reserve, IsSettled, IsHeldByListed, IsNoRegister}
use Rattle.scsi_reservations.specs.declared.kind.Kind.{Kind}
use Rattle.scsi_reservations.specs.declared.ask.Action.{Action}
use Rattle.scsi_reservations.specs.declared.ask.Action.TheVariants as actions
use Rattle.scsi_reservations.specs.declared.ask.Ask.{Ask}
use Rattle.scsi_reservations.specs.declared.ask.Verdict.TheVariants as verdicts
use Rattle.scsi_reservations.specs.declared.refusal.Refusal.TheVariants as refusals

or_left : (a b : Bool) → (a || b) ≡ false → a ≡ false
or_left false b e = refl
or_left true b e = absurd (false≢true (sym e))

or_right : (a b : Bool) → (a || b) ≡ false → b ≡ false
or_right false b e = e
or_right true b e = absurd (false≢true (sym e))

-- who is not registered has no key
pub no_key : (list : List Registration) (n : Nexus) (key : ℕ) → is_listed list n ≡ false → is_listed_with list n key ≡ false
no_key [] n key e = refl
no_key (g ∷ gs) n key e =
    ap (λ (x : Bool). (x && (g.key == key)) || is_listed_with gs n key) (or_left (is_nexus g.nexus n) (is_listed gs n) e)
    ∙ no_key gs n key (or_right (is_nexus g.nexus n) (is_listed gs n) e)

kept_or_not : (b : Bool) (g : Registration) (rest : List Registration) (n : Nexus) → is_nexus g.nexus n ≡ false → is_listed rest n ≡ false
    → is_listed (cond b (g ∷ rest) rest) n ≡ false
kept_or_not true g rest n a e = ap (λ (x : Bool). x || is_listed rest n) a ∙ e
kept_or_not false g rest n a e = e

-- and is in no part of the list
pub in_no_part : (p : Registration → Bool) (list : List Registration) (n : Nexus) → is_listed list n ≡ false → is_listed (filter p list) n ≡ false
in_no_part p [] n e = refl
in_no_part p (g ∷ gs) n e =
    kept_or_not (p g) g (filter p gs) n (or_left (is_nexus g.nexus n) (is_listed gs n) e)
    (in_no_part p gs n (or_right (is_nexus g.nexus n) (is_listed gs n) e))

-- ---- an action of another port

pub record Out (n : Nexus) (a : Answered) : Type 0 where
  pub out : is_listed a.reservations.registrations n ≡ false

either : (n : Nexus) (b : Bool) (x y : Answered) → Out n x → Out n y → Out n (if b then x else y)
either n true x y p q = p
either n false x y p q = q

-- a list behind which somebody else stands
behind_out : (list : List Registration) (m n : Nexus) (key : ℕ) → is_nexus m n ≡ false → is_listed list n ≡ false
    → is_listed (list ++ record { nexus = m; key = key } ∷ []) n ≡ false
behind_out [] m n key d e = ap (λ (x : Bool). x || false) d
behind_out (g ∷ gs) m n key d e =
    ap (λ (x : Bool). x || is_listed (gs ++ record { nexus = m; key = key } ∷ []) n) (or_left (is_nexus g.nexus n) (is_listed gs n) e)
    ∙ behind_out gs m n key d (or_right (is_nexus g.nexus n) (is_listed gs n) e)

with_key_out : (b : Bool) (m n : Nexus) (key : ℕ) (list : List Registration) → is_nexus m n ≡ false → is_listed list n ≡ false
    → is_listed (if b then list else list ++ record { nexus = m; key = key } ∷ []) n ≡ false
with_key_out true m n key list d e = e
with_key_out false m n key list d e = behind_out list m n key d e

removing_out : (r : Reservations) (n : Nexus) (key : ℕ) → is_listed r.registrations n ≡ false → Out n (removing r key)
removing_out r n key e =
    either n (key == 0) (nothing_changed r (verdicts.Refused refusals.InvalidParameter))
    (if is_registered_key r.registrations key then registering r (without_key key r.registrations) else nothing_changed r verdicts.Conflict)
    (record { out = e })
    (either n (is_registered_key r.registrations key) (registering r (without_key key r.registrations)) (nothing_changed r verdicts.Conflict)
    (record { out = in_no_part (λ g. not (g.key == key)) r.registrations n e }) (record { out = e }))

reserving_out : (r : Reservations) (m n : Nexus) (kind : Kind) (held : Option Holding) → is_listed r.registrations n ≡ false → Out n (reserving r m kind held)
reserving_out r m n kind None e = record { out = e }
reserving_out r m n kind (Some h) e = record { out = e }

releasing_out : (r : Reservations) (m n : Nexus) (kind : Kind) (held : Option Holding) → is_listed r.registrations n ≡ false → Out n (releasing r m kind held)
releasing_out r m n kind None e = record { out = e }
releasing_out r m n kind (Some h) e =
    either n (not (is_holder r.registrations h m)) (nothing_changed r verdicts.Good)
    (if not (type_code h.kind == type_code kind) then nothing_changed r (verdicts.Refused refusals.InvalidRelease)
    else record { reservations = record r { held = None }; verdict = verdicts.Good })
    (record { out = e })
    (either n (not (type_code h.kind == type_code kind)) (nothing_changed r (verdicts.Refused refusals.InvalidRelease))
    (record { reservations = record r { held = None }; verdict = verdicts.Good })
    (record { out = e }) (record { out = e }))

preempting_out : (r : Reservations) (m n : Nexus) (kind : Kind) (key : ℕ) (held : Option Holding) → is_listed r.registrations n ≡ false
    → Out n (preempting r m kind key held)
preempting_out r m n kind key None e = removing_out r n key e
preempting_out r m n kind key (Some h) e =
    either n (is_of_all h.kind)
    (if key == 0 then taking r m kind (only m r.registrations) else removing r key)
    (if is_listed_with r.registrations h.holder key then taking r m kind (without_others key m r.registrations) else removing r key)
    (either n (key == 0) (taking r m kind (only m r.registrations)) (removing r key)
    (record { out = in_no_part (λ g. is_nexus g.nexus m) r.registrations n e }) (removing_out r n key e))
    (either n (is_listed_with r.registrations h.holder key) (taking r m kind (without_others key m r.registrations)) (removing r key)
    (record { out = in_no_part (λ g. is_nexus g.nexus m || not (g.key == key)) r.registrations n e }) (removing_out r n key e))

with_key_none : (m n : Nexus) (key : ℕ) (list : List Registration) → is_nexus m n ≡ false → is_listed list n ≡ false
    → is_listed (with_key m key list) n ≡ false
with_key_none m n key list d e =
    with_key_out (key == 0) m n key (without_port m list) d (in_no_part (λ g. not (is_nexus g.nexus m)) list n e)

keyed_out : (r : Reservations) (m n : Nexus) (key : ℕ) (lasts : Bool) → is_nexus m n ≡ false → is_listed r.registrations n ≡ false
    → Out n (keyed r m key lasts)
keyed_out r m n key lasts d e =
    either n (key == 0 || has_room r.registrations m)
    (registering (record r { lasts = lasts }) (with_key m key r.registrations)) (nothing_changed r (verdicts.Refused refusals.NoRoom))
    (record { out = with_key_none m n key r.registrations d e }) (record { out = e })

acting_out : (r : Reservations) (m n : Nexus) (ask : Ask) (action : Action) → is_nexus m n ≡ false → is_listed r.registrations n ≡ false
    → Out n (acting r m ask action)
acting_out r m n ask (actions.Reserve kind) d e = reserving_out r m n kind r.held e
acting_out r m n ask (actions.Release kind) d e = releasing_out r m n kind r.held e
acting_out r m n ask actions.Clear d e = record { out = refl }
acting_out r m n ask (actions.Preempt kind) d e = preempting_out r m n kind ask.service_key r.held e
acting_out r m n ask (actions.PreemptAndAbort kind) d e = preempting_out r m n kind ask.service_key r.held e
acting_out r m n ask actions.Register d e = keyed_out r m n ask.service_key ask.lasts d e
acting_out r m n ask actions.RegisterAndIgnore d e = keyed_out r m n ask.service_key ask.lasts d e

pub others_out : (r : Reservations) (n m : Nexus) (ask : Ask) → is_nexus m n ≡ false → is_listed r.registrations n ≡ false
    → is_listed (reserve r m ask).reservations.registrations n ≡ false
others_out r n m ask d e =
    (either n (may_ask_for r.registrations m ask.key ask.action) (acting r m ask ask.action) (nothing_changed r verdicts.Conflict)
    (acting_out r m n ask ask.action d e) (record { out = e })).out

-- ---- an action of the port itself

may_not : (list : List Registration) (n : Nexus) (key : ℕ) (action : Action) → is_listed list n ≡ false → IsNoRegister action
    → may_ask_for list n key action ≡ false
may_not list n key (actions.Reserve kind) e never = no_key list n key e
may_not list n key (actions.Release kind) e never = no_key list n key e
may_not list n key actions.Clear e never = no_key list n key e
may_not list n key (actions.Preempt kind) e never = no_key list n key e
may_not list n key (actions.PreemptAndAbort kind) e never = no_key list n key e
may_not list n key actions.Register e never = absurd never
may_not list n key actions.RegisterAndIgnore e never = absurd never

pub by_registering : (r : Reservations) (n : Nexus) (ask : Ask) → is_listed r.registrations n ≡ false → IsNoRegister ask.action
    → reserve r n ask ≡ nothing_changed r verdicts.Conflict
by_registering r n ask e never =
    ap (λ (b : Bool). if b then acting r n ask ask.action else nothing_changed r verdicts.Conflict) (may_not r.registrations n ask.key ask.action e never)

-- ---- a reservation has a holder

pub record Settled (a : Answered) : Type 0 where
  pub holds : IsSettled a.reservations

settles : (b : Bool) (x y : Answered) → Settled x → Settled y → Settled (if b then x else y)
settles true x y p q = p
settles false x y p q = q

kept_by : (list : List Registration) (h : Holding) (b : Bool) → (if is_of_all h.kind then not (length list == 0) else is_listed list h.holder) ≡ b
    → IsHeldByListed list (if b then Some h else None)
kept_by list h true e = e
kept_by list h false e = tt

kept_settled : (list : List Registration) (held : Option Holding) → IsHeldByListed list (still_held list held)
kept_settled list None = tt
kept_settled list (Some h) = kept_by list h (if is_of_all h.kind then not (length list == 0) else is_listed list h.holder) refl

removing_settled : (r : Reservations) (key : ℕ) → IsSettled r → Settled (removing r key)
removing_settled r key e =
    settles (key == 0) (nothing_changed r (verdicts.Refused refusals.InvalidParameter))
    (if is_registered_key r.registrations key then registering r (without_key key r.registrations) else nothing_changed r verdicts.Conflict)
    (record { holds = e })
    (settles (is_registered_key r.registrations key) (registering r (without_key key r.registrations)) (nothing_changed r verdicts.Conflict)
    (record { holds = kept_settled (without_key key r.registrations) r.held }) (record { holds = e }))

reserving_settled : (r : Reservations) (n : Nexus) (kind : Kind) (held : Option Holding) → IsSettled r → Settled (reserving r n kind held)
reserving_settled r n kind None e = record { holds = kept_settled r.registrations (Some (record { kind = kind; holder = n })) }
reserving_settled r n kind (Some h) e = record { holds = e }

releasing_settled : (r : Reservations) (n : Nexus) (kind : Kind) (held : Option Holding) → IsSettled r → Settled (releasing r n kind held)
releasing_settled r n kind None e = record { holds = e }
releasing_settled r n kind (Some h) e =
    settles (not (is_holder r.registrations h n)) (nothing_changed r verdicts.Good)
    (if not (type_code h.kind == type_code kind) then nothing_changed r (verdicts.Refused refusals.InvalidRelease)
    else record { reservations = record r { held = None }; verdict = verdicts.Good })
    (record { holds = e })
    (settles (not (type_code h.kind == type_code kind)) (nothing_changed r (verdicts.Refused refusals.InvalidRelease))
    (record { reservations = record r { held = None }; verdict = verdicts.Good })
    (record { holds = e }) (record { holds = tt }))

preempting_settled : (r : Reservations) (n : Nexus) (kind : Kind) (key : ℕ) (held : Option Holding) → IsSettled r → Settled (preempting r n kind key held)
preempting_settled r n kind key None e = removing_settled r key e
preempting_settled r n kind key (Some h) e =
    settles (is_of_all h.kind)
    (if key == 0 then taking r n kind (only n r.registrations) else removing r key)
    (if is_listed_with r.registrations h.holder key then taking r n kind (without_others key n r.registrations) else removing r key)
    (settles (key == 0) (taking r n kind (only n r.registrations)) (removing r key)
    (record { holds = kept_settled (only n r.registrations) (Some (record { kind = kind; holder = n })) })
    (removing_settled r key e))
    (settles (is_listed_with r.registrations h.holder key) (taking r n kind (without_others key n r.registrations)) (removing r key)
    (record { holds = kept_settled (without_others key n r.registrations) (Some (record { kind = kind; holder = n })) })
    (removing_settled r key e))

keyed_settled : (r : Reservations) (n : Nexus) (key : ℕ) (lasts : Bool) → IsSettled r → Settled (keyed r n key lasts)
keyed_settled r n key lasts e =
    settles (key == 0 || has_room r.registrations n)
    (registering (record r { lasts = lasts }) (with_key n key r.registrations)) (nothing_changed r (verdicts.Refused refusals.NoRoom))
    (record { holds = kept_settled (with_key n key r.registrations) r.held }) (record { holds = e })

acting_settled : (r : Reservations) (n : Nexus) (ask : Ask) (action : Action) → IsSettled r → Settled (acting r n ask action)
acting_settled r n ask (actions.Reserve kind) e = reserving_settled r n kind r.held e
acting_settled r n ask (actions.Release kind) e = releasing_settled r n kind r.held e
acting_settled r n ask actions.Clear e = record { holds = kept_settled [] r.held }
acting_settled r n ask (actions.Preempt kind) e = preempting_settled r n kind ask.service_key r.held e
acting_settled r n ask (actions.PreemptAndAbort kind) e = preempting_settled r n kind ask.service_key r.held e
acting_settled r n ask actions.Register e = keyed_settled r n ask.service_key ask.lasts e
acting_settled r n ask actions.RegisterAndIgnore e = keyed_settled r n ask.service_key ask.lasts e

pub stays_settled : (r : Reservations) (n : Nexus) (ask : Ask) → IsSettled r → IsSettled (reserve r n ask).reservations
stays_settled r n ask e =
    (settles (may_ask_for r.registrations n ask.key ask.action) (acting r n ask ask.action) (nothing_changed r verdicts.Conflict)
    (acting_settled r n ask ask.action e) (record { holds = e })).holds
