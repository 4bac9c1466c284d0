-- Persistent reservations of one logical unit (SPC-4, section 5.13).
use Rattle.std.specs.Prelude.{◌≡◌, ℕ, ◌+◌, ◌^◌, ◌%◌, nat_lt, Bool, true, false, not, ◌==◌, ◌&&◌, ◌||◌, if◌then◌else◌, List, [], ◌∷◌, ◌++◌, length, filter, Option, None, Some}
use Rattle.std.specs.List.{list_any}
use Rattle.std.specs.Str.{bytes_eq}
use Rattle.scsi_reservations.specs.declared.kind.Kind.{Kind}
use Rattle.scsi_reservations.specs.declared.kind.Kind.TheVariants as kinds
use Rattle.scsi_reservations.specs.declared.kind.Access.{Access}
use Rattle.scsi_reservations.specs.declared.kind.Access.TheVariants as access
use Rattle.scsi_reservations.specs.declared.ask.Action.{Action}
use Rattle.scsi_reservations.specs.declared.ask.Action.TheVariants as actions
use Rattle.scsi_reservations.specs.declared.ask.Ask.{Ask}
use Rattle.scsi_reservations.specs.declared.ask.Verdict.{Verdict}
use Rattle.scsi_reservations.specs.declared.ask.Verdict.TheVariants as verdicts
use Rattle.scsi_reservations.specs.declared.refusal.Refusal.TheVariants as refusals

-- ---- who

-- An initiator port that is connected to the one port of the target (RFC 7143, section 4.4): its name,
-- and its ISID.
pub record Nexus : Type 0 where
  pub name : List ℕ
  pub isid : List ℕ

-- Both are the same port.
abbrev pub is_nexus : Nexus → Nexus → Bool
is_nexus a b = bytes_eq a.name b.name && bytes_eq a.isid b.isid

-- A port that is registered, with its key.
pub record Registration : Type 0 where
  pub nexus : Nexus
  pub key : ℕ

-- A reservation: its type, and who made it.
pub record Holding : Type 0 where
  pub kind : Kind
  pub holder : Nexus

-- All that is reserved of a unit. PRGENERATION counts what changed registrations, in 32 bits. Registrations
-- outlast a loss of power if the last one asked for that (APTPL).
pub record Reservations : Type 0 where
  pub generation : ℕ
  pub registrations : List Registration
  pub held : Option Holding
  pub lasts : Bool

-- Nobody is registered.
abbrev pub no_reservations : Reservations
no_reservations = record { generation = 0; registrations = []; held = None; lasts = false }

-- The port is registered.
abbrev pub is_listed : List Registration → Nexus → Bool
is_listed list n = list_any (λ g. is_nexus g.nexus n) list

-- It is registered with this key.
abbrev pub is_listed_with : List Registration → Nexus → ℕ → Bool
is_listed_with list n key = list_any (λ g. is_nexus g.nexus n && (g.key == key)) list

-- Somebody is registered with this key.
abbrev pub is_registered_key : List Registration → ℕ → Bool
is_registered_key list key = list_any (λ g. g.key == key) list

-- ---- what a reservation keeps out

-- The code of a type (SPC-4, section 6.15.3.4).
abbrev pub type_code : Kind → ℕ
type_code kinds.WriteExclusive = 1
type_code kinds.ExclusiveAccess = 3
type_code kinds.WriteExclusiveRegistrants = 5
type_code kinds.ExclusiveAccessRegistrants = 6
type_code kinds.WriteExclusiveAll = 7
type_code kinds.ExclusiveAccessAll = 8

-- The type with a code.
abbrev pub type_of_code : ℕ → Option Kind
type_of_code code =
    if code == 1 then Some kinds.WriteExclusive
    else if code == 3 then Some kinds.ExclusiveAccess
    else if code == 5 then Some kinds.WriteExclusiveRegistrants
    else if code == 6 then Some kinds.ExclusiveAccessRegistrants
    else if code == 7 then Some kinds.WriteExclusiveAll
    else if code == 8 then Some kinds.ExclusiveAccessAll
    else None

-- Each port that is registered holds it.
abbrev pub is_of_all : Kind → Bool
is_of_all kinds.WriteExclusiveAll = true
is_of_all kinds.ExclusiveAccessAll = true
is_of_all _ = false

-- Each port that is registered may pass.
abbrev pub is_of_registrants : Kind → Bool
is_of_registrants kinds.WriteExclusive = false
is_of_registrants kinds.ExclusiveAccess = false
is_of_registrants _ = true

-- It keeps reads out, too.
abbrev pub is_exclusive : Kind → Bool
is_exclusive kinds.ExclusiveAccess = true
is_exclusive kinds.ExclusiveAccessRegistrants = true
is_exclusive kinds.ExclusiveAccessAll = true
is_exclusive _ = false

-- The port holds the reservation.
abbrev pub is_holder : List Registration → Holding → Nexus → Bool
is_holder list h n = if is_of_all h.kind then is_listed list n else is_nexus h.holder n

-- The reservation lets the port pass.
abbrev pub passes : List Registration → Holding → Nexus → Bool
passes list h n = is_holder list h n || (is_of_registrants h.kind && is_listed list n)

-- A command of the port that does so is taken; else it gets RESERVATION CONFLICT (SPC-4, table of
-- section 5.13.1; SBC-3, table of section 4.17).
abbrev pub may_by : List Registration → Option Holding → Nexus → Access → Bool
may_by list None n a = true
may_by list (Some h) n access.Free = true
may_by list (Some h) n access.Reads = not (is_exclusive h.kind) || passes list h n
may_by list (Some h) n access.Changes = passes list h n

abbrev pub may : Reservations → Nexus → Access → Bool
may r n a = may_by r.registrations r.held n a

-- ---- PERSISTENT RESERVE OUT

-- What was reserved, and what is answered.
pub record Answered : Type 0 where
  pub reservations : Reservations
  pub verdict : Verdict

-- Nothing changes.
abbrev pub nothing_changed : Reservations → Verdict → Answered
nothing_changed r verdict = record { reservations = r; verdict = verdict }

-- The list without the port.
abbrev pub without_port : Nexus → List Registration → List Registration
without_port n list = filter (λ g. not (is_nexus g.nexus n)) list

-- The list without a key.
abbrev pub without_key : ℕ → List Registration → List Registration
without_key key list = filter (λ g. not (g.key == key)) list

-- The list without all ports of a key but this one.
abbrev pub without_others : ℕ → Nexus → List Registration → List Registration
without_others key n list = filter (λ g. is_nexus g.nexus n || not (g.key == key)) list

-- The port alone.
abbrev pub only : Nexus → List Registration → List Registration
only n list = filter (λ g. is_nexus g.nexus n) list

-- The list with a key of the port, behind all others; a key of 0 takes the port off.
abbrev pub with_key : Nexus → ℕ → List Registration → List Registration
with_key n key list =
    if key == 0 then without_port n list
    else without_port n list ++ record { nexus = n; key = key } ∷ []

-- A port that is not registered yet has room among 64.
abbrev pub has_room : List Registration → Nexus → Bool
has_room list n = is_listed list n || nat_lt (length list) 64

-- A reservation stays as long as its holder is registered, and one that all hold as long as somebody is.
abbrev pub still_held : List Registration → Option Holding → Option Holding
still_held list None = None
still_held list (Some h) =
    if (if is_of_all h.kind then not (length list == 0) else is_listed list h.holder)
    then Some h else None

-- The next value of PRGENERATION.
abbrev pub next_generation : ℕ → ℕ
next_generation generation = (generation + 1) % 2 ^ 32

-- These are registered from now on, and this is held if its holder is among them.
abbrev pub with_registrations : Reservations → List Registration → Option Holding → Reservations
with_registrations r list held = record {
  generation = next_generation r.generation;
  registrations = list;
  held = still_held list held;
  lasts = r.lasts;
}

-- These are registered from now on.
abbrev pub registering : Reservations → List Registration → Answered
registering r list = record { reservations = with_registrations r list r.held; verdict = verdicts.Good }

-- The port holds this, and these are registered.
abbrev pub taking : Reservations → Nexus → Kind → List Registration → Answered
taking r n kind list = record {
  reservations = with_registrations r list (Some (record { kind = kind; holder = n }));
  verdict = verdicts.Good;
}

-- The port gets this key, and registrations last or don't from now on. A key of 0 takes it off.
abbrev pub keyed : Reservations → Nexus → ℕ → Bool → Answered
keyed r n key lasts =
    if key == 0 || has_room r.registrations n
    then registering (record r { lasts = lasts }) (with_key n key r.registrations)
    else nothing_changed r (verdicts.Refused refusals.NoRoom)

-- REGISTER names the key that the port has, or 0 where it has none.
abbrev pub may_register : List Registration → Nexus → ℕ → Bool
may_register list n key = if is_listed list n then is_listed_with list n key else key == 0

-- RESERVE, of a port that is registered.
abbrev pub reserving : Reservations → Nexus → Kind → Option Holding → Answered
reserving r n kind None = record {
  reservations = record r { held = still_held r.registrations (Some (record { kind = kind; holder = n })) };
  verdict = verdicts.Good;
}
reserving r n kind (Some h) =
    nothing_changed r (if is_holder r.registrations h n && (type_code h.kind == type_code kind) then verdicts.Good else verdicts.Conflict)

-- RELEASE, of a port that is registered.
abbrev pub releasing : Reservations → Nexus → Kind → Option Holding → Answered
releasing r n kind None = nothing_changed r verdicts.Good
releasing r n kind (Some h) =
    if not (is_holder r.registrations h n) then nothing_changed r verdicts.Good
    else if not (type_code h.kind == type_code kind) then nothing_changed r (verdicts.Refused refusals.InvalidRelease)
    else record { reservations = record r { held = None }; verdict = verdicts.Good }

-- The ports of a key are not registered any more.
abbrev pub removing : Reservations → ℕ → Answered
removing r key =
    if key == 0 then nothing_changed r (verdicts.Refused refusals.InvalidParameter)
    else if is_registered_key r.registrations key then registering r (without_key key r.registrations)
    else nothing_changed r verdicts.Conflict

-- PREEMPT, of a port that is registered. The reservation of the key's port is taken, or that of all
-- by a key of 0; else the ports of the key are taken off.
abbrev pub preempting : Reservations → Nexus → Kind → ℕ → Option Holding → Answered
preempting r n kind key None = removing r key
preempting r n kind key (Some h) =
    if is_of_all h.kind
    then (if key == 0 then taking r n kind (only n r.registrations) else removing r key)
    else if is_listed_with r.registrations h.holder key then taking r n kind (without_others key n r.registrations)
    else removing r key

-- An action of a port that may ask for it.
abbrev pub acting : Reservations → Nexus → Ask → Action → Answered
acting r n ask actions.Register = keyed r n ask.service_key ask.lasts
acting r n ask actions.RegisterAndIgnore = keyed r n ask.service_key ask.lasts
acting r n ask (actions.Reserve kind) = reserving r n kind r.held
acting r n ask (actions.Release kind) = releasing r n kind r.held
acting r n ask actions.Clear = registering r []
acting r n ask (actions.Preempt kind) = preempting r n kind ask.service_key r.held
acting r n ask (actions.PreemptAndAbort kind) = preempting r n kind ask.service_key r.held

-- The port may ask that: REGISTER AND IGNORE EXISTING KEY always, REGISTER with its key or with none,
-- and all else with its key.
abbrev pub may_ask_for : List Registration → Nexus → ℕ → Action → Bool
may_ask_for list n key actions.RegisterAndIgnore = true
may_ask_for list n key actions.Register = may_register list n key
may_ask_for list n key _ = is_listed_with list n key

-- What PERSISTENT RESERVE OUT of a port leads to (section 6.16).
abbrev pub reserve : Reservations → Nexus → Ask → Answered
reserve r n ask =
    if may_ask_for r.registrations n ask.key ask.action then acting r n ask ask.action
    else nothing_changed r verdicts.Conflict

-- ---- what always holds

-- The holder of a reservation is registered.
abbrev pub IsHeldByListed : List Registration → Option Holding → Type 0
IsHeldByListed list None = Unit {0}
IsHeldByListed list (Some h) =
    (if is_of_all h.kind then not (length list == 0) else is_listed list h.holder) ≡ true

abbrev pub IsSettled : Reservations → Type 0
IsSettled r = IsHeldByListed r.registrations r.held

-- The action is none of the two that register.
abbrev pub IsNoRegister : Action → Type 0
IsNoRegister actions.Register = ⊥
IsNoRegister actions.RegisterAndIgnore = ⊥
IsNoRegister _ = Unit {0}
