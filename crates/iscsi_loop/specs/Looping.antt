-- A session of an initiator and a target, as a script says.
use Rattle.std.specs.Prelude.{◌≡◌, ◌⊎◌, ℕ, List, [], ◌∷◌, ◌++◌, take, Option, Result, Ok, Err, codes, if◌then◌else◌}
use Rattle.std.specs.Io.KnownBytes.{IsAtEnd}
use Rattle.std.specs.List.{flat_map}
use Rattle.iscsi_text.specs.declared.negotiated.Session.TheVariants.{Normal}
use Rattle.iscsi_login.specs.declared.stage.Stage.TheVariants.{Security}
use Rattle.iscsi_login.specs.declared.offers.Auth.TheVariants as auth
use Rattle.iscsi_login.specs.Negotiation.{standard_preferences}
use Rattle.iscsi_target.specs.declared.fault.TargetFault.TheVariants as target
use Rattle.iscsi_initiator.specs.declared.fault.InitiatorFault.TheVariants as initiator
use Rattle.iscsi_initiator.specs.declared.request.Done.{Done}
use Rattle.iscsi_initiator.specs.State.{InitiatorSettings}
use Rattle.iscsi_initiator.specs.Laws.{IsOutcomeOf}
use Rattle.iscsi_loop.specs.declared.command.Command.{Command}
use Rattle.iscsi_serving.specs.declared.fault.ServeFault.{ServeFault}
use Rattle.iscsi_serving.specs.declared.fault.ServeFault.TheVariants as serve
use Rattle.iscsi_loop.specs.Commands.{command_request, is_logout}
use Rattle.iscsi_loop.specs.Script.{IsScript, ScriptFails}
use Rattle.iscsi_loop.specs.Reports.{report}

-- What the initiator is configured with.
abbrev pub initiator_settings : InitiatorSettings
initiator_settings = record {
  proposal = record {
    initiator = codes "iqn.2026-01.example:host";
    target = codes "iqn.2026-01.example:disk";
    session = Normal;
    auth = auth.None;
    prefs = standard_preferences;
  };
  start = Security;
  isid = 0x40 ∷ 0 ∷ 0 ∷ 1 ∷ 0 ∷ 0 ∷ [];
  first_cmd_sn = 1;
  login_segment = 8192;
}

-- ---- what is done and written

-- The commands up to the first logout.
abbrev pub up_to_logout : List Command → List Command
up_to_logout [] = []
up_to_logout (command ∷ commands) =
    if is_logout command then command ∷ [] else command ∷ up_to_logout commands

-- Each command has an outcome of its request's kind, in order.
abbrev pub HaveOutcomes : List Command → List Done → Type 0
HaveOutcomes [] [] = Unit {0}
HaveOutcomes (command ∷ commands) (outcome ∷ outcomes) =
    IsOutcomeOf (command_request command) outcome × HaveOutcomes commands outcomes
HaveOutcomes _ _ = ⊥

-- The first of these commands have outcomes of their requests' kinds, in order.
abbrev pub FirstHaveOutcomes : List Command → List Done → Type 0
FirstHaveOutcomes commands [] = Unit {0}
FirstHaveOutcomes (command ∷ commands) (outcome ∷ outcomes) =
    IsOutcomeOf (command_request command) outcome × FirstHaveOutcomes commands outcomes
FirstHaveOutcomes [] (outcome ∷ outcomes) = ⊥

-- The lines of outcomes.
abbrev pub reports : List Done → List ℕ
reports outcomes = flat_map report outcomes

-- The line of the login, and those of outcomes.
abbrev pub transcript : List Done → List ℕ
transcript outcomes = codes "login" ++ 0x0a ∷ [] ++ reports outcomes

-- The script was read and done, and what came of each command is written.
abbrev pub DoesScript : List ℕ → List ℕ → Type 0
DoesScript script written =
    (commands : List Command) × (outcomes : List Done) × IsScript script commands
    × HaveOutcomes (up_to_logout commands) outcomes × (written ≡ transcript outcomes)

-- Nothing is written, or the lines of the login and of the first commands' outcomes.
abbrev pub StopsWithin : List ℕ → List ℕ → Type 0
StopsWithin script written = (written ≡ [])
    ⊎ ((commands : List Command) × (outcomes : List Done) × IsScript script commands
    × FirstHaveOutcomes (up_to_logout commands) outcomes × (written ≡ transcript outcomes))

-- A front of the lines of the login and of the first commands' outcomes.
abbrev pub WritesFront : List ℕ → List ℕ → Type 0
WritesFront script written =
    (commands : List Command) × (outcomes : List Done) × IsScript script commands
    × FirstHaveOutcomes (up_to_logout commands) outcomes
    × ((n : ℕ) × (written ≡ take n (transcript outcomes)))

-- What is written where a loop ends. No fault wraps the want of memory.
abbrev pub LoopPost : Result (Unit {0}) ServeFault → List ℕ → List ℕ → Type 0
LoopPost (Ok done) script written = DoesScript script written
LoopPost (Err (serve.Script n)) script written =
    ScriptFails (serve.Script n) script × (written ≡ [])
LoopPost (Err serve.Sync) script written = ⊥
LoopPost (Err serve.NoRandom) script written = ⊥
LoopPost (Err serve.Write) script written = WritesFront script written
LoopPost (Err serve.Read) script written = written ≡ []
LoopPost (Err serve.NoMemory) script written = StopsWithin script written
LoopPost (Err serve.Network) script written = StopsWithin script written
LoopPost (Err (serve.Target target.NoMemory)) script written = ⊥
LoopPost (Err (serve.Target fault)) script written = StopsWithin script written
LoopPost (Err (serve.Initiator initiator.NoMemory)) script written = ⊥
LoopPost (Err (serve.Initiator fault)) script written = StopsWithin script written

-- The script is read to its end before anything is sent or written.
abbrev pub ReadsScriptFirst : Result (Unit {0}) ServeFault → List ℕ → Option (List ℕ) → Type 0
ReadsScriptFirst (Err (serve.Script n)) written left = Unit {0}
ReadsScriptFirst (Err serve.Read) written left = Unit {0}
ReadsScriptFirst (Err serve.NoMemory) written left = (written ≡ []) ⊎ IsAtEnd left
ReadsScriptFirst result written left = IsAtEnd left
