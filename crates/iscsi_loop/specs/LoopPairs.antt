-- Both ends of a loop, as a pair: what they have served, and what that is on one local disk (RFC
-- 7143, section 4.2).
use Rattle.std.specs.Prelude.{◌≡◌, ◌⊎◌, ℕ, ◌*◌, List, [], map, replicate, take, Result, Ok, Err}
use Rattle.iscsi_initiator.specs.declared.request.Done.{Done}
use Rattle.iscsi_initiator.specs.declared.request.Request.{Request}
use Rattle.iscsi_pair.specs.World.{Opening}
use Rattle.iscsi_pair.specs.Served.{disk_outcomes}
use Rattle.iscsi_loop.specs.declared.command.Command.{Command}
use Rattle.iscsi_serving.specs.declared.fault.ServeFault.{ServeFault}
use Rattle.iscsi_loop.specs.Commands.{command_request}
use Rattle.iscsi_loop.specs.Script.{IsScript}
use Rattle.iscsi_serve.specs.Session.{target_settings}
use Rattle.iscsi_loop.specs.Looping.{initiator_settings, transcript, up_to_logout}

-- A carrier returns what was written to it.
abbrev pub IsFaithful : (List ℕ → List ℕ → Type 0) → Type 0
IsFaithful carries = (written read : List ℕ) → carries written read → read ≡ written

-- What the pair of a loop is made of: the settings of the programs, and n blocks of 00.
abbrev pub loop_opening : ℕ → Opening
loop_opening blocks = record {
  initiator = initiator_settings;
  target = target_settings;
  first_stat_sn = 1;
  blocks = replicate (512 * blocks) 0;
}

-- ---- one local disk

-- The outcomes of requests on one local disk of n blocks of 00 (section 4.2).
abbrev pub outcomes_on : ℕ → List Request → List Done
outcomes_on blocks requests = disk_outcomes (loop_opening blocks) requests

-- What the commands up to the first logout lead to on one local disk of n blocks.
abbrev pub command_outcomes : ℕ → List Command → List Done
command_outcomes blocks commands = outcomes_on blocks (map command_request (up_to_logout commands))

-- What is written is what the script leads to on one local disk of n blocks of 00: all of its
-- lines or, before a fault, a front of them.
abbrev pub LoopsOnDisk : ℕ → Result (Unit {0}) ServeFault → List ℕ → List ℕ → Type 0
LoopsOnDisk blocks (Ok done) script written = (commands : List Command)
    × IsScript script commands × (written ≡ transcript (command_outcomes blocks commands))
LoopsOnDisk blocks (Err fault) script written = (written ≡ []) ⊎ ((commands : List Command)
    × IsScript script commands
    × ((n : ℕ) × (written ≡ take n (transcript (command_outcomes blocks commands)))))
