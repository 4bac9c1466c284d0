-- What went between two ends, and what the initiator did with it (RFC 7143, section 4).
use Rattle.std.specs.Prelude.{◌≡◌, ℕ, false, List, [], ◌∷◌, ◌++◌, length, take, drop}
use Rattle.scsi_disk.specs.Disk.{disk_of}
use Rattle.iscsi_stream.specs.Segment.{no_login}
use Rattle.iscsi_stream.specs.Stream.{Message, ReadsAs}
use Rattle.iscsi_stream.specs.Canonical.{canon}
use Rattle.iscsi_stream.specs.Framing.{HasTaken, is_ready}
use Rattle.iscsi_target.specs.State.{TargetStep, opening_machine}
use Rattle.iscsi_target.specs.State.{writes_joined}
use Rattle.iscsi_target_session.specs.Session as target_session
use Rattle.iscsi_target.specs.Machine as target_machine
use Rattle.iscsi_target.specs.Machine.{answers}
use Rattle.iscsi_initiator.specs.State.{InitiatorSession, is_session_closed}
use Rattle.iscsi_initiator.specs.Calls as initiator_calls
use Rattle.iscsi_initiator.specs.Machine.{initiator_step}
use Rattle.iscsi_initiator.specs.Submitted.{submitted}
use Rattle.iscsi_pair.specs.World as world
use Rattle.iscsi_pair.specs.World.{World, Opening, PairEvent, started, new_pair, PairEventStep}
use Rattle.iscsi_initiator.specs.Laws.{SessionInput, Comes, Asks, Takes, met}

-- ---- bytes

-- All bytes that were moved to each end, all that were queued for it, and what was asked of the
-- initiator and taken from it.
pub record Traffic : Type 0 where
  pub moved_to_target : List ℕ
  pub moved_to_initiator : List ℕ
  pub queued_for_target : List ℕ
  pub queued_for_initiator : List ℕ
  pub demands : List SessionInput

-- In a new pair the initiator's first text is queued (section 6.3).
abbrev pub first_traffic : Opening → Traffic
first_traffic c = record {
  moved_to_target = [];
  moved_to_initiator = [];
  queued_for_target = (new_pair c).to_target;
  queued_for_initiator = [];
  demands = [];
}

-- The bytes that stand behind n.
abbrev pub bytes_behind : List ℕ → List ℕ → List ℕ
bytes_behind before after = drop (length before) after

-- What an event adds.
abbrev pub traffic_after : Traffic → World → PairEvent → World → Traffic
traffic_after t old (world.ToTarget k) new = record t {
  moved_to_target = t.moved_to_target ++ take k old.to_target;
  queued_for_initiator = t.queued_for_initiator ++ bytes_behind old.to_initiator new.to_initiator;
}
traffic_after t old (world.ToInitiator k) new = record t {
  moved_to_initiator = t.moved_to_initiator ++ take k old.to_initiator;
  queued_for_target = t.queued_for_target ++ bytes_behind old.to_target new.to_target;
}
traffic_after t old (world.Submits request) new = record t {
  queued_for_target = t.queued_for_target ++ bytes_behind old.to_target new.to_target;
  demands = t.demands ++ Asks request ∷ [];
}
traffic_after t old world.Takes new = record t { demands = t.demands ++ Takes ∷ [] }

-- Events, one after another, and what went between the ends before and after them.
unfoldable pub TracesTraffic : Traffic → World → List PairEvent → World → Traffic → Type 0
TracesTraffic t old [] new u = (new ≡ old) × (u ≡ t)
TracesTraffic t old (event ∷ events) new u =
    (mid : World) × PairEventStep old event mid
    × TracesTraffic (traffic_after t old event mid) mid events new u

-- ---- messages

-- What it sends then.
abbrev pub sent_in : InitiatorSession → SessionInput → List Message
sent_in m (Comes message) = (initiator_step m message).output
sent_in m (Asks request) = (submitted m request).output
sent_in m Takes = []

-- The session after all of these.
abbrev pub session_after_all : InitiatorSession → List SessionInput → InitiatorSession
session_after_all m [] = m
session_after_all m (input ∷ inputs) = session_after_all (met m input) inputs

-- What it sends in all of these.
abbrev pub sent : InitiatorSession → List SessionInput → List Message
sent m [] = []
sent m (input ∷ inputs) = sent_in m input ++ sent (met m input) inputs

-- The message that comes in it.
abbrev pub coming_in : SessionInput → List Message
coming_in (Comes message) = message ∷ []
coming_in _ = []

-- The messages that come in these.
abbrev pub coming : List SessionInput → List Message
coming [] = []
coming (input ∷ inputs) = coming_in input ++ coming inputs

-- What is demanded in it.
abbrev pub demanded_in : SessionInput → List SessionInput
demanded_in (Comes message) = []
demanded_in input = input ∷ []

-- What is demanded in these, in their order.
abbrev pub demanded : List SessionInput → List SessionInput
demanded [] = []
demanded (input ∷ inputs) = demanded_in input ++ demanded inputs

-- ---- where each end stands

-- All that these messages lead a new target to.
abbrev pub target_said : Opening → List Message → TargetStep
target_said c messages =
    answers false (opening_machine c.target c.first_stat_sn) (disk_of c.blocks) messages

-- The target is where its machine goes with these PDUs, and so are the blocks. These PDUs are the
-- first of what was moved to the target. Its answers are all that was queued for the initiator.
-- While its session goes on it has taken all that was moved; behind the end of its session the rest
-- is dropped.
pub record TargetStands (c : Opening) (t : Traffic) (w : World) : Type 0 where
  pub messages : List Message
  pub given : List ℕ
  pub rest : List ℕ
  pub whole : t.moved_to_target ≡ given ++ rest
  pub reads : ReadsAs (target_session.target_limit c.target) no_login given messages
  pub machine : w.target.machine ≡ writes_joined (target_said c messages).machine
  pub disk : disk_of w.blocks ≡ (target_said c messages).disk
  pub output : t.queued_for_initiator ≡ canon (target_said c messages).answers
  pub taken : target_machine.is_machine_closed w.target.machine ≡ false →
      HasTaken t.moved_to_target messages w.target.framing
  -- and no whole PDU waits
  pub none_waits : target_machine.is_machine_closed w.target.machine ≡ false →
      is_ready w.target.framing ≡ false

-- The initiator is where its machine goes with these inputs: the PDUs that are the first of what
-- was moved to it, the requests handed in and the outcomes taken. What it sent is all that was
-- queued for the target. While its session goes on it has taken all that was moved.
pub record InitiatorStands (c : Opening) (inputs : List SessionInput) (t : Traffic) (w : World)
    : Type 0 where
  pub given : List ℕ
  pub rest : List ℕ
  pub whole : t.moved_to_initiator ≡ given ++ rest
  pub reads : ReadsAs (initiator_calls.initiator_limit c.initiator) no_login given (coming inputs)
  pub demands : demanded inputs ≡ t.demands
  pub machine : w.initiator.machine ≡ session_after_all (started c).machine inputs
  pub output : t.queued_for_target
      ≡ (new_pair c).to_target ++ canon (sent (started c).machine inputs)
  pub taken : is_session_closed w.initiator.machine ≡ false →
      HasTaken t.moved_to_initiator (coming inputs) w.initiator.framing
  -- and no whole PDU waits
  pub none_waits : is_session_closed w.initiator.machine ≡ false → is_ready w.initiator.framing
      ≡ false
