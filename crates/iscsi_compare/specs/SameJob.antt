-- Two runs of one job: what they number differently, and what is the same in both. A run
-- chooses its task tags, transfer tags, ISID and TSIH, and where CmdSN and StatSN begin (RFC 7143,
-- sections 4.2.2, 11.2.1.8, 11.7.4, 11.12.5 and 11.12.6). A table of 17 kinds.
use Rattle.std.specs.Prelude.{◌≡◌, ℕ, ◌+◌, ◌%◌, ◌^◌, nat_lt, if◌then◌else◌, List, option_map, map}
use Rattle.iscsi_pdu.specs.declared.head.Head.{Head}
use Rattle.iscsi_pdu.specs.declared.head.Head.TheVariants.{NopOut, ScsiCommand, TaskRequest, LoginRequest, TextRequest, DataOut, LogoutRequest, NopIn, ScsiResponse, TaskResponse, LoginResponse, TextResponse, DataIn, LogoutResponse, ReadyToTransfer, AsyncMessage, Reject}
use Rattle.iscsi_pdu.specs.Fields.{reserved_tag, is_tag}
use Rattle.iscsi_stream.specs.Stream.{Message}

-- A name in one run for each name in the other: no two get one, and each is got.
pub record OneToOne (A : Type 0) : Type 0 where
  pub to : A → A
  pub back : A → A
  pub there : (name : A) → back (to name) ≡ name
  pub again : (name : A) → to (back name) ≡ name

-- a serial number n steps on, round the circle of 2^32; a number of more bits, which no PDU
-- has, stays
abbrev pub shifted : ℕ → ℕ → ℕ
shifted steps number = if nat_lt number (2 ^ 32) then (number + steps) % 2 ^ 32 else number

-- What one run numbers differently from the other. Initiator task tags and referenced task tags are
-- of one name space. The reserved tags and the TSIH of a new session are no names: they stand for
-- themselves.
pub record Renumbering : Type 0 where
  pub tasks : OneToOne ℕ
  pub transfers : OneToOne ℕ
  pub isids : OneToOne (List ℕ)
  pub tsihs : OneToOne ℕ
  pub commands : ℕ
  pub statuses : ℕ
  pub no_task : tasks.to reserved_tag ≡ reserved_tag
  pub no_transfer : transfers.to reserved_tag ≡ reserved_tag
  pub no_session : tsihs.to 0 ≡ 0

-- The head of the other run. A field that is not named stays as it is. RefCmdSN is a CmdSN where a
-- task is referenced (section 11.5.5).
unfoldable pub renumbered : Renumbering → Head → Head
renumbered r (NopOut h) = NopOut (record h {
  initiator_task_tag = r.tasks.to h.initiator_task_tag;
  target_transfer_tag = r.transfers.to h.target_transfer_tag;
  cmd_sn = shifted r.commands h.cmd_sn;
  exp_stat_sn = shifted r.statuses h.exp_stat_sn;
})
renumbered r (ScsiCommand h) = ScsiCommand (record h {
  initiator_task_tag = r.tasks.to h.initiator_task_tag;
  cmd_sn = shifted r.commands h.cmd_sn;
  exp_stat_sn = shifted r.statuses h.exp_stat_sn;
})
renumbered r (TaskRequest h) = TaskRequest (record h {
  initiator_task_tag = r.tasks.to h.initiator_task_tag;
  referenced_task_tag = r.tasks.to h.referenced_task_tag;
  cmd_sn = shifted r.commands h.cmd_sn;
  exp_stat_sn = shifted r.statuses h.exp_stat_sn;
  ref_cmd_sn =
      if is_tag h.referenced_task_tag then shifted r.commands h.ref_cmd_sn else h.ref_cmd_sn;
})
renumbered r (LoginRequest h) = LoginRequest (record h {
  isid = r.isids.to h.isid;
  tsih = r.tsihs.to h.tsih;
  initiator_task_tag = r.tasks.to h.initiator_task_tag;
  cmd_sn = shifted r.commands h.cmd_sn;
  exp_stat_sn = shifted r.statuses h.exp_stat_sn;
})
renumbered r (TextRequest h) = TextRequest (record h {
  initiator_task_tag = r.tasks.to h.initiator_task_tag;
  target_transfer_tag = r.transfers.to h.target_transfer_tag;
  cmd_sn = shifted r.commands h.cmd_sn;
  exp_stat_sn = shifted r.statuses h.exp_stat_sn;
})
renumbered r (DataOut h) = DataOut (record h {
  initiator_task_tag = r.tasks.to h.initiator_task_tag;
  target_transfer_tag = r.transfers.to h.target_transfer_tag;
  exp_stat_sn = shifted r.statuses h.exp_stat_sn;
})
renumbered r (LogoutRequest h) = LogoutRequest (record h {
  initiator_task_tag = r.tasks.to h.initiator_task_tag;
  cmd_sn = shifted r.commands h.cmd_sn;
  exp_stat_sn = shifted r.statuses h.exp_stat_sn;
})
renumbered r (NopIn h) = NopIn (record h {
  initiator_task_tag = r.tasks.to h.initiator_task_tag;
  target_transfer_tag = r.transfers.to h.target_transfer_tag;
  stat_sn = shifted r.statuses h.stat_sn;
  exp_cmd_sn = shifted r.commands h.exp_cmd_sn;
  max_cmd_sn = shifted r.commands h.max_cmd_sn;
})
renumbered r (ScsiResponse h) = ScsiResponse (record h {
  initiator_task_tag = r.tasks.to h.initiator_task_tag;
  stat_sn = shifted r.statuses h.stat_sn;
  exp_cmd_sn = shifted r.commands h.exp_cmd_sn;
  max_cmd_sn = shifted r.commands h.max_cmd_sn;
})
renumbered r (TaskResponse h) = TaskResponse (record h {
  initiator_task_tag = r.tasks.to h.initiator_task_tag;
  stat_sn = shifted r.statuses h.stat_sn;
  exp_cmd_sn = shifted r.commands h.exp_cmd_sn;
  max_cmd_sn = shifted r.commands h.max_cmd_sn;
})
renumbered r (LoginResponse h) = LoginResponse (record h {
  isid = r.isids.to h.isid;
  tsih = r.tsihs.to h.tsih;
  initiator_task_tag = r.tasks.to h.initiator_task_tag;
  stat_sn = option_map (shifted r.statuses) h.stat_sn;
  exp_cmd_sn = shifted r.commands h.exp_cmd_sn;
  max_cmd_sn = shifted r.commands h.max_cmd_sn;
})
renumbered r (TextResponse h) = TextResponse (record h {
  initiator_task_tag = r.tasks.to h.initiator_task_tag;
  target_transfer_tag = r.transfers.to h.target_transfer_tag;
  stat_sn = shifted r.statuses h.stat_sn;
  exp_cmd_sn = shifted r.commands h.exp_cmd_sn;
  max_cmd_sn = shifted r.commands h.max_cmd_sn;
})
renumbered r (DataIn h) = DataIn (record h {
  initiator_task_tag = r.tasks.to h.initiator_task_tag;
  target_transfer_tag = r.transfers.to h.target_transfer_tag;
  stat_sn = option_map (shifted r.statuses) h.stat_sn;
  exp_cmd_sn = shifted r.commands h.exp_cmd_sn;
  max_cmd_sn = shifted r.commands h.max_cmd_sn;
})
renumbered r (LogoutResponse h) = LogoutResponse (record h {
  initiator_task_tag = r.tasks.to h.initiator_task_tag;
  stat_sn = shifted r.statuses h.stat_sn;
  exp_cmd_sn = shifted r.commands h.exp_cmd_sn;
  max_cmd_sn = shifted r.commands h.max_cmd_sn;
})
renumbered r (ReadyToTransfer h) = ReadyToTransfer (record h {
  initiator_task_tag = r.tasks.to h.initiator_task_tag;
  target_transfer_tag = r.transfers.to h.target_transfer_tag;
  stat_sn = shifted r.statuses h.stat_sn;
  exp_cmd_sn = shifted r.commands h.exp_cmd_sn;
  max_cmd_sn = shifted r.commands h.max_cmd_sn;
})
renumbered r (AsyncMessage h) = AsyncMessage (record h {
  stat_sn = shifted r.statuses h.stat_sn;
  exp_cmd_sn = shifted r.commands h.exp_cmd_sn;
  max_cmd_sn = shifted r.commands h.max_cmd_sn;
})
renumbered r (Reject h) = Reject (record h {
  stat_sn = shifted r.statuses h.stat_sn;
  exp_cmd_sn = shifted r.commands h.exp_cmd_sn;
  max_cmd_sn = shifted r.commands h.max_cmd_sn;
})

-- the message of the other run: its segment means the same
abbrev pub renumbered_message : Renumbering → Message → Message
renumbered_message r m = record m { head = renumbered r m.head }

-- Two lists of messages are of one job: some renumbering gives the second from the first, message
-- by message.
abbrev pub SameJob : List Message → List Message → Type 0
SameJob ms ns = (r : Renumbering) × (ns ≡ map (renumbered_message r) ms)
