-- The numbers of a head, taken out and put back. No reader of a contract needs these. Two tables of
-- 17 kinds.
use Rattle.std.specs.Prelude.{Some, None, unwrap_or, option_map, if◌then◌else◌}
use Rattle.iscsi_pdu.specs.declared.head.Head.{Head}
use Rattle.iscsi_pdu.specs.declared.head.Head.TheVariants.{NopOut, ScsiCommand, TaskRequest, LoginRequest, TextRequest, DataOut, LogoutRequest, NopIn, ScsiResponse, TaskResponse, LoginResponse, TextResponse, DataIn, LogoutResponse, ReadyToTransfer, AsyncMessage, Reject}
use Rattle.iscsi_pdu.specs.Fields.{reserved_tag, is_tag}
use Rattle.iscsi_compare.specs.declared.same_job.numbers.Numbers.{Numbers}
use Rattle.iscsi_compare.specs.SameJob.{Renumbering, shifted}

-- the numbers of a head that has none
abbrev pub none : Numbers
none = record {
  task = reserved_tag;
  referenced_task = reserved_tag;
  transfer = reserved_tag;
  isid = None;
  tsih = 0;
  command = None;
  last_command = None;
  referenced_command = 0;
  status = None;
}

-- what a run may number differently in a head, and zeros or reserved names for what its kind lacks
unfoldable pub numbers : Head → Numbers
numbers (NopOut h) = record none {
  task = h.initiator_task_tag;
  transfer = h.target_transfer_tag;
  command = Some h.cmd_sn;
  status = Some h.exp_stat_sn;
}
numbers (ScsiCommand h) = record none {
  task = h.initiator_task_tag;
  command = Some h.cmd_sn;
  status = Some h.exp_stat_sn;
}
numbers (TaskRequest h) = record none {
  task = h.initiator_task_tag;
  referenced_task = h.referenced_task_tag;
  command = Some h.cmd_sn;
  status = Some h.exp_stat_sn;
  referenced_command = h.ref_cmd_sn;
}
numbers (LoginRequest h) = record none {
  isid = Some h.isid;
  tsih = h.tsih;
  task = h.initiator_task_tag;
  command = Some h.cmd_sn;
  status = Some h.exp_stat_sn;
}
numbers (TextRequest h) = record none {
  task = h.initiator_task_tag;
  transfer = h.target_transfer_tag;
  command = Some h.cmd_sn;
  status = Some h.exp_stat_sn;
}
numbers (DataOut h) = record none {
  task = h.initiator_task_tag;
  transfer = h.target_transfer_tag;
  status = Some h.exp_stat_sn;
}
numbers (LogoutRequest h) = record none {
  task = h.initiator_task_tag;
  command = Some h.cmd_sn;
  status = Some h.exp_stat_sn;
}
numbers (NopIn h) = record none {
  task = h.initiator_task_tag;
  transfer = h.target_transfer_tag;
  status = Some h.stat_sn;
  command = Some h.exp_cmd_sn;
  last_command = Some h.max_cmd_sn;
}
numbers (ScsiResponse h) = record none {
  task = h.initiator_task_tag;
  status = Some h.stat_sn;
  command = Some h.exp_cmd_sn;
  last_command = Some h.max_cmd_sn;
}
numbers (TaskResponse h) = record none {
  task = h.initiator_task_tag;
  status = Some h.stat_sn;
  command = Some h.exp_cmd_sn;
  last_command = Some h.max_cmd_sn;
}
numbers (LoginResponse h) = record none {
  isid = Some h.isid;
  tsih = h.tsih;
  task = h.initiator_task_tag;
  status = h.stat_sn;
  command = Some h.exp_cmd_sn;
  last_command = Some h.max_cmd_sn;
}
numbers (TextResponse h) = record none {
  task = h.initiator_task_tag;
  transfer = h.target_transfer_tag;
  status = Some h.stat_sn;
  command = Some h.exp_cmd_sn;
  last_command = Some h.max_cmd_sn;
}
numbers (DataIn h) = record none {
  task = h.initiator_task_tag;
  transfer = h.target_transfer_tag;
  status = h.stat_sn;
  command = Some h.exp_cmd_sn;
  last_command = Some h.max_cmd_sn;
}
numbers (LogoutResponse h) = record none {
  task = h.initiator_task_tag;
  status = Some h.stat_sn;
  command = Some h.exp_cmd_sn;
  last_command = Some h.max_cmd_sn;
}
numbers (ReadyToTransfer h) = record none {
  task = h.initiator_task_tag;
  transfer = h.target_transfer_tag;
  status = Some h.stat_sn;
  command = Some h.exp_cmd_sn;
  last_command = Some h.max_cmd_sn;
}
numbers (AsyncMessage h) = record none {
  status = Some h.stat_sn;
  command = Some h.exp_cmd_sn;
  last_command = Some h.max_cmd_sn;
}
numbers (Reject h) = record none {
  status = Some h.stat_sn;
  command = Some h.exp_cmd_sn;
  last_command = Some h.max_cmd_sn;
}

-- the head with these numbers in place of its own
unfoldable pub with_numbers : Head → Numbers → Head
with_numbers (NopOut h) n = NopOut (record h {
  initiator_task_tag = n.task;
  target_transfer_tag = n.transfer;
  cmd_sn = unwrap_or n.command h.cmd_sn;
  exp_stat_sn = unwrap_or n.status h.exp_stat_sn;
})
with_numbers (ScsiCommand h) n = ScsiCommand (record h {
  initiator_task_tag = n.task;
  cmd_sn = unwrap_or n.command h.cmd_sn;
  exp_stat_sn = unwrap_or n.status h.exp_stat_sn;
})
with_numbers (TaskRequest h) n = TaskRequest (record h {
  initiator_task_tag = n.task;
  referenced_task_tag = n.referenced_task;
  cmd_sn = unwrap_or n.command h.cmd_sn;
  exp_stat_sn = unwrap_or n.status h.exp_stat_sn;
  ref_cmd_sn = n.referenced_command;
})
with_numbers (LoginRequest h) n = LoginRequest (record h {
  isid = unwrap_or n.isid h.isid;
  tsih = n.tsih;
  initiator_task_tag = n.task;
  cmd_sn = unwrap_or n.command h.cmd_sn;
  exp_stat_sn = unwrap_or n.status h.exp_stat_sn;
})
with_numbers (TextRequest h) n = TextRequest (record h {
  initiator_task_tag = n.task;
  target_transfer_tag = n.transfer;
  cmd_sn = unwrap_or n.command h.cmd_sn;
  exp_stat_sn = unwrap_or n.status h.exp_stat_sn;
})
with_numbers (DataOut h) n = DataOut (record h {
  initiator_task_tag = n.task;
  target_transfer_tag = n.transfer;
  exp_stat_sn = unwrap_or n.status h.exp_stat_sn;
})
with_numbers (LogoutRequest h) n = LogoutRequest (record h {
  initiator_task_tag = n.task;
  cmd_sn = unwrap_or n.command h.cmd_sn;
  exp_stat_sn = unwrap_or n.status h.exp_stat_sn;
})
with_numbers (NopIn h) n = NopIn (record h {
  initiator_task_tag = n.task;
  target_transfer_tag = n.transfer;
  stat_sn = unwrap_or n.status h.stat_sn;
  exp_cmd_sn = unwrap_or n.command h.exp_cmd_sn;
  max_cmd_sn = unwrap_or n.last_command h.max_cmd_sn;
})
with_numbers (ScsiResponse h) n = ScsiResponse (record h {
  initiator_task_tag = n.task;
  stat_sn = unwrap_or n.status h.stat_sn;
  exp_cmd_sn = unwrap_or n.command h.exp_cmd_sn;
  max_cmd_sn = unwrap_or n.last_command h.max_cmd_sn;
})
with_numbers (TaskResponse h) n = TaskResponse (record h {
  initiator_task_tag = n.task;
  stat_sn = unwrap_or n.status h.stat_sn;
  exp_cmd_sn = unwrap_or n.command h.exp_cmd_sn;
  max_cmd_sn = unwrap_or n.last_command h.max_cmd_sn;
})
with_numbers (LoginResponse h) n = LoginResponse (record h {
  isid = unwrap_or n.isid h.isid;
  tsih = n.tsih;
  initiator_task_tag = n.task;
  stat_sn = n.status;
  exp_cmd_sn = unwrap_or n.command h.exp_cmd_sn;
  max_cmd_sn = unwrap_or n.last_command h.max_cmd_sn;
})
with_numbers (TextResponse h) n = TextResponse (record h {
  initiator_task_tag = n.task;
  target_transfer_tag = n.transfer;
  stat_sn = unwrap_or n.status h.stat_sn;
  exp_cmd_sn = unwrap_or n.command h.exp_cmd_sn;
  max_cmd_sn = unwrap_or n.last_command h.max_cmd_sn;
})
with_numbers (DataIn h) n = DataIn (record h {
  initiator_task_tag = n.task;
  target_transfer_tag = n.transfer;
  stat_sn = n.status;
  exp_cmd_sn = unwrap_or n.command h.exp_cmd_sn;
  max_cmd_sn = unwrap_or n.last_command h.max_cmd_sn;
})
with_numbers (LogoutResponse h) n = LogoutResponse (record h {
  initiator_task_tag = n.task;
  stat_sn = unwrap_or n.status h.stat_sn;
  exp_cmd_sn = unwrap_or n.command h.exp_cmd_sn;
  max_cmd_sn = unwrap_or n.last_command h.max_cmd_sn;
})
with_numbers (ReadyToTransfer h) n = ReadyToTransfer (record h {
  initiator_task_tag = n.task;
  target_transfer_tag = n.transfer;
  stat_sn = unwrap_or n.status h.stat_sn;
  exp_cmd_sn = unwrap_or n.command h.exp_cmd_sn;
  max_cmd_sn = unwrap_or n.last_command h.max_cmd_sn;
})
with_numbers (AsyncMessage h) n = AsyncMessage (record h {
  stat_sn = unwrap_or n.status h.stat_sn;
  exp_cmd_sn = unwrap_or n.command h.exp_cmd_sn;
  max_cmd_sn = unwrap_or n.last_command h.max_cmd_sn;
})
with_numbers (Reject h) n = Reject (record h {
  stat_sn = unwrap_or n.status h.stat_sn;
  exp_cmd_sn = unwrap_or n.command h.exp_cmd_sn;
  max_cmd_sn = unwrap_or n.last_command h.max_cmd_sn;
})

-- the numbers of the other run
unfoldable pub renamed : Renumbering → Numbers → Numbers
renamed r n = record {
  task = r.tasks.to n.task;
  referenced_task = r.tasks.to n.referenced_task;
  transfer = r.transfers.to n.transfer;
  isid = option_map r.isids.to n.isid;
  tsih = r.tsihs.to n.tsih;
  command = option_map (shifted r.commands) n.command;
  last_command = option_map (shifted r.commands) n.last_command;
  referenced_command =
      if is_tag n.referenced_task then shifted r.commands n.referenced_command
      else n.referenced_command;
  status = option_map (shifted r.statuses) n.status;
}
