use Rattle.std.proofs.Common.{refl}
use Rattle.std.proofs.lemmas.Map.Lookups.{exact_bytes}
use Rattle.iscsi_compare.specs.inner.SameJobJudge.{known_by}
use Rattle.iscsi_compare.proofs.LearningLemmas.{learns_nine}
use Rattle.iscsi_compare.proofs.same_job.renaming.Renaming.learn.Goals as goal

pub join_some-requires-clause-exact : goal.join_some-requires-clause-exact
join_some-requires-clause-exact c = exact_bytes

pub returns-clause-sound : goal.returns-clause-sound
returns-clause-sound c = record {
  tasks = c.in_ok-referenced_task.ensures.sound;
  transfers = c.in_ok-transfer.ensures.sound;
  isids = c.in_ok-isid.ensures.sound;
  tsihs = c.in_ok-tsih.ensures.sound;
  no_task = λ f left. c.requires.sound.no_task f (c.in_ok-task.ensures.learns.less f (c.in_ok-referenced_task.ensures.learns.less f left));
  no_transfer = λ f left. c.requires.sound.no_transfer f (c.in_ok-transfer.ensures.learns.less f left);
  no_session = λ f left. c.requires.sound.no_session f (c.in_ok-tsih.ensures.learns.less f left);
}

pub returns-clause-learns : goal.returns-clause-learns
returns-clause-learns c =
    learns_nine c.args.mine.now c.args.other.now (known_by c.args.self.now) (record {
      tasks = c.join-2.new.self.there;
      transfers = c.join-3.new.self.there;
      isids = c.join_some.new.self.there;
      tsihs = c.join-4.new.self.there;
      commands = c.step_if-referenced_command.new.known;
      statuses = c.step_some-status.new.known;
    })
    (record {
      task = c.in_ok-task.task;
      referenced_task = c.in_ok-referenced_task.referenced_task;
      transfer = c.in_ok-transfer.transfer;
      isid = c.in_ok-isid.isid;
      tsih = c.in_ok-tsih.tsih;
      command = c.step_some-command.result;
      last_command = c.step_some-last_command.result;
      referenced_command = c.step_if-referenced_command.result;
      status = c.step_some-status.result;
    }) _
    (record {
      tasks = c.join.new.self.there;
      steps = c.step_some-command.new.known;
      last_steps = c.step_some-last_command.new.known;
      task = c.in_ok-task.ensures.learns;
      referenced_task = c.in_ok-referenced_task.ensures.learns;
      transfer = c.in_ok-transfer.ensures.learns;
      isid = c.in_ok-isid.ensures.learns;
      tsih = c.in_ok-tsih.ensures.learns;
      command = c.step_some-command.ensures;
      last_command = c.step_some-last_command.ensures;
      referenced_command = c.step_if-referenced_command.ensures;
      status = c.step_some-status.ensures;
    }) refl
