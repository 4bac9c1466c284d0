use Rattle.std.proofs.Common.{sym}
use Rattle.iscsi_target.specs.State.{waiting_tasks}
use Rattle.iscsi_target.specs.inner.Reads.{given_by_source}
use Rattle.iscsi_target.proofs.Answers.ReadPartLemmas.{answers_sent}
use Rattle.iscsi_target.proofs.machine.Machine.append_answers.Goals as goal

pub returns-clause-ok : goal.returns-clause-ok
returns-clause-ok g c =
    let failures = g.S.BlockStore.failures in
    let s = c.args.self.now in
    answers_sent s c.args.tag c.args.outcome.now
    (given_by_source c.args.source.now (g.S.BlockStore.disk c.args.store.now) (failures c.args.store.now) (failures c.send_data_in.new.store))
    c.in_ok-count.count c.response_head-head.result c.args.out.now.items c.send_data_in.new.out.items c.append_response.new.out.items
    c.in_ok-count.ensures.ok
    (c.response_head-head.ensures.head s.session (waiting_tasks s.tasks) (sym c.numbers.ensures.stat_sn) (sym c.numbers.ensures.exp_cmd_sn)
    (sym c.numbers.ensures.max_cmd_sn))
    c.in_ok-append_response.ensures.ok
