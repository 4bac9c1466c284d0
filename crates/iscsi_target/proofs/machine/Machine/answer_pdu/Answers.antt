use Rattle.std.proofs.Common.{sym, ◌∙◌, subst}
use Rattle.iscsi_target.specs.Advances.{store_of}
use Rattle.iscsi_target.proofs.Turns.DispatchLemmas.{login_answers, full_answers}
use Rattle.iscsi_target.specs.Crash.{CrashLeavesBlocks, commands_in}
use Rattle.iscsi_login.specs.declared.phase.Phase.{Phase}
use Rattle.iscsi_target.proofs.machine.Machine.answer_pdu.Goals as goal

pub returns-in-Login-clause-answers : goal.returns-in-Login-clause-answers
returns-in-Login-clause-answers g c =
    login_answers g.S.BlockStore.protected c.log_in.result (g.S.BlockStore.failures c.args.store.now) c.args.self.now
    (g.S.BlockStore.disk c.args.store.now) c.args.received.now
    c.log_in.new.self c.args.out.now.items c.log_in.new.out.items c.requires.live c.requires.within (sym c.phase.ensures.phase ∙ c.in-Login.is)
    (c.log_in.ensures (g.S.BlockStore.disk c.args.store.now))

pub returns-in-Full-clause-answers : goal.returns-in-Full-clause-answers
returns-in-Full-clause-answers g c =
    full_answers g.S.BlockStore.protected c.answer_full_phase.result c.args.self.now c.args.received.now
    (store_of (g.S.BlockStore.disk c.args.store.now) (g.S.BlockStore.failures c.args.store.now))
    c.args.out.now.items c.answer_full_phase.new.self (store_of (g.S.BlockStore.disk c.answer_full_phase.new.store)
    (g.S.BlockStore.failures c.answer_full_phase.new.store))
    c.answer_full_phase.new.out.items c.requires.live c.requires.within (sym c.phase.ensures.phase ∙ c.in-Full.is) c.answer_full_phase.ensures.follows

pub returns-in-Full-clause-crash : goal.returns-in-Full-clause-crash
returns-in-Full-clause-crash g c =
    subst (λ (phase : Phase). CrashLeavesBlocks g.S.BlockStore.protected (commands_in phase c.args.self.now
    (g.S.BlockStore.disk c.args.store.now).count c.args.received.now)
    (g.S.BlockStore.disk c.args.store.now) (g.S.BlockStore.disk c.answer_full_phase.new.store) (g.S.BlockStore.kept c.args.store.now)
    (g.S.BlockStore.kept c.answer_full_phase.new.store))
    (sym (sym c.phase.ensures.phase ∙ c.in-Full.is)) c.answer_full_phase.ensures.crash
