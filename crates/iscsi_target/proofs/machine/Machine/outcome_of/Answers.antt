use Rattle.std.proofs.Common.{◌<◌, ◌≤◌, ◌^◌, ℕ, [], length, Option, sym, subst, ap, ◌∙◌, rules}
use Rattle.std.specs.Prelude.{IfSome}
use Rattle.scsi_disk.specs.declared.order.Outcome.{Outcome}
use Rattle.scsi_unit.specs.LogicalUnit.{LogicalUnit}
use Rattle.scsi_unit.specs.Telling.{unit_outcome}
use Rattle.iscsi_target.specs.State.{Machine}
use Rattle.iscsi_target.specs.Advances.{store_of}
use Rattle.iscsi_target.specs.inner.Inside.{OrderLedTo}
use Rattle.iscsi_target.proofs.Feed.CrashLemmas.{none_written}
use Rattle.iscsi_target.proofs.Answers.OrderLemmas.{told_leads, untold_ok, held_unit, held_none, none_said, result_keeps}
use Rattle.iscsi_target.proofs.machine.Machine.outcome_of.Goals as goal
use Rattle.iscsi_target.proofs.machine.Machine.outcome_of.Goals.{in-Some+in_ok-told+in_default-2, in_default}

pub returns-in-Some-2-clause-ok : goal.returns-in-Some-2-clause-ok
returns-in-Some-2-clause-ok g c =
    let disk = g.S.BlockStore.disk c.args.store.now in
    let failures : ℕ = g.S.BlockStore.failures c.args.store.now in
    subst (λ (unit : Option LogicalUnit). OrderLedTo g.S.BlockStore.protected unit c.args.order (store_of disk failures) (store_of disk failures)
    c.in-Some-2.told)
    (held_unit _ c.unit.result c.in-Some.unit _ c.in-Some.is (c.unit.ensures ∙ ap (λ (s : Machine). s.session.settings.extras.unit) c.self.view_is))
    (told_leads g.S.BlockStore.protected c.in-Some.unit.now c.args.order disk failures c.in-Some-2.told c.requires.gives
    (sym c.in-Some-2.is ∙ c.in_ok-told.ensures.told
    ∙ ap (λ (n : ℕ). unit_outcome c.in-Some.unit.now n c.args.order) c.requires.blocks)
    (subst (λ (o : Option Outcome). IfSome o (λ told. length told.bytes ≤ 664)) c.in-Some-2.is c.in_ok-told.ensures.few))

pub returns-clause-ok : goal.returns-clause-ok
returns-clause-ok g c =
    let short : c.args.order.expected < 2 ^ 32 = search rules in
    let unit : Option LogicalUnit = c.args.self.now.session.settings.extras.unit in
    let is = c.unit.ensures ∙ ap (λ (s : Machine). s.session.settings.extras.unit) c.self.view_is in
    untold_ok g.S.BlockStore.protected unit c.args.order
    (store_of (g.S.BlockStore.disk c.args.store.now) (g.S.BlockStore.failures c.args.store.now))
    (store_of (g.S.BlockStore.disk c.execute_found.new.store) (g.S.BlockStore.failures c.execute_found.new.store)) c.execute_found.result short
    (λ u some. elim c.match-unit.branch [
      | in-Some+in_ok-told+in_default-2 w ↦ none_said w.in_ok-told.field-0 w.in-Some.unit.now u (g.S.BlockStore.disk c.args.store.now).count c.args.order
          unit w.in_default-2.is
          (w.in_ok-told.ensures.told ∙ ap (λ (n : ℕ). unit_outcome w.in-Some.unit.now n c.args.order) c.requires.blocks)
          (held_unit _ c.unit.result w.in-Some.unit unit w.in-Some.is is) some
      | in_default w ↦ absurd (held_none _ c.unit.result unit u w.in_default.is is some)
    ])
    c.execute_found.ensures.ok

pub returns-clause-disk : goal.returns-clause-disk
returns-clause-disk g c =
    result_keeps c.execute_found.result g.S.BlockStore.protected (g.S.BlockStore.failures c.args.store.now) (g.S.BlockStore.failures c.execute_found.new.store)
    (g.S.BlockStore.disk c.args.store.now) (g.S.BlockStore.disk c.execute_found.new.store) c.args.order [] c.execute_found.ensures.ok
    c.execute_found.ensures.err
    c.requires.gives

pub returns-clause-crash : goal.returns-clause-crash
returns-clause-crash g c =
    none_written g.S.BlockStore.protected c.args.order [] (g.S.BlockStore.disk c.args.store.now) (g.S.BlockStore.disk c.execute_found.new.store)
    (g.S.BlockStore.kept c.args.store.now) (g.S.BlockStore.kept c.execute_found.new.store) c.execute_found.ensures.count c.requires.gives
    (g.met.S.BlockStore.stays c.args.store.now) c.execute_found.ensures.crash
