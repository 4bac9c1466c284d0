use Rattle.std.proofs.Common.{◌≡◌, true, false, inr, sym, ap, ◌∙◌}
use Rattle.std.specs.Prelude.{◌||◌}
use Rattle.iscsi_pdu.specs.declared.head.Head.TheVariants as heads
use Rattle.iscsi_pdu.specs.declared.head.data_out.DataOut.{DataOut}
use Rattle.iscsi_stream.proofs.ReadyLemmas.{apart}
use Rattle.iscsi_target.specs.declared.tasks.Task.TheVariants.{Data}
use Rattle.iscsi_target.specs.Asking.{machine_asks, asks_task}
use Rattle.iscsi_target.proofs.Feed.ArrivalLemmas.{none_arriving, none_arrived, some_arrived, either_left, either_right}
use Rattle.iscsi_target.proofs.intake.note_arrived.Goals.{then-not-has_cache-via-then-not-has_cache, then-not-has_cache-via-else-not-has_cache+then-not-is_there}
use Rattle.iscsi_target.proofs.intake.note_arrived.Goals.{then-asks-via-then-asks, then-asks-via-else-asks+then-asks-2}
use Rattle.iscsi_target.proofs.intake.note_arrived.Goals as goal

pub returns-then-not-has_cache-clause-none : goal.returns-then-not-has_cache-clause-none
returns-then-not-has_cache-clause-none c = λ cache quiet.
    elim c.then-not-has_cache.branch [
      | then-not-has_cache-via-then-not-has_cache w ↦ absurd (apart cache (sym c.has_cache.ensures ∙ w.if-not-has_cache.true))
      | then-not-has_cache-via-else-not-has_cache+then-not-is_there w ↦
          none_arriving c.args.machine.now c.args.framer.now c.args.incoming.now c.requires.arrives
          (λ there. apart (w.is_there.ensures.1 there) w.if-not-is_there.true)
    ]

pub returns-then-asks-clause-only : goal.returns-then-asks-clause-only
returns-then-asks-clause-only c = λ _.
    (let a = c.args.incoming.now in
    let asks : (machine_asks c.args.machine.now (heads.DataOut a.head) || asks_task (Data a.write)) ≡ true = elim c.then-asks.branch [
      | then-asks-via-then-asks w ↦
          either_left (machine_asks c.args.machine.now (heads.DataOut a.head)) (asks_task (Data a.write))
          (ap (λ (h : DataOut). machine_asks c.args.machine.now (heads.DataOut h)) (sym c.head.ensures.head) ∙ sym c.asks.ensures ∙ w.if-asks.true)
      | then-asks-via-else-asks+then-asks-2 w ↦
          either_right (machine_asks c.args.machine.now (heads.DataOut a.head)) (asks_task (Data a.write)) (sym w.asks-else-asks.ensures ∙ w.if-asks-2.true)
    ] in
    inr (some_arrived c.args.machine.now c.args.framer.now a c.requires.arrives (c.is_there.ensures.0 c.if-not-is_there.false) asks))

pub returns-else-asks-2-clause-none : goal.returns-else-asks-2-clause-none
returns-else-asks-2-clause-none c = λ cache quiet.
    (let a = c.args.incoming.now in
    let first : machine_asks c.args.machine.now (heads.DataOut a.head) ≡ false =
    ap (λ (h : DataOut). machine_asks c.args.machine.now (heads.DataOut h)) (sym c.head.ensures.head) ∙ sym c.asks.ensures ∙ c.if-asks.false in
    let second : asks_task (Data a.write) ≡ false = sym c.asks-else-asks.ensures ∙ c.if-asks-2.false in
    none_arrived c.args.machine.now c.args.framer.now a c.requires.arrives (c.is_there.ensures.0 c.if-not-is_there.false)
    (ap (λ b. b || asks_task (Data a.write)) first ∙ second))
