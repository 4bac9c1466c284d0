use Rattle.std.proofs.Common.{◌≡◌, ◌≤◌, Bool, ℕ, length, refl, sym, ap, subst, ◌∙◌, rules, inr}
use Rattle.iscsi_stream.specs.Segment.{continues}
use Rattle.iscsi_stream.specs.Framing.{Framing, is_ready, message_of}
use Rattle.iscsi_stream.specs.Stream.{Message, message}
use Rattle.iscsi_stream.proofs.PassingLemmas.{unready_after}
use Rattle.iscsi_target.specs.State.{Machine, closed_machine}
use Rattle.iscsi_target.specs.Feed.{Store}
use Rattle.iscsi_target.specs.Execution.{Device}
use Rattle.iscsi_target.specs.Machine.{step_on}
use Rattle.iscsi_target.specs.Advances.{store_of}
use Rattle.iscsi_target.specs.inner.Inside.{Moment, MessageServed, moment, MessageRanOut}
use Rattle.iscsi_target.proofs.Turns.DispatchLemmas.{over_none}
use Rattle.iscsi_target.proofs.Turns.OutOfMemoryLemmas.{halts_closed, halts_settings}
use Rattle.iscsi_target.specs.Crash.{CrashLeavesBlocks, commands_at}
use Rattle.iscsi_target.proofs.intake.answer_framed.Goals as goal

pub answer_pdu-requires-clause-within : goal.answer_pdu-requires-clause-within
answer_pdu-requires-clause-within g c =
    over_none c.args.machine.now c.continued.result c.in-Some.pdu.head c.in-Some.pdu.bytes.now
    (subst (λ (n : ℕ). length c.in-Some.pdu.bytes.now ≤ n) c.requires.limit c.in-Some.ensures.within)

pub returns-in-Ok-clause-ok : goal.returns-in-Ok-clause-ok
returns-in-Ok-clause-ok g c =
    let ready = c.in-Some.ensures.ready.0 refl in
    let m : Message = message c.continued.result c.in-Some.pdu.head c.in-Some.pdu.bytes.now in
    let continued : c.continued.result ≡ continues c.args.framer.now.logins c.in-Some.pdu.head = search rules in
    let same : m ≡ message_of c.args.framer.now c.in-Some.pdu.head c.in-Some.pdu.bytes.now =
    ap (λ (b : Bool). message b c.in-Some.pdu.head c.in-Some.pdu.bytes.now) continued in
    let before : Store = store_of (g.S.BlockStore.disk c.args.store.now) (g.S.BlockStore.failures c.args.store.now) in
    let after : Store = store_of (g.S.BlockStore.disk c.answer_pdu.new.store) (g.S.BlockStore.failures c.answer_pdu.new.store) in
    inr (record {
      head = c.in-Some.pdu.head;
      segment = c.in-Some.pdu.bytes.now;
      ready = ready;
      means = c.in-Some.ensures.means;
      framing_is = c.take.ensures.taken c.in-Some.pdu.head c.in-Some.pdu.bytes.now ready c.in-Some.ensures.means;
      serves = subst (λ (x : Message). MessageServed g.S.BlockStore.protected before.failures c.args.out.now.items
          (λ (device : Device). step_on device c.args.machine.now before.disk x) c.in-Ok.broken (moment c.answer_pdu.new.self after c.answer_pdu.new.out.items))
          same c.in-Ok.ensures.answers.ok;
    })

pub returns-in-Err-clause-err : goal.returns-in-Err-clause-err
returns-in-Err-clause-err g c =
    let gone = c.take-in-Err.ensures.taken c.in-Some.pdu.head c.in-Some.pdu.bytes.now (c.in-Some.ensures.ready.0 refl) c.in-Some.ensures.means in
    let m : Message = message c.continued.result c.in-Some.pdu.head c.in-Some.pdu.bytes.now in
    let continued : c.continued.result ≡ continues c.args.framer.now.logins c.in-Some.pdu.head = search rules in
    let same : m ≡ message_of c.args.framer.now c.in-Some.pdu.head c.in-Some.pdu.bytes.now =
    ap (λ (b : Bool). message b c.in-Some.pdu.head c.in-Some.pdu.bytes.now) continued in
    let old : Moment = moment c.args.machine.now
    (store_of (g.S.BlockStore.disk c.args.store.now) (g.S.BlockStore.failures c.args.store.now)) c.args.out.now.items in
    let after : Store = store_of (g.S.BlockStore.disk c.answer_pdu.new.store) (g.S.BlockStore.failures c.answer_pdu.new.store) in
    let new : Moment = moment c.answer_pdu.new.self after c.answer_pdu.new.out.items in
    let halts : MessageRanOut g.S.BlockStore.protected m old new = c.in-Err.ensures.answers.err in
    let within = over_none c.args.machine.now c.continued.result c.in-Some.pdu.head c.in-Some.pdu.bytes.now
    (subst (λ (n : ℕ). length c.in-Some.pdu.bytes.now ≤ n) c.requires.limit c.in-Some.ensures.within) in
    record {
      head = c.in-Some.pdu.head;
      segment = c.in-Some.pdu.bytes.now;
      means = c.in-Some.ensures.means;
      unready = ap is_ready gone ∙ unready_after c.args.framer.now c.in-Some.pdu.head;
      limit = ap (λ (v : Framing). v.limit) gone;
      settings = ap (λ (x : Machine). x.session.settings) c.close.ensures ∙ halts_settings g.S.BlockStore.protected m old new c.requires.live within halts;
      closed_ = c.close.ensures ∙ ap closed_machine (sym c.close.ensures);
      halts = subst (λ (x : Machine). MessageRanOut g.S.BlockStore.protected (message_of c.args.framer.now c.in-Some.pdu.head c.in-Some.pdu.bytes.now) old
          (moment x after c.answer_pdu.new.out.items)) (sym c.close.ensures)
          (subst (λ (x : Message). MessageRanOut g.S.BlockStore.protected x old
          (moment (closed_machine c.answer_pdu.new.self) after c.answer_pdu.new.out.items)) same
          (halts_closed g.S.BlockStore.protected m old new halts));
    }

pub returns-in-Ok-clause-crash : goal.returns-in-Ok-clause-crash
returns-in-Ok-clause-crash g c =
    let continued : c.continued.result ≡ continues c.args.framer.now.logins c.in-Some.pdu.head = search rules in
    let same : message c.continued.result c.in-Some.pdu.head c.in-Some.pdu.bytes.now
    ≡ message_of c.args.framer.now c.in-Some.pdu.head c.in-Some.pdu.bytes.now = ap (λ
    (b : Bool). message b c.in-Some.pdu.head c.in-Some.pdu.bytes.now) continued in
    inr (
      c.in-Some.pdu.head,
      c.in-Some.pdu.bytes.now,
      c.in-Some.ensures.means,
      subst (λ (x : Message). CrashLeavesBlocks g.S.BlockStore.protected (commands_at c.args.machine.now (g.S.BlockStore.disk c.args.store.now).count x)
          (g.S.BlockStore.disk c.args.store.now) (g.S.BlockStore.disk c.answer_pdu.new.store) (g.S.BlockStore.kept c.args.store.now)
          (g.S.BlockStore.kept c.answer_pdu.new.store)) same c.answer_pdu.ensures.crash,
    )

pub returns-in-Err-clause-crash : goal.returns-in-Err-clause-crash
returns-in-Err-clause-crash g c =
    let continued : c.continued.result ≡ continues c.args.framer.now.logins c.in-Some.pdu.head = search rules in
    let same : message c.continued.result c.in-Some.pdu.head c.in-Some.pdu.bytes.now
    ≡ message_of c.args.framer.now c.in-Some.pdu.head c.in-Some.pdu.bytes.now = ap (λ
    (b : Bool). message b c.in-Some.pdu.head c.in-Some.pdu.bytes.now) continued in
    inr (
      c.in-Some.pdu.head,
      c.in-Some.pdu.bytes.now,
      c.in-Some.ensures.means,
      subst (λ (x : Message). CrashLeavesBlocks g.S.BlockStore.protected (commands_at c.args.machine.now (g.S.BlockStore.disk c.args.store.now).count x)
          (g.S.BlockStore.disk c.args.store.now) (g.S.BlockStore.disk c.answer_pdu.new.store) (g.S.BlockStore.kept c.args.store.now)
          (g.S.BlockStore.kept c.answer_pdu.new.store)) same c.answer_pdu.ensures.crash,
    )
