use Rattle.std.proofs.Common.{◌≡◌, ◌<◌, ◌+◌, ◌-◌, ℕ, min, ap, ◌∙◌, refl, subst, arith}
use Rattle.iscsi_login.specs.Held.{max_burst}
use Rattle.iscsi_target.specs.inner.Reads.{HasPart, given_by_source, source_len}
use Rattle.iscsi_target.proofs.Answers.ReadPartLemmas.{part_left, sequences_all, sequences_next, sequences_none}
use Rattle.iscsi_target.proofs.machine.Machine.send_data_in.Goals as goal

pub loop-sent-init : goal.loop-sent-init
loop-sent-init g c =
    let disk = g.S.BlockStore.disk c.args.store.now in
    let source = c.args.source.now in
    let all : source_len source ≡ source_len source - 0 = omega arith in
    record {
      sequences = sequences_none c.args.self.now c.args.tag source disk disk.count (g.S.BlockStore.failures c.args.store.now) c.args.out.now.items
          c.reserve.new.self.items c.requires.has c.reserve.ensures.items;
      left = subst (λ (n : ℕ). HasPart source disk.count 0 n) all c.requires.has;
      disk = refl;
      kept = λ n bytes was. was;
      rises = omega arith;
    }

pub loop-sent-preserved : goal.loop-sent-preserved
loop-sent-preserved g c =
    let disk = g.S.BlockStore.disk in
    let failures = g.S.BlockStore.failures in
    let source = c.args.source.now in
    let so_far = c.loop-sent.invariant in
    let reads = c.send_sequence.ensures.reads in
    let held = c.args.self.now.session.held in
    let at = c.loop-sent.sent.bytes in
    let below : at < source_len source = omega (arith, c.loop-sent-test.true, c.len-total.ensures) in
    let some : 0 < max_burst held = omega (arith, c.max_burst-burst.ensures.value, c.max_burst-burst.ensures.some) in
    let is_n : c.min.result ≡ min (max_burst held) (source_len source - at) =
    c.min.ensures ∙ ap (λ (k : ℕ). min k (c.len-total.result - at)) c.max_burst-burst.ensures.value
    ∙ ap (λ (k : ℕ). min (max_burst held) (k - at)) c.len-total.ensures in
    let reached : at + c.min.result ≡ c.in_ok-sent.sent.bytes = omega (arith, c.in_ok-sent.ensures.ok.carried) in
    record {
      sequences = sequences_next c.args.self.now c.args.tag source (disk c.args.store.now) (disk c.loop-sent.store)
          (record { before = (failures c.args.store.now); between = (failures c.loop-sent.store); after = (failures c.send_sequence.new.store) })
          c.min.result (at + c.min.result) c.loop-sent.sent c.in_ok-sent.sent
          (record { before = c.args.out.now.items; between = c.loop-sent.out.items; after = c.send_sequence.new.out.items }) some c.in_ok-sent.ensures.most
          below is_n refl so_far.disk
          c.in_ok-sent.ensures.ok so_far.rises reads.read.rises so_far.sequences;
      left = subst (λ (n : ℕ). HasPart source (disk c.args.store.now).count n (source_len source - n)) reached
          (part_left source (disk c.args.store.now).count at (source_len source) (max_burst held) c.min.result c.requires.burst (omega (arith, below)) is_n
          so_far.left);
      disk = reads.read.disk ∙ so_far.disk;
      kept = λ n bytes is. so_far.kept n bytes (reads.read.kept n bytes is);
      rises = omega (arith, so_far.rises, reads.read.rises);
    }

pub returns-clause-ok : goal.returns-clause-ok
returns-clause-ok g c =
    let failures = g.S.BlockStore.failures in
    sequences_all c.args.self.now c.args.tag (given_by_source c.args.source.now (g.S.BlockStore.disk c.args.store.now) (failures c.args.store.now)
    (failures c.loop-sent.store))
    c.loop-sent.sent c.args.out.now.items c.loop-sent.out.items (omega (arith, c.loop-sent-test.false, c.len-total.ensures)) c.loop-sent.invariant.sequences
