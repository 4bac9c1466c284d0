use Rattle.std.proofs.Common.{◌≡◌, ◌<◌, ◌-◌, ℕ, min, ap, ◌∙◌, refl, arith}
use Rattle.iscsi_target_session.specs.Session.{data_in_length}
use Rattle.iscsi_target.specs.inner.Reads.{given_by_source}
use Rattle.iscsi_target.proofs.Answers.ReadPartLemmas.{part_left, parts_all, parts_next, parts_none}
use Rattle.iscsi_target.proofs.machine.Machine.send_sequence.Goals as goal

pub loop-sent-init : goal.loop-sent-init
loop-sent-init g c =
    let disk = g.S.BlockStore.disk c.args.store.now in
    record {
      parts = parts_none c.args.self.now c.args.tag c.args.source.now disk disk.count (g.S.BlockStore.failures c.args.store.now) c.args.end c.args.before
          c.args.out.now.items c.requires.count c.requires.within c.requires.has;
      left = c.requires.has;
      disk = refl;
      kept = λ n bytes was. was;
      rises = omega arith;
    }

pub loop-sent-preserved : goal.loop-sent-preserved
loop-sent-preserved g c =
    let disk = g.S.BlockStore.disk in
    let failures = g.S.BlockStore.failures in
    let so_far = c.loop-sent.invariant in
    let reads = c.append_part.ensures.reads in
    let most : ℕ = data_in_length c.args.self.now.session in
    let below : c.loop-sent.sent.bytes < c.args.end = omega (arith, c.loop-sent-test.true) in
    let some : 0 < most = omega (arith, c.max_segment-most.ensures.value, c.max_segment-most.ensures.some) in
    let is_n : c.min-len.result ≡ min most (c.args.end - c.loop-sent.sent.bytes) =
    c.min-len.ensures ∙ ap (λ (k : ℕ). min k (c.args.end - c.loop-sent.sent.bytes)) c.max_segment-most.ensures.value in
    record {
      parts = parts_next c.args.self.now c.args.tag c.args.source.now (disk c.args.store.now) (disk c.loop-sent.store)
          (record { before = (failures c.args.store.now); between = (failures c.loop-sent.store); after = (failures c.append_part.new.store) })
          c.min-len.result c.args.end c.args.before c.loop-sent.sent c.data_in-head.result
          (record { before = c.args.out.now.items; between = c.loop-sent.out.items; after = c.append_part.new.out.items }) some below is_n
          c.data_in-head.ensures.head so_far.disk
          c.in_ok-append_part.ensures.ok so_far.rises reads.read.rises so_far.parts;
      left = part_left c.args.source.now (disk c.args.store.now).count c.loop-sent.sent.bytes c.args.end most c.min-len.result
          c.requires.segment (omega (arith, below)) is_n so_far.left;
      disk = reads.read.disk ∙ so_far.disk;
      kept = λ n bytes is. so_far.kept n bytes (reads.read.kept n bytes is);
      rises = omega (arith, so_far.rises, reads.read.rises);
    }

pub returns-clause-ok : goal.returns-clause-ok
returns-clause-ok g c =
    let failures = g.S.BlockStore.failures in
    parts_all c.args.self.now c.args.tag (given_by_source c.args.source.now (g.S.BlockStore.disk c.args.store.now) (failures c.args.store.now)
    (failures c.loop-sent.store))
    c.args.before c.loop-sent.sent c.args.end c.args.out.now.items c.loop-sent.out.items (omega (arith, c.loop-sent-test.false)) c.loop-sent.invariant.parts
