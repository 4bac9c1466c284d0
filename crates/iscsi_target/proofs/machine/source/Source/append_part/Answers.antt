use Rattle.std.proofs.Common.{◌∙◌, ◌++◌, ℕ, List, OnOk, ap, sym, subst, arith}
use Rattle.iscsi_target.specs.inner.Reads.{HasPart, SendsPart, given_by_source}
use Rattle.iscsi_target.specs.declared.machine.source.Source.{Source}
use Rattle.iscsi_target.specs.declared.machine.source.Source.TheVariants.{Blocks}
use Rattle.iscsi_target.proofs.Answers.ReadPartLemmas.{blocks_sent}
use Rattle.iscsi_target.proofs.machine.source.Source.append_part.Goals as goal

pub overflow_add-range : goal.overflow_add-range
overflow_add-range g c =
    let blocks = (g.S.BlockStore.disk c.args.store.now).count in
    let has : HasPart (Blocks c.in-Blocks.range) blocks c.args.offset c.args.len =
    subst (λ (source : Source). HasPart source blocks c.args.offset c.args.len) c.in-Blocks.is c.requires.has in
    omega (arith, has.2, has.4)

pub returns-in_ok-extend_from_slice-in-Blocks-clause-ok : goal.returns-in_ok-extend_from_slice-in-Blocks-clause-ok
returns-in_ok-extend_from_slice-in-Blocks-clause-ok g c =
    let disk = g.S.BlockStore.disk c.args.store.now in
    let failures = g.S.BlockStore.failures in
    let range = c.in-Blocks.range in
    let has : HasPart (Blocks range) disk.count c.args.offset c.args.len =
    subst (λ (source : Source). HasPart source disk.count c.args.offset c.args.len) c.in-Blocks.is c.requires.has in
    subst (λ (source : Source). OnOk c.read_onto.result (SendsPart c.args.head.now
    (given_by_source source disk (failures c.args.store.now) (failures c.read_onto.new.self))
    c.args.offset c.args.len c.args.out.now.items c.read_onto.new.out.items)) (sym c.in-Blocks.is)
    (blocks_sent c.read_onto.result c.args.head.now disk range (failures c.args.store.now) (failures c.read_onto.new.self)
    (g.S.BlockStore.untold c.args.store.now) (g.S.BlockStore.untold c.read_onto.new.self) c.args.offset c.from.result c.args.len
    c.args.out.now.items c.extend_from_slice.new.self.items c.read_onto.new.out.items has.0 has.1 c.from.ensures
    (c.in_ok-extend_from_slice-in-Blocks.ensures.items ∙ ap (λ (t : List ℕ). c.args.out.now.items ++ t) c.write_head.ensures.canonical)
    c.read_onto.ensures.ok c.read_onto.ensures.appends c.read_onto.ensures.tells)
