use Rattle.std.proofs.Common.{ℕ, ◌∙◌, arith, rules}
use Rattle.std.proofs.lemmas.List.{length-take, length-drop}
use Rattle.scsi_disk.proofs.AppendLemmas.{filled}
use Rattle.scsi_disk.proofs.store.BlockStore.read_onto.Goals as goal

pub returns-else-is_err-clause-ok : goal.returns-else-is_err-clause-ok
returns-else-is_err-clause-ok g c =
    filled c.read-answer.result _ (g.Self.BlockStore.disk c.args.self.now) c.args.lba c.args.blocks c.len-start.result c.resize.new.self.len
    c.args.out.now.len _ c.args.out.now.items c.deref_mut.result.now c.read-answer.new.out _ _ (search rules) c.len-start.ensures c.in_ok-resize.ensures.len
    (c.deref_mut.ensures.value ∙ c.in_ok-resize.ensures.items)
    (omega (arith, length-take {A = ℕ}, length-drop {A = ℕ}, c.deref_mut.ensures.len, c.in_ok-resize.ensures.len)) c.read-answer.auto.out
    c.read-answer.ensures.ok
