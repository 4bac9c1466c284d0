use Rattle.std.proofs.Common.{◌≡◌, ◌+◌, ◌*◌, ◌%◌, ◌≤◌, ◌++◌, List, ℕ, Some, None, refl, ap, ◌∙◌, arith, rules}
use Rattle.scsi_disk.specs.Disk.{cut, joined_blocks}
use Rattle.scsi_disk.specs.Sparse.{Extents, extents_disk}
use Rattle.scsi_disk.proofs.AppendLemmas.{map_ok, resized}
use Rattle.scsi_disk.proofs.SparseLemmas.{run_there, run_missing}
use Rattle.scsi_disk.proofs.sparse.SparseStore.append_run.Goals as goal

pub returns-in-Some-clause-ok : goal.returns-in-Some-clause-ok
returns-in-Some-clause-ok c =
    let n = c.args.n in
    let blocks = c.args.blocks in
    let bytes = c.deref.ensures.value ∙ c.extent.view_is in
    let counts = ap (λ (s : Extents). s.count) c.self.view_is in
    let low : n + blocks ≤ c.self.inside.blocks = omega arith in
    let same = ap (λ t. joined_blocks (cut 512 t) (n % 64) blocks) bytes
    ∙ run_there c.self.inside.blocks c.self.inside.extents.entries n blocks (Some c.in-Some.extent.now) c.in-Some.ensures.value c.requires.one low
    c.in-Some.extent.now refl
    ∙ ap (λ (s : Extents). joined_blocks (extents_disk s).block n blocks) c.self.view_is in
    map_ok c.append_blocks.result (λ (is : c.append_blocks.new.out.items ≡ c.args.out.now.items ++ joined_blocks (cut 512 c.deref.result.now) (n % 64) blocks).
    is ∙ ap (λ (t : List ℕ). c.args.out.now.items ++ t) same) c.append_blocks.ensures.ok

pub returns-in-None-clause-ok : goal.returns-in-None-clause-ok
returns-in-None-clause-ok c =
    let n = c.args.n in
    let blocks = c.args.blocks in
    let counts = ap (λ (s : Extents). s.count) c.self.view_is in
    let low : n + blocks ≤ c.self.inside.blocks = omega arith in
    resized c.resize.result c.args.out.now.items c.resize.new.self.items _ (c.len.result + 512 * blocks) c.args.out.now.len (512 * blocks) (search rules)
    (search rules) c.resize.ensures.items
    (run_missing c.self.inside.blocks c.self.inside.extents.entries n blocks None c.in-None.ensures.value c.requires.one low refl
    ∙ ap (λ (s : Extents). joined_blocks (extents_disk s).block n blocks) c.self.view_is)
