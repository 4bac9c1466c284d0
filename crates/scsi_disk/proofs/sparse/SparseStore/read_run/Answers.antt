use Rattle.std.proofs.Common.{◌≡◌, ◌+◌, ◌*◌, ◌/◌, ◌%◌, ◌≤◌, Some, None, length, replicate, refl, ap, ◌∙◌, arith, rules}
use Rattle.scsi_disk.specs.Disk.{cut, joined_blocks}
use Rattle.scsi_disk.specs.Sparse.{Extents, extents_disk}
use Rattle.scsi_disk.proofs.SparseLemmas.{run_there, run_missing}
use Rattle.scsi_disk.proofs.sparse.SparseStore.read_run.Goals as goal

pub returns-in-Some : goal.returns-in-Some
returns-in-Some c =
    let n = c.args.n in
    let blocks = length c.args.out.now / 512 in
    let bytes = c.deref.ensures.value ∙ c.extent.view_is in
    let counts = ap (λ (s : Extents). s.count) c.self.view_is in
    let low : n + blocks ≤ c.self.inside.blocks = omega arith in
    c.read_blocks.ensures ∙ ap (λ t. joined_blocks (cut 512 t) (n % 64) blocks) bytes
    ∙ run_there c.self.inside.blocks c.self.inside.extents.entries n blocks (Some c.in-Some.extent.now) c.in-Some.ensures.value c.requires.one low
    c.in-Some.extent.now refl
    ∙ ap (λ (s : Extents). joined_blocks (extents_disk s).block n blocks) c.self.view_is

pub returns-in-None : goal.returns-in-None
returns-in-None c =
    let n = c.args.n in
    let blocks = length c.args.out.now / 512 in
    let counts = ap (λ (s : Extents). s.count) c.self.view_is in
    let low : n + blocks ≤ c.self.inside.blocks = omega arith in
    let long : length c.args.out.now ≡ 512 * blocks = omega arith in
    let cleared : c.fill.new.self ≡ replicate (length c.args.out.now) 0 = search rules in
    cleared ∙ ap (λ k. replicate k 0) long
    ∙ run_missing c.self.inside.blocks c.self.inside.extents.entries n blocks None c.in-None.ensures.value c.requires.one low refl
    ∙ ap (λ (s : Extents). joined_blocks (extents_disk s).block n blocks) c.self.view_is
