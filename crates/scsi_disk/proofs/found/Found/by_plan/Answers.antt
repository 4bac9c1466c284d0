use Rattle.std.proofs.Common.{◌≡◌, ◌∙◌, inl, inr, sym}
use Rattle.scsi_disk.specs.declared.order.Plan.TheVariants.{Refuse, Take, Give}
use Rattle.scsi_disk.proofs.PlanLemmas.{not_refused}
use Rattle.scsi_disk.proofs.found.Found.by_plan.Goals as goal

pub unrefused-requires : goal.unrefused-requires
unrefused-requires c = record {
  transfer = c.of.ensures.transfer;
  kind = c.of.ensures.kind;
  told = c.of.ensures.told;
  unrefused =
      not_refused c.args.order.now c.args.blocks (λ sense e. elim c.in-Take.is [
        | inl (n, is) ↦ (let h : Take n ≡ Refuse sense = sym is ∙ c.requires.planned ∙ e in cc)
        | inr (n, is) ↦ (let h : Give n ≡ Refuse sense = sym is ∙ c.requires.planned ∙ e in cc)
      ]);
}
