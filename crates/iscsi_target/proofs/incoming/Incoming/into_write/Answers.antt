use Rattle.std.proofs.Common.{◌≡◌, ◌+◌, length, take, drop, sym, ap, ◌∙◌, subst, arith}
use Rattle.std.specs.Prelude.{if◌then◌else◌}
use Rattle.std.proofs.lemmas.List.{length-take, length-drop}
use Rattle.iscsi_target.specs.declared.due.Due.{Due}
use Rattle.iscsi_target.specs.declared.due.Due.TheVariants.{Nothing}
use Rattle.iscsi_target.specs.inner.Staged.{IsStaged}
use Rattle.iscsi_target.specs.Transfer.{bytes_received, continued}
use Rattle.iscsi_target.specs.inner.Arrival.{Arrival}
use Rattle.iscsi_target.proofs.Writes.OpenWriteLemmas.{data_of_one}
use Rattle.iscsi_target.proofs.Feed.ArrivalLemmas.{staged_after}
use Rattle.iscsi_target.proofs.incoming.Incoming.into_write.Goals as goal

pub invariant_of-write : goal.invariant_of-write
invariant_of-write c =
    let v = c.self.view_is in
    let i = c.self.inside in
    let kept = c.self.invariant.1 in
    let len : i.len ≡ c.args.self.len = ap (λ (a : Arrival). a.len) v in
    let segment : length (drop i.start i.bytes.items) ≡ length c.args.self.segment = ap (λ (a : Arrival). length a.segment) v in
    let size : bytes_received c.args.self.write ≡ i.start = sym (ap (λ (a : Arrival). bytes_received a.write) v)
    ∙ ap length (data_of_one (take i.start i.bytes.items))
    ∙ omega (arith, length-take i.start i.bytes.items, kept.begun) in
    let all : i.start + c.args.self.len ≡ length i.bytes.items = omega (
      arith,
      len,
      segment,
      length-drop i.start i.bytes.items,
      c.requires.there.segment,
      kept.no_more,
      kept.begun,
    ) in (
      staged_after c.requires.due.0 c.args.self.write c.args.self.head i.order i.found i.total i.bytes.items i.start c.args.self.len i.r2t_count
          c.due_after.result
          (c.due_after.ensures ∙ ap (λ (a : Arrival). if a.head.is_final then Nothing else continued a.write.due) v)
          (subst (λ (d : Due). IsStaged i.order i.found i.total (take i.start i.bytes.items) d i.r2t_count) (ap (λ (a : Arrival). a.write.due) v)
          c.self.invariant.0)
          kept.begun all (omega (arith, all, len, kept.fits)) size c.requires.due.1,
      kept.has_room,
    )
