use Rattle.std.proofs.Common.{◌≡◌, List, sym, ap, subst, ◌∙◌}
use Rattle.std.specs.Prelude.{insert}
use Rattle.iscsi_target.specs.Write.{Write}
use Rattle.iscsi_target.specs.declared.tasks.Task.{Task}
use Rattle.iscsi_target.specs.declared.tasks.Task.TheVariants.{Data}
use Rattle.iscsi_target.specs.inner.Inside.{AreInPlace, IsWriteAt}
use Rattle.iscsi_target.proofs.Queue.TaskPlaceLemmas.{without, with_}
use Rattle.iscsi_target.proofs.tasks.Tasks.take_write.Goals as goal

pub invariant_of-self : goal.invariant_of-self
invariant_of-self c = subst AreInPlace (sym c.remove.ensures.items) (without c.self.inside.list.items c.in_ok-place.place c.self.invariant)

pub returns-clause-in_place : goal.returns-clause-in_place
returns-clause-in_place c = λ v same one.
    let items : List Task = c.self.inside.list.items in
    let at : IsWriteAt c.args.tag items c.in_ok-place.place = subst (λ (ts : List Task). IsWriteAt c.args.tag ts c.in_ok-place.place)
    (sym c.self.view_is) c.in_ok-place.ensures.some in
    let is : Data at.write ≡ Data c.in-Data.write = sym (at.at_place c.remove.result) ∙ sym c.remove.ensures.value ∙ c.in-Data.is in
    let write : at.write ≡ c.in-Data.write = cc in
    subst (λ (ts : List Task). AreInPlace (insert ts c.in_ok-place.place (Data v))) (sym c.remove.ensures.items)
    (with_ c.args.tag items c.in_ok-place.place at v c.self.invariant (same ∙ ap (λ (w : Write). w.immediate) (sym write)) one)
