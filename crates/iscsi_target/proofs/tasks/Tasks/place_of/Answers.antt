use Rattle.std.proofs.Common.{◌≡◌, ◌<◌, List, true, length, subst, rules}
use Rattle.std.specs.Prelude.{slice_index_or, None}
use Rattle.iscsi_target.specs.declared.tasks.Task.{Task}
use Rattle.iscsi_target.specs.Machine.{write_of}
use Rattle.iscsi_target.specs.inner.Machine.{is_write_with}
use Rattle.iscsi_target.specs.inner.Inside.{IsWriteAt}
use Rattle.iscsi_target.proofs.Queue.TaskPlaceLemmas.{NoneBefore, write_at, write_none}
use Rattle.iscsi_target.proofs.tasks.Tasks.place_of.Goals as goal

pub returns-then-is_write-clause-some : goal.returns-then-is_write-clause-some
returns-then-is_write-clause-some c =
    let items : List Task = c.self.inside.list.items in
    let within : c.loop-place.place < length items = search rules in
    subst (λ (ts : List Task). IsWriteAt c.args.tag ts c.loop-place.place) c.self.view_is
    (write_at c.args.tag items c.loop-place.place c.index-as_slice-place.result within c.loop-place.invariant.1
    (let here : is_write_with c.args.tag (slice_index_or items c.loop-place.place c.index-as_slice-place.result) ≡ true = search rules in here))

pub returns-clause-none : goal.returns-clause-none
returns-clause-none c =
    let items : List Task = c.self.inside.list.items in
    let all : c.loop-place.place ≡ length items = search rules in
    subst (λ (ts : List Task). write_of ts c.args.tag ≡ None) c.self.view_is
    (write_none c.args.tag items (subst (NoneBefore c.args.tag items) all c.loop-place.invariant.1))
