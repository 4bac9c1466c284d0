use Rattle.std.proofs.Common.{◌≡◌, ◌+◌, length, true, sym, ap, ◌∙◌, rules}
use Rattle.iscsi_target.specs.Transfer.{bytes_received, is_in_sequence}
use Rattle.iscsi_target.specs.Write.{Write}
use Rattle.iscsi_target.proofs.Writes.OpenWriteLemmas.{data_of_one}
use Rattle.iscsi_target.proofs.Feed.ArrivalLemmas.{staged_behind}
use Rattle.iscsi_target.proofs.open_write.OpenWrite.take.Goals as goal

pub invariant_of-self-2 : goal.invariant_of-self-2
invariant_of-self-2 c =
    let v = c.self.view_is in
    let size : bytes_received c.args.self.now ≡ length c.self.inside.data.items = sym (ap bytes_received v)
    ∙ ap length (data_of_one c.self.inside.data.items) in
    let due : c.self.inside.due ≡ c.args.self.now.due = ap (λ (w : Write). w.due) v in
    let e : is_in_sequence c.args.first_burst c.args.self.now c.args.head.now (bytes_received c.args.self.now + length c.args.bytes.now) c.args.self.now.due
    ≡ true =
    search rules in (
      staged_behind c.args.first_burst c.args.self.now c.args.head.now c.self.inside.order c.self.inside.found c.self.inside.total c.self.inside.data.items
          c.args.bytes.now c.extend_from_slice.new.self.items c.self.inside.r2t_count c.self.inside.due c.due_after-self-inside.result
          c.due_after-self-inside.ensures due (ap (λ (w : Write). w.total) v) c.self.invariant.0 c.in_ok-extend_from_slice.ensures.items size e,
      search rules,
    )
