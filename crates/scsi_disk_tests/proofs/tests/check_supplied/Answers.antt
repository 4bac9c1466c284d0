use Rattle.std.proofs.Common.{rules, ◌≡◌, ◌<◌, get_or, length, IsTrue, ap, sym, ◌∙◌, inl, inr, arith}
use Rattle.std.proofs.lemmas.Bool.{cases_lt}
use Rattle.std.proofs.lemmas.List.{get_or_default}
use Rattle.scsi_disk_tests.proofs.tests.check_supplied.Goals as goal

pub loop-order-preserved : goal.loop-order-preserved
loop-order-preserved g c k default lt =
    elim (cases_lt k c.loop-order.order-index) [
      | inl low ↦ c.loop-order.invariant k default low
      | inr high ↦
          (let orders = c.args.orders.now in
          let o = c.loop-order-item.result in
          let taken : IsTrue c.is_supplied-supplied.result = search rules in
          let here = rw c.as_slice.ensures at c.is_supplied-supplied.ensures taken in
          let last : k ≡ c.loop-order.order-index = omega arith in
          let inside : c.loop-order.order-index < length orders = omega arith in
          let at : get_or orders k default ≡ o =
          ap (λ n. get_or orders n default) last ∙ get_or_default orders c.loop-order.order-index default o inside ∙ sym c.loop-order-item.is in
          rw at here)
    ]
