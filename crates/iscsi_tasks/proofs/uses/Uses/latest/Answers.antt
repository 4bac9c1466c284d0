use Rattle.std.proofs.Common.{◌≡◌, ℕ, ◌-◌, arith, length, refl, slice_index_or, subst, sym}
use Rattle.std.proofs.lemmas.Option.{get_or_from_slice_get, slice_get_read}
use Rattle.iscsi_tasks.proofs.uses.Uses.latest.Goals as goal

-- src/uses.rt:51:5
pub returns-in-Some : goal.returns-in-Some
returns-in-Some c =
    let later = c.args.self.now.later in
    let last = c.in-Some.last.now in
    let found : last ≡ slice_index_or later.items (length later.items - 1) last =
    subst (λ (n : ℕ). last ≡ slice_index_or later.items (n - 1) last) {x = later.len} {y = length later.items}
    later.ok.0 c.in-Some.ensures.lookup in
    record {
      value = sym (get_or_from_slice_get later.items _ last c.args.self.now.current
          (slice_get_read later.items (length later.items) _ _ refl (grind (arith, c.back.ensures.variant)) found));
    }
