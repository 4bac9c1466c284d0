-- Less waits in the one in which most did.
use Rattle.std.proofs.Common.{ℕ, ◌≤◌, ◌<◌, List, length, refl, subst, arith}
use Rattle.std.specs.Prelude.{slice_get}
use Rattle.std.proofs.lemmas.Option.{slice_get_read}
use Rattle.capture_connections.specs.declared.connections.Connection.{Connection}
use Rattle.capture_connections.specs.inner.Waiting.{larger_at}
use Rattle.capture_connections.proofs.Counting.{less_one, none_more}
use Rattle.capture_connections.proofs.connections.give_up_most.Goals as goal

pub returns-clause-less : goal.returns-clause-less
returns-clause-less c =
    let list : List Connection = c.args.list.now.items in
    let n : ℕ = c.most_waiting-most.result in
    let P : List Connection → Type 0 = λ xs. (k : ℕ)
    → larger_at (slice_get xs k) ≤ larger_at (slice_get xs n) in
    let lt : n < length list = c.in-Some.ensures.item.3.0 in
    less_one list n c.in-Some.connection.now c.give_up.new.self lt
    (slice_get_read list (length list) n c.in-Some.connection.now refl lt c.in-Some.ensures.value)
    (subst P c.deref.ensures.value c.most_waiting-most.ensures) c.give_up.ensures.less

pub returns-in_default-clause-less : goal.returns-in_default-clause-less
returns-in_default-clause-less c =
    let list : List Connection = c.args.list.now.items in
    let n : ℕ = c.most_waiting-most.result in
    let P : List Connection → Type 0 = λ xs. (k : ℕ)
    → larger_at (slice_get xs k) ≤ larger_at (slice_get xs n) in
    λ some. absurd (none_more list n (omega (arith, c.in_default.ensures.item.3))
    (subst P c.deref.ensures.value c.most_waiting-most.ensures) some)
