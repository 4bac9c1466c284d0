-- The count goes with the connection that took the segment.
use Rattle.std.proofs.Common.{rules, ◌≡◌, ℕ, Option, Some, if◌then◌else◌, List, length, sym, ap, ◌∙◌, subst}
use Rattle.std.specs.Prelude.{slice_get}
use Rattle.std.specs.HashMap.{get}
use Rattle.capture_connections.specs.Belonging.{owner_at}
use Rattle.capture_connections.specs.Following.{TableStep, Table}
use Rattle.capture_connections.specs.SameEnds.{same_ends}
use Rattle.capture_connections.specs.inner.Waiting.{IsCounted, connection_waiting}
use Rattle.capture_connections.specs.declared.connections.Connection.{Connection}
use Rattle.capture_connections.specs.declared.ends.Ends.{Ends}
use Rattle.capture_connections.proofs.Counting.{counted}
use Rattle.capture_connections.proofs.connections.Connections.take.Goals as goal

pub invariant_of-self-2 : goal.invariant_of-self-2
invariant_of-self-2 c =
    let n : ℕ = c.in_ok-number.number in
    let at : List Connection → ℕ = λ xs. connection_waiting (slice_get xs n) in
    let P : Option ℕ → Type 0 = λ w. IsCounted w c.self.inside.list.items in
    counted c.waiting_after-self-inside.result c.take-waiting.result c.waiting_of-before.result
    c.waiting_of-after.result c.self.inside.list.items c.hear.new.list.items n
    (subst P (sym c.take-waiting.ensures.value) c.self.invariant) c.waiting_after-self-inside.ensures
    (c.waiting_of-before.ensures ∙ ap at c.deref.ensures.value)
    (c.waiting_of-after.ensures ∙ ap at c.deref-2.ensures.value) c.in_ok-hear.ensures.others

pub returns-clause-hears : goal.returns-clause-hears
returns-clause-hears c =
    let old : Table = record {
      last = c.self.inside.last.entries;
      connections = c.self.inside.list.items;
    } in
    let new : Table = record {
      last = c.place.new.last.entries;
      connections = c.hear.new.list.items;
    } in
    let P : Table → Type 0 = λ t. TableStep t c.args.heard c.in_ok-number.number new
    c.args.out.now.items c.hear.new.out.items in
    let count : c.len-count.result ≡ length c.self.inside.list.items = search rules in
    let F : ℕ → Type 0 = λ k. c.in_ok-number.number
    ≡ (owner_at k (get same_ends c.self.inside.last c.args.heard.ends) c.args.heard.said).number in
    let G : ℕ → Type 0 = λ k. (q : Ends) → get same_ends c.place.new.last q
    ≡ (if same_ends c.args.heard.ends q
    then Some (owner_at k (get same_ends c.self.inside.last c.args.heard.ends) c.args.heard.said)
    else get same_ends c.self.inside.last q) in
    subst P c.self.view_is (record {
      belongs = subst F count c.in_ok-number.ensures.number;
      last = subst G count c.in_ok-number.ensures.last;
      count = c.in_ok-hear.ensures.count;
      own = c.in_ok-hear.ensures.own;
      others = c.in_ok-hear.ensures.others;
    })
