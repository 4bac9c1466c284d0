-- The map compares ends by `==`, which is that they are the same.
use Rattle.std.proofs.Common.{rules, ◌≡◌, Bool, Some, if◌then◌else◌, subst}
use Rattle.std.specs.HashMap.{get}
use Rattle.capture_connections.specs.Belonging.{owner_at}
use Rattle.capture_connections.specs.contracts.ends.EndsPartialEq.TheImpl.{eq-value}
use Rattle.capture_connections.specs.declared.ends.Ends.{Ends}
use Rattle.capture_connections.proofs.EqualEnds.{equal_is}
use Rattle.capture_connections.proofs.belonging.place.Goals as goal

pub returns-clause-number : goal.returns-clause-number
returns-clause-number c =
    let P : (Ends → Ends → Bool) → Type 0 = λ f. c.owner-owner.result.number
    ≡ (owner_at c.args.count (get f c.args.last.now c.args.ends) c.args.said).number in
    let e : P eq-value.it = search rules in
    subst P equal_is e

pub returns-clause-last : goal.returns-clause-last
returns-clause-last c =
    let P : (Ends → Ends → Bool) → Type 0 = λ f. (q : Ends) → get f c.insert.new.self q
    ≡ (if f c.args.ends q
    then Some (owner_at c.args.count (get f c.args.last.now c.args.ends) c.args.said)
    else get f c.args.last.now q) in
    let e : P eq-value.it = search rules in
    subst P equal_is e
