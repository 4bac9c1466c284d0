-- The connection at the place is the one that took the segment.
use Rattle.std.proofs.Common.{◌≡◌, ◌<◌, length, slice_get, Some, Option, refl, sym, subst}
use Rattle.std.proofs.lemmas.Option.{slice_get_read}
use Rattle.capture_connections.specs.Following.{ConnectionStep}
use Rattle.capture_connections.specs.declared.connections.Connection.{Connection}
use Rattle.capture_connections.proofs.connections.hear.Goals as goal
use Rattle.capture_connections.proofs.Places.{get_set_same}

pub returns-clause-own : goal.returns-clause-own
returns-clause-own c =
    let lt : c.args.number < length c.args.list.now.items = c.in-Some.ensures.item.3.0 in
    let e : slice_get c.args.list.now.items c.args.number ≡ Some c.in-Some.connection.now =
    slice_get_read c.args.list.now.items (length c.args.list.now.items) c.args.number
    c.in-Some.connection.now refl lt c.in-Some.ensures.value in
    let P : Option Connection → Type 0 = λ old. ConnectionStep old c.args.heard.now c.take.new.self
    c.args.out.now.items c.take.new.out.items in (
      c.take.new.self,
      get_set_same c.args.list.now.items c.args.number c.take.new.self lt,
      subst P (sym e) c.in_ok-take.ensures.steps,
    )
