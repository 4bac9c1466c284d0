-- A direction with no stop is whole.
use Rattle.std.proofs.Common.{◌≡◌, length, refl, sym, ap, ◌∙◌, subst, Some}
use Rattle.std.specs.Prelude.{slice_get, Option, List}
use Rattle.std.proofs.lemmas.Option.{slice_get_read}
use Rattle.capture_connections.specs.Following.{stop_at_end}
use Rattle.capture_connections.specs.declared.connections.Connection.{Connection}
use Rattle.capture_connections.specs.declared.half.Half.{Half}
use Rattle.capture_connections.specs.declared.half.Stop.{Stop}
use Rattle.iscsi_captures.proofs.Reading.{on_ok}
use Rattle.iscsi_captures.proofs.captured.at_end.Goals as goal

pub returns-in-Some-stopped-clause-fault : goal.returns-in-Some-stopped-clause-fault
returns-in-Some-stopped-clause-fault c = λ left e. c.stop_fault.ensures.of left

pub returns-in-None-clause-whole : goal.returns-in-None-clause-whole
returns-in-None-clause-whole c =
    let P : List Connection → Type 0 = λ list. slice_get list c.args.wanted.connection
    ≡ Some c.in-Some.found.now in
    let found : slice_get c.list.result.now c.args.wanted.connection ≡ Some c.in-Some.found.now =
    slice_get_read c.list.result.now (length c.list.result.now) c.args.wanted.connection
    c.in-Some.found.now refl c.in-Some.ensures.lookup.3.0 c.in-Some.ensures.lookup.1 in
    let stop : Half → Option Stop = λ half. stop_at_end half.stop half in
    on_ok c.unless_hidden.result _ (
      c.in-Some.found.now,
      c.side_of.result,
      subst P c.list.ensures found,
      c.side_of.ensures,
      ap stop (sym c.half-half.ensures) ∙ sym c.stopped.ensures ∙ c.in-None.is,
    )
