-- The connection at the place, if there is one, is the one that is wanted or another one.
use Rattle.std.proofs.Common.{length, refl}
use Rattle.std.proofs.lemmas.Option.{slice_get_read}
use Rattle.capture_connections.proofs.Places.{get_behind}
use Rattle.iscsi_captures.proofs.captured.is_wanted.Goals as goal
use Rattle.iscsi_captures.proofs.Hearing.{none_there, one_cut, one_result}

pub returns-in_default-clause-is : goal.returns-in_default-clause-is
returns-in_default-clause-is c =
    none_there c.args.list.now c.args.number c.args.heard.now c.args.wanted
    (get_behind c.args.list.now c.args.number c.in_default.ensures.lookup.3)

pub returns-clause-is : goal.returns-clause-is
returns-clause-is c =
    one_result c.args.list.now c.args.number c.args.heard.now c.args.wanted c.in-Some.connection.now
    c.heard_of_wanted.result
    (slice_get_read c.args.list.now (length c.args.list.now) c.args.number c.in-Some.connection.now refl
    c.in-Some.ensures.lookup.3.0 c.in-Some.ensures.lookup.1) c.if-number-wanted.false c.heard_of_wanted.ensures.is

pub returns-clause-cut : goal.returns-clause-cut
returns-clause-cut c =
    one_cut c.args.list.now c.args.number c.args.heard.now c.args.wanted c.in-Some.connection.now
    c.heard_of_wanted.result
    (slice_get_read c.args.list.now (length c.args.list.now) c.args.number c.in-Some.connection.now refl
    c.in-Some.ensures.lookup.3.0 c.in-Some.ensures.lookup.1) c.if-number-wanted.false c.heard_of_wanted.ensures.cut
