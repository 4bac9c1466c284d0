use Rattle.std.proofs.Common.{take, arith, ◌+◌, max, ap, sym, ◌∙◌}
use Rattle.std.proofs.lemmas.List.{length-take, take_rest}
use Rattle.std.proofs.lemmas.Result.{err_from_is_err_and}
use Rattle.iscsi_stream.proofs.GatheringLemmas.{gathers_header, gathers_body, gathers_both, header_front, header_fails, room-short, room-body, begun_len-body}
use Rattle.iscsi_stream.proofs.gathering.gather.Goals as goal
use Rattle.iscsi_stream.specs.inner.Gathering.{filling}

pub returns-then-filled-taken-lt-HEADER_LEN-clause-ok : goal.returns-then-filled-taken-lt-HEADER_LEN-clause-ok
returns-then-filled-taken-lt-HEADER_LEN-clause-ok c =
    let kept = rw c.in-Header.is at c.requires.kept in
    let filled = c.fill_header-taken.ensures in
    rw c.in-Header.is (gathers_header c.args.limit c.args.header.now c.fill_header-taken.new.header c.in-Header.filled c.args.piece.now
    c.fill_header-taken.result kept.0 c.fill_header-taken.array_long c.if-filled-taken-lt-HEADER_LEN.true filled.bound filled.taken filled.stops)

pub returns-in_err-head-in-Header-clause-err : goal.returns-in_err-head-in-Header-clause-err
returns-in_err-head-in-Header-clause-err c =
    let p = err_from_is_err_and c.from_residual.result c.from_residual.ensures.1 in
    let kept = rw c.in-Header.is at c.requires.kept in
    let filled = c.fill_header-taken.ensures in
    let front = header_front c.args.header.now c.fill_header-taken.new.header c.in-Header.filled c.args.piece.now c.fill_header-taken.result kept.0
    c.fill_header-taken.array_long kept.1 (omega (arith, c.if-filled-taken-lt-HEADER_LEN.false, filled.room)) filled.bound filled.taken in
    rw (p.1, p.2, c.in-Header.is) (header_fails c.in_err-head-in-Header.field-0.0 c.args.limit c.args.place c.args.buffer.now.room
    c.fill_header-taken.new.header (take c.in-Header.filled c.args.header.now) c.args.piece.now front.0 front.1 c.in_err-head-in-Header.ensures.err)

pub returns-in-Body-clause-ok : goal.returns-in-Body-clause-ok
returns-in-Body-clause-ok c =
    let kept = rw c.in-Body.is at c.requires.kept in
    rw c.in-Body.is (gathers_body c.args.limit c.args.header.now c.args.buffer.now.segment.items _ c.in-Body.head c.in-Body.len c.in-Body.padded
    c.args.piece.now c.fill_body-taken.result.0 c.fill_body-taken.new.segment.items _ c.fill_body-taken.result.1 kept.0 kept.1
    c.fill_body-taken.ensures.fills kept.1.has_room).0

pub returns-in_ok-head-in-Header-clause-ok : goal.returns-in_ok-head-in-Header-clause-ok
returns-in_ok-head-in-Header-clause-ok c =
    let kept = rw c.in-Header.is at c.requires.kept in
    let filled = c.fill_header-taken.ensures in
    let none = c.in_ok-head-in-Header.ensures.kept in
    rw c.in-Header.is (gathers_both c.args.limit c.args.header.now c.fill_header-taken.new.header c.in-Header.filled c.args.piece.now _
    c.fill_header-taken.result (record { head = c.in_ok-head-in-Header.head; len = c.in_ok-head-in-Header.len }) _ c.fill_body-more.result.0
    (filling c.fill_body-more.new.segment.items c.fill_body-more.result.1) _
    kept.0 c.fill_header-taken.array_long kept.1 (omega (arith, c.if-filled-taken-lt-HEADER_LEN.false, filled.room)) filled.bound filled.taken
    (take_rest c.args.piece.now c.fill_header-taken.result) (rw none at c.in_ok-head-in-Header.ensures.ok)
    (rw none at c.fill_body-more.ensures.fills) c.in_ok-head-in-Header.ensures.ok.has_room).0

pub returns-then-filled-taken-lt-HEADER_LEN-clause-room : goal.returns-then-filled-taken-lt-HEADER_LEN-clause-room
returns-then-filled-taken-lt-HEADER_LEN-clause-room c =
    room-short c.args.buffer.now.room (take (c.in-Header.filled + c.fill_header-taken.result) c.fill_header-taken.new.header)
    (omega (arith, c.if-filled-taken-lt-HEADER_LEN.true, length-take (c.in-Header.filled + c.fill_header-taken.result) c.fill_header-taken.new.header))

pub returns-in-Body-clause-room : goal.returns-in-Body-clause-room
returns-in-Body-clause-room c =
    let kept = rw c.in-Body.is at c.requires.kept in
    room-body c.args.buffer.now.room c.args.header.now _ c.in-Body.head c.in-Body.len kept.0 kept.1.says kept.1.has_room

pub returns-in_ok-head-in-Header-clause-room : goal.returns-in_ok-head-in-Header-clause-room
returns-in_ok-head-in-Header-clause-room c =
    c.in_ok-head-in-Header.ensures.room
    ∙ ap (max c.args.buffer.now.room) (sym (begun_len-body c.fill_header-taken.new.header _ c.in_ok-head-in-Header.head c.in_ok-head-in-Header.len
    c.fill_header-taken.array_long c.in_ok-head-in-Header.ensures.ok.says))
