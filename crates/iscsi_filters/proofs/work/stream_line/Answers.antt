use Rattle.std.proofs.Common.{ap, ◌∙◌}
use Rattle.iscsi_filters.specs.HexText.{hex_line}
use Rattle.iscsi_filters.proofs.HexLineLemmas.{stream_fails}
use Rattle.iscsi_filters.proofs.work.stream_line.Goals as goal

pub returns-in-Err-Stream-clause-ok : goal.returns-in-Err-Stream-clause-ok
returns-in-Err-Stream-clause-ok c =
    let x = rw c.in-Err-Stream.field-0-is at c.in-Err-Stream.ensures.fault in
    let end = rw c.in-Err-Stream.field-0-is at c.in-Err-Stream.ensures.end in
    stream_fails c.in-Err-Stream.fault c.args.bytes.now x.0 _ _ x.1 _ x.3 end (rw c.new-out.ensures.items at x.4)
    (c.in_ok-line-in-Err-Stream.ensures ∙ ap hex_line c.deref-in-Err-Stream.ensures.value) x.5
