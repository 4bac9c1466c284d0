-- All lines were written, however the capture was read.
use Rattle.std.proofs.Common.{ℕ, List, sym, subst}
use Rattle.iscsi_captures.specs.Listing.{AreLinesFrom}
use Rattle.iscsi_captures.proofs.Listed.{lists_all}
use Rattle.iscsi_captures.proofs.listing.list_connections.Goals as goal

pub returns-in-Ok-write_lines-clause-lists : goal.returns-in-Ok-write_lines-clause-lists
returns-in-Ok-write_lines-clause-lists g c =
    let P : List ℕ → Type 0 = λ bytes. AreLinesFrom 0 c.list.result.now bytes in
    lists_all (g.R.Read.remaining c.read_all-read.new.source) c.read_all-read.result
    (g.W.Write.contents c.args.w.now) (g.W.Write.contents c.write_lines.new.w)
    c.read_all-read.ensures.fault (
      c.list.result.now,
      c.as_bytes.result.now,
      subst P (sym c.as_bytes.ensures.value) c.in-Ok.ensures,
      c.in-Ok-write_lines.ensures.ok,
    )
