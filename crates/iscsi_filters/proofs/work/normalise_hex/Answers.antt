-- Hex text that is refused has nothing written.
use Rattle.std.proofs.lemmas.Result.{err_from_is_err_and}
use Rattle.iscsi_filters.proofs.AtEndLemmas.{hex_unread}
use Rattle.iscsi_filters.proofs.work.normalise_hex.Goals as goal

pub returns-in_err-bytes-clause-normalises : goal.returns-in_err-bytes-clause-normalises
returns-in_err-bytes-clause-normalises g c =
    let p = err_from_is_err_and c.from_residual.result c.from_residual.ensures.1 in
    let e = c.in_err-bytes.ensures.err in
    rw (p.1, p.2) (hex_unread c.args.content c.in_err-bytes.field-0.0 e.0 (g.R.Read.remaining c.args.r.now) (g.R.Read.remaining c.read_bytes.new.r)
    (g.W.Write.contents c.args.w.now) e.1 e.2)
