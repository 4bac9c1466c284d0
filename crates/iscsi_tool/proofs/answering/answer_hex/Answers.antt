use Rattle.std.proofs.Common.{[]}
use Rattle.std.proofs.KnownBytes.{Appends-nil}
use Rattle.std.proofs.lemmas.Result.{err_from_is_err_and}
use Rattle.iscsi_tool.proofs.AnsweredLemmas.{text_refused}
use Rattle.iscsi_tool.proofs.answering.answer_hex.Goals as goal

pub returns-in_err-bytes-clause-answers : goal.returns-in_err-bytes-clause-answers
returns-in_err-bytes-clause-answers g c =
    let e = c.in_err-bytes.ensures.err in
    let p = err_from_is_err_and c.from_residual.result c.from_residual.ensures.1 in
    rw (p.1, p.2) (e.0, [], e.1, Appends-nil (g.W.Write.contents c.args.w.now), text_refused c.args.blocks c.in_err-bytes.field-0.0 e.0 e.2)
