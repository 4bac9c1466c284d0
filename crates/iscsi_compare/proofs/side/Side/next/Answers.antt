use Rattle.std.proofs.lemmas.Result.{err_from_is_err_and}
use Rattle.iscsi_compare.proofs.SideLemmas.{reads_begun}
use Rattle.iscsi_compare.proofs.side.Side.next.Goals as goal

pub returns-in_err-write_form-clause-err : goal.returns-in_err-write_form-clause-err
returns-in_err-write_form-clause-err g c =
    let p = err_from_is_err_and c.from_residual-in_err-write_form.result c.from_residual-in_err-write_form.ensures.1 in
    rw (p.1, p.2) (reads_begun c.in_ok-some.some c.args.self.now c.advance.new.self (g.R.Read.remaining c.args.r.now)
    (g.R.Read.remaining c.advance.new.r) c.args.self.now.which c.in_ok-some.ensures.ok)
