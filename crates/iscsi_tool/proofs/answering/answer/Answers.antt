use Rattle.std.proofs.Common.{false, [], Ok, Err, refl}
use Rattle.std.proofs.KnownBytes.{Appends-nil, Consumes-nil}
use Rattle.std.proofs.lemmas.Result.{err_from_is_err_and}
use Rattle.iscsi_serve.proofs.SessionReadInvariant.{told_here, ends_here}
use Rattle.iscsi_tool.proofs.AnsweredLemmas.{no_bytes, none_answered, done_answered, fault_answered}
use Rattle.iscsi_tool.proofs.answering.answer.Goals as goal

pub returns-in_err-config-clause-answers : goal.returns-in_err-config-clause-answers
returns-in_err-config-clause-answers g c =
    let p = err_from_is_err_and c.from_residual.result c.from_residual.ensures.1 in
    rw (p.1, p.2) ([], [], Consumes-nil (g.R.Read.remaining c.args.r.now), Appends-nil (g.W.Write.contents c.args.w.now), no_bytes, none_answered c.args.blocks)

pub returns-in-Ok-clause-answers : goal.returns-in-Ok-clause-answers
returns-in-Ok-clause-answers g c =
    let s = c.in-Ok.ensures.serves in (
      s.0,
      s.1,
      s.2,
      s.3,
      s.4,
      done_answered c.args.blocks s.0 _ s.1 (told_here false c.in_ok-config.config _ _ (Ok tt) s.0 _ s.1 c.in_ok-config.ensures.settings
          c.new-store.ensures.disk s.5 refl),
    )

pub returns-in-Ok-clause-end : goal.returns-in-Ok-clause-end
returns-in-Ok-clause-end g c =
    ends_here false c.in_ok-config.config _ _ (g.R.Read.remaining c.args.r.now) (g.R.Read.remaining c.serve_stream.new.r) c.in_ok-config.ensures.settings
    c.new-store.ensures.disk (c.in-Ok.ensures.end refl)

pub returns-clause-answers : goal.returns-clause-answers
returns-clause-answers g c =
    let s = c.in-Err.ensures.serves in
    rw c.filter_fault.ensures.fault (
      s.0,
      s.1,
      s.2,
      s.3,
      s.4,
      fault_answered c.in-Err.fault c.args.blocks s.0 _ s.1
          (told_here false c.in_ok-config.config _ _ (Err c.in-Err.fault) s.0 _ s.1 c.in_ok-config.ensures.settings c.new-store.ensures.disk s.5 refl),
    )
