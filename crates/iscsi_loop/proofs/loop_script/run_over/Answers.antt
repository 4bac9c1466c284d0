use Rattle.std.proofs.Common.{[], inl, refl, sym}
use Rattle.std.proofs.KnownBytes.{Appends-nil}
use Rattle.std.proofs.lemmas.Result.{err_from_is_err_and}
use Rattle.iscsi_loop.proofs.BlameLemmas.{script_blameless}
use Rattle.iscsi_loop.proofs.HistoryLemmas.{script_stops, script_read, session_ends}
use Rattle.iscsi_loop.proofs.loop_script.run_over.Goals as goal

pub returns-in_err-commands : goal.returns-in_err-commands
returns-in_err-commands g c =
    let p = err_from_is_err_and c.from_residual.result c.from_residual.ensures.1 in
    let e = c.in_err-commands.ensures.err in
    record {
      loops = rw (p.1, p.2) (e.0, [], e.1, Appends-nil (g.W.Write.contents c.args.w.now), script_stops _ e.0 e.2, script_read _ e.0 _ e.2);
      on_disk = λ faithful. rw p.1 (e.0, [], e.1, Appends-nil (g.W.Write.contents c.args.w.now), inl refl);
      blameless = λ faithful. rw (p.1, p.2) (script_blameless _ e.0 e.2);
    }

pub returns-in_err-ends : goal.returns-in_err-ends
returns-in_err-ends g c =
    let p = err_from_is_err_and c.from_residual-in_err-ends.result c.from_residual-in_err-ends.ensures.1 in
    let k = c.in_ok-commands.ensures.ok in
    let s = session_ends _ k.0 _ c.in_err-ends.ensures.err k.2 in
    record {
      loops = rw (p.1, p.2) (k.0, [], k.1, Appends-nil (g.W.Write.contents c.args.w.now), s.0, s.1);
      on_disk = λ faithful. rw p.1 (k.0, [], k.1, Appends-nil (g.W.Write.contents c.args.w.now), inl refl);
      blameless = λ faithful. rw (p.1, p.2) c.in_err-ends.ensures.blameless;
    }

pub returns : goal.returns
returns g c =
    let k = c.in_ok-commands.ensures.ok in
    let s = c.run_session.ensures.loops k.0 _ k.3 k.2 in
    let new = rw (sym c.deref_mut.ensures.value) at c.in_ok-ends.ensures.new in
    record {
      loops = (k.0, s.0, k.1, s.1, s.2, s.3);
      on_disk = λ faithful.
          let d = c.run_session.ensures.on_disk faithful c.args.blocks k.0 new k.3 in
          (k.0, d.0, k.1, d.1, d.2);
      blameless = λ faithful. c.run_session.ensures.blameless faithful c.args.blocks new c.in_ok-commands.ensures.ranges;
    }
