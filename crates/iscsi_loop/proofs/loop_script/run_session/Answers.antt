use Rattle.std.proofs.Common.{[], inl, refl, sym, subst}
use Rattle.std.specs.Prelude.{Err}
use Rattle.std.proofs.KnownBytes.{Appends-nil}
use Rattle.std.proofs.lemmas.Result.{err_from_is_err_and}
use Rattle.scsi_disk.specs.Sparse.{extents_disk}
use Rattle.iscsi_loop.specs.inner.LoopPairs.{ends_of}
use Rattle.iscsi_loop.specs.LoopSteps.{BlamesNoEnd}
use Rattle.iscsi_loop.specs.inner.LoopSteps.{IsSessionFault}
use Rattle.iscsi_loop.proofs.BlameLemmas.{blameless_at}
use Rattle.iscsi_loop.proofs.HistoryLemmas.{session_ends, login_stops, commands_stop, commands_end}
use Rattle.iscsi_loop.proofs.OnDiskLaw.{login_stops_on, commands_stop_on, commands_end_on}
use Rattle.iscsi_loop.proofs.loop_script.run_session.Goals as goal

pub returns-in_err-carrier : goal.returns-in_err-carrier
returns-in_err-carrier g c =
    let p = err_from_is_err_and c.from_residual.result c.from_residual.ensures.1 in
    record {
      loops = λ script left is end. rw (p.1, p.2) (
          let s = session_ends _ script left (subst IsSessionFault (sym c.in_err-carrier.ensures.err) tt) end in
          ([], Appends-nil (g.W.Write.contents c.args.w.now), s.0, s.1));
      on_disk = λ faithful blocks script new is. rw p.1 ([], Appends-nil (g.W.Write.contents c.args.w.now), inl refl);
      blameless = λ faithful blocks new ranges. rw (p.1, p.2) (subst BlamesNoEnd (sym c.in_err-carrier.ensures.err) tt);
    }

pub returns-in_err-log_in : goal.returns-in_err-log_in
returns-in_err-log_in g c =
    let p = err_from_is_err_and c.from_residual-in_err-log_in.result c.from_residual-in_err-log_in.ensures.1 in
    record {
      loops = λ script left is end. rw (p.1, p.2) (
          let s = session_ends _ script left c.in_err-log_in.ensures.err end in
          ([], Appends-nil (g.W.Write.contents c.args.w.now), s.0, s.1));
      on_disk = λ faithful blocks script new is. rw p.1 ([], Appends-nil (g.W.Write.contents c.args.w.now), inl refl);
      blameless = λ faithful blocks new ranges. rw (p.1, p.2) (c.in_err-log_in.ensures.blameless faithful blocks new);
    }

pub returns-in_err-write_line : goal.returns-in_err-write_line
returns-in_err-write_line g c =
    let p = err_from_is_err_and c.from_residual-in_err-write_line.result c.from_residual-in_err-write_line.ensures.1 in
    let commands = c.args.commands.items in
    let before = g.W.Write.contents c.args.w.now in
    let after = g.W.Write.contents c.write_line.new.w in
    record {
      loops = λ script left is end. rw (p.1, p.2) (login_stops _ script commands before after left is end c.in_err-write_line.ensures.err);
      on_disk = λ faithful blocks script new is. rw p.1 (login_stops_on p.0 blocks script commands before after is c.in_err-write_line.ensures.err.1);
      blameless = λ faithful blocks new ranges. rw (p.1, p.2) (subst BlamesNoEnd (sym c.in_err-write_line.ensures.err.0) tt);
    }

pub returns-in_err-run_commands : goal.returns-in_err-run_commands
returns-in_err-run_commands g c =
    let p = err_from_is_err_and c.from_residual-in_err-run_commands.result c.from_residual-in_err-run_commands.ensures.1 in
    let commands = c.args.commands.items in
    let before = g.W.Write.contents c.args.w.now in
    let between = g.W.Write.contents c.write_line.new.w in
    let after = g.W.Write.contents c.run_commands.new.w in
    let line = c.in_ok-write_line.ensures.ok in
    record {
      loops = λ script left is end. rw (p.1, p.2) (commands_stop _ script commands before between after left is end line c.in_err-run_commands.ensures.err);
      on_disk = λ faithful blocks script new is.
          let one = c.in_ok-log_in.ensures.served faithful blocks new in
          rw p.1 (commands_stop_on p.0 blocks script commands before between after is line (c.in_err-run_commands.ensures.served faithful blocks one));
      blameless = λ faithful blocks new ranges.
          let one = c.in_ok-log_in.ensures.served faithful blocks new in
          rw (p.1, p.2) (c.in_err-run_commands.ensures.blameless faithful blocks one ranges);
    }

pub returns-in_err-close : goal.returns-in_err-close
returns-in_err-close g c =
    let p = err_from_is_err_and c.from_residual-in_err-close.result c.from_residual-in_err-close.ensures.1 in
    let commands = c.args.commands.items in
    let before = g.W.Write.contents c.args.w.now in
    let between = g.W.Write.contents c.write_line.new.w in
    let after = g.W.Write.contents c.run_commands.new.w in
    let line = c.in_ok-write_line.ensures.ok in
    record {
      loops = λ script left is end. rw (p.1, p.2) (commands_end (Err c.in_err-close.field-0.0) script commands before between after left
          (subst IsSessionFault (sym c.in_err-close.ensures.err) tt) is end line
          c.in_ok-run_commands.ensures.runs);
      on_disk = λ faithful blocks script new is.
          let one = c.in_ok-log_in.ensures.served faithful blocks new in
          rw p.1 (commands_end_on (Err p.0) blocks script commands before between after is line (c.in_ok-run_commands.ensures.served faithful blocks one));
      blameless = λ faithful blocks new ranges. rw (p.1, p.2) (subst BlamesNoEnd (sym c.in_err-close.ensures.err) tt);
    }

pub returns : goal.returns
returns g c =
    let commands = c.args.commands.items in
    let before = g.W.Write.contents c.args.w.now in
    let between = g.W.Write.contents c.write_line.new.w in
    let after = g.W.Write.contents c.run_commands.new.w in
    let line = c.in_ok-write_line.ensures.ok in
    record {
      loops = λ script left is end. commands_end c.finish.result script commands before between after left c.finish.ensures.err is end line
          c.in_ok-run_commands.ensures.runs;
      on_disk = λ faithful blocks script new is.
          let one = c.in_ok-log_in.ensures.served faithful blocks new in
          commands_end_on c.finish.result blocks script commands before between after is line (c.in_ok-run_commands.ensures.served faithful blocks one);
      blameless = λ faithful blocks new ranges.
          let one = c.in_ok-log_in.ensures.served faithful blocks new in
          let last = c.run_commands.new.ends in
          blameless_at c.finish.result (ends_of last.initiator last.target (extents_disk last.store) [] []) blocks c.finish.ensures.blameless
          (c.in_ok-run_commands.ensures.stands faithful blocks one);
    }
