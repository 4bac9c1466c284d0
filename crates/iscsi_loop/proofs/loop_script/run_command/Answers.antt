use Rattle.std.specs.Prelude.{IfErr, OnOk}
use Rattle.std.specs.Io.KnownBytes.{Appends}
use Rattle.std.proofs.Common.{◌≡◌, ◌∙◌, [], ℕ, List, subst}
use Rattle.std.proofs.lemmas.Result.{err_from_is_err_and}
use Rattle.scsi_disk.specs.Sparse.{extents_disk}
use Rattle.iscsi_loop.specs.Commands.{command_request}
use Rattle.iscsi_loop.specs.inner.LoopPairs.{ends_of}
use Rattle.iscsi_serving.specs.declared.fault.ServeFault.TheVariants as serve
use Rattle.iscsi_stream.specs.Normalising.{WroteFront}
use Rattle.iscsi_loop.proofs.BlameLemmas.{write_blameless}
use Rattle.iscsi_loop.proofs.OnDiskLaw.{line_written, no_line}
use Rattle.iscsi_loop.proofs.loop_script.run_command.Goals as goal

pub returns-in_err-report-clause-served : goal.returns-in_err-report-clause-served
returns-in_err-report-clause-served g c = λ faithful blocks past one.
    let p = err_from_is_err_and c.from_residual-in_err-report.result c.from_residual-in_err-report.ensures.1 in
    let after = c.perform.new.self in
    rw p.1 (no_line p.0 blocks past (command_request c.args.command) (ends_of after.initiator after.target (extents_disk after.store) [] [])
    (g.W.Write.contents c.args.w.now))

pub returns-clause-served : goal.returns-clause-served
returns-clause-served g c = λ faithful blocks past one.
    let before = c.args.ends.now in
    let after = c.perform.new.self in
    let contents_old = g.W.Write.contents c.args.w.now in
    let contents_new = g.W.Write.contents c.write_line.new.w in
    let line = c.as_bytes.ensures.value ∙ c.in_ok-report.ensures.line in
    line_written c.write_line.result blocks past (command_request c.args.command) c.in_ok-done.done
    (ends_of before.initiator before.target (extents_disk before.store) [] [])
    (ends_of after.initiator after.target (extents_disk after.store) [] []) contents_old contents_new (c.in_ok-done.ensures.served faithful) one
    (subst (λ (x : List ℕ). OnOk c.write_line.result (Appends contents_old contents_new x)) line c.write_line.ensures.ok)
    (subst (λ (x : List ℕ). IfErr c.write_line.result (λ fault. (fault ≡ serve.Write) × WroteFront contents_old contents_new x)) line c.write_line.ensures.err)

pub returns-in_err-done-clause-served : goal.returns-in_err-done-clause-served
returns-in_err-done-clause-served g c = λ faithful blocks past one.
    let p = err_from_is_err_and c.from_residual.result c.from_residual.ensures.1 in
    let after = c.perform.new.self in
    rw p.1 (no_line p.0 blocks past (command_request c.args.command) (ends_of after.initiator after.target (extents_disk after.store) [] [])
    (g.W.Write.contents c.args.w.now))

pub returns-in_err-done-clause-blameless : goal.returns-in_err-done-clause-blameless
returns-in_err-done-clause-blameless g c = λ faithful blocks past goes_on range.
    let p = err_from_is_err_and c.from_residual.result c.from_residual.ensures.1 in
    rw (p.1, p.2) (c.in_err-done.ensures.blameless faithful blocks past goes_on range)

pub returns-clause-blameless : goal.returns-clause-blameless
returns-clause-blameless g c = λ faithful blocks past goes_on range. write_blameless c.write_line.result _ c.write_line.ensures.err
