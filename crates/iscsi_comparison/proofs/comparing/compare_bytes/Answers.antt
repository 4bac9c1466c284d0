use Rattle.std.proofs.Common.{List, ℕ, [], take, Result, Ok, Err, refl, sym, ap, subst}
use Rattle.std.proofs.KnownBytes.{Appends-nil}
use Rattle.iscsi_stream.specs.declared.fault.ToolFault.{ToolFault}
use Rattle.iscsi_compare.specs.declared.fault.CompareFault.{CompareFault}
use Rattle.iscsi_compare.specs.declared.verdict.Verdict.{Verdict}
use Rattle.iscsi_compare.specs.Comparing.{AppendsDifference}
use Rattle.iscsi_comparison.specs.declared.comparing.ComparisonFault.{ComparisonFault}
use Rattle.iscsi_comparison.specs.declared.comparing.ComparisonFault.TheVariants as fault
use Rattle.iscsi_comparison.proofs.comparing.compare_bytes.Goals as goal

pub returns-in-Err : goal.returns-in-Err
returns-in-Err g c =
    let j = c.in-Err.ensures.compares in
    let said : Result Verdict CompareFault = Err c.in-Err.fault in
    record { compares = (j.0, j.1, [], j.2, j.3, Appends-nil (g.W.Write.contents c.args.w.now), (said, j.4, (c.comparison_fault.ensures, refl))) }

pub returns-in-Ok-write_fully : goal.returns-in-Ok-write_fully
returns-in-Ok-write_fully g c =
    let j = c.in-Ok.ensures.compares in
    let said : Result Verdict CompareFault = Ok c.in-Ok.verdict in
    let told : AppendsDifference said [] c.deref.result.now =
    subst (AppendsDifference said []) (sym c.deref.ensures.value) (subst (λ (x : List ℕ). AppendsDifference said x c.judged.new.lines.items)
    c.new-lines.ensures.items
    c.in-Ok.ensures.tells) in
    record { compares = (j.0, j.1, c.deref.result.now, j.2, j.3, c.in-Ok-write_fully.ensures.ok, (said, j.4, (refl, told))) }

pub returns : goal.returns
returns g c =
    let j = c.in-Ok.ensures.compares in
    let said : Result Verdict CompareFault = Ok c.in-Ok.verdict in
    let told : AppendsDifference said [] c.deref.result.now =
    subst (AppendsDifference said []) (sym c.deref.ensures.value) (subst (λ (x : List ℕ). AppendsDifference said x c.judged.new.lines.items)
    c.new-lines.ensures.items
    c.in-Ok.ensures.tells) in
    let front = c.in-Err-write_fully.ensures.err.1 in
    let own : ToolFault → ComparisonFault = λ f. fault.Own f in
    record {
      compares = (
        j.0,
        j.1,
        take front.0 c.deref.result.now,
        j.2,
        j.3,
        front.1,
        (said, j.4, (ap own c.in-Err-write_fully.ensures.err.0, (c.deref.result.now, front.0, told, refl))),
      );
    }
