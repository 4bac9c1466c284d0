use Rattle.std.proofs.Common.{◌≡◌, ◌<◌, ◌∙◌, rules, arith, length, Some, None, ap}
use Rattle.std.specs.Prelude.{Option, option_map}
use Rattle.iscsi_job_text.specs.declared.entry.Entry.{Entry}
use Rattle.iscsi_job_text.specs.Taking.{LineTaken}
use Rattle.iscsi_job_text.specs.Pendings.{pending_held}
use Rattle.iscsi_job_text.proofs.EntryLemmas.{lines_shorter}
use Rattle.iscsi_job_text.proofs.JobLemmas.{lines_go_on}
use Rattle.iscsi_job_text.proofs.entry_writing.read_back.Goals as goal

pub loop-rest-smaller : goal.loop-rest-smaller
loop-rest-smaller c =
    let some : 0 < length c.loop-rest.rest.now = first_of (omega arith, grind arith) in
    lines_shorter c.loop-rest.rest.now c.parted.result.1.now some c.parted.ensures.behind

pub loop-rest-preserved : goal.loop-rest-preserved
loop-rest-preserved c =
    let some : 0 < length c.loop-rest.rest.now = first_of (omega arith, grind arith) in
    let held = option_map pending_held c.take_line.new.pending in
    let none : c.in_ok-take_line.field-0 ≡ None = first_of (grind arith, search rules) in
    c.loop-rest.invariant
    ∙ lines_go_on c.loop-rest.rest.now c.parted.result.0.now c.parted.result.1.now (option_map pending_held c.loop-rest.pending) held some c.parted.ensures.before c.parted.ensures.behind
    (c.in_ok-take_line.ensures.reads ∙ ap (λ (f : Option Entry). let it : LineTaken = record { finished = f; pending = held } in Some it) none)
