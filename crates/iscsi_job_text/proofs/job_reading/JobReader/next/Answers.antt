use Rattle.std.proofs.Common.{◌∙◌, Some, None, List, ℕ, ap}
use Rattle.std.specs.Prelude.{Option, option_map}
use Rattle.iscsi_job_text.specs.declared.entry.Entry.{Entry}
use Rattle.iscsi_job_text.specs.Taking.{LineTaken}
use Rattle.iscsi_job_text.specs.Pendings.{pending_held}
use Rattle.iscsi_job_text.specs.Reading.{job_held}
use Rattle.iscsi_job_text.proofs.LineLemmas.{each_known}
use Rattle.iscsi_job_text.proofs.RequestLemmas.{StillToCome, finishes, goes_on, request_read}
use Rattle.iscsi_job_text.proofs.job_reading.JobReader.next.Goals as goal

pub returns-in-Ok-Some : goal.returns-in-Ok-Some
returns-in-Ok-Some g c =
    let held = option_map pending_held c.loop.self-inside.pending in
    let now = option_map pending_held c.take-in-loop.new.pending in
    let takes = c.in-Ok-Some.ensures.reads ∙ ap (λ (f : Option Entry). let it : LineTaken = record { finished = f; pending = now } in Some it) c.in-Ok-Some.field-0-is in
    record {
      reads = each_known (g.R.Read.remaining c.args.r.now) (λ (left : List ℕ) (so_far : StillToCome c.args.self.now (job_held c.loop.self-inside.lines held) left (g.R.Read.remaining c.loop.r)).
          finishes c.args.self.now (job_held c.next.new.self now) left (g.R.Read.remaining c.next.new.r) c.in-Ok-Some.entry
          (request_read c.args.self.now c.loop.self-inside.lines c.next.new.self held now left (g.R.Read.remaining c.loop.r) (g.R.Read.remaining c.next.new.r) (Some c.in-Ok-Some.entry) c.in_ok-next.field-0 c.if-not-branch.false c.in_ok-next.ensures.reads takes so_far)) c.loop.invariant;
    }

pub loop-preserved : goal.loop-preserved
loop-preserved g c =
    let held = option_map pending_held c.loop.self-inside.pending in
    let now = option_map pending_held c.take-in-loop.new.pending in
    let takes = c.in-Ok-None.ensures.reads ∙ ap (λ (f : Option Entry). let it : LineTaken = record { finished = f; pending = now } in Some it) c.in-Ok-None.field-0-is in
    each_known (g.R.Read.remaining c.args.r.now) (λ (left : List ℕ) (so_far : StillToCome c.args.self.now (job_held c.loop.self-inside.lines held) left (g.R.Read.remaining c.loop.r)).
    goes_on c.args.self.now (job_held c.next.new.self now) left (g.R.Read.remaining c.next.new.r)
    (request_read c.args.self.now c.loop.self-inside.lines c.next.new.self held now left (g.R.Read.remaining c.loop.r) (g.R.Read.remaining c.next.new.r) None c.in_ok-next.field-0 c.if-not-branch.false c.in_ok-next.ensures.reads takes so_far)) c.loop.invariant
