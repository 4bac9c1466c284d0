use Rattle.std.proofs.Common.{◌<◌, rules, arith, length, List, ℕ}
use Rattle.iscsi_job_text.proofs.LineLemmas.{at_end_by, each_known, ended_by}
use Rattle.iscsi_job_text.proofs.line_reading.LineReader.next.Goals as goal

pub returns-then-branch : goal.returns-then-branch
returns-then-branch g c = record {
  reads = each_known (g.R.Read.remaining c.args.r.now) (λ (left : List ℕ).
      ended_by c.in_ok-take_piece.field-0 c.args.self.now c.loop.self c.take_piece.new.self c.end.new.self left (g.R.Read.remaining c.loop.r) c.if-branch.true c.in_ok-take_piece.ensures c.end.ensures.line c.end.ensures.ahead c.end.ensures.first c.end.ensures.some) c.loop.invariant;
}

pub returns-then-not-branch : goal.returns-then-not-branch
returns-then-not-branch g c =
    let read = c.fill.new.self in
    let some : 0 < length read.line = first_of (omega arith, grind arith, search rules) in
    let ends = c.in_ok-fill.ensures.end c.if-not-branch.true in
    record {
      reads = each_known (g.R.Read.remaining c.args.r.now) (λ (left : List ℕ).
          at_end_by c.in_ok-take_piece.field-0 c.args.self.now c.loop.self c.take_piece.new.self read c.end-then-not-branch.new.self left (g.R.Read.remaining c.loop.r) (g.R.Read.remaining c.fill.new.r) c.if-branch.false c.in_ok-take_piece.ensures
          c.in_ok-fill.ensures.line c.in_ok-fill.ensures.count c.in_ok-fill.ensures.ahead ends.0 ends.1 some c.end-then-not-branch.ensures.line c.end-then-not-branch.ensures.ahead c.end-then-not-branch.ensures.first c.end-then-not-branch.ensures.some) c.loop.invariant;
    }
