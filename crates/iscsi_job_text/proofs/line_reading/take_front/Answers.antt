use Rattle.std.proofs.Common.{◌≡◌, ◌++◌, rules, arith}
use Rattle.std.specs.Prelude.{slice_range}
use Rattle.iscsi_job_text.proofs.LineLemmas.{all_taken, end_taken, within_range}
use Rattle.iscsi_job_text.proofs.line_reading.take_front.Goals as goal

pub returns-in_ok-extend_from_slice-in-Some-clause-taken : goal.returns-in_ok-extend_from_slice-in-Some-clause-taken
returns-in_ok-extend_from_slice-in-Some-clause-taken c =
    let ahead = slice_range c.args.piece.now c.args.from c.args.to in
    let grows : c.extend_from_slice.new.self.items ≡ c.args.line.now.items ++ c.in-Some.front.now = first_of (grind arith, search rules) in
    end_taken ahead c.args.line.now.items c.extend_from_slice.new.self.items c.in-Some.front.now c.in-Some.field-0-1.now c.in-Some.ensures.found grows

pub returns-in_ok-extend_from_slice-in-Some-clause-bound : goal.returns-in_ok-extend_from_slice-in-Some-clause-bound
returns-in_ok-extend_from_slice-in-Some-clause-bound c =
    within_range c.args.piece.now c.args.from c.args.to c.in-Some.front.now c.in-Some.field-0-1.now c.requires.order c.in-Some.ensures.found

pub returns-in_ok-extend_from_slice-in-None-clause-taken : goal.returns-in_ok-extend_from_slice-in-None-clause-taken
returns-in_ok-extend_from_slice-in-None-clause-taken c =
    let ahead = slice_range c.args.piece.now c.args.from c.args.to in
    let grows : c.extend_from_slice-in-None.new.self.items ≡ c.args.line.now.items ++ ahead = first_of (grind arith, search rules) in
    all_taken ahead c.args.line.now.items c.extend_from_slice-in-None.new.self.items c.in-None.ensures.none grows
