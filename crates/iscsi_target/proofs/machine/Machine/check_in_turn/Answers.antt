use Rattle.std.proofs.Common.{◌≡◌, true, false, sym, rules}
use Rattle.std.specs.Prelude.{◌==◌}
use Rattle.iscsi_target.proofs.Answers.WindowLemmas.{room_within}
use Rattle.iscsi_target.proofs.Turns.DispatchLemmas.{outside, out_of_turn, inside}
use Rattle.iscsi_target.proofs.machine.Machine.check_in_turn.Goals as goal

pub returns-then-not-is_within : goal.returns-then-not-is_within
returns-then-not-is_within c =
    λ m e. record { comes = λ count. outside c.args.self.now count m c.args.request c.is_within.result c.is_within.ensures c.if-not-is_within.true; may = tt }

pub returns-then-request-numbers : goal.returns-then-request-numbers
returns-then-request-numbers c =
    let apart : (c.args.request.cmd_sn == c.args.self.now.session.exp_cmd_sn) ≡ false = search rules in
    λ m e. record {
      comes = λ count. out_of_turn c.args.self.now count m c.args.request c.is_within.result c.is_within.ensures c.if-not-is_within.false apart;
      may = tt;
    }

pub returns : goal.returns
returns c =
    let same : (c.args.request.cmd_sn == c.args.self.now.session.exp_cmd_sn) ≡ true = search rules in
    λ m e. record {
      comes = λ count. sym (inside c.args.self.now count m c.args.request c.is_within.result c.is_within.ensures c.if-not-is_within.false same);
      may = (
        e,
        room_within c.args.self.now c.args.request.cmd_sn c.is_within.result c.is_within.ensures c.if-not-is_within.false c.numbers.ensures.fits
            c.numbers.ensures.few,
        c.requires,
      );
    }
