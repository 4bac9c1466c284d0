use Rattle.std.proofs.Common.{◌≡◌, ◌+◌, ◌∙◌, [], length, refl, ap, arith}
use Rattle.std.proofs.lemmas.List.{length-append}
use Rattle.iscsi_stream.specs.Framing.{holding}
use Rattle.iscsi_stream.proofs.PassingLemmas.{pass_one, bare_passed}
use Rattle.iscsi_stream.proofs.normalising.append_bare.Goals as goal

pub returns-clause-ok : goal.returns-clause-ok
returns-clause-ok c header means =
    let h = c.args.head.now in
    let done = c.in_ok-append_pdu.ensures.ok in
    let bytes = done.0 in
    let n = c.append_pdu.new.out.ok.0 in
    let m = c.args.out.now.ok.0 in
    let sum : length c.append_pdu.new.out.items ≡ length c.args.out.now.items + length bytes = ap length done.2 ∙ length-append c.args.out.now.items bytes in
    pass_one c.args.form (holding c.args.framer.now header) c.pass.new.self h [] c.args.out.now.items c.append_pdu.new.out.items bytes c.args.counts.now _
    means (c.pass.ensures c.requires.empty ∙ bare_passed c.args.framer.now header h c.requires.empty means) done.2
    (rw c.continues-continues.ensures at done.1) c.saturating_add-counts.ensures refl
    (omega (arith, c.len.ensures, c.len-before.ensures, n, m, sum, c.saturating_add-counts-2.ensures))
