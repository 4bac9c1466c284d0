use Rattle.std.specs.Prelude.{codes}
use Rattle.std.specs.String.{string_bytes}
use Rattle.std.proofs.Common.{◌≡◌, ◌++◌, ◌∙◌}
use Rattle.iscsi_loop.proofs.ReportLemmas.{ok_as, check_is}
use Rattle.iscsi_loop.proofs.report.check.Goals as goal

pub returns : goal.returns
returns c =
    let key = c.in_ok-key.key.bytes.items in
    let code = c.in_ok-code.code.bytes.items in
    let qualifier = c.in_ok-qualifier.qualifier.bytes.items in
    ok_as c.format.result (λ text. string_bytes text ≡ codes "check " ++ (key ++ (codes "/" ++ (code ++ (codes "/" ++ qualifier))))) _
    (λ text is. is ∙ check_is c.args.sense.now key code qualifier c.byte_at.result c.byte_at-2.result c.byte_at-3.result c.byte_at.ensures c.byte_at-2.ensures
    c.byte_at-3.ensures c.in_ok-key.ensures c.in_ok-code.ensures c.in_ok-qualifier.ensures)
    c.format.ensures.ok
