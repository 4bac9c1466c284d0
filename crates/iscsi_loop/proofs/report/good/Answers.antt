use Rattle.std.specs.Prelude.{codes}
use Rattle.std.specs.Fmt.{decimal}
use Rattle.std.specs.String.{string_bytes}
use Rattle.std.proofs.Common.{◌≡◌, ◌++◌, length, ◌∙◌}
use Rattle.iscsi_loop.proofs.ReportLemmas.{ok_as, good_is}
use Rattle.iscsi_loop.proofs.report.good.Goals as goal

pub returns : goal.returns
returns c =
    let shown = c.in_ok-shown.shown.bytes.items in
    ok_as c.format-2.result (λ text. string_bytes text ≡ codes "good " ++ (decimal (length c.args.bytes.now) ++ (codes " " ++ shown))) _
    (λ text is. is ∙ good_is c.args.bytes.now shown c.min.result c.if-len-eq0.false c.min.ensures c.in_ok-shown.ensures)
    c.format-2.ensures.ok
