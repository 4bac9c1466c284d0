use Rattle.std.proofs.Common.{ℕ, List, ◌++◌, ap, ◌∙◌}
use Rattle.iscsi_explain.proofs.Lining.{whole_line}
use Rattle.iscsi_explain.proofs.form.whole_line_of.Goals as goal

pub returns : goal.returns
returns c =
    let shown = c.in_ok-show_line.ensures.ok in
    let front = c.in_ok-entry.ensures.printed in
    record { text = whole_line front.0 shown.0 _ shown.1 (shown.2 ∙ ap (λ (x : List ℕ). x ++ shown.0) front.1) }
