use Rattle.iscsi_explain.proofs.Lining.{cut_line}
use Rattle.iscsi_explain.proofs.form.cut_line_of.Goals as goal

pub returns : goal.returns
returns c =
    let shown = c.in_ok-show_line.ensures.ok in
    let front = c.in_ok-entry.ensures.printed in
    record {
      text = cut_line front.0 shown.0 _ _ _ _ _ shown.1 front.1
          (rw c.new-line.ensures.items at shown.2) c.in_ok-end-2.ensures
          (rw (c.as_slice.ensures.value, c.as_slice-2.ensures.value) at c.in_ok-append_cut.ensures);
    }
