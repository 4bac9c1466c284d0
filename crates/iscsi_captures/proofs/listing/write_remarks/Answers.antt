-- Each remark goes on where the one before ended.
use Rattle.iscsi_captures.proofs.Listed.{goes_on, goes_on_ok}
use Rattle.iscsi_captures.proofs.listing.write_remarks.Goals as goal

pub returns : goal.returns
returns c =
    goes_on_ok _ _ _ c.write_cut-2.result
    (goes_on _ _ _ (goes_on _ _ _ (goes_on _ _ _ (goes_on _ _ _ (goes_on _ _ _ (goes_on _ _ _
    c.in_ok-write_word.ensures c.in_ok-write_word-2.ensures) c.in_ok-write_gap.ensures)
    c.in_ok-write_gap-2.ensures) c.in_ok-write_conflict.ensures) c.in_ok-write_conflict-2.ensures)
    c.in_ok-write_cut.ensures) c.write_cut-2.ensures
