-- What a program keeps of a write.
use Rattle.std.specs.Prelude.{◌≡◌, ℕ, ◌+◌, ◌≤◌, true, List, length}
use Rattle.scsi_disk.specs.Plan.{is_write, taken_length}
use Rattle.scsi_disk.specs.Found.{IsFound}
use Rattle.scsi_disk.specs.declared.found.Found.{Found}
use Rattle.scsi_disk.specs.declared.order.Order.{Order}
use Rattle.iscsi_target.specs.Write.{Write}
use Rattle.iscsi_target.specs.Transfer.{bytes_received}
use Rattle.iscsi_target.specs.declared.due.Due.{Due}
use Rattle.iscsi_target.specs.declared.due.Due.TheVariants.{Nothing, Unsolicited, Solicited}

-- N R2Ts were sent, each for a byte at least.
abbrev pub CountsR2ts : ℕ → ℕ → ℕ → Due → Type 0
CountsR2ts total received r2t_count Nothing = r2t_count ≤ received
CountsR2ts total received r2t_count (Unsolicited data_sn) = r2t_count ≤ received
CountsR2ts total received r2t_count (Solicited tag data_sn end) = (end ≤ total) × (r2t_count ≤ end)

-- What is kept of a write: a WRITE of which this was found, that takes n bytes, no more of them, and
-- what is due.
pub record IsStaged (order : Order) (found : Found) (total : ℕ) (bytes : List ℕ) (due : Due)
    (r2t_count : ℕ) : Type 0 where
  pub is_write : is_write order.cdb ≡ true
  pub found_is : IsFound order found
  pub total_is : total ≡ taken_length order
  pub fits : length bytes ≤ total
  pub counted_r2ts : CountsR2ts total (length bytes) r2t_count due

-- The write once an R2T for n bytes was sent.
abbrev pub with_r2t_for : ℕ → Write → Write
with_r2t_for desired w = record w {
  due = Solicited w.r2t_count 0 (bytes_received w + desired);
  r2t_count = w.r2t_count + 1;
}
