-- The other run's head fits the field table where the head does.
use Rattle.std.proofs.Common.{◌≡◌, ℕ, refl}
use Rattle.std.specs.Prelude.{Option, Some, None, is_some, option_map}
use Rattle.iscsi_pdu.specs.declared.head.Head.{Head}
use Rattle.iscsi_pdu.specs.declared.head.Head.TheVariants.{NopOut, ScsiCommand, TaskRequest, LoginRequest, TextRequest, DataOut, LogoutRequest, NopIn}
use Rattle.iscsi_pdu.specs.declared.head.Head.TheVariants.{ScsiResponse, TaskResponse, LoginResponse, TextResponse, DataIn, LogoutResponse, ReadyToTransfer}
use Rattle.iscsi_pdu.specs.declared.head.Head.TheVariants.{AsyncMessage, Reject}
use Rattle.iscsi_pdu.specs.Fields.{reserved_tag, is_tag}
use Rattle.iscsi_pdu.specs.Meaning.{HeadFits}
use Rattle.iscsi_compare.specs.SameJob.{Renumbering, shifted, renumbered}
use Rattle.iscsi_compare.proofs.SerialStepLemmas.{same_tag}

is_some_mapped : (f : ℕ → ℕ) (o : Option ℕ) → is_some (option_map f o) ≡ is_some o
is_some_mapped f None = refl
is_some_mapped f (Some n) = refl

same_transfer : (r : Renumbering) (n : ℕ) → is_tag (r.transfers.to n) ≡ is_tag n
same_transfer r n = same_tag r.transfers reserved_tag n r.no_transfer

pub fits_renumbered : (r : Renumbering) (h : Head) → HeadFits h → HeadFits (renumbered r h)
unfolding renumbered
fits_renumbered r (NopOut h) fits = record { filled = rw (same_transfer r h.target_transfer_tag) fits.filled; block = fits.block }
fits_renumbered r (ScsiCommand h) fits = record { filled = fits.filled; block = fits.block }
fits_renumbered r (TaskRequest h) fits = record { filled = fits.filled; block = fits.block }
fits_renumbered r (LoginRequest h) fits = record { filled = fits.filled; block = fits.block }
fits_renumbered r (TextRequest h) fits = record { filled = rw (same_transfer r h.target_transfer_tag) fits.filled; block = fits.block }
fits_renumbered r (DataOut h) fits = record { filled = rw (same_transfer r h.target_transfer_tag) fits.filled; block = fits.block }
fits_renumbered r (LogoutRequest h) fits = record { filled = fits.filled; block = fits.block }
fits_renumbered r (NopIn h) fits = record { filled = rw (same_transfer r h.target_transfer_tag) fits.filled; block = fits.block }
fits_renumbered r (ScsiResponse h) fits = record { filled = fits.filled; block = fits.block }
fits_renumbered r (TaskResponse h) fits = record { filled = fits.filled; block = fits.block }
fits_renumbered r (LoginResponse h) fits = record { filled = rw (is_some_mapped (shifted r.statuses) h.stat_sn) fits.filled; block = fits.block }
fits_renumbered r (TextResponse h) fits = record { filled = rw (same_transfer r h.target_transfer_tag) fits.filled; block = fits.block }
fits_renumbered r (DataIn h) fits = record {
  filled = rw (same_transfer r h.target_transfer_tag, is_some_mapped (shifted r.statuses) h.stat_sn) fits.filled;
  block = fits.block;
}
fits_renumbered r (LogoutResponse h) fits = record { filled = fits.filled; block = fits.block }
fits_renumbered r (ReadyToTransfer h) fits = record { filled = fits.filled; block = fits.block }
fits_renumbered r (AsyncMessage h) fits = record { filled = fits.filled; block = fits.block }
fits_renumbered r (Reject h) fits = record { filled = fits.filled; block = fits.block }
