-- How long the requests of a server may be.
use Rattle.std.specs.Prelude.{◌≡◌, ◌≤◌, ℕ, ◌%◌, true}
use Rattle.nbd_client.specs.declared.sizes.RequestSizes.{RequestSizes}

-- A server of so many blocks may take such requests. If they are wide, they are made of 8 blocks each.
pub record AreSizes (sizes : RequestSizes) (count : ℕ) : Type 0 where
  pub some : 4096 ≤ sizes.longest
  pub few : sizes.longest ≤ 33554432
  pub whole : sizes.longest % 4096 ≡ 0
  pub even : sizes.wide ≡ true → count % 8 ≡ 0

-- A request from this byte of the export on, of so many bytes, is one of them.
pub record FitsSizes (offset size : ℕ) (sizes : RequestSizes) : Type 0 where
  pub short : size ≤ sizes.longest
  pub even : sizes.wide ≡ true → (offset % 4096 ≡ 0) × (size % 4096 ≡ 0)
