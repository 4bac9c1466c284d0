-- Orders one after another, on one disk.
use Rattle.std.specs.Prelude.{◌≡◌, ℕ, ◌≤◌, Bool, List, [], ◌∷◌, length, take, All}
use Rattle.scsi_disk.specs.declared.order.Order.{Order}
use Rattle.scsi_disk.specs.declared.order.Outcome.{Outcome}
use Rattle.scsi_disk.specs.Disk.{Disk}
use Rattle.scsi_disk.specs.Effect.{Effect, OrderExecuted, effect, IsSupplied}

-- an order and the bytes that come with it
abbrev pub Supplied : Type 0
Supplied = Order × List ℕ

-- each order has the bytes that it takes, on a disk of n blocks
abbrev pub AreSupplied : ℕ → List Supplied → Type 0
AreSupplied count orders = All (λ o. IsSupplied count o.0 o.1) orders

-- ---- on a store that may fail

-- orders ran in turn, each as `OrderExecuted` says and the next on the disk that it left
unfoldable pub OrdersRun : Bool → ℕ → Disk → List Supplied → ℕ → Disk → List Outcome → Type 0
OrdersRun protected before disk [] after last told = (after ≡ before) × (last ≡ disk) × (told ≡ [])
OrdersRun protected before disk (o ∷ orders) after last told =
    (now : ℕ) × (left : Effect) × (more : List Outcome)
    × OrderExecuted protected before now disk o.0 o.1 left
    × OrdersRun protected now left.disk orders after last more
    × (told ≡ left.outcome ∷ more)

-- n first orders ran, and no other changed a block; it may have read some, over a store that failed
abbrev pub RunsSome : Bool → ℕ → Disk → List Supplied → ℕ → Disk → Type 0
RunsSome protected before disk orders after last =
    (n : ℕ) × (told : List Outcome) × (now : ℕ) × (n ≤ length orders) × (now ≤ after)
    × OrdersRun protected before disk (take n orders) now last told

-- ---- where no failure is counted

-- the disk that is left in the end
unfoldable pub disk_after : Bool → List Supplied → Disk → Disk
disk_after protected [] disk = disk
disk_after protected (o ∷ orders) disk =
    disk_after protected orders (effect protected disk o.0 o.1).disk

-- the outcome of each order
unfoldable pub outcomes : Bool → List Supplied → Disk → List Outcome
outcomes protected [] disk = []
outcomes protected (o ∷ orders) disk =
    (effect protected disk o.0 o.1).outcome
    ∷ outcomes protected orders (effect protected disk o.0 o.1).disk
