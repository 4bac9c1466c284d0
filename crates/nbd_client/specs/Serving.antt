-- What an NBD server may do at a request, and what it answers ("Transmission phase").
use Rattle.std.specs.Prelude.{◌≡◌, ◌≤◌, ◌<◌, ℕ, ◌+◌, ◌*◌, ◌/◌, ◌%◌, ◌^◌, Bool, true, List, ◌++◌, length}
use Rattle.scsi_disk.specs.Disk.{Disk, blocks_from, disk_written, IsOldOrNew}
use Rattle.scsi_disk.specs.Lasting.{CrashAddsDisk, SettledDisk, Within}
use Rattle.scsi_disk.specs.Sparse.{AreZeros}
use Rattle.nbd_wire.specs.declared.request.Command.{Command}
use Rattle.nbd_wire.specs.declared.request.Command.TheVariants.{Read, Write, Flush, WriteZeroes}
use Rattle.nbd_wire.specs.declared.request.Request.{Request}
use Rattle.nbd_wire.specs.Transmission.{request_bytes, reply_bytes}
use Rattle.nbd_client.specs.declared.sizes.RequestSizes.{RequestSizes}
use Rattle.nbd_client.specs.Sizes.{FitsSizes}

-- A request is about whole blocks of an export, from block lba on, with the bytes that it writes. Those of
-- WRITE_ZEROES are 00, and none of them is sent. It is one that the server takes.
pub record IsPlaced (r : Request) (lba count : ℕ) (sizes : RequestSizes) (bytes : List ℕ) : Type 0 where
  pub place : r.offset ≡ 512 * lba
  pub whole : r.length % 512 ≡ 0
  pub inside : 512 * lba + r.length ≤ 512 * count
  pub fits : FitsSizes r.offset r.length sizes
  pub content : r.command ≡ Write → length bytes ≡ r.length
  pub zeros : r.command ≡ WriteZeroes → (length bytes ≡ r.length) × AreZeros bytes

-- These are the bytes of such a request, and those that it writes.
pub record AreRequestBytes (r : Request) (lba count : ℕ) (sizes : RequestSizes) (head bytes : List ℕ) : Type 0 where
  pub spelled : head ≡ request_bytes r
  pub cookie : r.cookie < 2 ^ 64
  pub short : r.length < 2 ^ 32
  pub placed : IsPlaced r lba count sizes bytes

-- No block changes.
pub record KeepsBlocks (old : Disk) (kept : ℕ → List ℕ → Type 0) (new : Disk)
    (left : ℕ → List ℕ → Type 0)
    : Type 0 where
  pub disk : new ≡ old
  pub lasting : Within kept left

-- Each block of a write is old or new, and no other changes.
pub record MayWrite (lba : ℕ) (bytes : List ℕ) (old : Disk) (kept : ℕ → List ℕ → Type 0) (new : Disk)
    (left : ℕ → List ℕ → Type 0) : Type 0 where
  pub each : IsOldOrNew old (disk_written lba bytes old) new
  pub lasting : CrashAddsDisk (disk_written lba bytes old) kept left

-- What a server may do to its blocks at a request, whether or not its answer comes.
abbrev pub MayDo : Command → ℕ → List ℕ → Disk → (ℕ → List ℕ → Type 0) → Disk → (ℕ → List ℕ → Type 0) → Type 0
MayDo Read lba bytes old kept new left = KeepsBlocks old kept new left
MayDo Write lba bytes old kept new left = MayWrite lba bytes old kept new left
MayDo Flush lba bytes old kept new left = KeepsBlocks old kept new left
MayDo WriteZeroes lba bytes old kept new left = MayWrite lba bytes old kept new left

-- What has been done where the error of a reply is 0, and what follows the reply.
abbrev pub IsCommandDone : Command → ℕ → ℕ → List ℕ → Disk → Disk → (ℕ → List ℕ → Type 0) → List ℕ
    → Type 0
IsCommandDone Read lba size bytes old new left rest = rest ≡ blocks_from old lba (size / 512)
IsCommandDone Write lba size bytes old new left rest = new ≡ disk_written lba bytes old
IsCommandDone Flush lba size bytes old new left rest = SettledDisk new left
IsCommandDone WriteZeroes lba size bytes old new left rest = new ≡ disk_written lba bytes old

-- What a server sends at a request: a simple reply with its cookie, and the blocks of a read.
pub record ServerReply (r : Request) (lba : ℕ) (bytes : List ℕ) (old new : Disk)
    (left : ℕ → List ℕ → Type 0) (sent : List ℕ) : Type 0 where
  pub error : ℕ
  pub fits : error < 2 ^ 32
  pub rest : List ℕ
  pub spelled : sent ≡ reply_bytes (record { error = error; cookie = r.cookie }) ++ rest
  pub done : error ≡ 0 → IsCommandDone r.command lba r.length bytes old new left rest

-- How often a line did something else than it said, before a call and after it: never, where it
-- tells each failure.
pub record UntoldRises (tells : Bool) (before after : ℕ) : Type 0 where
  pub rises : before ≤ after
  pub honest : tells ≡ true → after ≡ before
