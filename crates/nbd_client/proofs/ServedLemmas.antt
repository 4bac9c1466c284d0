-- What a server in this process did is what it was asked for.
use Rattle.std.proofs.Common.{◌≡◌, ◌≤◌, ◌<◌, ◌^◌, ℕ, List, ◌++◌, Ok, Result, sym, ap, subst, ◌∙◌, arith}
use Rattle.scsi_disk.specs.Disk.{Disk, most_blocks}
use Rattle.nbd_wire.specs.declared.request.Request.{Request}
use Rattle.nbd_wire.specs.declared.request.RequestFault.{RequestFault}
use Rattle.nbd_wire.specs.Transmission.{reply_bytes, request_at}
use Rattle.nbd_wire.proofs.TransmissionLemmas.{request_again}
use Rattle.nbd_client.specs.declared.sizes.RequestSizes.{RequestSizes}
use Rattle.nbd_client.specs.Serving.{ServerReply, AreRequestBytes, IsCommandDone, IsPlaced, MayDo}

abbrev ok_of : Request → Result Request RequestFault
ok_of r = Ok r

same_ok : (r s : Request) → ok_of r ≡ ok_of s → r ≡ s
same_ok r s e = cc

-- The request that was read is the one that was asked.
pub same_request : (r asked : Request) (lba place count : ℕ) (sizes : RequestSizes) (head bytes : List ℕ) → count ≤ most_blocks
    → request_at head ≡ Ok r → AreRequestBytes asked place count sizes head bytes → asked ≡ r
same_request r asked lba place count sizes head bytes few is a =
    let low : asked.offset < 2 ^ 64 = omega (arith, few, a.placed.place, a.placed.inside) in
    same_ok asked r (sym (request_again asked a.cookie low a.short) ∙ ap request_at (sym a.spelled) ∙ is)

pub same_place : (r asked : Request) (lba place counted count : ℕ) (takes sizes : RequestSizes) (bytes : List ℕ)
    → asked ≡ r → IsPlaced r lba counted takes bytes → IsPlaced asked place count sizes bytes → place ≡ lba
same_place r asked lba place counted count takes sizes bytes same p q =
    let offset : asked.offset ≡ r.offset = ap (λ (s : Request). s.offset) same in
    omega (arith, offset, p.place, q.place)

pub may_asked : (r asked : Request) (lba place counted count : ℕ) (takes sizes : RequestSizes) (head bytes : List ℕ) (disk new : Disk) (kept left : ℕ → List ℕ → Type 0)
    → count ≤ most_blocks → request_at head ≡ Ok r → IsPlaced r lba counted takes bytes → AreRequestBytes asked place count sizes head bytes
    → MayDo r.command lba bytes disk kept new left → MayDo asked.command place bytes disk kept new left
may_asked r asked lba place counted count takes sizes head bytes disk new kept left few is p a m =
    let same : asked ≡ r = same_request r asked lba place count sizes head bytes few is a in
    let there : place ≡ lba = same_place r asked lba place counted count takes sizes bytes same p a.placed in
    subst (λ (s : Request). MayDo s.command place bytes disk kept new left) (sym same)
    (subst (λ (n : ℕ). MayDo r.command n bytes disk kept new left) (sym there) m)

-- a place in blocks, and how many
pub record Span : Type 0 where
  pub place : ℕ
  pub count : ℕ

pub answers_asked : (r asked : Request) (at of : Span) (takes sizes : RequestSizes) (head bytes : List ℕ) (disk new : Disk) (left : ℕ → List ℕ → Type 0)
    (error : ℕ) (rest sent : List ℕ)
    → of.count ≤ most_blocks → request_at head ≡ Ok r → IsPlaced r at.place at.count takes bytes → AreRequestBytes asked of.place of.count sizes head bytes
    → error < 2 ^ 32 → sent ≡ reply_bytes (record { error = error; cookie = r.cookie }) ++ rest
    → (error ≡ 0 → IsCommandDone r.command at.place r.length bytes disk new left rest)
    → ServerReply asked of.place bytes disk new left sent
answers_asked r asked at of takes sizes head bytes disk new left error rest sent few is p a fits spelled done =
    let same : asked ≡ r = same_request r asked at.place of.place of.count sizes head bytes few is a in
    let there : of.place ≡ at.place = same_place r asked at.place of.place at.count of.count takes sizes bytes same p a.placed in
    subst (λ (s : Request). ServerReply s of.place bytes disk new left sent) (sym same)
    (subst (λ (n : ℕ). ServerReply r n bytes disk new left sent) (sym there)
    (record { error = error; fits = fits; rest = rest; spelled = spelled; done = done }))
