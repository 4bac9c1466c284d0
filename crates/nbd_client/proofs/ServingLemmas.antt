-- What a request did, and what its answer says.
use Rattle.std.proofs.Common.{◌≡◌, ◌≤◌, ◌<◌, ◌+◌, ◌-◌, ◌*◌, ◌/◌, ◌%◌, ◌^◌, ◌⊎◌, inl, inr, ℕ, Bool, List, ◌++◌, length, take, drop, OnOk, Ok, Err, Result, refl, sym, ap, subst, ◌∙◌, arith}
use Rattle.std.proofs.lemmas.Bool.{cases_lt}
use Rattle.std.proofs.lemmas.List.{take-append-drop, take_at, drop_at, take-take, drop-take, drop-drop, length-take-le, length-drop}
use Rattle.scsi_disk.proofs.OverlayLemmas.{overlaid_below, overlaid_in, overlaid_past}
use Rattle.scsi_disk.proofs.PlanLemmas.{joined-add, length-joined}
use Rattle.scsi_disk.specs.Disk.{Disk, IsDisk, blocks_from, cut, overlaid, disk_written}
use Rattle.scsi_disk.specs.Lasting.{Within}
use Rattle.nbd_wire.specs.declared.request.Command.{Command}
use Rattle.nbd_wire.specs.declared.request.Command.TheVariants.{Read, Write, Flush, WriteZeroes}
use Rattle.nbd_wire.specs.declared.request.Request.{Request}
use Rattle.nbd_wire.specs.declared.reply.SimpleReply.{SimpleReply}
use Rattle.nbd_wire.specs.declared.reply.ReplyMagic.{ReplyMagic}
use Rattle.nbd_wire.specs.Transmission.{reply_bytes, simple_reply_at}
use Rattle.nbd_wire.proofs.TransmissionLemmas.{reply_again}
use Rattle.nbd_client.specs.Serving.{MayDo, MayWrite, IsCommandDone, ServerReply, UntoldRises}

-- No request changes whether a server tells.
pub may_tells : (c : Command) (lba : ℕ) (bytes : List ℕ) (old : Disk) (kept : ℕ → List ℕ → Type 0)
    (new : Disk) (left : ℕ → List ℕ → Type 0)
    → MayDo c lba bytes old kept new left → new.tells ≡ old.tells
may_tells Read lba bytes old kept new left m = ap (λ (d : Disk). d.tells) m.disk
may_tells Write lba bytes old kept new left m = m.each.tells
may_tells Flush lba bytes old kept new left m = ap (λ (d : Disk). d.tells) m.disk
may_tells WriteZeroes lba bytes old kept new left m = m.each.tells

pub rises_then : (tells then : Bool) (a b c : ℕ) → then ≡ tells → UntoldRises tells a b → UntoldRises then b c → UntoldRises tells a c
rises_then tells then a b c same p q =
    record { rises = omega (arith, p.rises, q.rises); honest = λ t. q.honest (same ∙ t) ∙ p.honest t }

pub rises_none : (tells : Bool) (a : ℕ) → UntoldRises tells a a
rises_none tells a = record { rises = omega arith; honest = λ t. refl }

-- A step that rises by nothing in all rises by nothing in each part.
pub first_is_same : (a b c : ℕ) → a ≤ b → b ≤ c → c ≡ a → b ≡ a
first_is_same a b c ab bc same = omega (arith, ab, bc, same)

pub second_is_same : (a b c : ℕ) → a ≤ b → b ≤ c → c ≡ a → c ≡ b
second_is_same a b c ab bc same = omega (arith, ab, bc, same)

-- What was done is done where a crash leaves no more.
pub done_later : (c : Command) (lba size : ℕ) (bytes : List ℕ) (old mid new : Disk)
    (left later : ℕ → List ℕ → Type 0) (rest : List ℕ)
    → IsCommandDone c lba size bytes old mid left rest → new ≡ mid → Within left later
    → IsCommandDone c lba size bytes old new later rest
done_later Read lba size bytes old mid new left later rest d same w = d
done_later Write lba size bytes old mid new left later rest d same w = same ∙ d
done_later Flush lba size bytes old mid new left later rest d same w =
    λ n b l. d n b (w n b l) ∙ ap (λ (disk : Disk). disk.block n) (sym same)
done_later WriteZeroes lba size bytes old mid new left later rest d same w = same ∙ d

-- 16 bytes are a reply, and what is behind it is the rest.
reply_front : (r : SimpleReply) (rest : List ℕ) → take 16 (reply_bytes r ++ rest) ≡ reply_bytes r
unfolding reply_bytes
reply_front r rest = refl

reply_behind : (r : SimpleReply) (rest : List ℕ) → drop 16 (reply_bytes r ++ rest) ≡ rest
unfolding reply_bytes
reply_behind r rest = refl

abbrev ok_of : SimpleReply → Result SimpleReply ReplyMagic
ok_of r = Ok r

same_reply : (r s : SimpleReply) → ok_of r ≡ ok_of s → r ≡ s
same_reply r s e = cc

-- Where the reply that was read has no error, what was asked was done.
pub answered : (r : Request) (lba : ℕ) (bytes : List ℕ) (old new : Disk)
    (left : ℕ → List ℕ → Type 0) (sent : List ℕ) (read : SimpleReply)
    → ServerReply r lba bytes old new left sent → r.cookie < 2 ^ 64
    → simple_reply_at (take 16 sent) ≡ Ok read → read.error ≡ 0
    → IsCommandDone r.command lba r.length bytes old new left (drop 16 sent)
answered r lba bytes old new left sent read a cookie is zero =
    let reply : SimpleReply = record { error = a.error; cookie = r.cookie } in
    let front : take 16 sent ≡ reply_bytes reply = ap (take 16) a.spelled ∙ reply_front reply a.rest in
    let behind : drop 16 sent ≡ a.rest = ap (drop 16) a.spelled ∙ reply_behind reply a.rest in
    let back : ok_of reply ≡ ok_of read = sym (reply_again reply a.fits cookie) ∙ ap simple_reply_at (sym front) ∙ is in
    let none : a.error ≡ 0 = ap (λ (s : SimpleReply). s.error) (same_reply reply read back) ∙ zero in
    subst (λ (xs : List ℕ). IsCommandDone r.command lba r.length bytes old new left xs) (sym behind) (a.done none)

-- What is answered is answered where a crash leaves no more.
pub answers_later : (r : Request) (lba : ℕ) (bytes : List ℕ) (old mid new : Disk)
    (left later : ℕ → List ℕ → Type 0) (sent read rest : List ℕ)
    → ServerReply r lba bytes old mid left sent → new ≡ mid → Within left later
    → read ≡ take 16 sent → rest ≡ drop 16 sent
    → ServerReply r lba bytes old new later (read ++ rest)
answers_later r lba bytes old mid new left later sent read rest a same w front behind =
    record {
      error = a.error;
      fits = a.fits;
      rest = a.rest;
      spelled = rw (front, behind) (take-append-drop 16 sent ∙ a.spelled);
      done = λ none. done_later r.command lba r.length bytes old mid new left later a.rest (a.done none) same w;
    }

-- The same where the reply stands in front.
pub answered_by : (r : Request) (lba : ℕ) (bytes : List ℕ) (old new : Disk)
    (left : ℕ → List ℕ → Type 0) (head rest : List ℕ) (read : SimpleReply)
    → ServerReply r lba bytes old new left (head ++ rest) → r.cookie < 2 ^ 64 → length head ≡ 16
    → simple_reply_at head ≡ Ok read → read.error ≡ 0
    → IsCommandDone r.command lba r.length bytes old new left rest
answered_by r lba bytes old new left head rest read a cookie long is zero =
    let front : take 16 (head ++ rest) ≡ head = take_at head rest 16 long in
    let behind : drop 16 (head ++ rest) ≡ rest = drop_at head rest 16 long in
    subst (λ (xs : List ℕ). IsCommandDone r.command lba r.length bytes old new left xs) behind
    (answered r lba bytes old new left (head ++ rest) read a cookie (ap simple_reply_at front ∙ is) zero)

-- ---- a request of several

-- The blocks that a request covers, without those before and behind them.
pub part_read : (disk : Disk) (first before behind size n lba : ℕ) → IsDisk disk → 512 * first + before ≡ 512 * lba → size ≡ before + n + behind
    → before % 512 ≡ 0 → n % 512 ≡ 0 → size % 512 ≡ 0 → 512 * first + size ≤ 512 * disk.count
    → take n (drop before (blocks_from disk first (size / 512))) ≡ blocks_from disk lba (n / 512)
part_read disk first before behind size n lba is place all front whole even inside =
    let b = before / 512 in
    let c = n / 512 in
    let e = behind / 512 in
    let sum : size / 512 ≡ before / 512 + (n / 512 + behind / 512) = omega arith in
    let there : first + before / 512 ≡ lba = omega arith in
    let ahead = length-joined 512 disk.block first (before / 512) (λ k low high. is.inside k (omega arith)) in
    let long = length-joined 512 disk.block (first + before / 512) (n / 512) (λ k low high. is.inside k (omega arith)) in
    let parts : blocks_from disk first (size / 512) ≡ blocks_from disk first b ++ (blocks_from disk (first + b) c ++ blocks_from disk (first + b + c) e) =
    ap (blocks_from disk first) sum ∙ joined-add disk.block first b (c + e) ∙ ap (λ (t : List ℕ). blocks_from disk first b ++ t) (joined-add disk.block (first + b) c e) in
    ap (λ (t : List ℕ). take n (drop before t)) parts
    ∙ ap (take n) (drop_at (blocks_from disk first b) (blocks_from disk (first + b) c ++ blocks_from disk (first + b + c) e) before (omega (arith, ahead)))
    ∙ take_at (blocks_from disk (first + b) c) (blocks_from disk (first + b + c) e) n (omega (arith, long))
    ∙ ap (λ (k : ℕ). blocks_from disk k c) there

-- A block of a part is one of the whole.
cut_of_part : (i c m : ℕ) (bytes : List ℕ) → 512 * m + 512 ≤ 512 * c → cut 512 (take (512 * c) (drop (512 * i) bytes)) m ≡ cut 512 bytes (i + m)
unfolding cut
cut_of_part i c m bytes fits =
    let both : 512 * i + 512 * m ≡ 512 * (i + m) = omega arith in
    sym (drop-take (512 * m) 512 (take (512 * c) (drop (512 * i) bytes)))
    ∙ ap (drop (512 * m)) (take-take (512 * m + 512) (512 * c) (drop (512 * i) bytes) fits)
    ∙ drop-take (512 * m) 512 (drop (512 * i) bytes)
    ∙ ap (take 512) (drop-drop (512 * m) (512 * i) bytes ∙ ap (λ k. drop k bytes) both)

-- A block behind the write of a part is as it was, or as the whole write has it.
part_or_old : (first i c : ℕ) (bytes : List ℕ) (old now : Disk) (n : ℕ) → 512 * (i + c) ≤ length bytes
    → ((disk_written (first + i) (take (512 * c) (drop (512 * i) bytes)) now).block n ≡ now.block n)
    ⊎ ((disk_written (first + i) (take (512 * c) (drop (512 * i) bytes)) now).block n ≡ (disk_written first bytes old).block n)
part_or_old first i c bytes old now n room =
    let part : List ℕ = take (512 * c) (drop (512 * i) bytes) in
    let long : length (take (512 * c) (drop (512 * i) bytes)) ≡ 512 * c =
    length-take-le (512 * c) (drop (512 * i) bytes) (omega (arith, length-drop (512 * i) bytes)) in
    elim (cases_lt n (first + i)) [
      | inl low ↦ inl (overlaid_below 512 (first + i) part now.block n low)
      | inr ge ↦ elim (cases_lt (n - (first + i)) c) [
        | inl lt ↦
            let m = n - (first + i) in
            let at : n ≡ first + i + (n - (first + i)) = omega arith in
            let whole : n ≡ first + (i + (n - (first + i))) = omega arith in
            let more : 512 * (n - (first + i)) + 512 ≤ 512 * c = omega arith in
            inr (ap (overlaid 512 (first + i) part now.block) at ∙ overlaid_in 512 (first + i) part now.block m (omega arith)
            ∙ cut_of_part i c m bytes (omega arith)
            ∙ sym (ap (overlaid 512 first bytes old.block) whole ∙ overlaid_in 512 first bytes old.block (i + m) (omega arith)))
        | inr far ↦ inl (overlaid_past 512 (first + i) part now.block n ge (omega arith))
      ]
    ]

-- The write of a part, behind the writes of those before it.
pub may_write_more : (first i c : ℕ) (bytes : List ℕ) (old now new : Disk) (kept left later : ℕ → List ℕ → Type 0) → 512 * (i + c) ≤ length bytes
    → ((n : ℕ) → kept n (old.block n)) → MayWrite first bytes old kept now left
    → MayWrite (first + i) (take (512 * c) (drop (512 * i) bytes)) now left new later → MayWrite first bytes old kept new later
may_write_more first i c bytes old now new kept left later room stays before m = record {
  each = record {
    count = m.each.count ∙ before.each.count;
    tells = m.each.tells ∙ before.each.tells;
    each = λ n. elim (m.each.each n) [
      | inl same ↦ elim (before.each.each n) [ inl h ↦ inl (same ∙ h) | inr h ↦ inr (same ∙ h) ]
      | inr is ↦ elim (part_or_old first i c bytes old now n room) [
        | inl same ↦ elim (before.each.each n) [ inl h ↦ inl (is ∙ same ∙ h) | inr h ↦ inr (is ∙ same ∙ h) ]
        | inr h ↦ inr (is ∙ h)
      ]
    ];
  };
  lasting = λ n b has. elim (m.lasting n b has) [
    | inl was ↦ before.lasting n b was
    | inr is ↦ elim (part_or_old first i c bytes old now n room) [
      | inl same ↦ elim (before.each.each n) [
        | inl h ↦ inl (subst (λ (t : List ℕ). kept n t) (sym (is ∙ same ∙ h)) (stays n))
        | inr h ↦ inr (is ∙ same ∙ h)
      ]
      | inr h ↦ inr (is ∙ h)
    ]
  ];
}

-- A write of nothing.
pub may_write_none : (first : ℕ) (bytes : List ℕ) (old : Disk) (kept : ℕ → List ℕ → Type 0) → MayWrite first bytes old kept old kept
may_write_none first bytes old kept = record {
  each = record { count = refl; tells = refl; each = λ n. inl refl };
  lasting = λ n b has. inl has;
}

-- What holds where no step rose holds where all of them together did not.
pub if_none_rose : {T E : Type 0} {P : Type 0} (said : Result T E) (a b c d e : ℕ) → a ≤ b → b ≤ c → c ≤ d → d ≤ e
    → (b ≡ a → c ≡ b → d ≡ c → P) → OnOk said (e ≡ a → P)
if_none_rose (Ok _) a b c d e ab bc cd de is = λ same. is (omega (arith, ab, bc, cd, de, same)) (omega (arith, ab, bc, cd, de, same))
    (omega (arith, ab, bc, cd, de, same))
if_none_rose (Err _) a b c d e ab bc cd de is = tt
