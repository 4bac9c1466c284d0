-- The tags that an initiator counts, and the command window that a target tells while the initiator has one command open at most.
use Rattle.std.specs.Prelude.{◌==◌, ◌&&◌, nat_lt, if◌then◌else◌}
use Rattle.std.proofs.Common.{◌≡◌, ◌⊎◌, inl, inr, ◌<◌, ◌≤◌, ℕ, ◌+◌, ◌-◌, ◌^◌, ◌%◌, Bool, true, false, refl, sym, ap, ◌∙◌, subst, arith}
use Rattle.std.proofs.lemmas.Bool.{eqb-false}
use Rattle.iscsi_pdu.specs.declared.serial.Serial.{Serial}
use Rattle.iscsi_pdu.specs.declared.serial.Window.{Window}
use Rattle.iscsi_pdu.specs.Serial.{is_before, later_of, moved, next_sn, one_before}
use Rattle.iscsi_initiator.specs.State.{next_tag, serial}
use Rattle.iscsi_pair.specs.LocalDisk.{window_of_eight}

-- the number before this one
abbrev pub before : ℕ → ℕ
before n = (n + (2 ^ 32 - 1)) % 2 ^ 32

-- the last number that is let in from this one on, while n tasks wait
abbrev pub last_with : ℕ → ℕ → ℕ
last_with n waiting = (n + (2 ^ 32 + 7 - waiting)) % 2 ^ 32

-- The window begins with this number, or the one before; it ends before it, or where it ends for a target with one task or none.
pub record IsNear (n : ℕ) (w : Window) : Type 0 where
  pub exp : (w.exp ≡ serial (before n)) ⊎ (w.exp ≡ serial n)
  pub max : (w.max ≡ serial (before n)) ⊎ ((w.max ≡ serial (last_with n 1)) ⊎ (w.max ≡ serial (last_with n 0)))

-- the later of two numbers, by how many steps they are apart
later_of_two : (a b d : ℕ) → (b + (2 ^ 32 - a)) % 2 ^ 32 ≡ d → later_of (serial a) (serial b) ≡ (if nat_lt 0 d && nat_lt d (2 ^ 31) then serial b else serial a)
later_of_two a b d e = ap (λ (x : ℕ). if nat_lt 0 x && nat_lt x (2 ^ 31) then serial b else serial a) e

later_by : (a : Serial) (k b d : ℕ) → a ≡ serial k → (b + (2 ^ 32 - k)) % 2 ^ 32 ≡ d
    → later_of a (serial b) ≡ (if nat_lt 0 d && nat_lt d (2 ^ 31) then serial b else serial k)
later_by a k b d is e = ap (λ (x : Serial). later_of x (serial b)) is ∙ later_of_two k b d e

-- the later of a near number and this one is this one
later_now : (n : ℕ) (a : Serial) → n < 2 ^ 32 → (a ≡ serial (before n)) ⊎ (a ≡ serial n) → later_of a (serial n) ≡ serial n
later_now n a lt (inl e) = later_by a (before n) n 1 e (omega (arith, lt))
later_now n a lt (inr e) = later_by a n n 0 e (omega (arith, lt))

-- a target with no task moves the end of a near window to where it ends for it
last_now : (n : ℕ) (a : Serial) → n < 2 ^ 32 → (a ≡ serial (before n)) ⊎ ((a ≡ serial (last_with n 1)) ⊎ (a ≡ serial (last_with n 0)))
    → later_of a (serial (last_with n 0)) ≡ serial (last_with n 0)
last_now n a lt (inl e) = later_by a (before n) (last_with n 0) 8 e (omega (arith, lt))
last_now n a lt (inr (inl e)) = later_by a (last_with n 1) (last_with n 0) 1 e (omega (arith, lt))
last_now n a lt (inr (inr e)) = later_by a (last_with n 0) (last_with n 0) 0 e (omega (arith, lt))

-- one with a task moves it there, unless it is behind
last_later : (n : ℕ) (a : Serial) → n < 2 ^ 32 → (a ≡ serial (before n)) ⊎ ((a ≡ serial (last_with n 1)) ⊎ (a ≡ serial (last_with n 0)))
    → (let b : Serial = later_of a (serial (last_with n 1)) in (b ≡ serial (before n)) ⊎ ((b ≡ serial (last_with n 1)) ⊎ (b ≡ serial (last_with n 0))))
last_later n a lt (inl e) = inr (inl (later_by a (before n) (last_with n 1) 7 e (omega (arith, lt))))
last_later n a lt (inr (inl e)) = inr (inl (later_by a (last_with n 1) (last_with n 1) 0 e (omega (arith, lt))))
last_later n a lt (inr (inr e)) = inr (inr (later_by a (last_with n 0) (last_with n 1) 4294967295 e (omega (arith, lt))))

-- a pair of numbers that is in order
moved_by : (w : Window) (n last d : ℕ) → (before n + (2 ^ 32 - last)) % 2 ^ 32 ≡ d → (nat_lt 0 d && nat_lt d (2 ^ 31)) ≡ false
    → moved w (serial n) (serial last) ≡ record { exp = later_of w.exp (serial n); max = later_of w.max (serial last) }
moved_by w n last d e f = (let g : is_before (serial last) (one_before (serial n)) ≡ false = ap (λ (x : ℕ). nat_lt 0 x && nat_lt x (2 ^ 31)) e ∙ f in rw g refl)

-- a target with no task tells that eight commands are let in
pub tells_eight : (n : ℕ) (w : Window) → n < 2 ^ 32 → IsNear n w → moved w (serial n) (serial (last_with n 0)) ≡ window_of_eight n
tells_eight n w lt near =
    let last : last_with n 0 ≡ (n + 7) % 2 ^ 32 = omega (arith, lt) in
    moved_by w n (last_with n 0) 4294967288 (omega (arith, lt)) refl
    ∙ (λ i. record { exp = later_now n w.exp lt near.exp i; max = (last_now n w.max lt near.max ∙ ap serial last) i })

-- one with a task tells that fewer are
pub tells_fewer : (n : ℕ) (w : Window) → n < 2 ^ 32 → IsNear n w → IsNear n (moved w (serial n) (serial (last_with n 1)))
tells_fewer n w lt near =
    subst (IsNear n) (sym (moved_by w n (last_with n 1) 4294967289 (omega (arith, lt)) refl))
    (record { exp = inr (later_now n w.exp lt near.exp); max = last_later n w.max lt near.max })

-- behind a command, or behind none
pub near_next : (n c : ℕ) (w : Window) → c < 2 ^ 32 → n ≡ next_sn c → w ≡ window_of_eight c → IsNear n w
near_next n c w lt e is =
    let b : c ≡ before n = omega (arith, e, lt) in
    let l : (c + 7) % 2 ^ 32 ≡ last_with n 1 = omega (arith, e, lt) in
    record { exp = inl (ap (λ (x : Window). x.exp) is ∙ ap serial b); max = inr (inl (ap (λ (x : Window). x.max) is ∙ ap serial l)) }

pub near_now : (n : ℕ) (w : Window) → n < 2 ^ 32 → w ≡ window_of_eight n → IsNear n w
near_now n w lt is =
    let l : (n + 7) % 2 ^ 32 ≡ last_with n 0 = omega (arith, lt) in
    record { exp = inr (ap (λ (x : Window). x.exp) is); max = inr (inr (ap (λ (x : Window). x.max) is ∙ ap serial l)) }

-- ---- tags

tag_by : (b : Bool) (tag : ℕ) → (tag == 0xffff_fffe) ≡ b → tag ≤ 0xffff_fffe → (if b then 0 else tag + 1) ≤ 0xffff_fffe
tag_by true tag e le = omega arith
tag_by false tag e le = (let apart_ = eqb-false tag 0xffff_fffe e in omega (arith, le, apart_))

-- the next tag names a task
pub tag_after : (tag : ℕ) → tag ≤ 0xffff_fffe → next_tag tag ≤ 0xffff_fffe
tag_after tag le = tag_by (tag == 0xffff_fffe) tag refl le
