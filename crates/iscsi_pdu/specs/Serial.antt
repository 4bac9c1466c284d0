-- Numbers that count round (RFC 7143, section 4.2.2; RFC 1982), and the window of command numbers.
use Rattle.std.specs.Prelude.{ℕ, ◌+◌, ◌-◌, ◌^◌, ◌%◌, Bool, ◌&&◌, nat_lt, nat_le, if◌then◌else◌}
use Rattle.iscsi_pdu.specs.declared.serial.Serial.{Serial}
use Rattle.iscsi_pdu.specs.declared.serial.Window.{Window}

-- how many steps b is after a, round the circle of 2^32
abbrev pub distance : ℕ → ℕ → ℕ
distance a b = (b + (2 ^ 32 - a)) % 2 ^ 32

-- the number after another
abbrev pub next_sn : ℕ → ℕ
next_sn n = (n + 1) % 2 ^ 32

-- ---- the window of command numbers (RFC 7143, section 4.2.2.1)

-- a is before b, by less than half the circle (RFC 1982, section 3.2)
abbrev pub is_before : Serial → Serial → Bool
is_before a b = nat_lt 0 (distance a.0 b.0) && nat_lt (distance a.0 b.0) (2 ^ 31)

-- the number is in low..high, round the circle
abbrev pub is_within : ℕ → ℕ → ℕ → Bool
is_within n low high =
    nat_lt (distance low high) (2 ^ 31) && nat_le (distance low n) (distance low high)

-- the later of a number and another, the first where neither is before the other
abbrev pub later_of : Serial → Serial → Serial
later_of a b = if is_before a b then b else a

-- the number one step behind
abbrev pub one_before : Serial → Serial
one_before a = record { 0 = (a.0 + (2 ^ 32 - 1)) % 2 ^ 32 }

-- the window after a pair of numbers: a pair out of order is ignored, else each number is taken if
-- it is later
abbrev pub moved : Window → Serial → Serial → Window
moved w exp max =
    if is_before max (one_before exp) then w
    else record { exp = later_of w.exp exp; max = later_of w.max max }
