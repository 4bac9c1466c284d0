-- The free bits of a header that is written (RFC 7143, section 11).
use Rattle.std.specs.Prelude.{ℕ, ◌-◌, Bool, not, ◌==◌, nat_lt, ◌&&◌, List, ◌++◌, bit_and, is_some}
use Rattle.std.specs.List.{list_any}
use Rattle.scsi_cdb.specs.Layout.{Row}
use Rattle.scsi_cdb.specs.Layout.Row.{bit, bits, bytes, raw}
use Rattle.iscsi_pdu.specs.declared.head.Head.{Head}
use Rattle.iscsi_pdu.specs.Meaning.{blocks, frame, ones, opcode, rows}

-- two masks have no bit in common
abbrev pub are_apart : ℕ → ℕ → Bool
are_apart mask other = (bit_and mask other == 0) && (bit_and (255 - mask) other == other)

-- byte n is one of those from the first to the last
abbrev pub is_between : ℕ → ℕ → ℕ → Bool
is_between n first last = not (nat_lt n first) && not (nat_lt last n)

-- the row has a value, and a bit of it is one of a mask in byte n
abbrev pub uses : ℕ → ℕ → Row → Bool
uses n mask (bit at own field) = is_some field.value && ((at == n) && not (are_apart own mask))
uses n mask (bits at own field) = is_some field.value && ((at == n) && not (are_apart own mask))
uses n mask (bytes first last field) = is_some field.value && is_between n first last
uses n mask (raw first last field) = is_some field.value && is_between n first last

-- all that is written in the header of a head and a length
abbrev pub written_rows : Head → ℕ → List Row
written_rows h len = ones h ++ (frame (opcode h) len ++ (rows h ++ blocks h))

-- The bits of a mask in byte n are free: no row with a value has one of them.
abbrev pub are_free : ℕ → ℕ → Head → ℕ → Bool
are_free n mask h len = not (list_any (uses n mask) (written_rows h len))
