-- IP packets, and what they have for TCP (RFC 791, section 3.1; RFC 8200, sections 3 and 4). The
-- answer is Some if there is something. It is None for another protocol, and for a packet that no
-- receiver takes. It is a fault for a fragment, and where bytes of a header were not captured.
use Rattle.std.specs.Prelude.{ℕ, zero, suc, ◌+◌, ◌-◌, ◌*◌, ◌/◌, ◌%◌, Bool, not, ◌==◌, ◌&&◌, ◌||◌, nat_lt, bit_and, if◌then◌else◌, min, List, length, slice_range, slice_index, Option, Some, None, Result, Ok, Err}
use Rattle.capture_file.specs.declared.numbers.Order.TheVariants.{Big}
use Rattle.capture_file.specs.declared.network.Address.{Address}
use Rattle.capture_file.specs.declared.network.Address.TheVariants.{V4, V6}
use Rattle.capture_file.specs.declared.fault.PacketFault.{PacketFault}
use Rattle.capture_file.specs.declared.fault.PacketFault.TheVariants.{Fragment, Cut}
use Rattle.capture_file.specs.Numbers.{ordered_number}
use Rattle.capture_file.specs.Layers.{onward}

-- What a packet has for TCP: both addresses, how many bytes, and those of them that were captured.
pub record Inside : Type 0 where
  pub source : Address
  pub destination : Address
  pub size : ℕ
  pub bytes : List ℕ

-- ---- IPv4

-- the length of the header: words of four bytes
abbrev pub header_4 : List ℕ → ℕ
header_4 packet = slice_index packet 0 % 16 * 4

-- the length of a packet that had so many bytes on the link; one over 65,535 bytes says 0
abbrev pub total_4 : ℕ → List ℕ → ℕ
total_4 original packet =
    if ordered_number Big 2 2 packet == 0 then original else ordered_number Big 2 2 packet

-- lengths that no receiver takes
abbrev pub is_wrong_4 : ℕ → List ℕ → Bool
is_wrong_4 original packet = nat_lt (header_4 packet) 20
    || (nat_lt (total_4 original packet) (header_4 packet) || nat_lt original (total_4 original packet))

-- a fragment: it has an offset (bits 1fff), or more fragments follow it (2000)
abbrev pub is_fragment_4 : List ℕ → Bool
is_fragment_4 packet = not (ordered_number Big 2 6 packet % 16384 == 0)

-- what an IPv4 packet has for TCP, protocol 6; bytes behind its length are padding
unfoldable pub inside_4 : ℕ → List ℕ → Result (Option Inside) PacketFault
inside_4 original packet =
    if nat_lt (length packet) 20 then Err Cut
    else if not (slice_index packet 9 == 6) then Ok None
    else if is_wrong_4 original packet then Ok None
    else if is_fragment_4 packet then Err Fragment
    else if nat_lt (length packet) (header_4 packet) then Err Cut
    else Ok (Some (record {
      source = V4 (slice_range packet 12 16);
      destination = V4 (slice_range packet 16 20);
      size = total_4 original packet - header_4 packet;
      bytes = slice_range packet (header_4 packet) (min (total_4 original packet) (length packet));
    }))

-- ---- IPv6

-- the length of a packet that had so many bytes on the link; one over 65,575 bytes says 0
abbrev pub total_6 : ℕ → List ℕ → ℕ
total_6 original packet = if ordered_number Big 2 4 packet == 0 then original else 40 + ordered_number Big 2 4 packet

-- the extension headers that are read: hop-by-hop options (0), routing (43), fragment (44),
-- destination options (60)
abbrev pub is_extension : ℕ → Bool
is_extension kind = kind == 0 || (kind == 43 || (kind == 44 || kind == 60))

-- how long one is: a fragment header has eight bytes; another says how many times eight bytes follow
-- its first eight
abbrev pub extension_size : ℕ → ℕ → List ℕ → ℕ
extension_size kind at packet = if kind == 44 then 8 else (slice_index packet (at + 1) + 1) * 8

-- the fragment header of a part of a packet: it has an offset (bits fff8), or more parts follow (0001)
abbrev pub is_part : ℕ → ℕ → List ℕ → Bool
is_part kind at packet =
    kind == 44 && not (bit_and (ordered_number Big 2 (at + 2) packet) 65529 == 0)

-- what follows an extension header of this type and place: the type of the next header, and its place
unfoldable pub behind_extension : ℕ → ℕ → List ℕ → Result (Option (ℕ × ℕ)) PacketFault
behind_extension kind at packet =
    if not (is_extension kind) then Ok None
    else if nat_lt (length packet) (at + 8) then Err Cut
    else if is_part kind at packet then Err Fragment
    else Ok (Some (slice_index packet at, at + extension_size kind at packet))

-- where the header of TCP (type 6) is, if it is one of the next so many headers, the first of which has
-- this type and place; extension headers stand before it
unfoldable pub tcp_at : ℕ → ℕ → ℕ → List ℕ → Result (Option ℕ) PacketFault
tcp_at zero kind at packet = Ok None
tcp_at (suc headers) kind at packet =
    if kind == 6 then Ok (Some at)
    else onward (λ (next : ℕ × ℕ). tcp_at headers next.0 next.1 packet) (behind_extension kind at packet)

-- what an IPv6 packet has from this place on, where the header of TCP is
abbrev pub content_6 : ℕ → List ℕ → ℕ → Result (Option Inside) PacketFault
content_6 original packet at =
    if nat_lt (total_6 original packet) at then Ok None
    else if nat_lt (length packet) at then Err Cut
    else Ok (Some (record {
      source = V6 (slice_range packet 8 24);
      destination = V6 (slice_range packet 24 40);
      size = total_6 original packet - at;
      bytes = slice_range packet at (min (total_6 original packet) (length packet));
    }))

-- what an IPv6 packet has for TCP, behind at most seven extension headers
unfoldable pub inside_6 : ℕ → List ℕ → Result (Option Inside) PacketFault
inside_6 original packet =
    if nat_lt (length packet) 40 then Err Cut
    else if nat_lt original (total_6 original packet) then Ok None
    else onward (content_6 original packet) (tcp_at 8 (slice_index packet 6) 40 packet)

-- ---- both

-- what an IP packet has for TCP, if it had so many bytes on the link; its first four bits are the
-- version
unfoldable pub inside : ℕ → List ℕ → Result (Option Inside) PacketFault
inside original packet =
    if original == 0 then Ok None
    else if length packet == 0 then Err Cut
    else if slice_index packet 0 / 16 == 4 then inside_4 original packet
    else if slice_index packet 0 / 16 == 6 then inside_6 original packet
    else Ok None
