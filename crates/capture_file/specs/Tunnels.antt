-- Tunnels: an IP packet inside another one. They are those of GRE (RFC 2784, 2890), with IP, Ethernet or
-- a mirrored frame inside (ERSPAN, draft-foschiano-erspan), and of VXLAN (RFC 7348).
use Rattle.std.specs.Prelude.{ℕ, ◌+◌, ◌-◌, ◌*◌, ◌/◌, ◌%◌, not, ◌==◌, ◌||◌, nat_lt, bit_and, if◌then◌else◌, List, length, drop, slice_index, Option, Some, None, Result, Ok, Err}
use Rattle.capture_file.specs.declared.numbers.Order.TheVariants.{Big}
use Rattle.capture_file.specs.declared.fault.PacketFault.{PacketFault}
use Rattle.capture_file.specs.declared.fault.PacketFault.TheVariants.{Fragment, Cut}
use Rattle.capture_file.specs.Numbers.{ordered_number}
use Rattle.capture_file.specs.Layers.{onward}
use Rattle.capture_file.specs.Links.{behind_tags, is_ip}
use Rattle.capture_file.specs.Internet.{Inside, header_4, inside, is_fragment_4}

-- so many bytes more stand before what is inside
abbrev pub further : ℕ → ℕ → Result (Option ℕ) PacketFault
further before n = Ok (Some (before + n))

-- before the IP packet of an Ethernet frame, which stands behind so many bytes
unfoldable pub in_frame : ℕ → List ℕ → Result (Option ℕ) PacketFault
in_frame at packet =
    if nat_lt (length packet) at then Err Cut
    else onward (further at) (behind_tags 5 12 (drop at packet))

-- the word of a GRE header that says which fields follow
abbrev pub gre_flags : ℕ → List ℕ → ℕ
gre_flags at packet = ordered_number Big 2 at packet

-- four bytes, if a flag of GRE says so
abbrev pub gre_field : ℕ → ℕ → ℕ
gre_field flag flags = if bit_and flags flag == 0 then 0 else 4

-- behind a GRE header: it has a checksum (8000), a key (2000) and a number (1000), or lacks them
abbrev pub behind_gre : ℕ → List ℕ → ℕ
behind_gre at packet = at + 4 + gre_field 32768 (gre_flags at packet)
    + gre_field 8192 (gre_flags at packet) + gre_field 4096 (gre_flags at packet)

-- in a mirrored frame: behind a header of eight bytes, if the header of GRE has a number
abbrev pub in_mirrored : ℕ → List ℕ → Result (Option ℕ) PacketFault
in_mirrored at packet =
    in_frame (behind_gre at packet + 2 * gre_field 4096 (gre_flags at packet)) packet

-- in a mirrored frame of the third kind: behind a header of twelve bytes, whose last bit says that eight
-- more follow
abbrev pub in_mirrored_3 : ℕ → List ℕ → Result (Option ℕ) PacketFault
in_mirrored_3 at packet =
    if nat_lt (length packet) (at + 12) then Err Cut
    else in_frame (at + 12 + 8 * (slice_index packet (at + 11) % 2)) packet

-- in GRE with this type: IP (0800, 86dd), Ethernet (6558), ERSPAN (88be, 22eb)
abbrev pub in_type : ℕ → ℕ → List ℕ → Result (Option ℕ) PacketFault
in_type kind at packet =
    if is_ip kind then Ok (Some (behind_gre at packet))
    else if kind == 25944 then in_frame (behind_gre at packet) packet
    else if kind == 35006 then in_mirrored at packet
    else if kind == 8939 then in_mirrored_3 (behind_gre at packet) packet
    else Ok None

-- in GRE; routing and other versions are not read
unfoldable pub in_gre : ℕ → List ℕ → Result (Option ℕ) PacketFault
in_gre at packet =
    if nat_lt (length packet) (at + 4) then Err Cut
    else if not (bit_and (gre_flags at packet) 16391 == 0) then Ok None
    else in_type (ordered_number Big 2 (at + 2) packet) at packet

-- in VXLAN: UDP to port 4789, whose header and that of VXLAN have eight bytes each
unfoldable pub in_vxlan : ℕ → List ℕ → Result (Option ℕ) PacketFault
in_vxlan at packet =
    if nat_lt (length packet) (at + 4) then Err Cut
    else if ordered_number Big 2 (at + 2) packet == 4789 then in_frame (at + 16) packet
    else Ok None

-- in the packet of this protocol, whose header has so many bytes: GRE (47), UDP (17)
abbrev pub in_protocol : ℕ → ℕ → List ℕ → Result (Option ℕ) PacketFault
in_protocol protocol at packet =
    if protocol == 47 then in_gre at packet
    else if protocol == 17 then in_vxlan at packet
    else Ok None

-- before the packet inside an IPv4 packet: a fragment of GRE is a fault, and one of another protocol
-- has none
abbrev pub in_packet_4 : List ℕ → Result (Option ℕ) PacketFault
in_packet_4 packet =
    if is_fragment_4 packet then (if slice_index packet 9 == 47 then Err Fragment else Ok None)
    else in_protocol (slice_index packet 9) (header_4 packet) packet

-- How many bytes stand before the IP packet inside an IP packet; None where it has none. Extension headers of
-- IPv6 are not passed.
unfoldable pub tunnel_in : List ℕ → Result (Option ℕ) PacketFault
tunnel_in packet =
    if nat_lt (length packet) 20 then Ok None
    else if slice_index packet 0 / 16 == 4 then in_packet_4 packet
    else if nat_lt (length packet) 40 then Ok None
    else if slice_index packet 0 / 16 == 6 then in_protocol (slice_index packet 6) 40 packet
    else Ok None

-- what an IP packet inside another one has for TCP; it stands behind so many bytes
abbrev pub inside_behind : ℕ → List ℕ → ℕ → Result (Option Inside) PacketFault
inside_behind original packet before =
    if nat_lt (length packet) before || nat_lt original before then Err Cut
    else inside (original - before) (drop before packet)

-- what an IP packet has for TCP, or the one inside it
abbrev pub inside_or : ℕ → List ℕ → Result (Option ℕ) PacketFault → Result (Option Inside) PacketFault
inside_or original packet (Ok None) = inside original packet
inside_or original packet (Ok (Some before)) = inside_behind original packet before
inside_or original packet (Err fault) = Err fault

-- what an IP packet has for TCP, itself or in a tunnel
unfoldable pub carried : ℕ → List ℕ → Result (Option Inside) PacketFault
carried original packet = inside_or original packet (tunnel_in packet)
