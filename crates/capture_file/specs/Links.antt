-- Where the IP packet stands in a packet of a link (the registry of LINKTYPE values; IEEE 802.3,
-- 802.1Q). The answer is how many bytes stand before it, or None for another protocol. It is a fault
-- for another link type, and where bytes of a header were not captured.
use Rattle.std.specs.Prelude.{ℕ, zero, suc, ◌+◌, Bool, ◌==◌, ◌||◌, nat_lt, if◌then◌else◌, List, length, Option, Some, None, Result, Ok, Err}
use Rattle.capture_file.specs.declared.numbers.Order.TheVariants.{Little, Big}
use Rattle.capture_file.specs.declared.fault.PacketFault.{PacketFault}
use Rattle.capture_file.specs.declared.fault.PacketFault.TheVariants.{Link, Cut}
use Rattle.capture_file.specs.Numbers.{ordered_number}

-- the EtherTypes of IPv4 and IPv6: 0800, 86dd
unfoldable pub is_ip : ℕ → Bool
is_ip kind = kind == 2048 || kind == 34525

-- the EtherTypes of VLAN tags: 8100, 88a8, 9100
unfoldable pub is_vlan_tag : ℕ → Bool
is_vlan_tag kind = kind == 33024 || (kind == 34984 || kind == 37120)

-- behind the EtherType at this place, if it is one of IP; if it is one of a tag, where the rest says
abbrev pub behind_kind : ℕ → List ℕ → Result (Option ℕ) PacketFault → Result (Option ℕ) PacketFault
behind_kind at packet follows =
    if nat_lt (length packet) (at + 2) then Err Cut
    else if is_ip (ordered_number Big 2 at packet) then Ok (Some (at + 2))
    else if is_vlan_tag (ordered_number Big 2 at packet) then follows
    else Ok None

-- behind the EtherType of IP, if it is one of the next so many; all before it are of tags, which have
-- four bytes each with their EtherType
unfoldable pub behind_tags : ℕ → ℕ → List ℕ → Result (Option ℕ) PacketFault
behind_tags zero at packet = Ok None
behind_tags (suc kinds) at packet = behind_kind at packet (behind_tags kinds (at + 4) packet)

-- behind a cooked header of Linux, of this length, with its EtherType at this place
abbrev pub behind_cooked : ℕ → ℕ → List ℕ → Result (Option ℕ) PacketFault
behind_cooked at header packet =
    if nat_lt (length packet) header then Err Cut
    else if is_ip (ordered_number Big 2 at packet) then Ok (Some header)
    else Ok None

-- the protocol family of a loopback header: its four bytes in little-endian order, or in the other
-- one if that makes more than 65,535
abbrev pub family : List ℕ → ℕ
family packet =
    if nat_lt 65535 (ordered_number Little 4 0 packet) then ordered_number Big 4 0 packet
    else ordered_number Little 4 0 packet

-- the protocol families of IPv4 (2) and IPv6 (24, 28, 30)
abbrev pub is_ip_family : ℕ → Bool
is_ip_family n = n == 2 || (n == 24 || (n == 28 || n == 30))

-- behind a loopback header
abbrev pub behind_family : List ℕ → Result (Option ℕ) PacketFault
behind_family packet =
    if nat_lt (length packet) 4 then Err Cut
    else if is_ip_family (family packet) then Ok (Some 4)
    else Ok None

-- The links that are read: Ethernet (1), where up to four tags stand between the addresses and the
-- EtherType; Linux's cooked headers of version 1 (113) and 2 (276); loopback (0, 108); raw IP
-- (101, 228, 229, and 12 and 14 as systems of BSD number it).
unfoldable pub network_at : ℕ → List ℕ → Result (Option ℕ) PacketFault
network_at link packet =
    if link == 1 then behind_tags 5 12 packet
    else if link == 113 then behind_cooked 14 16 packet
    else if link == 276 then behind_cooked 0 20 packet
    else if link == 0 || link == 108 then behind_family packet
    else if link == 101 || (link == 228 || (link == 229 || (link == 12 || link == 14))) then Ok (Some 0)
    else Err (Link link)
