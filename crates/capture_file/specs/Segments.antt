-- TCP segments (RFC 9293, section 3.1), and the segment of a packet of a link.
use Rattle.std.specs.Prelude.{ℕ, ◌-◌, ◌*◌, ◌/◌, Bool, not, ◌==◌, ◌||◌, nat_lt, bit_and, if◌then◌else◌, List, length, drop, slice_index, Option, Some, None, Result, Ok, Err}
use Rattle.capture_file.specs.declared.numbers.Order.TheVariants.{Big}
use Rattle.capture_file.specs.declared.network.Endpoint.{Endpoint}
use Rattle.capture_file.specs.declared.packet.Packet.{Packet}
use Rattle.capture_file.specs.declared.segment.Segment.{Segment}
use Rattle.capture_file.specs.declared.fault.PacketFault.{PacketFault}
use Rattle.capture_file.specs.declared.fault.PacketFault.TheVariants.{Cut}
use Rattle.capture_file.specs.Numbers.{ordered_number}
use Rattle.capture_file.specs.Layers.{onward}
use Rattle.capture_file.specs.Links.{network_at}
use Rattle.capture_file.specs.Internet.{Inside}
use Rattle.capture_file.specs.Tunnels.{carried}

-- A segment: its ends, the number of its first byte, the number of the byte that is awaited, four
-- flags, the bytes that were captured, and how many were not.
pub record Tcp : Type 0 where
  pub source : Endpoint
  pub destination : Endpoint
  pub sequence : ℕ
  pub acknowledged : ℕ
  pub syn : Bool
  pub ack : Bool
  pub fin : Bool
  pub reset : Bool
  pub bytes : List ℕ
  pub missing : ℕ

-- what a caller gets of it, with bytes in place of a slice
abbrev pub tcp_of : Segment → Tcp
tcp_of s = record {
  source = s.source;
  destination = s.destination;
  sequence = s.sequence;
  acknowledged = s.acknowledged;
  syn = s.syn;
  ack = s.ack;
  fin = s.fin;
  reset = s.reset;
  bytes = s.bytes.now;
  missing = s.missing;
}

-- what a call answers
abbrev pub plain_segment : Result (Option Segment) PacketFault → Result (Option Tcp) PacketFault
plain_segment (Ok (Some s)) = Ok (Some (tcp_of s))
plain_segment (Ok None) = Ok None
plain_segment (Err fault) = Err fault

-- the length of the header: words of four bytes
abbrev pub header_tcp : List ℕ → ℕ
header_tcp bytes = slice_index bytes 12 / 16 * 4

-- a flag: FIN is 1, SYN 2, RST 4, ACK 16
abbrev pub flag : ℕ → List ℕ → Bool
flag bit bytes = not (bit_and (slice_index bytes 13) bit == 0)

-- the segment in what an IP packet has for TCP
unfoldable pub tcp_segment : Inside → Result (Option Tcp) PacketFault
tcp_segment c =
    if nat_lt (length c.bytes) 20 then (if nat_lt c.size 20 then Ok None else Err Cut)
    else if nat_lt (header_tcp c.bytes) 20 || nat_lt c.size (header_tcp c.bytes) then Ok None
    else if nat_lt (length c.bytes) (header_tcp c.bytes) then Err Cut
    else Ok (Some (record {
      source = record { address = c.source; port = ordered_number Big 2 0 c.bytes };
      destination = record { address = c.destination; port = ordered_number Big 2 2 c.bytes };
      sequence = ordered_number Big 4 4 c.bytes;
      acknowledged = ordered_number Big 4 8 c.bytes;
      syn = flag 2 c.bytes;
      ack = flag 16 c.bytes;
      fin = flag 1 c.bytes;
      reset = flag 4 c.bytes;
      bytes = drop (header_tcp c.bytes) c.bytes;
      missing = c.size - length c.bytes;
    }))

-- the segment of an IP packet that stands behind so many bytes
abbrev pub segment_behind : Packet → ℕ → Result (Option Tcp) PacketFault
segment_behind packet before =
    if nat_lt (length packet.bytes.now) before || nat_lt packet.original before then Err Cut
    else onward tcp_segment (carried (packet.original - before) (drop before packet.bytes.now))

-- The segment of a packet. The answer is None if the packet has another protocol, or if no receiver
-- takes it. It is a fault for another link type, for a fragment, and for headers that were not captured.
unfoldable pub segment_in : Packet → Result (Option Tcp) PacketFault
segment_in packet = onward (segment_behind packet) (network_at packet.link packet.bytes.now)
