-- The data of PERSISTENT RESERVE IN (SPC-4, sections 6.15 and 7.6.4.6).
use Rattle.std.specs.Prelude.{ℕ, ◌+◌, ◌-◌, ◌*◌, ◌/◌, ◌%◌, nat_lt, Bool, true, false, ◌==◌, if◌then◌else◌, List, [], ◌∷◌, ◌++◌, length, replicate, Option, None, Some, codes}
use Rattle.std.specs.Int.{to_be_bytes, w16, w32, w64}
use Rattle.hex.specs.Hex.{encode_lower}
use Rattle.scsi_reservations.specs.declared.report.Report.{Report}
use Rattle.scsi_reservations.specs.declared.report.Report.TheVariants as reports
use Rattle.scsi_reservations.specs.Reservations.{Nexus, Registration, Holding, Reservations, is_holder, is_nexus, is_of_all, type_code}

-- A length in four bytes, and in two: the highest number where it is longer.
abbrev pub length32 : ℕ → List ℕ
length32 n = to_be_bytes w32 (if nat_lt n 0x100000000 then n else 0xffffffff)

abbrev pub length16 : ℕ → List ℕ
length16 n = to_be_bytes w16 (if nat_lt n 0x10000 then n else 0xffff)

-- ---- READ KEYS

-- The keys, in the order of the registrations.
abbrev pub keys_of : List Registration → List ℕ
keys_of [] = []
keys_of (g ∷ gs) = to_be_bytes w64 g.key ++ keys_of gs

abbrev pub keys_data : Reservations → List ℕ
keys_data r = to_be_bytes w32 r.generation ++ length32 (8 * length r.registrations) ++ keys_of r.registrations

-- ---- READ RESERVATION

-- The key of a port, or 0 where it has none.
abbrev pub key_of : List Registration → Nexus → ℕ
key_of [] n = 0
key_of (g ∷ gs) n = if is_nexus g.nexus n then g.key else key_of gs n

-- The reservation: its holder's key, or 0 where all hold it, and its type, with the scope of a logical unit.
abbrev pub held_data : List Registration → Option Holding → List ℕ
held_data list None = 0x00 ∷ 0x00 ∷ 0x00 ∷ 0x00 ∷ []
held_data list (Some h) =
    0x00 ∷ 0x00 ∷ 0x00 ∷ 0x10 ∷ to_be_bytes w64 (if is_of_all h.kind then 0 else key_of list h.holder)
    ++ 0x00 ∷ 0x00 ∷ 0x00 ∷ 0x00 ∷ 0x00 ∷ type_code h.kind ∷ 0x00 ∷ 0x00 ∷ []

abbrev pub reservation_data : Reservations → List ℕ
reservation_data r = to_be_bytes w32 r.generation ++ held_data r.registrations r.held

-- ---- REPORT CAPABILITIES

-- Registrations for all ports (ATP_C), and ones that last (PTPL_C) where they can; that the types are told
-- (TMV), and whether registrations last now (PTPL_A); the six types.
abbrev pub capabilities_data : Bool → Bool → List ℕ
capabilities_data can_last lasts =
    0x00 ∷ 0x08 ∷ (if can_last then 0x05 else 0x04) ∷ (if lasts then 0x81 else 0x80) ∷ 0xea ∷ 0x01 ∷ 0x00 ∷ 0x00 ∷ []

-- ---- READ FULL STATUS

-- What is lacking to a multiple of four bytes, and to 20.
abbrev pub id_filling : ℕ → ℕ
id_filling n = if nat_lt n 20 then 20 - n else (4 - n % 4) % 4

-- The name and the ISID of a port as text, closed by a zero byte (RFC 7143, section 4.2.7; SPC-4).
abbrev pub port_text : Nexus → List ℕ
port_text n = n.name ++ codes ",i,0x" ++ encode_lower n.isid ++ 0x00 ∷ []

-- The text, filled with zero bytes.
abbrev pub padded_text : Nexus → List ℕ
padded_text n = port_text n ++ replicate (id_filling (length (port_text n))) 0x00

-- The TransportID of a port (SPC-4, section 7.6.4.6): iSCSI, with the ISID.
abbrev pub transport_id : Nexus → List ℕ
transport_id n = 0x45 ∷ 0x00 ∷ length16 (length (padded_text n)) ++ padded_text n

-- Whether the port holds the reservation (R_HOLDER), and its type.
abbrev pub holding_data : List Registration → Option Holding → Nexus → List ℕ
holding_data list None n = 0x00 ∷ 0x00 ∷ []
holding_data list (Some h) n = if is_holder list h n then 0x01 ∷ type_code h.kind ∷ [] else 0x00 ∷ 0x00 ∷ []

-- A registration: its key, what its port holds, the one port of the target, and its own port.
abbrev pub status_of : List Registration → Option Holding → Registration → List ℕ
status_of list held g =
    to_be_bytes w64 g.key ++ 0x00 ∷ 0x00 ∷ 0x00 ∷ 0x00 ∷ holding_data list held g.nexus
    ++ 0x00 ∷ 0x00 ∷ 0x00 ∷ 0x00 ∷ 0x00 ∷ 0x01 ∷ length32 (length (transport_id g.nexus)) ++ transport_id g.nexus

-- These registrations, with what is held among all of them.
abbrev pub statuses_of : List Registration → Option Holding → List Registration → List ℕ
statuses_of list held [] = []
statuses_of list held (g ∷ gs) = status_of list held g ++ statuses_of list held gs

abbrev pub full_status_data : Reservations → List ℕ
full_status_data r =
    to_be_bytes w32 r.generation ++ length32 (length (statuses_of r.registrations r.held r.registrations))
    ++ statuses_of r.registrations r.held r.registrations

-- ---- all four

abbrev pub report_data : Reservations → Bool → Report → List ℕ
report_data r can_last reports.Keys = keys_data r
report_data r can_last reports.Reservation = reservation_data r
report_data r can_last reports.Capabilities = capabilities_data can_last r.lasts
report_data r can_last reports.FullStatus = full_status_data r
