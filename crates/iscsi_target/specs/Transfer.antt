-- The data of a write: immediate, unsolicited, and asked for by R2Ts (RFC 7143, sections 4.2.5.2,
-- 11.7 and 11.8).
use Rattle.std.specs.Prelude.{ℕ, ◌+◌, ◌-◌, Bool, true, false, not, ◌==◌, ◌&&◌, ◌||◌, nat_lt, min, if◌then◌else◌, List, [], ◌∷◌, ◌++◌, length, Option, Some, None}
use Rattle.iscsi_text.specs.Reading.{is_empty}
use Rattle.iscsi_pdu.specs.declared.head.data_out.DataOut.{DataOut}
use Rattle.iscsi_login.specs.Held.{Held, max_burst}
use Rattle.iscsi_target.specs.Write.{Write}
use Rattle.iscsi_stream.specs.Pieces.{Pieces, piece_data}
use Rattle.iscsi_pdu.specs.Serial.{next_sn}
use Rattle.iscsi_pdu.specs.Fields.{reserved_tag}
use Rattle.iscsi_target.specs.declared.due.Due.{Due}
use Rattle.iscsi_target.specs.declared.due.Due.TheVariants.{Nothing, Unsolicited, Solicited}

-- How many bytes of a write came (section 11.7.5).
abbrev pub bytes_received : Write → ℕ
bytes_received w = length (piece_data w.pieces)

-- A piece behind the others; one of no bytes is left out (section 11.7.5).
abbrev pub with_piece : Pieces → ℕ → List ℕ → Pieces
with_piece pieces offset bytes =
    if is_empty bytes then pieces else pieces ++ (offset, bytes) ∷ []

-- All bytes of the write are there (section 11.7).
abbrev pub is_whole_write : Write → Bool
is_whole_write w = w.total == bytes_received w

-- ---- a Data-Out

-- Where the unsolicited bytes end at the latest, if n may come unasked (section 13.14).
abbrev pub unsolicited_end : ℕ → Write → ℕ
unsolicited_end first_burst w = min w.total first_burst

-- The bytes stay before the end, or the last PDU of the sequence reaches it (section 11.7.1).
abbrev pub is_unsolicited_piece : ℕ → ℕ → Bool → Bool
is_unsolicited_piece reached end is_final = nat_lt reached end || (reached == end && is_final)

-- The bytes stay before the end, and the last PDU of the sequence reaches it (section 11.7.1).
abbrev pub is_solicited_piece : ℕ → ℕ → Bool → Bool
is_solicited_piece reached end is_final =
    (nat_lt reached end && not is_final) || (reached == end && is_final)

-- The Data-Out has the next DataSN, and begins where the bytes before it end (sections 11.7.4 and
-- 11.7.5).
abbrev pub is_next_data_out : Write → DataOut → ℕ → Bool
is_next_data_out w h data_sn = h.data_sn == data_sn && h.buffer_offset == bytes_received w

-- The Data-Out is one of the sequence that is due, if `first_burst` bytes may come unasked, and with
-- it `reached` have come. LUN and ExpStatSN aren't looked at (sections 11.7 and 11.8; own rule).
abbrev pub is_in_sequence : ℕ → Write → DataOut → ℕ → Due → Bool
is_in_sequence first_burst w h reached Nothing = false
is_in_sequence first_burst w h reached (Unsolicited data_sn) =
    is_next_data_out w h data_sn
    && (h.target_transfer_tag == reserved_tag
    && is_unsolicited_piece reached (unsolicited_end first_burst w) h.is_final)
is_in_sequence first_burst w h reached (Solicited tag data_sn end) =
    is_next_data_out w h data_sn
    && (h.target_transfer_tag == tag && is_solicited_piece reached end h.is_final)

-- What is due after a Data-Out that isn't the last of its sequence; DataSN counts round (section
-- 11.7.4; own rule).
abbrev pub continued : Due → Due
continued Nothing = Nothing
continued (Unsolicited data_sn) = Unsolicited (next_sn data_sn)
continued (Solicited tag data_sn end) = Solicited tag (next_sn data_sn) end

-- The write with the bytes of a Data-Out, at the Buffer Offset that came (section 11.7.5).
abbrev pub with_data : Write → DataOut → List ℕ → Write
with_data w h bytes = record w {
  pieces = with_piece w.pieces h.buffer_offset bytes;
  due = if h.is_final then Nothing else continued w.due;
}

-- The write with a Data-Out that is due; none where it isn't (section 11.7).
abbrev pub data_out_taken : ℕ → Write → DataOut → List ℕ → Option Write
data_out_taken first_burst w h bytes =
    if is_in_sequence first_burst w h (bytes_received w + length bytes) w.due
    then Some (with_data w h bytes)
    else None

-- ---- R2Ts

-- Nothing is due: an R2T is sent next (section 11.8).
abbrev pub is_nothing_due : Due → Bool
is_nothing_due Nothing = true
is_nothing_due (Unsolicited data_sn) = false
is_nothing_due (Solicited tag data_sn end) = false

-- How many bytes the next R2T asks for: a burst, or the rest (section 11.8.4).
abbrev pub desired : Held → Write → ℕ
desired held w = min (w.total - bytes_received w) (max_burst held)

-- The write once an R2T was sent: its sequence is due (section 11.8).
abbrev pub with_r2t : Held → Write → Write
with_r2t held w = record w {
  due = Solicited w.r2t_count 0 (bytes_received w + desired held w);
  r2t_count = w.r2t_count + 1;
}

-- ---- a write as a program keeps it

-- The write with its bytes as one piece: where one ended and the next began, no step looks at.
abbrev pub joined_write : Write → Write
joined_write w = record w { pieces = with_piece [] 0 (piece_data w.pieces) }
