-- What is refused for what it lacks was read to its end.
use Rattle.std.proofs.Common.{inr, ℕ, List, [], Option, Result, Ok, Err, refl}
use Rattle.std.specs.Io.KnownBytes.{Appends, Consumes, IsAtEnd}
use Rattle.std.proofs.KnownBytes.{Appends-nil}
use Rattle.iscsi_stream.specs.declared.fault.StreamFault.TheVariants as stream
use Rattle.iscsi_stream.specs.declared.fault.ToolFault.{ToolFault}
use Rattle.iscsi_stream.specs.declared.fault.ToolFault.TheVariants as tool
use Rattle.iscsi_stream.specs.declared.counts.Counts.{Counts}
use Rattle.iscsi_stream.specs.Normalising.{AtEnd}
use Rattle.iscsi_filters.specs.declared.work.Content.{Content}
use Rattle.iscsi_filters.specs.Filters.{CutAtEnd, HexAtEnd, FilterOutcome, NormalisesHex}
use Rattle.iscsi_filters.specs.HexText.{HexTextFails, IsReadToFault}

pub stream_at_end : (fault : ToolFault) (Ended : Type 0) → (let r : Result Counts ToolFault = Err fault in AtEnd r Ended) → CutAtEnd (Err fault) Ended
stream_at_end tool.NoMemory Ended h = tt
stream_at_end (tool.Stream (stream.Head f p)) Ended h = tt
stream_at_end (tool.Stream (stream.OverLimit p)) Ended h = tt
stream_at_end (tool.Stream (stream.Truncated p)) Ended h = h
stream_at_end (tool.Stream stream.NoMemory) Ended h = tt
stream_at_end (tool.Stream stream.Failed) Ended h = tt
stream_at_end (tool.Text f) Ended h = tt
stream_at_end tool.TextTooLong Ended h = tt
stream_at_end tool.Read Ended h = tt
stream_at_end tool.Write Ended h = tt
stream_at_end tool.NotHex Ended h = tt
stream_at_end (tool.Protocol rule) Ended h = tt

-- hex text that was not taken
pub hex_refused : (fault : ToolFault) (read : List ℕ) (before after : Option (List ℕ)) → Consumes before after read → HexTextFails fault read
    → IsReadToFault fault read after → HexAtEnd (Err fault) before after
hex_refused tool.NoMemory read before after c h is = tt
hex_refused (tool.Stream f) read before after c h is = absurd h
hex_refused (tool.Text f) read before after c h is = absurd h
hex_refused tool.TextTooLong read before after c h is = absurd h
hex_refused tool.Read read before after c h is = tt
hex_refused tool.Write read before after c h is = absurd h
hex_refused tool.NotHex read before after c h is = (read, c, is)
hex_refused (tool.Protocol rule) read before after c h is = absurd h

-- hex text that was not taken, of which nothing is written
pub hex_unread : (content : Content) (fault : ToolFault) (read : List ℕ) (before after held : Option (List ℕ)) → Consumes before after read
    → HexTextFails fault read → (x : List ℕ) × (written : List ℕ) × Consumes before after x × Appends held held written
    × NormalisesHex content (Err fault) x written
hex_unread content tool.NoMemory read before after held c h = (read, [], c, Appends-nil held, refl)
hex_unread content (tool.Stream f) read before after held c h = absurd h
hex_unread content (tool.Text f) read before after held c h = absurd h
hex_unread content tool.TextTooLong read before after held c h = absurd h
hex_unread content tool.Read read before after held c h = (read, [], c, Appends-nil held, refl)
hex_unread content tool.Write read before after held c h = absurd h
hex_unread content tool.NotHex read before after held c h = (read, [], c, Appends-nil held, (h, refl))
hex_unread content (tool.Protocol rule) read before after held c h = absurd h

-- hex text that was read to its end
pub hex_read : (outcome : FilterOutcome) (read : List ℕ) (before after : Option (List ℕ)) → Consumes before after read → IsAtEnd after
    → HexAtEnd outcome before after
hex_read (Ok done) read before after c end = tt
hex_read (Err tool.NoMemory) read before after c end = tt
hex_read (Err (tool.Stream f)) read before after c end = end
hex_read (Err (tool.Text f)) read before after c end = end
hex_read (Err tool.TextTooLong) read before after c end = end
hex_read (Err tool.Read) read before after c end = tt
hex_read (Err tool.Write) read before after c end = tt
hex_read (Err tool.NotHex) read before after c end = (read, c, inr end)
hex_read (Err (tool.Protocol rule)) read before after c end = end
