-- What normalising one text writes.
use Rattle.std.specs.Prelude.{◌≡◌, ◌≤◌, ◌<◌, ℕ, List, [], length, take, Result, Ok, Err}
use Rattle.iscsi_text.specs.declared.fault.TextFault.{TextFault}
use Rattle.iscsi_text.specs.declared.fault.TextFault.TheVariants as text
use Rattle.iscsi_text.specs.Text.{Pairs, TextMeans}
use Rattle.iscsi_text.specs.Canonical.{canonical_text}
use Rattle.iscsi_text.specs.Fault.{IsFirstFault}
use Rattle.iscsi_stream.specs.declared.fault.ToolFault.{ToolFault}
use Rattle.iscsi_stream.specs.declared.fault.ToolFault.TheVariants as tool

-- a text's `NoMemory` is the tool's own
abbrev pub text_fault : TextFault → ToolFault
text_fault text.NoMemory = tool.NoMemory
text_fault (text.Unterminated at) = tool.Text (text.Unterminated at)
text_fault (text.NoEquals at) = tool.Text (text.NoEquals at)
text_fault (text.BadKey at) = tool.Text (text.BadKey at)
text_fault (text.Repeated at) = tool.Text (text.Repeated at)

-- the longest text that is read
abbrev pub longest_text : ℕ
longest_text = 16384

-- The bytes mean a map, of which this is the canonical text.
abbrev pub CanonicalOf : List ℕ → List ℕ → Type 0
CanonicalOf bytes canonical = (pairs : Pairs) × TextMeans bytes pairs
    × (canonical ≡ canonical_text pairs)

-- what normalise_text has read and written where it answers a fault
abbrev pub TextFails : ToolFault → List ℕ → List ℕ → Type 0
TextFails tool.NoMemory read written = written ≡ []
TextFails (tool.Stream fault) read written = ⊥
TextFails (tool.Text fault) read written = IsFirstFault read fault × (length read ≤ longest_text)
    × (written ≡ [])
TextFails tool.TextTooLong read written = (longest_text < length read) × (written ≡ [])
TextFails tool.Read read written = written ≡ []
TextFails tool.Write read written = (canonical : List ℕ) × (n : ℕ) × CanonicalOf read canonical
    × (length read ≤ longest_text) × (written ≡ take n canonical)
TextFails tool.NotHex read written = ⊥
TextFails (tool.Protocol rule) read written = ⊥

-- What normalise_text has read and written where it answers.
abbrev pub NormalisesText : Result (Unit {0}) ToolFault → List ℕ → List ℕ → Type 0
NormalisesText (Ok done) read written = CanonicalOf read written × (length read ≤ longest_text)
NormalisesText (Err fault) read written = TextFails fault read written

-- Where normalise_text answers Ok, a fault of the text or a failed write, it has read to the end.
abbrev pub TextAtEnd : Result (Unit {0}) ToolFault → Type 0 → Type 0
TextAtEnd (Ok done) Ended = Ended
TextAtEnd (Err (tool.Text fault)) Ended = Ended
TextAtEnd (Err tool.Write) Ended = Ended
TextAtEnd (Err fault) Ended = Unit {0}
