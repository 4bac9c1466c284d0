-- What is written of a stream whose PDUs are shown in a form.
use Rattle.std.specs.Prelude.{ℕ, true, false, Bool, List, Result, OnOk}
use Rattle.iscsi_explain.specs.declared.form.Form.{Form}
use Rattle.iscsi_explain.specs.Showing.{AreEntries}
use Rattle.iscsi_stream.specs.declared.fault.ToolFault.{ToolFault}
use Rattle.iscsi_stream.specs.Stream.{Message, StreamMeans}
use Rattle.iscsi_words.specs.declared.telling.Telling.{Telling}

-- An entry for each PDU of what was read is written, if all of it was read; of hex text nothing is
-- stated.
abbrev pub TellsInForm : Form → Bool → Result (Unit {0}) ToolFault → List ℕ → List ℕ → Type 0
TellsInForm form true ends read written = Unit {0}
TellsInForm form false ends read written =
    OnOk ends ((ms : List Message) × StreamMeans read ms × AreEntries form ms written)

-- the same as it was asked
abbrev pub TellingOutput : Telling → Result (Unit {0}) ToolFault → List ℕ → List ℕ → Type 0
TellingOutput telling ends read written = TellsInForm telling.form telling.hex ends read written
