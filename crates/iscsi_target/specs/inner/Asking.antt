-- More of `Asking`, of which no public contract speaks.
use Rattle.std.specs.Prelude.{◌≡◌, ℕ, true, false, List}
use Rattle.iscsi_pdu.specs.declared.head.Head.{Head}
use Rattle.iscsi_pdu.specs.Meaning.{Means}
use Rattle.iscsi_stream.specs.Framing.{Framing, FramerTakes, is_ready}
use Rattle.iscsi_target.specs.State.{Machine}
use Rattle.iscsi_target.specs.Asking.{machine_asks}

-- ---- which commands may be executed next

-- No command that may be executed for the PDU that is ready asks so.
abbrev pub NoneReadyAsks : Machine → Framing → Type 0
NoneReadyAsks s framing =
    (head : Head) (segment : List ℕ) → is_ready framing ≡ true → Means framing.held head segment
    → machine_asks s head ≡ false

-- The same of the PDU that the first n bytes of a piece complete.
abbrev pub NoneNextAsks : Machine → Framing → List ℕ → ℕ → Type 0
NoneNextAsks s old piece n =
    (framing : Framing) → FramerTakes old piece n framing → NoneReadyAsks s framing
