-- What a client says in a handshake ("Fixed newstyle negotiation").
use Rattle.std.specs.Prelude.{ℕ, List, ◌++◌}
use Rattle.std.specs.Int.{to_be_bytes, w32}
use Rattle.nbd_wire.specs.Handshake.{go_bytes}

-- its flags, of which bit 0 is C_FIXED_NEWSTYLE, and the option GO
abbrev pub asked_first : List ℕ → List ℕ
asked_first name = to_be_bytes w32 1 ++ go_bytes name
