-- What a server says in a handshake, up to the last answer to GO, and what is judged by it ("Fixed
-- newstyle negotiation", "Option reply types").
use Rattle.std.specs.Prelude.{◌≡◌, ℕ, Bool, List, [], ◌∷◌, ◌++◌, length, Option, Some, None, Result, Ok, Err}
use Rattle.std.specs.Io.KnownBytes.{Consumes}
use Rattle.nbd_wire.specs.Handshake.{greeting_at, option_head_at, info_at}
use Rattle.nbd_wire.specs.declared.greeting.Greeting.{Greeting}
use Rattle.nbd_wire.specs.declared.information.BlockSizes.{BlockSizes}
use Rattle.nbd_wire.specs.declared.information.Export.{Export}
use Rattle.nbd_wire.specs.declared.information.Info.{Info}
use Rattle.nbd_wire.specs.declared.information.Info.TheVariants as info
use Rattle.nbd_wire.specs.declared.option.OptionHead.{OptionHead}
use Rattle.nbd_client.specs.declared.export.Opened.{Opened}
use Rattle.nbd_client.specs.declared.export.ExportFault.{ExportFault}
use Rattle.nbd_client.specs.declared.handshake.HandshakeFault.{HandshakeFault}
use Rattle.nbd_client.specs.declared.handshake.HandshakeFault.TheVariants as fault
use Rattle.nbd_client.specs.Judging.{export_judged}

-- An answer of this number and body says this: 3 is INFO, and 1 is ACK, the last answer.
abbrev pub MeansInfo : ℕ → List ℕ → Option Info → Type 0
MeansInfo number body None = number ≡ 1
MeansInfo number body (Some said) = (number ≡ 3) × (info_at body ≡ Ok said)

-- These bytes are an answer to GO, the option 7, that says this.
pub record IsAnswer (bytes : List ℕ) (said : Option Info) : Type 0 where
  pub front : List ℕ
  pub body : List ℕ
  pub whole : bytes ≡ front ++ body
  pub long : length front ≡ 20
  pub head : OptionHead
  pub reads : option_head_at front ≡ Ok head
  pub option : head.option ≡ 7
  pub size : length body ≡ head.length
  pub means : MeansInfo head.answer body said

-- These bytes are answers INFO that say this, the latest first.
abbrev pub InfosSay : List ℕ → List Info → Type 0
InfosSay bytes [] = bytes ≡ []
InfosSay bytes (said ∷ earlier) = (before : List ℕ) × (last : List ℕ)
    × (bytes ≡ before ++ last) × InfosSay before earlier × IsAnswer last (Some said)

-- the export that is known behind an answer: the last one counts
abbrev pub export_after : Info → Option Export → Option Export
export_after (info.Export export) before = Some export
export_after (info.BlockSizes sizes) before = before
export_after (info.Other kind) before = before

-- the sizes of requests that are known behind an answer
abbrev pub sizes_after : Info → BlockSizes → BlockSizes
sizes_after (info.Export export) before = before
sizes_after (info.BlockSizes sizes) before = sizes
sizes_after (info.Other kind) before = before

-- the export that answers say, the latest first
abbrev pub export_of : List Info → Option Export
export_of [] = None
export_of (said ∷ earlier) = export_after said (export_of earlier)

-- the sizes that they say; who says none takes requests of 1 byte to 32 MiB
abbrev pub sizes_of : List Info → BlockSizes
sizes_of [] = record { minimum = 1; preferred = 4096; maximum = 33554432 }
sizes_of (said ∷ earlier) = sizes_after said (sizes_of earlier)

-- These bytes are the answers to GO, which say this of the export.
pub record AreAnswers (bytes : List ℕ) (export : Export) (sizes : BlockSizes) : Type 0 where
  pub before : List ℕ
  pub last : List ℕ
  pub whole : bytes ≡ before ++ last
  pub infos : List Info
  pub say : InfosSay before infos
  pub ends : IsAnswer last None
  pub export_is : export_of infos ≡ Some export
  pub sizes_is : sizes_of infos ≡ sizes

-- A greeting was read, and the answers to GO. The export that they say is judged so, to be written or not.
pub record HandshakeJudges (written : Bool) (old new : Option (List ℕ)) (judgement : Result Opened ExportFault) : Type
    0 where
  pub greeting : List ℕ
  pub answers : List ℕ
  pub read : Consumes old new (greeting ++ answers)
  pub long : length greeting ≡ 18
  pub says : Greeting
  pub greets : greeting_at greeting ≡ Ok says
  pub export : Export
  pub sizes : BlockSizes
  pub are : AreAnswers answers export sizes
  pub judgement_is : judgement ≡ export_judged written export sizes

-- Why a handshake opens no export: a fault of the export is that of what was read.
abbrev pub HandshakeRefuses : Bool → Option (List ℕ) → Option (List ℕ) → HandshakeFault → Type 0
HandshakeRefuses written old new (fault.Export why) = HandshakeJudges written old new (Err why)
HandshakeRefuses written old new _ = Unit {0}

-- The fault is none of an export.
abbrev pub IsUnjudged : HandshakeFault → Type 0
IsUnjudged (fault.Export why) = ⊥
IsUnjudged _ = Unit {0}
