-- More of `Heard`, of which no public contract speaks.
use Rattle.std.specs.Prelude.{ℕ, List, Option}
use Rattle.std.specs.Io.KnownBytes.{Consumes}
use Rattle.nbd_wire.specs.declared.information.BlockSizes.{BlockSizes}
use Rattle.nbd_wire.specs.declared.information.Export.{Export}
use Rattle.nbd_wire.specs.declared.information.Info.{Info}
use Rattle.nbd_client.specs.Heard.{IsAnswer, AreAnswers}

-- An answer to GO was read that says this.
pub record GoAnswerSays (old new : Option (List ℕ)) (said : Option Info) : Type 0 where
  pub bytes : List ℕ
  pub read : Consumes old new bytes
  pub is : IsAnswer bytes said

-- Answers to GO were read that say this of the export.
pub record GoAnswersSay (old new : Option (List ℕ)) (export : Export) (sizes : BlockSizes) : Type 0 where
  pub bytes : List ℕ
  pub read : Consumes old new bytes
  pub are : AreAnswers bytes export sizes
