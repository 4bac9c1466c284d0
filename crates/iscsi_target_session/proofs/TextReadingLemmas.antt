-- Texts as functions of their bytes.
use Rattle.std.proofs.Common.{◌≡◌, Bool, Option, Some, None, refl, sym, ap, ◌∙◌}
use Rattle.std.specs.Prelude.{is_some}
use Rattle.std.specs.Option.{option_map}
use Rattle.iscsi_text.specs.declared.value.Value.{Value}
use Rattle.iscsi_text.specs.Value.{Typed, typed}

some_typed : (r : Option Value) → is_some (option_map typed r) ≡ is_some r
some_typed None = refl
some_typed (Some v) = refl

pub is_there : (r : Option Value) (v : Option Typed) (b : Bool) → option_map typed r ≡ v → is_some v ≡ b → is_some r ≡ b
is_there r v b e f = sym (some_typed r) ∙ ap is_some e ∙ f
