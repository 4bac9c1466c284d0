-- Cases of a test and of a result.
use Rattle.std.proofs.Common.{◌≡◌, Bool, true, false, refl}
use Rattle.std.specs.Prelude.{Result, Ok, Err, IfOk}

pub by_cases : {A : Type 0} (b : Bool) → (b ≡ true → A) → (b ≡ false → A) → A
by_cases true yes_ no_ = yes_ refl
by_cases false yes_ no_ = no_ refl

pub by_ok : {E A : Type 0} (P Q : A → Type 0) (result : Result A E) → ((x : A) → P x → Q x) → IfOk result P → IfOk result Q
by_ok P Q (Ok x) step h = step x h
by_ok P Q (Err e) step h = tt
