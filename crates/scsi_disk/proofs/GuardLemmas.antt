-- Plans on a store that refuses writes.
use Rattle.std.proofs.Common.{◌≡◌, ◌∙◌, ℕ, Bool, true, false, ap, refl}
use Rattle.scsi_disk.specs.declared.deed.Deed.{Deed}
use Rattle.scsi_disk.specs.declared.order.Plan.{Plan}
use Rattle.scsi_disk.specs.declared.order.Plan.TheVariants.{Refuse, Take, Give}
use Rattle.scsi_disk.specs.Effect.{guarded}

gives : (protected : Bool) (deed : Deed) (n : ℕ) → guarded protected deed (Give n) ≡ Give n
gives true deed n = refl
gives false deed n = refl

-- a plan to give is the same
pub plan_stays : (protected : Bool) (deed : Deed) (plan : Plan) (n : ℕ) → plan ≡ Give n → guarded protected deed plan ≡ Give n
plan_stays protected deed plan n e = ap (guarded protected deed) e ∙ gives protected deed n

-- a plan that takes nothing takes nothing
pub takes_none : (protected : Bool) (deed : Deed) (plan : Plan) → ((n : ℕ) → plan ≡ Take n → ⊥) → (n : ℕ) → guarded protected deed plan ≡ Take n → ⊥
takes_none true deed (Refuse sense) none n e = none n e
takes_none true deed (Give k) none n e = none n e
takes_none true deed (Take k) none n e = absurd (none k refl)
takes_none false deed plan none n e = none n e
