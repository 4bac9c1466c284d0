-- The steps of a loop: what they write, and what happens to the initiator.
use Rattle.iscsi_serving.specs.declared.fault.ServeFault.{ServeFault}
use Rattle.iscsi_serving.specs.declared.fault.ServeFault.TheVariants as serve

-- A fault that is neither end's.
abbrev pub BlamesNoEnd : ServeFault → Type 0
BlamesNoEnd (serve.Target fault) = ⊥
BlamesNoEnd (serve.Initiator fault) = ⊥
BlamesNoEnd serve.NoMemory = Unit {0}
BlamesNoEnd (serve.Script n) = Unit {0}
BlamesNoEnd serve.Network = Unit {0}
BlamesNoEnd serve.Read = Unit {0}
BlamesNoEnd serve.Write = Unit {0}
BlamesNoEnd serve.Sync = Unit {0}
BlamesNoEnd serve.NoRandom = Unit {0}
