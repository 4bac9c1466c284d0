-- One message more, also over a store that may fail.
use Rattle.std.proofs.Common.{Bool, ◌≡◌, ℕ, List, [], ◌∷◌, ◌++◌, refl, sym, ap, ◌∙◌}
use Rattle.scsi_disk.specs.Disk.{Disk}
use Rattle.iscsi_stream.specs.Stream.{Message}
use Rattle.iscsi_target.specs.State.{Machine, TargetStep, unchanged}
use Rattle.iscsi_target.specs.State.{writes_joined}
use Rattle.iscsi_target.specs.Machine.{target_step, step_on, answers, then_stepped, MayStep, MayAnswer}
use Rattle.iscsi_target.specs.Laws.{joined_stepped}
use Rattle.iscsi_target.proofs.Writes.JoiningLemmas.{step_joined}
use Rattle.iscsi_target.proofs.Steps.AppendLemmas.{answers_append, may_append}
use Rattle.iscsi_target.proofs.Turns.ServingLemmas.{runs_as}
use Rattle.iscsi_target.proofs.Steps.TurnLemmas.{then_nothing}

-- one message more
pub answers_more : (protected : Bool) (s : Machine) (disk : Disk) (ms : List Message) (m : Message)
    → answers protected s disk (ms ++ m ∷ []) ≡ then_stepped (answers protected s disk ms)
    (target_step protected (answers protected s disk ms).machine (answers protected s disk ms).disk m)
unfolding answers
answers_more protected s disk ms m =
    answers_append protected s disk ms (m ∷ [])
    ∙ ap (λ (r : TargetStep). then_stepped (answers protected s disk ms) r)
    (then_nothing (target_step protected (answers protected s disk ms).machine (answers protected s disk ms).disk m))

-- one message more, over a store that may fail
pub may_more : (protected : Bool) (s : Machine) (disk : Disk) (before now after : ℕ) (ms : List Message) (r : TargetStep) (m : Message) (b : TargetStep) →
    MayAnswer protected s disk before ms r now
    → MayStep protected r.machine r.disk now m b after → MayAnswer protected s disk before (ms ++ m ∷ []) (then_stepped r b) after
unfolding MayAnswer
may_more protected s disk before now after ms r m b e f =
    may_append protected s disk before now after ms (m ∷ []) r b e (b, unchanged b.machine b.disk, after, f, (refl, refl), sym (then_nothing b))

-- a step from a session whose pieces are joined is one from the session itself
pub may_apart : (protected : Bool) (s : Machine) (disk : Disk) (before after : ℕ) (m : Message) (a : TargetStep)
    → (p : MayStep protected (writes_joined s) disk before m a after) →
    MayStep protected s disk before m (step_on p.device s disk m) after
may_apart protected s disk before after m a p =
    let b : TargetStep = step_on p.device s disk m in
    record { device = p.device; is = refl; runs = runs_as protected p.device before after a b (ap joined_stepped p.is ∙ step_joined p.device s disk m) p.runs }

pub may_same : (protected : Bool) (s : Machine) (disk : Disk) (before after : ℕ) (m : Message) (a : TargetStep)
    → (p : MayStep protected (writes_joined s) disk before m a after) → joined_stepped a
    ≡ joined_stepped (step_on p.device s disk m)
may_same protected s disk before after m a p = ap joined_stepped p.is ∙ step_joined p.device s disk m
