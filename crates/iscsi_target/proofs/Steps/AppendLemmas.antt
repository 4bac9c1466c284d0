-- Messages in two parts.
use Rattle.std.proofs.Common.{Bool, ◌≡◌, List, [], ◌∷◌, ◌++◌, Option, Some, None, ℕ, refl, sym, ap, ◌∙◌, append_assoc, subst}
use Rattle.scsi_disk.specs.Disk.{Disk}
use Rattle.iscsi_stream.specs.Stream.{Message}
use Rattle.iscsi_target.specs.State.{Machine, TargetStep}
use Rattle.iscsi_target.specs.Machine.{target_step, answers, then_stepped, first_rule, MayAnswer}

rule_assoc : (a b c : Option ℕ) → first_rule (first_rule a b) c ≡ first_rule a (first_rule b c)
rule_assoc None b c = refl
rule_assoc (Some rule) b c = refl

pub then_assoc : (a b c : TargetStep) → then_stepped (then_stepped a b) c ≡ then_stepped a (then_stepped b c)
then_assoc a b c = λ i. record {
  machine = c.machine;
  disk = c.disk;
  answers = append_assoc a.answers b.answers c.answers i;
  rule = rule_assoc a.rule b.rule c.rule i;
  accepted = append_assoc a.accepted b.accepted c.accepted i;
  executed = append_assoc a.executed b.executed c.executed i;
}

pub answers_append : (protected : Bool) (s : Machine) (disk : Disk) (ms more : List Message)
    → answers protected s disk (ms ++ more) ≡ then_stepped (answers protected s disk ms)
    (answers protected (answers protected s disk ms).machine (answers protected s disk ms).disk more)
unfolding answers
answers_append protected s disk [] more = refl
answers_append protected s disk (m ∷ ms) more =
    let first : TargetStep = target_step protected s disk m in
    let later : TargetStep = answers protected first.machine first.disk ms in
    ap (λ (r : TargetStep). then_stepped first r) (answers_append protected first.machine first.disk ms more)
    ∙ sym (then_assoc first later (answers protected later.machine later.disk more))

pub may_append : (protected : Bool) (s : Machine) (disk : Disk) (before now after : ℕ) (ms more : List Message) (a b : TargetStep)
    → MayAnswer protected s disk before ms a now → MayAnswer protected a.machine a.disk now more b after
    → MayAnswer protected s disk before (ms ++ more) (then_stepped a b) after
unfolding MayAnswer
may_append protected s disk before now after [] more a b e f =
    subst (λ (n : ℕ). MayAnswer protected s disk n more (then_stepped a b) after) e.1
    (subst (λ (x : TargetStep). MayAnswer protected s disk now more (then_stepped x b) after) (sym e.0)
    (subst (λ (x : TargetStep). MayAnswer protected x.machine x.disk now more b after) e.0 f))
may_append protected s disk before now after (m ∷ ms) more a b e f = (
  e.0,
  then_stepped e.1 b,
  e.2,
  e.3,
  may_append protected e.0.machine e.0.disk e.2 now after ms more e.1 b e.4
      (subst (λ (x : TargetStep). MayAnswer protected x.machine x.disk now more b after) e.5 f),
  ap (λ (x : TargetStep). then_stepped x b) e.5 ∙ then_assoc e.0 e.1 b,
)
