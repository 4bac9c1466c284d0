use Rattle.std.proofs.Common.{◌≡◌, ◌⊎◌, ◌++◌, ◌∷◌, [], ◌∙◌, false, List, Option, length, map, refl, sym, ap, subst, arith, inl, inr}
use Rattle.std.proofs.lemmas.Iterator.Consumers.{YieldsList-end}
use Rattle.std.proofs.lemmas.Iterator.Adapters.{YieldsList-from_vec}
use Rattle.iscsi_initiator.specs.declared.request.Done.{Done}
use Rattle.iscsi_initiator.specs.Laws.{listed}
use Rattle.iscsi_pair.specs.declared.step.Step.{Step}
use Rattle.iscsi_pair.specs.declared.step.RunFault.{RunFault}
use Rattle.iscsi_pair.specs.declared.step.RunFault.TheVariants as faults
use Rattle.iscsi_pair.specs.World.{World, PairRuns, keeps_no_memory}
use Rattle.iscsi_pair.specs.Outcomes.{IsIdle, step_events}
use Rattle.iscsi_pair.proofs.Run.RestLemmas.{gives_runs}
use Rattle.iscsi_pair.proofs.Run.GivingLemmas.{HasGiven, given_none, given_more}
use Rattle.iscsi_pair.proofs.pair.outcomes_behind.Goals as goal

map_same : {A : Type 0} (xs : List A) → map (λ x. x) xs ≡ xs
map_same [] = refl
map_same (x ∷ xs) = ap (λ ys. x ∷ ys) (map_same xs)

pub loop-step-init : goal.loop-step-init
loop-step-init c = rw c.new-outcomes.ensures.items (given_none c.args.pair.now)

pub loop-step-preserved : goal.loop-step-preserved
loop-step-preserved c =
    let first : World = c.args.pair.now in
    let outcomes : List Done = c.loop-step.outcomes.items in
    let more = given_more first c.loop-step.yielded c.in-Some.step c.loop-step.pair c.step.new.self c.outcome-outcome.new.self outcomes c.loop-step.invariant
    c.step.ensures c.outcome-outcome.ensures.taken in
    subst (λ (x : List Done). HasGiven first (c.loop-step.yielded ++ c.in-Some.step ∷ []) c.outcome-outcome.new.self x)
    (sym (c.in-Ok.ensures.ok ∙ ap (λ (d : Option Done). outcomes ++ listed d) c.outcome-outcome.ensures.outcome)) more

-- what the steps gave, once all were taken
all_given : (first : World) (steps yielded : List Step) (w : World) (outcomes : List Done) → map (λ x. x) yielded ≡ steps
    → HasGiven first yielded w outcomes → HasGiven first steps w outcomes
all_given first steps yielded w outcomes end given =
    subst (λ (x : List Step). HasGiven first x w outcomes) (sym (map_same yielded) ∙ end) given

-- a fault behind steps that were taken
behind : (first : World) (steps : List Step) (w : World) (outcomes : List Done) (fault : RunFault) → HasGiven first steps w outcomes
    → (fault ≡ faults.NoMemory) ⊎ ((keeps_no_memory w ≡ false) × (IsIdle w → ⊥))
    → (fault ≡ faults.NoMemory) ⊎ (PairRuns first (step_events steps) w × (keeps_no_memory w ≡ false) × (IsIdle w → ⊥))
behind first steps w outcomes fault given (inl e) = inl e
behind first steps w outcomes fault given (inr e) = inr (gives_runs first (step_events steps) w outcomes given.gives, e.0, e.1)

pub returns-in-Ok-at_rest : goal.returns-in-Ok-at_rest
returns-in-Ok-at_rest c =
    let gives = c.into_iter-step-iterator.ensures.into_iter_gives in
    let list = YieldsList-from_vec c.args.steps.items gives.0 (omega (arith, gives.1, ap length gives.0, c.args.steps.ok.0)) in
    let end = YieldsList-end list c.loop-step.yielded c.loop-step.step-iterator c.loop-step.yielded_by c.next.result c.next.new.self c.in-None.is
    c.next.ensures.steps in
    let given = all_given c.args.pair.now c.args.steps.items c.loop-step.yielded c.loop-step.pair c.loop-step.outcomes.items end.0 c.loop-step.invariant in
    record { gives = given.gives; none_left = given.none_left; idle = c.in-Ok-at_rest.ensures.ok; err = tt }

pub returns-in-Err-clause-err : goal.returns-in-Err-clause-err
returns-in-Err-clause-err c =
    let gives = c.into_iter-step-iterator.ensures.into_iter_gives in
    let list = YieldsList-from_vec c.args.steps.items gives.0 (omega (arith, gives.1, ap length gives.0, c.args.steps.ok.0)) in
    let end = YieldsList-end list c.loop-step.yielded c.loop-step.step-iterator c.loop-step.yielded_by c.next.result c.next.new.self c.in-None.is
    c.next.ensures.steps in
    let given = all_given c.args.pair.now c.args.steps.items c.loop-step.yielded c.loop-step.pair c.loop-step.outcomes.items end.0 c.loop-step.invariant in
    behind c.args.pair.now c.args.steps.items c.loop-step.pair c.loop-step.outcomes.items c.in-Err.fault given c.in-Err.ensures.err
