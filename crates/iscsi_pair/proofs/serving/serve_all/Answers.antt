use Rattle.std.proofs.Common.{◌≡◌, ◌++◌, ◌∷◌, [], ◌∙◌, List, Option, length, sym, ap, subst, arith}
use Rattle.std.proofs.lemmas.Result.{err_from_is_err_and}
use Rattle.std.proofs.lemmas.Iterator.Consumers.{YieldsList-end, YieldsList-so_far, YieldsList-turn}
use Rattle.std.proofs.lemmas.Iterator.Adapters.{YieldsList-from_vec}
use Rattle.iscsi_initiator.specs.declared.request.Done.{Done}
use Rattle.iscsi_initiator.specs.declared.request.Request.{Request}
use Rattle.iscsi_initiator.specs.Laws.{listed}
use Rattle.iscsi_pair.specs.World.{World}
use Rattle.iscsi_pair.proofs.Lists.ServingLemmas.{HasServed, first_memory, map_same, next_memory, next_yielded, served_first, served_next}
use Rattle.iscsi_pair.proofs.serving.serve_all.Goals as goal

pub returns-in_err-settle-clause-served : goal.returns-in_err-settle-clause-served
returns-in_err-settle-clause-served c = λ o same n can.
    (let p = err_from_is_err_and c.from_residual.result c.from_residual.ensures.1 in
    rw (p.1, p.2)
    (first_memory o c.args.pair.now c.settle.new.pair c.in_err-settle.field-0.0 same n c.in_err-settle.ensures.err))

pub loop-request-init : goal.loop-request-init
loop-request-init c =
    let ran = c.settle.ensures.ran in
    rw c.new-outcomes.ensures.items
    (served_first c.args.pair.now ran.0 c.settle.new.pair ran.1 ran.2 c.in_ok-settle.ensures.ok)

pub returns-in_err-settle-2-clause-served : goal.returns-in_err-settle-2-clause-served
returns-in_err-settle-2-clause-served c = λ o same n can.
    (let yielded : List Request = c.loop-request.yielded in
    let gives = c.into_iter-request-iterator.ensures.into_iter_gives in
    let list = YieldsList-from_vec c.args.requests.items gives.0 (omega (arith, gives.1, ap length gives.0, c.args.requests.ok.0)) in
    let turn = YieldsList-turn list yielded c.loop-request.request-iterator c.loop-request.yielded_by c.next.result c.next.new.self c.in-Some.request
    c.in-Some.is c.next.ensures.steps in
    let so_far = YieldsList-so_far list yielded c.loop-request.request-iterator c.loop-request.yielded_by in
    let next = next_yielded c.args.requests.items yielded c.in-Some.request so_far turn.0 turn.1 can in
    let served = subst (λ (w : World). HasServed w yielded c.loop-request.pair c.loop-request.outcomes.items) same c.loop-request.invariant in
    let ran = c.settle-in-loop-request.ensures.ran in
    let p = err_from_is_err_and c.from_residual-in_err-settle-2.result c.from_residual-in_err-settle-2.ensures.1 in
    rw (p.1, p.2)
    (next_memory o yielded c.in-Some.request c.loop-request.pair c.step.new.self c.settle-in-loop-request.new.pair ran.0 c.loop-request.outcomes.items
    c.in_err-settle-2.field-0.0 n served next c.step.ensures ran.2 c.in_err-settle-2.ensures.err))

pub loop-request-preserved : goal.loop-request-preserved
loop-request-preserved c =
    let first : World = c.args.pair.now in
    let yielded : List Request = c.loop-request.yielded in
    let outcomes : List Done = c.loop-request.outcomes.items in
    let ran = c.settle-in-loop-request.ensures.ran in
    let more = served_next first yielded c.in-Some.request c.loop-request.pair c.step.new.self c.settle-in-loop-request.new.pair c.outcome-outcome.new.self
    ran.0
    outcomes c.loop-request.invariant c.step.ensures ran.1 ran.2 c.in_ok-settle-2.ensures.ok c.outcome-outcome.ensures.taken in
    subst (λ (x : List Done). HasServed first (yielded ++ c.in-Some.request ∷ []) c.outcome-outcome.new.self x)
    (sym (c.in-Ok.ensures.ok ∙ ap (λ (d : Option Done). outcomes ++ listed d) c.outcome-outcome.ensures.outcome)) more

pub returns : goal.returns
returns c =
    let first : World = c.args.pair.now in
    let outcomes : List Done = c.loop-request.outcomes.items in
    let gives = c.into_iter-request-iterator.ensures.into_iter_gives in
    let list = YieldsList-from_vec c.args.requests.items gives.0 (omega (arith, gives.1, ap length gives.0, c.args.requests.ok.0)) in
    let end = YieldsList-end list c.loop-request.yielded c.loop-request.request-iterator c.loop-request.yielded_by c.next.result c.next.new.self c.in-None.is
    c.next.ensures.steps in
    let all : c.loop-request.yielded ≡ c.args.requests.items = sym (map_same c.loop-request.yielded) ∙ end.0 in
    let h : HasServed first c.args.requests.items c.loop-request.pair outcomes =
    subst (λ (x : List Request). HasServed first x c.loop-request.pair outcomes) all c.loop-request.invariant in
    record { gives = (h.events, h.requests, h.gives); none_left = h.none_left; idle = h.idle; served = λ o same n can. tt }
