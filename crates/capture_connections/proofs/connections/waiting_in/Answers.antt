-- The next connection's share is added.
use Rattle.std.proofs.Common.{◌≡◌, ℕ, ◌+◌, List, [], ◌∷◌, ◌++◌, take, sym, ap, ◌∙◌, arith}
use Rattle.std.proofs.lemmas.List.{take_more}
use Rattle.capture_connections.specs.declared.connections.Connection.{Connection}
use Rattle.capture_connections.specs.Waiting.{waiting_in, waiting_in_all}
use Rattle.capture_connections.proofs.Counting.{all_more}
use Rattle.capture_connections.proofs.connections.waiting_in.Goals as goal

pub loop-connection-preserved : goal.loop-connection-preserved
loop-connection-preserved c =
    let list : List Connection = c.args.list.now in
    let k : ℕ = c.loop-connection.connection-index in
    let item : Connection = c.connection-item.result in
    let e : take (k + 1) list ≡ take k list ++ item ∷ [] =
    take_more list k item c.loop-connection-test.true ∙ ap (λ (x : Connection). take k list ++ x ∷ []) (sym c.connection-item.is) in
    let all : waiting_in_all (take (k + 1) list) ≡ waiting_in_all (take k list) + waiting_in item =
    ap waiting_in_all e ∙ all_more (take k list) item in
    omega (arith, all, c.loop-connection.invariant, c.waiting.ensures, c.saturating_add-waiting.ensures)
