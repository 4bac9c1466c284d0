-- One line more for the next connection.
use Rattle.std.proofs.Common.{◌≡◌, ◌<◌, ℕ, ◌+◌, List, [], ◌∷◌, ◌++◌, length, take, string_bytes, sym, ap, ◌∙◌, subst, arith}
use Rattle.std.proofs.lemmas.List.{length-take-le, take_more}
use Rattle.capture_connections.specs.declared.connections.Connection.{Connection}
use Rattle.iscsi_captures.specs.Listing.{AreLinesFrom, IsLineOf}
use Rattle.iscsi_captures.proofs.Listed.{lines_more}
use Rattle.iscsi_captures.proofs.listing.lines_of.Goals as goal

pub loop-k-preserved : goal.loop-k-preserved
loop-k-preserved c =
    let list : List Connection = c.args.list.now in
    let k : ℕ = c.loop-k.k in
    let item : Connection = c.index-list-k.result in
    let lt : k < length list = c.loop-k-test.true in
    let lines : List ℕ = string_bytes c.loop-k.lines in
    let e : take (k + 1) list ≡ take k list ++ item ∷ [] =
    take_more list k item lt ∙ ap (λ (x : Connection). take k list ++ x ∷ []) (sym c.index-list-k.is) in
    let count : 0 + length (take k list) ≡ k =
    omega (arith, length-take-le k list (omega (arith, lt))) in
    let w = c.in_ok-write_line.ensures in
    let one : IsLineOf (0 + length (take k list)) item w.0 =
    subst (λ (n : ℕ). IsLineOf n item w.0) (sym count) w.1 in
    subst (λ (l : List ℕ). AreLinesFrom 0 (take (k + 1) list) l) (sym w.2)
    (subst (λ (xs : List Connection). AreLinesFrom 0 xs (lines ++ w.0)) (sym e)
    (lines_more 0 (take k list) lines item w.0 c.loop-k.invariant one))
