use Rattle.std.proofs.Common.{◌≡◌, ◌≤◌, ◌∙◌, ℕ, Vec, Global, List, map, take, sym, subst, arith}
use Rattle.std.specs.Prelude.{Err}
use Rattle.iscsi_target.specs.declared.fault.TargetFault.TheVariants as faults
use Rattle.iscsi_target.specs.Feed.{TargetConnection, Store, TargetFeedPost, FeedsAllPieces, GoesWell, scene}
use Rattle.iscsi_target.specs.Advances.{store_of}
use Rattle.iscsi_target.proofs.Feed.AlikeLemmas.{fed_nothing, fed_more, fed_rises, has_memory, mapped_more}
use Rattle.iscsi_target.proofs.alike.feed_pieces.Goals as goal

pub loop-piece-init : goal.loop-piece-init
loop-piece-init g c =
    let disk = g.S.BlockStore.disk in
    let failures = g.S.BlockStore.failures in
    let before : Store = store_of (disk c.args.store.now) (failures c.args.store.now) in
    let start : TargetConnection = c.args.answered.now.target in
    let out : List ℕ = c.args.answered.now.output.items in
    record {
      rises = omega arith;
      fed = λ same. fed_nothing g.S.BlockStore.protected start before out;
    }

pub loop-piece-preserved : goal.loop-piece-preserved
loop-piece-preserved g c =
    let disk = g.S.BlockStore.disk in
    let failures = g.S.BlockStore.failures in
    let before : Store = store_of (disk c.args.store.now) (failures c.args.store.now) in
    let mid : Store = store_of (disk c.loop-piece.store) (failures c.loop-piece.store) in
    let after : Store = store_of (disk c.feed-fed.new.store) (failures c.feed-fed.new.store) in
    let start : TargetConnection = c.args.answered.now.target in
    let out : List ℕ = c.args.answered.now.output.items in
    let memory : (c.feed-fed.result ≡ Err faults.NoMemory → ⊥) = has_memory c.feed-fed.result (sym c.has_run_out.ensures ∙ c.if-has_run_out.false) in
    let fed : TargetFeedPost g.S.BlockStore.protected (scene c.loop-piece.answered.target mid c.loop-piece.answered.output.items) c.piece-item.result.items c.feed-fed.result
    (scene c.feed-fed.new.self after c.feed-fed.new.out.items) = rw c.deref.ensures.value at c.feed-fed.ensures.fed in
    let up : failures c.loop-piece.store ≤ failures c.feed-fed.new.store = fed_rises g.S.BlockStore.protected
    (scene c.loop-piece.answered.target mid c.loop-piece.answered.output.items) c.piece-item.result.items c.feed-fed.result
    (scene c.feed-fed.new.self after c.feed-fed.new.out.items) memory fed in
    let low = c.loop-piece.invariant.rises in
    let items : Vec ℕ Global → List ℕ = λ piece. piece.items in
    record {
      rises = omega (arith, up, low);
      fed = λ same.
          (let at_mid : failures c.loop-piece.store ≡ failures c.args.store.now = omega (arith, up, low, same) in
          let well : GoesWell c.feed-fed.result mid after = record { memory = memory; device = omega (arith, up, low, same) } in
          subst (λ (x : List (List ℕ)). FeedsAllPieces g.S.BlockStore.protected (scene start before out) x
          (scene c.feed-fed.new.self after c.feed-fed.new.out.items))
          (sym (mapped_more items c.args.pieces.now c.loop-piece.piece-index c.piece-item.result (omega arith) (sym c.piece-item.is)))
          (fed_more g.S.BlockStore.protected (scene start before out) (map items (take c.loop-piece.piece-index c.args.pieces.now))
          (scene c.loop-piece.answered.target mid c.loop-piece.answered.output.items) c.piece-item.result.items c.feed-fed.result
          (scene c.feed-fed.new.self after c.feed-fed.new.out.items) (c.loop-piece.invariant.fed at_mid) fed well));
    }
