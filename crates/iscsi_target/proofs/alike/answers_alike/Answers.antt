use Rattle.std.proofs.Common.{◌≡◌, [], List, ℕ, map, subst, Vec, Global}
use Rattle.iscsi_target_session.specs.Configured.{TargetSettings}
use Rattle.iscsi_target.specs.Feed.{FeedsAllPieces, Store, opening_target, scene}
use Rattle.iscsi_target.specs.Advances.{store_of}
use Rattle.iscsi_target.proofs.Feed.AlikeLemmas.{done_alike, wrote_alike}
use Rattle.iscsi_target.proofs.alike.answers_alike.Goals as goal

pub returns-in-Ok : goal.returns-in-Ok
returns-in-Ok g c =
    let disk = g.S.BlockStore.disk in
    let failures = g.S.BlockStore.failures in
    let items : Vec ℕ Global → List ℕ = λ piece. piece.items in
    let settings : TargetSettings = c.args.configs.0 in
    let n : ℕ = c.args.first_statsn in
    let store : Store = store_of (disk c.args.store.now) (failures c.args.store.now) in
    let other : Store = store_of (disk c.args.other.now) (failures c.args.other.now) in
    let first : Store = store_of (disk c.feed_both.new.store) (failures c.feed_both.new.store) in
    let second : Store = store_of (disk c.feed_both.new.other) (failures c.feed_both.new.other) in
    let pieces : List (List ℕ) = map items c.args.streams.0.now in
    let others : List (List ℕ) = map items c.args.streams.1.now in
    let a = c.feed_both.new.first in
    let b = c.feed_both.new.second in
    let fed_first : failures c.feed_both.new.store ≡ failures c.args.store.now
    → FeedsAllPieces g.S.BlockStore.protected (scene (opening_target settings n) store []) pieces (scene a.target first a.output.items) =
    rw (c.fed_nothing-first.ensures.opening, c.fed_nothing-first.ensures.none) at c.in-Ok.ensures.first in
    let fed_own : failures c.feed_both.new.other ≡ failures c.args.other.now
    → FeedsAllPieces g.S.BlockStore.protected (scene (opening_target c.args.configs.1 n) other []) others (scene b.target second b.output.items) =
    rw (c.fed_nothing-second.ensures.opening, c.fed_nothing-second.ensures.none) at c.in-Ok.ensures.second in
    let fed_second : failures c.feed_both.new.other ≡ failures c.args.other.now
    → FeedsAllPieces g.S.BlockStore.protected (scene (opening_target settings n) other []) others (scene b.target second b.output.items) =
    subst (λ (x : TargetSettings). failures c.feed_both.new.other ≡ failures c.args.other.now
    → FeedsAllPieces g.S.BlockStore.protected (scene (opening_target x n) other []) others (scene b.target second b.output.items)) c.requires.config
    fed_own in
    record {
      first = fed_first;
      second = fed_own;
      alike = λ ms well well_other p q.
          (let d = done_alike g.S.BlockStore.protected settings n store other (scene a.target first a.output.items) (scene b.target second b.output.items)
          pieces others ms c.requires.disk
          (fed_first well) (fed_second well_other) p q in
          (d.output, d.disk, d.machine));
      front = λ ms given rest same_given second_rest well well_other p q.
          (let d = wrote_alike g.S.BlockStore.protected settings n store other (scene a.target first a.output.items) (scene b.target second b.output.items)
          pieces others ms (record { given = given; rest = rest }) (record { given = same_given; rest = second_rest }) c.fed_nothing-first.ensures.in_range
          c.requires.disk (fed_first well) (fed_second well_other) p q in
          (d.output, d.disk, d.held, d.stage));
      phase = λ ms given rest same_given second_rest well well_other p q.
          (wrote_alike g.S.BlockStore.protected settings n store other (scene a.target first a.output.items) (scene b.target second b.output.items) pieces
          others ms (record { given = given; rest = rest }) (record { given = same_given; rest = second_rest })
          c.fed_nothing-first.ensures.in_range c.requires.disk (fed_first well) (fed_second well_other) p q).phase;
    }
