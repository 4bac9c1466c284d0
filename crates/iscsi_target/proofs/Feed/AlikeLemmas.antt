-- Whole streams, piece after piece, and two streams of one meaning.
use Rattle.std.proofs.Common.{◌≡◌, ◌≤◌, ◌<◌, ◌+◌, ℕ, Bool, true, false, List, [], ◌∷◌, ◌++◌, ◌∙◌, drop, take, map, length, get_or, refl, sym, ap, subst, arith}
use Rattle.std.specs.Prelude.{Result, Err, ◌↔◌}
use Rattle.std.proofs.lemmas.List.{take_more, map-append}
use Rattle.scsi_disk.specs.Disk.{Disk}
use Rattle.iscsi_stream.specs.Stream.{Message, StreamMeans, SplitsStream, longest_segment}
use Rattle.iscsi_login.specs.Negotiation.{ArePreferencesInRange}
use Rattle.iscsi_login.specs.declared.phase.Phase.{Phase}
use Rattle.iscsi_target_session.specs.Configured.{TargetSettings}
use Rattle.iscsi_target_session.specs.Session.{target_limit}
use Rattle.iscsi_target.specs.declared.fault.TargetFault.{TargetFault}
use Rattle.iscsi_target.specs.declared.fault.TargetFault.TheVariants as faults
use Rattle.iscsi_target.specs.Machine.{is_machine_closed}
use Rattle.iscsi_target.specs.Feed.{Scene, scene, beginning, TargetConnection, Store, TargetFeedPost, FeedPostIfClosed, FeedsAllPieces, GoesWell, TargetReaches, StoreAndOutputReached, TargetReachesOrClosed, RefusesHeader, opening_target, stream_of}
use Rattle.iscsi_target.specs.inner.Alike.{ran_out}
use Rattle.iscsi_target.proofs.Feed.FeedInvariant.{may_rise}
use Rattle.iscsi_target.proofs.Feed.FedStreamLemmas.{stands, fed_stream}
use Rattle.iscsi_target.proofs.Feed.FeedingLemmas.{fed_any, fed_holds, same_session, same_values}

-- the first so many, mapped
pub mapped_more : {X Y : Type 0} (f : X → Y) (xs : List X) (i : ℕ) (x : X) → i < length xs → get_or xs i x ≡ x
    → map f (take (i + 1) xs) ≡ map f (take i xs) ++ f x ∷ []
mapped_more f xs i x lt is = ap (map f) (take_more xs i x lt ∙ ap (λ y. take i xs ++ y ∷ []) is) ∙ map-append f (take i xs) (x ∷ [])

fed_if_rises : (protected : Bool) (is_over : Bool) (old : Scene) (piece : List ℕ) (result : Result Phase TargetFault) (new : Scene)
    → (result ≡ Err faults.NoMemory → ⊥)
    → FeedPostIfClosed protected is_over old piece result new → old.store.failures ≤ new.store.failures
fed_if_rises protected true old piece result new memory h = omega (arith, ap (λ (s : Store). s.failures) h.store)
fed_if_rises protected false old piece result new memory h =
    let up = may_rise protected old.connection.machine old.store.disk old.store.failures h.messages h.stepped h.answered.failures h.answered.may in
    let at = (stands protected old.output h.framing (drop h.count piece) h.stepped h.answered.failures result new.connection.machine new.store new.output memory
    h.leaves).failures in
    omega (arith, up, at)

-- failures are never forgotten
pub fed_rises : (protected : Bool) (old : Scene) (piece : List ℕ) (result : Result Phase TargetFault) (new : Scene) → (result ≡ Err faults.NoMemory → ⊥)
    → TargetFeedPost protected old piece result new → old.store.failures ≤ new.store.failures
fed_rises protected old piece result new memory h = fed_if_rises protected (is_machine_closed old.connection.machine) old piece result new memory h

pub fed_nothing : (protected : Bool) (a : TargetConnection) (s : Store) (w : List ℕ) → FeedsAllPieces protected (scene a s w) [] (scene a s w)
unfolding FeedsAllPieces
fed_nothing protected a s w = (refl, refl, refl)

-- one piece more
pub fed_more : (protected : Bool) (from : Scene) (pieces : List (List ℕ)) (here : Scene)
    (piece : List ℕ)
    (result : Result Phase TargetFault) (to : Scene) → FeedsAllPieces protected from pieces here
    → TargetFeedPost protected here piece result to → GoesWell result here.store to.store
    → FeedsAllPieces protected from (pieces ++ piece ∷ []) to
unfolding FeedsAllPieces
fed_more protected from [] here piece result to f e g = (
  result,
  to.connection,
  to.store,
  to.output,
  subst (λ (y : TargetConnection). TargetFeedPost protected (scene y from.store from.output) piece result to) f.0
      (subst (λ (y : Store). TargetFeedPost protected (scene here.connection y from.output) piece result to) f.1
      (subst (λ (y : List ℕ). TargetFeedPost protected (scene here.connection here.store y) piece result to) f.2 e)),
  subst (λ (y : Store). GoesWell result y to.store) f.1 g,
  (refl, refl, refl),
)
fed_more protected from (p ∷ pieces) here piece result to f e g =
    (f.0, f.1, f.2, f.3, f.4, f.5, fed_more protected (scene f.1 f.2 f.3) pieces here piece result to f.6 e g)

-- memory was there
pub has_memory : (result : Result Phase TargetFault) → ran_out result ≡ false → result ≡ Err faults.NoMemory → ⊥
has_memory result is e = (let bad : true ≡ false = sym (ap ran_out e) ∙ is in cc)

-- what two targets that began alike have done with streams of one meaning
pub record DoneAlike (a b : TargetConnection) (first second : Disk) (written rewritten : List ℕ) : Type 0 where
  pub output : rewritten ≡ written
  pub disk : second ≡ first
  pub machine : b.machine ≡ a.machine

pub done_alike : (protected : Bool) (settings : TargetSettings) (n : ℕ) (store other : Store) (one two : Scene) (pieces others : List (List ℕ))
    (ms : List Message) → other.disk ≡ store.disk
    → FeedsAllPieces protected (scene (opening_target settings n) store []) pieces one
    → FeedsAllPieces protected (scene (opening_target settings n) other []) others two
    → StreamMeans (stream_of pieces) ms → StreamMeans (stream_of others) ms → DoneAlike one.connection two.connection one.store.disk two.store.disk
    one.output two.output
done_alike protected settings n store other one two pieces others ms same f g p q =
    let x : TargetReaches protected (beginning settings n store.disk) ms one.connection one.store.disk one.output =
    fed_stream protected settings n store pieces one.connection one.store one.output ms f p in
    let y : TargetReaches protected (beginning settings n store.disk) ms two.connection two.store.disk two.output =
    subst (λ (d : Disk). TargetReaches protected (beginning settings n d) ms two.connection two.store.disk two.output) same
    (fed_stream protected settings n other others two.connection two.store two.output ms g q) in
    record { output = y.output_is ∙ sym x.output_is; disk = y.disk_is ∙ sym x.disk_is; machine = y.machine ∙ sym x.machine }

-- what they have written of streams that begin with the same PDUs, and where they stand
pub record WroteAlike (settings : TargetSettings) (a b : TargetConnection) (first second : Disk) (written rewritten first_rest second_rest : List ℕ) : Type
    0 where
  pub output : rewritten ≡ written
  pub disk : second ≡ first
  pub held : b.machine.session.held ≡ a.machine.session.held
  pub stage : b.machine.session.stage ≡ a.machine.session.stage
  pub phase : (RefusesHeader (target_limit settings) first_rest ↔ RefusesHeader (target_limit settings) second_rest) → b.machine.session.phase
      ≡ a.machine.session.phase

-- the bytes of whole PDUs, and those behind them
pub record Split : Type 0 where
  pub given : List ℕ
  pub rest : List ℕ

pub wrote_alike : (protected : Bool) (settings : TargetSettings) (n : ℕ) (store other : Store) (one two : Scene) (pieces others : List (List ℕ))
    (ms : List Message) (split other_split : Split) → ArePreferencesInRange settings.preferences → other.disk
    ≡ store.disk
    → FeedsAllPieces protected (scene (opening_target settings n) store []) pieces one
    → FeedsAllPieces protected (scene (opening_target settings n) other []) others two
    → SplitsStream longest_segment (stream_of pieces) ms split.given split.rest → SplitsStream longest_segment (stream_of others) ms other_split.given
    other_split.rest
    → WroteAlike settings one.connection two.connection one.store.disk two.store.disk one.output two.output split.rest other_split.rest
wrote_alike protected settings n store other one two pieces others ms split other_split range same f g p q =
    let x : StoreAndOutputReached protected (beginning settings n store.disk) ms one.store.disk one.output =
    fed_any protected settings n store pieces one.connection one.store one.output ms split.given split.rest
    (omega (arith, range.max_recv.1)) f p in
    let y : StoreAndOutputReached protected (beginning settings n store.disk) ms two.store.disk two.output =
    subst (λ (d : Disk). StoreAndOutputReached protected (beginning settings n d) ms two.store.disk two.output) same
    (fed_any protected settings n other others two.connection two.store two.output ms other_split.given
    other_split.rest (omega (arith, range.max_recv.1)) g q) in
    let h : TargetReachesOrClosed protected (beginning settings n store.disk) ms split.rest one.connection.machine =
    fed_holds protected settings n store pieces one.connection one.store one.output ms split.given split.rest
    (omega (arith, range.max_recv.1)) f p in
    let k : TargetReachesOrClosed protected (beginning settings n store.disk) ms other_split.rest two.connection.machine =
    subst (λ (d : Disk). TargetReachesOrClosed protected (beginning settings n d) ms other_split.rest two.connection.machine) same
    (fed_holds protected settings n other others two.connection two.store two.output ms other_split.given
    other_split.rest (omega (arith, range.max_recv.1)) g q) in
    let values = same_values protected settings n store.disk ms split.rest other_split.rest one.connection.machine two.connection.machine h k in
    record {
      output = y.output_is ∙ sym x.output_is;
      disk = y.disk_is ∙ sym x.disk_is;
      held = values.0;
      stage = values.1;
      phase = λ refused. (same_session protected settings n store.disk ms split.rest other_split.rest one.connection.machine two.connection.machine refused
          h k).phase;
    }
