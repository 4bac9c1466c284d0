-- What the steps of a loop lead its pair to.
use Rattle.std.specs.Prelude.{false, replicate}
use Rattle.std.proofs.Common.{◌≡◌, ◌<◌, ◌≤◌, inl, inr, true, ℕ, zero, suc, ◌+◌, ◌-◌, ◌*◌, List, [], ◌∷◌, ◌++◌, length, take, drop, Option, Some, None, Ok, refl}
use Rattle.std.proofs.Common.{sym}
use Rattle.std.proofs.Common.{ap, ◌∙◌, subst, append-nil, arith}
use mathlib.Core.Path.{fun_ext}
use Rattle.std.proofs.lemmas.Bool.{cases_lt}
use Rattle.std.proofs.lemmas.List.{append_cancel_left, drop-drop, drop_at, length-append, length-drop, length-take-le, take_all, take_at}
use Rattle.scsi_disk.specs.Disk.{Disk, IsDisk, cut, disk_of, joined_blocks, zeros}
use Rattle.scsi_disk.proofs.BlockLemmas.{cut_past, disk_of-zeros, same_disk}
use Rattle.iscsi_login.specs.declared.phase.Phase.{Phase}
use Rattle.iscsi_target.specs.Feed as target
use Rattle.iscsi_initiator.specs.declared.request.Done.{Done}
use Rattle.iscsi_initiator.specs.declared.request.Request.{Request}
use Rattle.iscsi_initiator.specs.Calls as initiator
use Rattle.iscsi_initiator.specs.Laws.{listed}
use Rattle.iscsi_pair.specs.World.{Opening, PairEvent, ToTarget, ToInitiator, Submits, Takes, TargetReceives, InitiatorReceives, InitiatorIsAsked}
use Rattle.iscsi_pair.specs.World.{MovesToTarget, MovesToInitiator, PairEventStep, new_pair, reliable_store}
use Rattle.iscsi_pair.specs.LocalDisk.{local_outcomes}
use Rattle.iscsi_pair.specs.Served.{IsNormal, IsServed, IsAccepted, RunsServed, requests_of, disk_outcomes, pair_outcome_in}
use Rattle.iscsi_pair.proofs.Lists.BlockLemmas.{HasBlocks}
use Rattle.iscsi_pair.proofs.Request.OneRequestLaw.{outcomes_more}
use Rattle.iscsi_pair.proofs.Run.OneDiskLaw.{idle_whole}
use Rattle.iscsi_pair.proofs.Lists.ReadBackLaw.{standard_normal}
use Rattle.iscsi_pair.proofs.Lists.StepLemmas.{requests_append, served_more, moves_there, moves_here}
use Rattle.iscsi_loop.specs.Looping.{initiator_settings}
use Rattle.iscsi_serve.specs.Session.{target_settings}
use Rattle.iscsi_loop.specs.LoopPairs.{loop_opening, outcomes_on}
use Rattle.iscsi_loop.specs.inner.LoopPairs.{AreOneDisk, BothEnds, GoOn, HaveServed, PerformsOnDisk, ends_of, new_ends, outcome_on, world_of}

-- ---- bytes of blocks

part_of : (block : ℕ → List ℕ) (first count m : ℕ) → ((n : ℕ) → n < first + count → length (block n) ≡ 512) → m < count
    → cut 512 (joined_blocks block first count) m
    ≡ block (first + m)
unfolding cut joined_blocks
part_of block first zero m each lt = absurd (omega (arith, lt))
part_of block first (suc count) zero each lt =
    take_at (block first) (joined_blocks block (first + 1) count) 512 (each first (omega arith)) ∙ ap block (let e : first ≡ first + 0 = omega arith in e)
part_of block first (suc count) (suc m) each lt =
    let whole : List ℕ = block first ++ joined_blocks block (first + 1) count in
    let at : 512 * suc m ≡ 512 + 512 * m = omega arith in
    let behind : drop 512 whole ≡ joined_blocks block (first + 1) count =
    drop_at (block first) (joined_blocks block (first + 1) count) 512 (each first (omega arith)) in
    ap (λ (n : ℕ). take 512 (drop n whole)) at
    ∙ ap (take 512) (sym (drop-drop (512 * m) 512 whole) ∙ ap (drop (512 * m)) behind)
    ∙ part_of block (first + 1) count m (λ n below. each n (omega (arith, below))) (omega (arith, lt))
    ∙ ap block (let e : first + 1 + m ≡ first + suc m = omega arith in e)

joined_length : (block : ℕ → List ℕ) (first count : ℕ) → ((n : ℕ) → n < first + count → length (block n) ≡ 512) → length (joined_blocks block first count)
    ≡ 512 * count
unfolding joined_blocks
joined_length block first zero each = (let e : 0 ≡ 512 * zero = omega arith in e)
joined_length block first (suc count) each =
    let more = joined_length block (first + 1) count (λ n below. each n (omega (arith, below))) in
    let here = each first (omega arith) in
    let both = length-append (block first) (joined_blocks block (first + 1) count) in
    omega (arith, more, here, both)

-- the blocks of a disk are those of some bytes
pub has_blocks : (disk : Disk) → IsDisk disk → disk.tells ≡ true → HasBlocks disk
has_blocks disk is tells =
    let bytes : List ℕ = joined_blocks disk.block 0 disk.count in
    let each : (n : ℕ) → n < 0 + disk.count → length (disk.block n) ≡ 512 = λ n below. is.inside n (omega (arith, below)) in
    let size : length bytes ≡ 512 * disk.count = joined_length disk.block 0 disk.count each in
    record {
      bytes = bytes;
      is = same_disk (disk_of bytes) disk (omega (arith, size)) (fun_ext (λ n. elim (cases_lt n disk.count) [
        | inl below ↦ part_of disk.block 0 disk.count n each below ∙ ap disk.block (let e : 0 + n ≡ n = omega arith in e)
        | inr past ↦ cut_past 512 bytes n (omega (arith, size, past)) ∙ sym (is.outside n past)
      ])) (sym tells);
    }

-- ---- one event more

more : (blocks : ℕ) (requests : List Request) (outcomes : List Done) (old new : BothEnds) (bytes : List ℕ) (event : PairEvent)
    → (h : HaveServed blocks requests outcomes old) → PairEventStep (world_of old h.bytes) event (world_of new bytes) → IsAccepted event (world_of old h.bytes)
    → disk_of bytes ≡ new.disk
    → HaveServed blocks (requests ++ requests_of (event ∷ [])) (outcomes ++ pair_outcome_in event (world_of old h.bytes)) new
more blocks requests outcomes old new bytes event h happens accepted disk = record {
  events = h.events ++ event ∷ [];
  bytes = bytes;
  disk_is = disk;
  requests_are = requests_append h.events (event ∷ []) ∙ ap (λ (x : List Request). x ++ requests_of (event ∷ [])) h.requests_are;
  runs = served_more (new_pair (loop_opening blocks)) h.events (world_of old h.bytes) outcomes event (world_of new bytes) h.runs happens accepted refl;
}

-- an event that asks for nothing and takes nothing
quiet : (blocks : ℕ) (requests : List Request) (outcomes : List Done) (new : BothEnds) → HaveServed blocks (requests ++ []) (outcomes ++ []) new →
    HaveServed blocks requests outcomes new
quiet blocks requests outcomes new h =
    subst (λ (x : List Request). HaveServed blocks x outcomes new) (append-nil requests)
    (subst (λ (x : List Done). HaveServed blocks (requests ++ []) x new) (append-nil outcomes) h)

-- ---- bytes are carried

-- a store whose device doesn't fail
abbrev pub stored : Disk → target.Store
stored disk = record { disk = disk; failures = 0 }

-- a piece reaches the target
pub asks_on : (i : initiator.InitiatorConnection) (old new : target.TargetConnection) (before after : Disk) (out back written piece : List ℕ) (n : ℕ)
    (phase : Phase)
    → target.TargetFeedPost false (target.scene old (stored before) back) piece (Ok phase) (target.scene new (stored after) written) → IsDisk after
    → after.tells ≡ true
    → take n out ≡ piece → length piece ≡ n → 0 < n
    → GoOn (ends_of i old before out back) (ends_of i new after (drop n out) written)
asks_on i old new before after out back written piece n phase fed is tells front size some = λ blocks requests outcomes h.
    let b : HasBlocks after = has_blocks after is tells in
    let here : BothEnds = ends_of i old before out back in
    let there : BothEnds = ends_of i new after (drop n out) written in
    let receives : TargetReceives piece (world_of here h.bytes) (world_of there b.bytes) = record {
      result = Ok phase;
      fed = subst (λ (d : Disk). target.TargetFeedPost false (target.scene old (stored d) back) piece (Ok phase)
          (target.scene new (reliable_store b.bytes) written)) (sym h.disk_is)
          (subst (λ (d : Disk). target.TargetFeedPost false (target.scene old (stored before) back) piece (Ok phase)
          (target.scene new (stored d) written)) (sym b.is) fed);
      dropped = ap (λ (k : ℕ). drop k out) (sym size);
      initiator = refl;
      fault = refl;
      other_fault = refl;
    } in
    let happens : PairEventStep (world_of here h.bytes) (ToTarget n) (world_of there b.bytes) =
    subst (λ (x : List ℕ). MovesToTarget None x (world_of here h.bytes) (world_of there b.bytes)) (sym front)
    (moves_there piece (world_of here h.bytes) (world_of there b.bytes) (omega (arith, size, some)) receives) in
    quiet blocks requests outcomes there (more blocks requests outcomes here there b.bytes (ToTarget n) h happens tt b.is)

-- a piece reaches the initiator
pub receives_on : (old new : initiator.InitiatorConnection) (t : target.TargetConnection) (disk : Disk) (out back written piece : List ℕ) (n : ℕ)
    (phase : Phase)
    → initiator.InitiatorFeedPost (Ok phase) old piece new out written → take n back ≡ piece → length piece ≡ n → 0 < n
    → GoOn (ends_of old t disk out back) (ends_of new t disk written (drop n back))
receives_on old new t disk out back written piece n phase fed front size some = λ blocks requests outcomes h.
    let here : BothEnds = ends_of old t disk out back in
    let there : BothEnds = ends_of new t disk written (drop n back) in
    let receives : InitiatorReceives piece (world_of here h.bytes) (world_of there h.bytes) = record {
      result = Ok phase;
      fed = fed;
      dropped = ap (λ (k : ℕ). drop k back) (sym size);
      target = refl;
      blocks = refl;
      fault = refl;
      other_fault = refl;
    } in
    let happens : PairEventStep (world_of here h.bytes) (ToInitiator n) (world_of there h.bytes) =
    subst (λ (x : List ℕ). MovesToInitiator None x (world_of here h.bytes) (world_of there h.bytes)) (sym front)
    (moves_here piece (world_of here h.bytes) (world_of there h.bytes) (omega (arith, size, some)) receives) in
    quiet blocks requests outcomes there (more blocks requests outcomes here there h.bytes (ToInitiator n) h happens tt h.disk_is)

-- what is left of bytes behind the first
left_of : (n : ℕ) (rest : List ℕ) → take (length rest - n) (drop n rest) ≡ drop n rest
left_of n rest = take_all (length rest - n) (drop n rest) (omega (arith, length-drop n rest))

-- the next piece of what goes to the target
pub asks_more : (i : initiator.InitiatorConnection) (old new : target.TargetConnection) (before after : Disk) (rest back written read : List ℕ) (n : ℕ)
    (phase : Phase)
    → target.TargetFeedPost false (target.scene old (stored before) back) read (Ok phase) (target.scene new (stored after) written) → IsDisk after → after.tells
    ≡ true
    → read ≡ take n rest → n ≤ length rest → 0 < n
    → GoOn (ends_of i old before rest back) (ends_of i new after (take (length rest - n) (drop n rest)) written)
asks_more i old new before after rest back written read n phase fed is tells same within some =
    subst (λ (x : List ℕ). GoOn (ends_of i old before rest back) (ends_of i new after x written)) (sym (left_of n rest))
    (asks_on i old new before after rest back written read n phase fed is tells (sym same) (ap length same ∙ length-take-le n rest within) some)

-- the next piece of what goes to the initiator
pub receives_more : (old new : initiator.InitiatorConnection) (t : target.TargetConnection) (disk : Disk) (out rest written read : List ℕ) (n : ℕ)
    (phase : Phase)
    → initiator.InitiatorFeedPost (Ok phase) old read new out written → read ≡ take n rest → n ≤ length rest → 0 < n
    → GoOn (ends_of old t disk out rest) (ends_of new t disk written (take (length rest - n) (drop n rest)))
receives_more old new t disk out rest written read n phase fed same within some =
    subst (λ (x : List ℕ). GoOn (ends_of old t disk out rest) (ends_of new t disk written x)) (sym (left_of n rest))
    (receives_on old new t disk out rest written read n phase fed (sym same) (ap length same ∙ length-take-le n rest within) some)

-- one after the other
pub on_and_on : (a b c : BothEnds) → GoOn a b → GoOn b c → GoOn a c
on_and_on a b c x y = λ blocks requests outcomes h. y blocks requests outcomes (x blocks requests outcomes h)

-- ---- the login

-- the settings of the programs suit each other, in a normal session
pub is_normal : (blocks : ℕ) → IsNormal (loop_opening blocks)
is_normal blocks =
    let n = standard_normal (replicate (512 * blocks) 0) in
    record {
      opening = record {
        initiator = record {
          names = record { initiator = n.opening.initiator.names.initiator; target = n.opening.initiator.names.target };
          in_range = record {
            preferences = n.opening.initiator.in_range.preferences;
            start = tt;
            least = n.opening.initiator.in_range.least;
            most = n.opening.initiator.in_range.most;
          };
        };
        isid = refl;
        cmd_sn = n.opening.cmd_sn;
        preferences = n.opening.preferences;
        group = n.opening.group;
        tsih = n.opening.tsih;
        stat_sn = n.opening.stat_sn;
      };
      suits = record { name = inr refl; auth = inr (λ e. absurd cc); access = refl; chap = refl };
      session = refl;
    }

-- the initiator starts its login
pub starts : (blocks : ℕ) (new : initiator.InitiatorConnection) (out : List ℕ)
    → initiator.InitiatorStartPost (Ok tt) (initiator.opening_initiator initiator_settings) new [] out
    → AreOneDisk blocks [] (ends_of new (target.opening_target target_settings 1) (zeros blocks) out [])
unfolding RunsServed local_outcomes
starts blocks new out s = record {
  events = [];
  bytes = replicate (512 * blocks) 0;
  disk_is = disk_of-zeros blocks;
  requests_are = refl;
  runs = (
    λ j. record {
      target = target.opening_target target_settings 1;
      blocks = replicate (512 * blocks) 0;
      initiator = record { machine = s.1.machine j; framing = s.1.framing j };
      to_target = s.1.output j;
      to_initiator = [];
      target_fault = None;
      initiator_fault = None;
    },
    refl,
  );
}

-- ---- a request

-- a request is handed in
pub submits_on : (old new : initiator.InitiatorConnection) (t : target.TargetConnection) (disk : Disk) (out : List ℕ) (request : Request)
    → initiator.InitiatorSubmitPost (Ok tt) old request new [] out → IsServed request
    → (blocks : ℕ) (requests : List Request) (outcomes : List Done) → HaveServed blocks requests outcomes (ends_of old t disk [] [])
    → HaveServed blocks (requests ++ request ∷ []) outcomes (ends_of new t disk out [])
submits_on old new t disk out request s is blocks requests outcomes h =
    let here : BothEnds = ends_of old t disk [] [] in
    let there : BothEnds = ends_of new t disk out [] in
    let asks : InitiatorIsAsked request (world_of here h.bytes) (world_of there h.bytes) = record {
      result = Ok tt;
      submitted = s;
      target = refl;
      blocks = refl;
      queue = refl;
      fault = refl;
      other_fault = refl;
    } in
    subst (λ (x : List Done). HaveServed blocks (requests ++ request ∷ []) x there) (append-nil outcomes)
    (more blocks requests outcomes here there h.bytes (Submits request) h asks (is, s.none) h.disk_is)

-- its outcome is taken, and is that of one local disk
pub takes_on : (i : initiator.InitiatorConnection) (t : target.TargetConnection) (disk : Disk) (request : Request) (done : Done) (blocks : ℕ)
    (past : List Request)
    → i.machine.done ≡ Some done → HaveServed blocks (past ++ request ∷ []) (outcomes_on blocks past) (ends_of i t disk [] [])
    → (done ≡ outcome_on blocks past request) × AreOneDisk blocks (past ++ request ∷ []) (ends_of (initiator.after_taking i) t disk [] [])
takes_on i t disk request done blocks past is h =
    let here : BothEnds = ends_of i t disk [] [] in
    let there : BothEnds = ends_of (initiator.after_taking i) t disk [] [] in
    let c : Opening = loop_opening blocks in
    let all : List Request = past ++ request ∷ [] in
    let whole : outcomes_on blocks past ++ listed i.machine.done ≡ disk_outcomes c (requests_of h.events) =
    (idle_whole c h.events (world_of here h.bytes) (outcomes_on blocks past) (is_normal blocks) h.runs refl refl).0 in
    let these : outcomes_on blocks past ++ listed i.machine.done ≡ outcomes_on blocks all = whole ∙ ap (disk_outcomes c) h.requests_are in
    let each : outcomes_on blocks all ≡ outcomes_on blocks past ++ outcome_on blocks past request ∷ [] =
    outcomes_more initiator_settings.proposal.prefs.max_recv None (disk_of c.blocks) past request in
    let one : done ∷ [] ≡ outcome_on blocks past request ∷ [] =
    append_cancel_left (outcomes_on blocks past) (done ∷ []) (outcome_on blocks past request ∷ [])
    (ap (λ (o : Option Done). outcomes_on blocks past ++ listed o) (sym is) ∙ these ∙ each) in (
      first_is done (outcome_on blocks past request) one,
      subst (λ (x : List Done). HaveServed blocks all x there) these
          (subst (λ (x : List Request). HaveServed blocks x (outcomes_on blocks past ++ listed i.machine.done) there) (append-nil all)
          (more blocks all (outcomes_on blocks past) here there h.bytes Takes h refl tt h.disk_is)),
    )
  where
    first_is : (a b : Done) → a ∷ [] ≡ b ∷ [] → a ≡ b
    first_is a b e = cc

-- a request and its outcome, with what was carried between
pub performs : (old handed settled : initiator.InitiatorConnection) (t u : target.TargetConnection) (before after : Disk) (out : List ℕ) (request : Request)
    (done : Done)
    → initiator.InitiatorSubmitPost (Ok tt) old request handed [] out → IsServed request → GoOn (ends_of handed t before out []) (ends_of settled u after [] [])
    → settled.machine.done ≡ Some done
    → PerformsOnDisk (ends_of old t before [] []) request done (ends_of (initiator.after_taking settled) u after [] [])
performs old handed settled t u before after out request done s is on given = λ blocks past h.
    takes_on settled u after request done blocks past given
    (on blocks (past ++ request ∷ []) (outcomes_on blocks past) (submits_on old handed t before out request s is blocks past (outcomes_on blocks past) h))

-- a login begins
pub login_begins : (old started_ : initiator.InitiatorConnection) (t : target.TargetConnection) (before : Disk) (out : List ℕ) (blocks : ℕ)
    → ends_of old t before [] [] ≡ new_ends blocks → initiator.InitiatorStartPost (Ok tt) old started_ [] out
    → AreOneDisk blocks [] (ends_of started_ t before out [])
login_begins old started_ t before out blocks new s =
    let first : initiator.InitiatorStartPost (Ok tt) (initiator.opening_initiator initiator_settings) started_ [] out =
    subst (λ (i : initiator.InitiatorConnection). initiator.InitiatorStartPost (Ok tt) i started_ [] out) (ap (λ (e : BothEnds). e.initiator) new) s in
    subst (λ (d : Disk). AreOneDisk blocks [] (ends_of started_ t d out [])) (sym (ap (λ (e : BothEnds). e.disk) new))
    (subst (λ (x : target.TargetConnection). AreOneDisk blocks [] (ends_of started_ x (zeros blocks) out [])) (sym (ap (λ (e : BothEnds). e.target) new))
    (starts blocks started_ out first))

-- a login
pub logs_in : (old started_ settled : initiator.InitiatorConnection) (t u : target.TargetConnection) (before after : Disk) (out : List ℕ) (blocks : ℕ)
    → ends_of old t before [] [] ≡ new_ends blocks → initiator.InitiatorStartPost (Ok tt) old started_ [] out
    → GoOn (ends_of started_ t before out []) (ends_of settled u after [] []) → AreOneDisk blocks [] (ends_of settled u after [] [])
logs_in old started_ settled t u before after out blocks new s on =
    on blocks [] (outcomes_on blocks []) (login_begins old started_ t before out blocks new s)
