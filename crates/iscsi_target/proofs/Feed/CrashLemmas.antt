-- What a crash leaves, command by command.
use Rattle.std.proofs.Common.{◌≡◌, ◌⊎◌, inl, inr, ℕ, ◌*◌, ◌-◌, List, [], ◌∷◌, ◌++◌, Bool, true, false, length, refl, sym, ap, ◌∙◌, subst}
use Rattle.std.specs.Prelude.{nat_lt, if◌then◌else◌}
use Rattle.scsi_disk.specs.Disk.{Disk, cut, overlaid}
use Rattle.scsi_disk.specs.Plan.{plan_of}
use Rattle.scsi_disk.specs.Effect.{write_block_data, write_first, disk_aimed, done_by, guarded, IsSupplied}
use Rattle.scsi_disk.proofs.GuardLemmas.{takes_none}
use Rattle.scsi_disk.specs.Lasting.{CrashAddsDisk, Within}
use Rattle.scsi_disk.specs.Runs.{Supplied}
use Rattle.scsi_disk.specs.declared.order.Order.{Order}
use Rattle.scsi_disk.specs.declared.order.Plan.{Plan}
use Rattle.scsi_disk.specs.declared.order.Plan.TheVariants.{Refuse, Take, Give}
use Rattle.iscsi_target.specs.declared.tasks.Task.{Task}
use Rattle.iscsi_target.specs.declared.tasks.Task.TheVariants.{Command, Data, Request}
use Rattle.iscsi_target_session.specs.Session.{Session}
use Rattle.iscsi_target.specs.State.{Machine, joined_task}
use Rattle.iscsi_stream.specs.Framing.{Framing, FramerTakes, pdu_given_up, message_of}
use Rattle.iscsi_stream.specs.Stream.{Message}
use Rattle.iscsi_stream.proofs.TakingLemmas.{moves_gave}
use Rattle.iscsi_target.specs.Feed.{TargetConnection}
use Rattle.iscsi_target.specs.inner.Inside.{target_connection}
use Rattle.iscsi_target.specs.Crash.{IsBehindCommand, CrashLeavesBlocks, CrashesNext, command_of_task, commands_of}
use Rattle.iscsi_target.specs.inner.Crash.{CrashesReady}
use Rattle.iscsi_target.proofs.Feed.FeedInvariant.{rest_moves}
use Rattle.iscsi_stream.specs.Pieces.{piece_data}
use Rattle.iscsi_target.proofs.Writes.JoiningLemmas.{ones}
use Rattle.iscsi_target.proofs.Writes.OpenWriteLemmas.{data_of_one}
use Rattle.iscsi_target.proofs.Steps.TurnLemmas.{with_tasks}

-- an order that takes no bytes has none to write
done_kept : (plan : Plan) (disk : Disk) (order : Order) (bytes : List ℕ) → ((n : ℕ) → plan ≡ Take n → ⊥) → done_by plan disk order bytes ≡ disk
done_kept (Refuse sense) disk order bytes none = refl
done_kept (Take n) disk order bytes none = absurd (none n refl)
done_kept (Give n) disk order bytes none = refl

-- nothing was done
pub none_done : (protected : Bool) (orders : List Supplied) (disk : Disk) (kept : ℕ → List ℕ → Type 0) → CrashLeavesBlocks protected orders disk disk kept kept
none_done protected orders disk kept = record { count = refl; adds = λ n c h. inl h }

-- one command was executed
pub one_done : (protected : Bool) (order : Order) (bytes : List ℕ) (before after : Disk) (old new : ℕ → List ℕ → Type 0) → after.count ≡ before.count →
    IsSupplied before.count order bytes → CrashAddsDisk (disk_aimed protected before order bytes) old new
    → CrashLeavesBlocks protected ((order, bytes) ∷ []) before after old new
one_done protected order bytes before after old new count supplied adds = record {
  count = count;
  adds = λ n c h. elim (adds n c h) [ inl was ↦ inl was | inr is ↦ inr (inl (supplied, is)) ];
}

-- one that writes nothing was
pub none_written : (protected : Bool) (order : Order) (bytes : List ℕ) (before after : Disk) (old new : ℕ → List ℕ → Type 0) → after.count ≡ before.count →
    ((k : ℕ) → plan_of order before.count ≡ Take k → ⊥) → ((n : ℕ) → old n (before.block n)) → CrashAddsDisk (disk_aimed protected before order bytes) old new
    →
    CrashLeavesBlocks protected [] before after old new
none_written protected order bytes before after old new count gives stays adds = record {
  count = count;
  adds = λ n c h. elim (adds n c h) [
    | inl was ↦ inl was
    | inr is ↦ inl (subst (λ (x : List ℕ). old n x)
        (sym (is ∙ ap (λ (d : Disk). d.block n) (done_kept (guarded protected order.deed (plan_of order before.count)) before order bytes
        (takes_none protected order.deed (plan_of order before.count) gives)))) (stays n))
  ];
}

-- then the store was read
pub read_behind : (protected : Bool) (orders : List Supplied) (before after now : Disk) (old mid new : ℕ → List ℕ → Type 0) → CrashLeavesBlocks protected
    orders before after old mid →
    now ≡ after → Within mid new → CrashLeavesBlocks protected orders before now old new
read_behind protected orders before after now old mid new h same within = record {
  count = ap (λ (d : Disk). d.count) same ∙ h.count;
  adds = λ n c k. h.adds n c (within n c k);
}

-- ---- on another disk

over_by : (x y : Bool) (a b k c : List ℕ) → c ≡ (if x then a else if y then k else a) → (c ≡ a) ⊎ (c ≡ (if x then b else if y then k else b))
over_by true y a b k c e = inl e
over_by false true a b k c e = inr e
over_by false false a b k c e = inl e

over : (size first n : ℕ) (bytes : List ℕ) (a b : ℕ → List ℕ) (c : List ℕ) → c ≡ overlaid size first bytes a n → (c ≡ a n) ⊎ (c ≡ overlaid size first bytes b n)
unfolding overlaid
over size first n bytes a b c e = over_by (nat_lt n first) (nat_lt (size * (n - first)) (length bytes)) (a n) (b n) (cut size bytes (n - first)) c e

moved_by : (plan : Plan) (before now : Disk) (order : Order) (bytes : List ℕ) (n : ℕ) (c : List ℕ) → c ≡ (done_by plan now order bytes).block n →
    (c ≡ now.block n) ⊎ (c ≡ (done_by plan before order bytes).block n)
moved_by (Refuse sense) before now order bytes n c e = inl e
moved_by (Give k) before now order bytes n c e = inl e
moved_by (Take k) before now order bytes n c e = over 512 (write_first order bytes) n (write_block_data order bytes) now.block before.block c e

pub moved : (protected : Bool) (orders : List Supplied) (before now : Disk) (n : ℕ) (c : List ℕ) → now.count ≡ before.count
    → IsBehindCommand protected now orders n c →
    (c ≡ now.block n) ⊎ IsBehindCommand protected before orders n c
moved protected [] before now n c same h = absurd h
moved protected (o ∷ orders) before now n c same (inr h) = elim (moved protected orders before now n c same h) [ inl is ↦ inl is | inr more ↦ inr (inr more) ]
moved protected (o ∷ orders) before now n c same (inl h) =
    let is : c ≡ (done_by (guarded protected o.0.deed (plan_of o.0 before.count)) now o.0 o.1).block n =
    h.1 ∙ ap (λ (k : ℕ). (done_by (guarded protected o.0.deed (plan_of o.0 k)) now o.0 o.1).block n) same in
    elim (moved_by (guarded protected o.0.deed (plan_of o.0 before.count)) before now o.0 o.1 n c is) [
      | inl was ↦ inl was
      | inr new ↦ inr (inl (subst (λ (k : ℕ). IsSupplied k o.0 o.1) same h.0, new))
    ]

pub at_left : (protected : Bool) (xs ys : List Supplied) (disk : Disk) (n : ℕ) (c : List ℕ) → IsBehindCommand protected disk xs n c
    → IsBehindCommand protected disk (xs ++ ys) n c
at_left protected [] ys disk n c h = absurd h
at_left protected (x ∷ xs) ys disk n c (inl h) = inl h
at_left protected (x ∷ xs) ys disk n c (inr h) = inr (at_left protected xs ys disk n c h)

pub at_right : (protected : Bool) (xs ys : List Supplied) (disk : Disk) (n : ℕ) (c : List ℕ) → IsBehindCommand protected disk ys n c
    → IsBehindCommand protected disk (xs ++ ys) n c
at_right protected [] ys disk n c h = h
at_right protected (x ∷ xs) ys disk n c h = inr (at_right protected xs ys disk n c h)

-- ---- tasks in their turn

-- some of the commands were done, and these are left
pub record Pends (protected : Bool) (all left : List Supplied) (before now : Disk) (old kept : ℕ → List ℕ → Type 0) : Type 0 where
  pub done : CrashLeavesBlocks protected all before now old kept
  pub rest : (n : ℕ) (c : List ℕ) → IsBehindCommand protected before left n c → IsBehindCommand protected before all n c

pub goes_first : (protected : Bool) (all : List Supplied) (disk : Disk) (kept : ℕ → List ℕ → Type 0) → Pends protected all all disk disk kept kept
goes_first protected all disk kept = record { done = none_done protected all disk kept; rest = λ n c h. h }

-- the first of them was done
pub goes_on : (protected : Bool) (all first left : List Supplied) (before now after : Disk) (old kept new : ℕ → List ℕ → Type 0)
    → Pends protected all (first ++ left) before now old kept →
    ((n : ℕ) → kept n (now.block n)) → CrashLeavesBlocks protected first now after kept new → Pends protected all left before after old new
goes_on protected all first left before now after old kept new g stays h = record {
  done = record {
    count = h.count ∙ g.done.count;
    adds = λ n c k. elim (h.adds n c k) [
      | inl was ↦ g.done.adds n c was
      | inr is ↦ elim (moved protected first before now n c g.done.count is) [
        | inl here ↦ g.done.adds n c (subst (λ (x : List ℕ). kept n x) (sym here) (stays n))
        | inr new ↦ inr (g.rest n c (at_left protected first left before n c new))
      ]
    ];
  };
  rest = λ n c k. g.rest n c (at_right protected first left before n c k);
}

-- ---- pieces joined

command_joined : (task : Task) → command_of_task (joined_task task) ≡ command_of_task task
command_joined (Command tag order) = refl
command_joined (Data w) = ap (λ (bytes : List ℕ). (w.order, bytes) ∷ []) (data_of_one (piece_data w.pieces))
command_joined (Request k) = refl

pub commands_joined : (tasks : List Task) → commands_of (ones tasks) ≡ commands_of tasks
commands_joined [] = refl
commands_joined (task ∷ more) = λ i. command_joined task i ++ commands_joined more i

pub commands_same : (ts us : List Task) → ones ts ≡ ones us → commands_of ts ≡ commands_of us
commands_same ts us e = sym (commands_joined ts) ∙ ap commands_of e ∙ commands_joined us

-- the first task was done
pub task_done : (protected : Bool) (all : List Supplied) (now : Machine) (session : Session) (task : Task) (rest : List Task) (before mid after : Disk)
    (old kept new : ℕ → List ℕ → Type 0) → now ≡ with_tasks session (task ∷ rest) → Pends protected all (commands_of now.tasks) before mid old kept →
    ((n : ℕ) → kept n (mid.block n)) → CrashLeavesBlocks protected (command_of_task task) mid after kept new
    → Pends protected all (commands_of rest) before after old new
task_done protected all now session task rest before mid after old kept new is g stays h =
    goes_on protected all (command_of_task task) (commands_of rest) before mid after old kept new
    (subst (λ (m : Machine). Pends protected all (commands_of m.tasks) before mid old kept) is g) stays h

-- and these are left
pub tasks_left : (protected : Bool) (all : List Supplied) (rest left : List Task) (before after : Disk) (old new : ℕ → List ℕ → Type 0)
    → ones left ≡ ones rest →
    Pends protected all (commands_of rest) before after old new → Pends protected all (commands_of left) before after old new
tasks_left protected all rest left before after old new e g =
    subst (λ (orders : List Supplied). Pends protected all orders before after old new) (sym (commands_same left rest e)) g

-- ---- the next PDU

pub next_by : (protected : Bool) (old : TargetConnection) (piece : List ℕ) (n : ℕ) (framing : Framing) (before after : Disk) (kept new : ℕ → List ℕ → Type 0)
    → FramerTakes old.framing piece n framing → CrashesReady protected (target_connection old.machine framing) before after kept new
    → CrashesNext protected old piece before after kept new
next_by protected old piece n framing before after kept new t (inl h) = inl h
next_by protected old piece n framing before after kept new t (inr h) =
    let m : Message = message_of framing h.0 h.1 in
    inr (
      m,
      record {
        framing = pdu_given_up framing h.0;
        count = n;
        taken = rest_moves old.framing old.framing framing piece n m (pdu_given_up framing h.0) t (moves_gave framing h.0 h.1 h.2);
      },
      h.3,
    )
