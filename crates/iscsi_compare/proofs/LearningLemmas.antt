-- What the numbers of two heads say of a renumbering.
use Rattle.std.proofs.Common.{◌≡◌, ℕ, Bool, true, false, refl, sym, ap, subst, ◌∙◌}
use Rattle.std.specs.Prelude.{Option, Some, None, unwrap_or, option_map, ◌&&◌, if◌then◌else◌}
use Rattle.std.specs.Ordering.{nat_cmp}
use Rattle.std.specs.Cmp.Lexicographic.{slice_cmp}
use Rattle.std.specs.BTreeMap.{BTreeMap}
use Rattle.iscsi_pdu.specs.declared.head.Head.{Head}
use Rattle.iscsi_pdu.specs.Fields.{is_tag}
use Rattle.iscsi_pdu.specs.Meaning.{HeadFits}
use Rattle.iscsi_compare.specs.declared.same_job.numbers.Numbers.{Numbers}
use Rattle.iscsi_compare.specs.SameJob.{Renumbering, shifted, renumbered}
use Rattle.iscsi_compare.specs.inner.SameJobNumbers.{numbers, with_numbers, renamed}
use Rattle.iscsi_compare.specs.inner.SameJobLearning.{AgreesWithKnown, IsSteps, KnownNames, IsRenumberingLeft, LearnsAnswer}
use Rattle.iscsi_compare.specs.declared.same_job.renaming.Renaming.{Renaming}
use Rattle.iscsi_compare.specs.inner.SameJobJudge.{AllowsRenumbering, IsSoundRenaming}
use Rattle.iscsi_compare.proofs.RenamingLemmas.{apart}
use Rattle.iscsi_compare.proofs.HeadNumberLemmas.{renumbered_is, numbers_of, same_numbers}
use Rattle.iscsi_compare.proofs.HeadFitLemmas.{fits_renumbered}
use Rattle.iscsi_stream.proofs.ReadyLemmas.{and_left, and_right}

true_of : (b : Bool) → (b ≡ false → ⊥) → b ≡ true
true_of true h = refl
true_of false h = absurd (h refl)

-- whether each number could be learnt
pub record Answers : Type 0 where
  pub task : Bool
  pub referenced_task : Bool
  pub transfer : Bool
  pub isid : Bool
  pub tsih : Bool
  pub command : Bool
  pub last_command : Bool
  pub referenced_command : Bool
  pub status : Bool

-- the nine facts, each over what the one before it left: the names after the first task, and the steps after the first and the second command
pub record Nine (mine other : Numbers) (old new : KnownNames) (a : Answers) : Type 0 where
  pub tasks : BTreeMap ℕ ℕ
  pub steps : Option ℕ
  pub last_steps : Option ℕ
  pub task : LearnsAnswer (AgreesWithKnown nat_cmp old.tasks) (AgreesWithKnown nat_cmp tasks) (λ f. f.to mine.task ≡ other.task) a.task
  pub referenced_task : LearnsAnswer (AgreesWithKnown nat_cmp tasks) (AgreesWithKnown nat_cmp new.tasks)
      (λ f. f.to mine.referenced_task ≡ other.referenced_task) a.referenced_task
  pub transfer : LearnsAnswer (AgreesWithKnown nat_cmp old.transfers) (AgreesWithKnown nat_cmp new.transfers) (λ f. f.to mine.transfer ≡ other.transfer)
      a.transfer
  pub isid : LearnsAnswer (AgreesWithKnown (slice_cmp nat_cmp) old.isids) (AgreesWithKnown (slice_cmp nat_cmp) new.isids)
      (λ f. option_map f.to mine.isid ≡ other.isid) a.isid
  pub tsih : LearnsAnswer (AgreesWithKnown nat_cmp old.tsihs) (AgreesWithKnown nat_cmp new.tsihs) (λ f. f.to mine.tsih ≡ other.tsih) a.tsih
  pub command : LearnsAnswer (IsSteps old.commands) (IsSteps steps) (λ n. option_map (shifted n) mine.command ≡ other.command) a.command
  pub last_command : LearnsAnswer (IsSteps steps) (IsSteps last_steps) (λ n. option_map (shifted n) mine.last_command ≡ other.last_command) a.last_command
  pub referenced_command : LearnsAnswer (IsSteps last_steps) (IsSteps new.commands)
      (λ n. (if is_tag mine.referenced_task then shifted n mine.referenced_command else
      mine.referenced_command) ≡ other.referenced_command) a.referenced_command
  pub status : LearnsAnswer (IsSteps old.statuses) (IsSteps new.statuses) (λ n. option_map (shifted n) mine.status ≡ other.status) a.status

pub learns_nine : (mine other : Numbers) (old new : KnownNames) (a : Answers) (answer : Bool) → (n : Nine mine other old new a)
    → answer ≡ (a.task && a.referenced_task && a.transfer && a.isid && a.tsih && a.command && a.last_command && a.referenced_command && a.status)
    → LearnsAnswer (IsRenumberingLeft old) (IsRenumberingLeft new) (λ r. renamed r mine ≡ other) answer
unfolding renamed
learns_nine mine other old new a answer n is =
    let p8 : answer ≡ true → (a.task && a.referenced_task && a.transfer && a.isid && a.tsih && a.command && a.last_command && a.referenced_command) ≡ true =
    λ e. and_left _ _ (sym is ∙ e) in
    let p7 : answer ≡ true → (a.task && a.referenced_task && a.transfer && a.isid && a.tsih && a.command && a.last_command) ≡ true = λ e. and_left _ _ (p8 e) in
    let p6 : answer ≡ true → (a.task && a.referenced_task && a.transfer && a.isid && a.tsih && a.command) ≡ true = λ e. and_left _ _ (p7 e) in
    let p5 : answer ≡ true → (a.task && a.referenced_task && a.transfer && a.isid && a.tsih) ≡ true = λ e. and_left _ _ (p6 e) in
    let p4 : answer ≡ true → (a.task && a.referenced_task && a.transfer && a.isid) ≡ true = λ e. and_left _ _ (p5 e) in
    let p3 : answer ≡ true → (a.task && a.referenced_task && a.transfer) ≡ true = λ e. and_left _ _ (p4 e) in
    let p2 : answer ≡ true → (a.task && a.referenced_task) ≡ true = λ e. and_left _ _ (p3 e) in
    record {
      less = λ r l. record {
        tasks_left = n.task.less r.tasks (n.referenced_task.less r.tasks l.tasks_left);
        transfers_left = n.transfer.less r.transfers l.transfers_left;
        isids_left = n.isid.less r.isids l.isids_left;
        tsihs_left = n.tsih.less r.tsihs l.tsihs_left;
        commands_left = n.command.less r.commands (n.last_command.less r.commands (n.referenced_command.less r.commands l.commands_left));
        statuses_left = n.status.less r.statuses l.statuses_left;
      };
      kept = λ r l e. record {
        tasks_left = n.referenced_task.kept r.tasks (n.task.kept r.tasks l.tasks_left (ap (λ (x : Numbers). x.task) e))
            (ap (λ (x : Numbers). x.referenced_task) e);
        transfers_left = n.transfer.kept r.transfers l.transfers_left (ap (λ (x : Numbers). x.transfer) e);
        isids_left = n.isid.kept r.isids l.isids_left (ap (λ (x : Numbers). x.isid) e);
        tsihs_left = n.tsih.kept r.tsihs l.tsihs_left (ap (λ (x : Numbers). x.tsih) e);
        commands_left = n.referenced_command.kept r.commands (n.last_command.kept r.commands
            (n.command.kept r.commands l.commands_left (ap (λ (x : Numbers). x.command) e))
            (ap (λ (x : Numbers). x.last_command) e)) (ap (λ (x : Numbers). x.referenced_command) e);
        statuses_left = n.status.kept r.statuses l.statuses_left (ap (λ (x : Numbers). x.status) e);
      };
      said = λ e r l. same_numbers (renamed r mine) other
          (n.task.said (and_left _ _ (p2 e)) r.tasks (n.referenced_task.less r.tasks l.tasks_left))
          (n.referenced_task.said (and_right _ _ (p2 e)) r.tasks l.tasks_left)
          (n.transfer.said (and_right _ _ (p3 e)) r.transfers l.transfers_left)
          (n.isid.said (and_right _ _ (p4 e)) r.isids l.isids_left)
          (n.tsih.said (and_right _ _ (p5 e)) r.tsihs l.tsihs_left)
          (n.command.said (and_right _ _ (p6 e)) r.commands (n.last_command.less r.commands (n.referenced_command.less r.commands l.commands_left)))
          (n.last_command.said (and_right _ _ (p7 e)) r.commands (n.referenced_command.less r.commands l.commands_left))
          (n.referenced_command.said (and_right _ _ (p8 e)) r.commands l.commands_left)
          (n.status.said (and_right _ _ (sym is ∙ e)) r.statuses l.statuses_left);
      none = λ e r l x.
          let one = n.task.kept r.tasks l.tasks_left (ap (λ (x : Numbers). x.task) x) in
          let six = n.command.kept r.commands l.commands_left (ap (λ (x : Numbers). x.command) x) in
          let seven = n.last_command.kept r.commands six (ap (λ (x : Numbers). x.last_command) x) in
          let b1 : a.task ≡ true = true_of a.task (λ z. n.task.none z r.tasks l.tasks_left (ap (λ (x : Numbers). x.task) x)) in
          let b2 : a.referenced_task ≡ true = true_of a.referenced_task
          (λ z. n.referenced_task.none z r.tasks one (ap (λ (x : Numbers). x.referenced_task) x)) in
          let b3 : a.transfer ≡ true = true_of a.transfer (λ z. n.transfer.none z r.transfers l.transfers_left (ap (λ (x : Numbers). x.transfer) x)) in
          let b4 : a.isid ≡ true = true_of a.isid (λ z. n.isid.none z r.isids l.isids_left (ap (λ (x : Numbers). x.isid) x)) in
          let b5 : a.tsih ≡ true = true_of a.tsih (λ z. n.tsih.none z r.tsihs l.tsihs_left (ap (λ (x : Numbers). x.tsih) x)) in
          let b6 : a.command ≡ true = true_of a.command (λ z. n.command.none z r.commands l.commands_left (ap (λ (x : Numbers). x.command) x)) in
          let b7 : a.last_command ≡ true = true_of a.last_command (λ z. n.last_command.none z r.commands six (ap (λ (x : Numbers). x.last_command) x)) in
          let b8 : a.referenced_command ≡ true = true_of a.referenced_command
          (λ z. n.referenced_command.none z r.commands seven (ap (λ (x : Numbers). x.referenced_command) x)) in
          let b9 : a.status ≡ true = true_of a.status (λ z. n.status.none z r.statuses l.statuses_left (ap (λ (x : Numbers). x.status) x)) in
          apart (is ∙ (rw (b1, b2, b3, b4, b5, b6, b7, b8, b9) refl)) e;
    }

steps_known : (known : Option ℕ) → IsSteps known (unwrap_or known 0)
steps_known None = tt
steps_known (Some n) = refl

-- ---- heads

-- a renumbering of what is known gives the numbers, so the head with the other's numbers is its other run's head
pub other_head : (r : Renumbering) (g h : Head) → renamed r (numbers g) ≡ numbers h → with_numbers g (numbers h) ≡ renumbered r g
other_head r g h e = ap (with_numbers g) (sym e) ∙ sym (renumbered_is r g)

said_numbers : (r : Renumbering) (g h : Head) → renumbered r g ≡ h → renamed r (numbers g) ≡ numbers h
said_numbers r g h e = sym (numbers_of r g) ∙ ap numbers e

-- where the numbers are learnt, the heads are compared with the other's numbers in both
pub learns_heads : (Old New : Renumbering → Type 0) (g h : Head) (same : Bool) → (same ≡ true → with_numbers g (numbers h) ≡ h) →
    (same ≡ false → with_numbers g (numbers h) ≡ h → ⊥)
    → LearnsAnswer Old New (λ r. renamed r (numbers g) ≡ numbers h) true → LearnsAnswer Old New (λ r. renumbered r g ≡ h) same
learns_heads Old New g h same alike different l = record {
  less = l.less;
  kept = λ r old e. l.kept r old (said_numbers r g h e);
  said = λ a r new. sym (other_head r g h (l.said refl r new)) ∙ alike a;
  none = λ a r old e. different a (other_head r g h (said_numbers r g h e) ∙ e);
}

-- and where they are not, the heads differ
pub learns_none : (Old New : Renumbering → Type 0) (g h : Head) → LearnsAnswer Old New (λ r. renamed r (numbers g) ≡ numbers h) false →
    LearnsAnswer Old New (λ r. renumbered r g ≡ h) false
learns_none Old New g h l = record {
  less = l.less;
  kept = λ r old e. l.kept r old (said_numbers r g h e);
  said = λ a. apart a refl;
  none = λ a r old e. l.none refl r old (said_numbers r g h e);
}

-- some renumbering agrees with what is known
pub some_left : (known : Renaming) → IsSoundRenaming known → (r : Renumbering) × AllowsRenumbering known r
some_left known s =
    let r : Renumbering = record {
      tasks = s.tasks.some.0;
      transfers = s.transfers.some.0;
      isids = s.isids.some.0;
      tsihs = s.tsihs.some.0;
      commands = unwrap_or known.commands 0;
      statuses = unwrap_or known.statuses 0;
      no_task = s.no_task s.tasks.some.0 s.tasks.some.1;
      no_transfer = s.no_transfer s.transfers.some.0 s.transfers.some.1;
      no_session = s.no_session s.tsihs.some.0 s.tsihs.some.1;
    } in (
      r,
      record {
        tasks_left = s.tasks.some.1;
        transfers_left = s.transfers.some.1;
        isids_left = s.isids.some.1;
        tsihs_left = s.tsihs.some.1;
        commands_left = steps_known known.commands;
        statuses_left = steps_known known.statuses;
      },
    )

-- so the head with the other's numbers can be written where the numbers are learnt
pub other_fits : (old new : Renaming) (g h : Head) → IsSoundRenaming new → LearnsAnswer (AllowsRenumbering old) (AllowsRenumbering new)
    (λ r. renamed r (numbers g) ≡ numbers h) true →
    HeadFits g → HeadFits (with_numbers g (numbers h))
other_fits old new g h s l fits =
    let some = some_left new s in
    subst HeadFits (sym (other_head some.0 g h (l.said refl some.0 some.1))) (fits_renumbered some.0 g fits)

pub learns_at : (Old New : Renumbering → Type 0) (m m' n n' : Numbers) (b b' : Bool) → m ≡ m' → n ≡ n' → b ≡ b' → LearnsAnswer Old New (λ r. renamed r m ≡ n) b
    →
    LearnsAnswer Old New (λ r. renamed r m' ≡ n') b'
learns_at Old New m m' n n' b b' e f a l =
    subst (λ (x : Numbers). LearnsAnswer Old New (λ r. renamed r x ≡ n') b') e (subst (λ (x : Numbers). LearnsAnswer Old New (λ r. renamed r m ≡ x) b') f
    (subst (LearnsAnswer Old New (λ r. renamed r m ≡ n)) a l))
