-- The numbers of a head: taken out, renamed and put back.
use Rattle.std.proofs.Common.{◌≡◌, ℕ, ◌+◌, Bool, true, false, List, refl, sym, ap, ◌∙◌}
use Rattle.std.specs.Prelude.{Option, option_map, if◌then◌else◌}
use Rattle.iscsi_pdu.specs.declared.head.Head.{Head}
use Rattle.iscsi_pdu.specs.declared.head.Head.TheVariants.{NopOut, ScsiCommand, TaskRequest, LoginRequest, TextRequest, DataOut, LogoutRequest, NopIn}
use Rattle.iscsi_pdu.specs.declared.head.Head.TheVariants.{ScsiResponse, TaskResponse, LoginResponse, TextResponse, DataIn, LogoutResponse, ReadyToTransfer}
use Rattle.iscsi_pdu.specs.declared.head.Head.TheVariants.{AsyncMessage, Reject}
use Rattle.iscsi_pdu.specs.Fields.{reserved_tag, is_tag}
use Rattle.iscsi_compare.specs.declared.same_job.numbers.Numbers.{Numbers}
use Rattle.iscsi_compare.specs.SameJob.{Renumbering, shifted, renumbered}
use Rattle.iscsi_compare.specs.inner.SameJobNumbers.{numbers, with_numbers, renamed}
use Rattle.iscsi_compare.proofs.RenamingLemmas.{identity, backward, chained}
use Rattle.iscsi_compare.proofs.SerialStepLemmas.{shifted_none, shifted_twice, shifted_back, steps_back, same_tag, mapped_twice, mapped_same}

-- a head of the other run has the other run's numbers in place of its own
pub renumbered_is : (r : Renumbering) (h : Head) → renumbered r h ≡ with_numbers h (renamed r (numbers h))
unfolding renumbered numbers with_numbers renamed
renumbered_is r (NopOut h) = refl
renumbered_is r (ScsiCommand h) = refl
renumbered_is r (TaskRequest h) = refl
renumbered_is r (LoginRequest h) = refl
renumbered_is r (TextRequest h) = refl
renumbered_is r (DataOut h) = refl
renumbered_is r (LogoutRequest h) = refl
renumbered_is r (NopIn h) = refl
renumbered_is r (ScsiResponse h) = refl
renumbered_is r (TaskResponse h) = refl
renumbered_is r (LoginResponse h) = refl
renumbered_is r (TextResponse h) = refl
renumbered_is r (DataIn h) = refl
renumbered_is r (LogoutResponse h) = refl
renumbered_is r (ReadyToTransfer h) = refl
renumbered_is r (AsyncMessage h) = refl
renumbered_is r (Reject h) = refl

-- and these are its numbers
pub numbers_of : (r : Renumbering) (h : Head) → numbers (renumbered r h) ≡ renamed r (numbers h)
unfolding renumbered numbers renamed
numbers_of r (NopOut h) = rw (r.no_task, r.no_session) refl
numbers_of r (ScsiCommand h) = rw (r.no_task, r.no_transfer, r.no_session) refl
numbers_of r (TaskRequest h) = rw (r.no_transfer, r.no_session) refl
numbers_of r (LoginRequest h) = rw (r.no_task, r.no_transfer) refl
numbers_of r (TextRequest h) = rw (r.no_task, r.no_session) refl
numbers_of r (DataOut h) = rw (r.no_task, r.no_session) refl
numbers_of r (LogoutRequest h) = rw (r.no_task, r.no_transfer, r.no_session) refl
numbers_of r (NopIn h) = rw (r.no_task, r.no_session) refl
numbers_of r (ScsiResponse h) = rw (r.no_task, r.no_transfer, r.no_session) refl
numbers_of r (TaskResponse h) = rw (r.no_task, r.no_transfer, r.no_session) refl
numbers_of r (LoginResponse h) = rw (r.no_task, r.no_transfer) refl
numbers_of r (TextResponse h) = rw (r.no_task, r.no_session) refl
numbers_of r (DataIn h) = rw (r.no_task, r.no_session) refl
numbers_of r (LogoutResponse h) = rw (r.no_task, r.no_transfer, r.no_session) refl
numbers_of r (ReadyToTransfer h) = rw (r.no_task, r.no_session) refl
numbers_of r (AsyncMessage h) = rw (r.no_task, r.no_transfer, r.no_session) refl
numbers_of r (Reject h) = rw (r.no_task, r.no_transfer, r.no_session) refl

-- a head has its own numbers
pub with_own : (h : Head) → with_numbers h (numbers h) ≡ h
unfolding numbers with_numbers
with_own (NopOut h) = refl
with_own (ScsiCommand h) = refl
with_own (TaskRequest h) = refl
with_own (LoginRequest h) = refl
with_own (TextRequest h) = refl
with_own (DataOut h) = refl
with_own (LogoutRequest h) = refl
with_own (NopIn h) = refl
with_own (ScsiResponse h) = refl
with_own (TaskResponse h) = refl
with_own (LoginResponse h) = refl
with_own (TextResponse h) = refl
with_own (DataIn h) = refl
with_own (LogoutResponse h) = refl
with_own (ReadyToTransfer h) = refl
with_own (AsyncMessage h) = refl
with_own (Reject h) = refl

-- put back into the other run's head, they give the head
pub with_back : (r : Renumbering) (h : Head) → with_numbers (renumbered r h) (numbers h) ≡ h
unfolding renumbered numbers with_numbers
with_back r (NopOut h) = refl
with_back r (ScsiCommand h) = refl
with_back r (TaskRequest h) = refl
with_back r (LoginRequest h) = refl
with_back r (TextRequest h) = refl
with_back r (DataOut h) = refl
with_back r (LogoutRequest h) = refl
with_back r (NopIn h) = refl
with_back r (ScsiResponse h) = refl
with_back r (TaskResponse h) = refl
with_back r (LoginResponse h) = refl
with_back r (TextResponse h) = refl
with_back r (DataIn h) = refl
with_back r (LogoutResponse h) = refl
with_back r (ReadyToTransfer h) = refl
with_back r (AsyncMessage h) = refl
with_back r (Reject h) = refl

-- ---- none, on and back, and twice

abbrev pub nothing : Renumbering
nothing = record {
  tasks = identity ℕ;
  transfers = identity ℕ;
  isids = identity (List ℕ);
  tsihs = identity ℕ;
  commands = 0;
  statuses = 0;
  no_task = refl;
  no_transfer = refl;
  no_session = refl;
}

abbrev pub inverse : Renumbering → Renumbering
inverse r = record {
  tasks = backward r.tasks;
  transfers = backward r.transfers;
  isids = backward r.isids;
  tsihs = backward r.tsihs;
  commands = steps_back r.commands;
  statuses = steps_back r.statuses;
  no_task = ap r.tasks.back (sym r.no_task) ∙ r.tasks.there reserved_tag;
  no_transfer = ap r.transfers.back (sym r.no_transfer) ∙ r.transfers.there reserved_tag;
  no_session = ap r.tsihs.back (sym r.no_session) ∙ r.tsihs.there 0;
}

abbrev pub both : Renumbering → Renumbering → Renumbering
both r q = record {
  tasks = chained r.tasks q.tasks;
  transfers = chained r.transfers q.transfers;
  isids = chained r.isids q.isids;
  tsihs = chained r.tsihs q.tsihs;
  commands = r.commands + q.commands;
  statuses = r.statuses + q.statuses;
  no_task = ap q.tasks.to r.no_task ∙ q.no_task;
  no_transfer = ap q.transfers.to r.no_transfer ∙ q.no_transfer;
  no_session = ap q.tsihs.to r.no_session ∙ q.no_session;
}

-- the numbers of a head, from each of them
pub same_numbers : (m n : Numbers) → m.task ≡ n.task → m.referenced_task ≡ n.referenced_task → m.transfer ≡ n.transfer → m.isid ≡ n.isid → m.tsih ≡ n.tsih →
    m.command ≡ n.command
    → m.last_command ≡ n.last_command → m.referenced_command ≡ n.referenced_command → m.status ≡ n.status → m ≡ n
same_numbers m n a b c d e f g h i = let same : ◌≡◌ {A = Numbers} (record m { task = m.task }) (record n { task = n.task }) = cc in same

referenced_none : (b : Bool) (n : ℕ) → (if b then shifted 0 n else n) ≡ n
referenced_none true n = shifted_none n
referenced_none false n = refl

referenced_back : (b c : Bool) (s n : ℕ) → c ≡ b → (if c then shifted (steps_back s) (if b then shifted s n else n) else (if b then shifted s n else n)) ≡ n
referenced_back true c s n e = rw e (shifted_back s n)
referenced_back false c s n e = rw e refl

referenced_both : (b c : Bool) (s t n : ℕ) → c ≡ b → (if c then shifted t (if b then shifted s n else n) else (if b then shifted s n else n))
    ≡ (if b then shifted (s + t) n else n)
referenced_both true c s t n e = rw e (shifted_twice s t n)
referenced_both false c s t n e = rw e refl

pub renamed_nothing : (n : Numbers) → renamed nothing n ≡ n
unfolding renamed
renamed_nothing n = same_numbers (renamed nothing n) n refl refl refl (mapped_same (λ x. x) (λ x. refl) n.isid) refl
    (mapped_same (shifted 0) shifted_none n.command)
    (mapped_same (shifted 0) shifted_none n.last_command) (referenced_none (is_tag n.referenced_task) n.referenced_command)
    (mapped_same (shifted 0) shifted_none n.status)

back_and : {A : Type 0} (f g : A → A) → ((x : A) → g (f x) ≡ x) → (o : Option A) → option_map g (option_map f o) ≡ o
back_and f g e o = mapped_twice f g (λ x. x) e o ∙ mapped_same (λ x. x) (λ x. refl) o

pub renamed_back : (r : Renumbering) (n : Numbers) → renamed (inverse r) (renamed r n) ≡ n
unfolding renamed
renamed_back r n = same_numbers (renamed (inverse r) (renamed r n)) n (r.tasks.there n.task) (r.tasks.there n.referenced_task) (r.transfers.there n.transfer)
    (back_and r.isids.to r.isids.back r.isids.there n.isid) (r.tsihs.there n.tsih)
    (back_and (shifted r.commands) (shifted (steps_back r.commands)) (shifted_back r.commands) n.command)
    (back_and (shifted r.commands) (shifted (steps_back r.commands)) (shifted_back r.commands) n.last_command)
    (referenced_back (is_tag n.referenced_task) (is_tag (r.tasks.to n.referenced_task)) r.commands n.referenced_command
    (same_tag r.tasks reserved_tag n.referenced_task r.no_task))
    (back_and (shifted r.statuses) (shifted (steps_back r.statuses)) (shifted_back r.statuses) n.status)

pub renamed_both : (r q : Renumbering) (n : Numbers) → renamed q (renamed r n) ≡ renamed (both r q) n
unfolding renamed
renamed_both r q n = same_numbers (renamed q (renamed r n)) (renamed (both r q) n) refl refl refl
    (mapped_twice r.isids.to q.isids.to (λ x. q.isids.to (r.isids.to x)) (λ x. refl) n.isid) refl
    (mapped_twice (shifted r.commands) (shifted q.commands) (shifted (r.commands + q.commands)) (shifted_twice r.commands q.commands) n.command)
    (mapped_twice (shifted r.commands) (shifted q.commands) (shifted (r.commands + q.commands)) (shifted_twice r.commands q.commands) n.last_command)
    (referenced_both (is_tag n.referenced_task) (is_tag (r.tasks.to n.referenced_task)) r.commands q.commands n.referenced_command
    (same_tag r.tasks reserved_tag n.referenced_task r.no_task))
    (mapped_twice (shifted r.statuses) (shifted q.statuses) (shifted (r.statuses + q.statuses)) (shifted_twice r.statuses q.statuses) n.status)

-- ---- heads

pub head_nothing : (h : Head) → renumbered nothing h ≡ h
head_nothing h = renumbered_is nothing h ∙ ap (with_numbers h) (renamed_nothing (numbers h)) ∙ with_own h

pub head_back : (r : Renumbering) (h : Head) → renumbered (inverse r) (renumbered r h) ≡ h
head_back r h =
    renumbered_is (inverse r) (renumbered r h) ∙ ap (λ (n : Numbers). with_numbers (renumbered r h) (renamed (inverse r) n)) (numbers_of r h)
    ∙ ap (with_numbers (renumbered r h)) (renamed_back r (numbers h)) ∙ with_back r h

-- the numbers of a third run fill the other run's head as they fill the first's
with_third : (r q : Renumbering) (h : Head) → with_numbers (renumbered r h) (renamed q (renamed r (numbers h)))
    ≡ with_numbers h (renamed q (renamed r (numbers h)))
unfolding renumbered numbers with_numbers renamed
with_third r q (NopOut h) = refl
with_third r q (ScsiCommand h) = refl
with_third r q (TaskRequest h) = refl
with_third r q (LoginRequest h) = refl
with_third r q (TextRequest h) = refl
with_third r q (DataOut h) = refl
with_third r q (LogoutRequest h) = refl
with_third r q (NopIn h) = refl
with_third r q (ScsiResponse h) = refl
with_third r q (TaskResponse h) = refl
with_third r q (LoginResponse h) = refl
with_third r q (TextResponse h) = refl
with_third r q (DataIn h) = refl
with_third r q (LogoutResponse h) = refl
with_third r q (ReadyToTransfer h) = refl
with_third r q (AsyncMessage h) = refl
with_third r q (Reject h) = refl

pub head_both : (r q : Renumbering) (h : Head) → renumbered q (renumbered r h) ≡ renumbered (both r q) h
head_both r q h =
    renumbered_is q (renumbered r h) ∙ ap (λ (n : Numbers). with_numbers (renumbered r h) (renamed q n)) (numbers_of r h)
    ∙ with_third r q h ∙ ap (with_numbers h) (renamed_both r q (numbers h)) ∙ sym (renumbered_is (both r q) h)
