-- What a renaming knows of two runs.
use Rattle.std.specs.Prelude.{◌≡◌, ℕ, Bool, true, false, List, Option, Some, None, option_map}
use Rattle.std.specs.Ordering.{nat_cmp}
use Rattle.std.specs.Cmp.Lexicographic.{slice_cmp}
use Rattle.iscsi_pdu.specs.declared.head.Head.{Head}
use Rattle.iscsi_pdu.specs.Fields.{reserved_tag}
use Rattle.iscsi_pdu.specs.Meaning.{Means}
use Rattle.iscsi_stream.specs.Stream.{Message}
use Rattle.iscsi_stream.specs.Framing.{Framing, is_ready, message_of}
use Rattle.iscsi_compare.specs.declared.same_job.renaming.Renaming.{Renaming}
use Rattle.iscsi_compare.specs.SameJob.{OneToOne, Renumbering, renumbered_message}
use Rattle.iscsi_compare.specs.inner.SameJobLearning.{AgreesWithKnown, IsSound, KnownNames, IsRenumberingLeft, LearnsAnswer}

-- what a renaming knows
abbrev pub known_by : Renaming → KnownNames
known_by known = record {
  tasks = known.tasks.there;
  transfers = known.transfers.there;
  isids = known.isids.there;
  tsihs = known.tsihs.there;
  commands = known.commands;
  statuses = known.statuses;
}

-- The renumbering agrees with all that is known.
abbrev pub AllowsRenumbering : Renaming → Renumbering → Type 0
AllowsRenumbering known r = IsRenumberingLeft (known_by known) r

-- every renaming of these names has this one stand for itself
abbrev pub FixesName : ((OneToOne ℕ) → Type 0) → ℕ → Type 0
FixesName Left name = (f : OneToOne ℕ) → Left f → f.to name ≡ name

-- What is known contradicts nothing: its tables fit each other, and some renumbering agrees with
-- it.
pub record IsSoundRenaming (known : Renaming) : Type 0 where
  pub tasks : IsSound nat_cmp known.tasks.there known.tasks.back
  pub transfers : IsSound nat_cmp known.transfers.there known.transfers.back
  pub isids : IsSound (slice_cmp nat_cmp) known.isids.there known.isids.back
  pub tsihs : IsSound nat_cmp known.tsihs.there known.tsihs.back
  pub no_task : FixesName (AgreesWithKnown nat_cmp known.tasks.there) reserved_tag
  pub no_transfer : FixesName (AgreesWithKnown nat_cmp known.transfers.there) reserved_tag
  pub no_session : FixesName (AgreesWithKnown nat_cmp known.tsihs.there) 0

-- what stands next: the message of the PDU that is ready, or nothing
abbrev pub NextIs : Bool → Framing → Option Message → Type 0
NextIs true v next =
    (head : Head) × (segment : List ℕ) × Means v.held head segment
    × (next ≡ Some (message_of v head segment))
NextIs false v next = next ≡ None

-- What stands next in two streams was learnt.
pub record LearnsNext (old new : Renaming) (v w : Framing) (answer : Bool) : Type 0 where
  pub next : Option Message
  pub other_next : Option Message
  pub next_is : NextIs (is_ready v) v next
  pub other_next_is : NextIs (is_ready w) w other_next
  pub learns : LearnsAnswer (AllowsRenumbering old) (AllowsRenumbering new)
      (λ r. option_map (renumbered_message r) next ≡ other_next) answer
