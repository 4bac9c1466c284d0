-- What a PDU makes of a recording: of its requests, and of the uses of their tags (RFC 7143, section 11).
use Rattle.std.specs.Prelude.{◌≡◌, ℕ, ◌+◌, ◌-◌, Bool, true, false, not, ◌==◌, nat_le, if◌then◌else◌, List, [], ◌∷◌, ◌++◌, length, Option, Some, None, slice_get, slice_set}
use Rattle.iscsi_pdu.specs.Fields.{reserved_tag}
use Rattle.iscsi_pdu.specs.declared.head.Head.{Head}
use Rattle.iscsi_pdu.specs.declared.head.Head.TheVariants as heads
use Rattle.iscsi_tasks.specs.Numbering.{acknowledged, next_after}
use Rattle.iscsi_tasks.specs.Tasks.{answered_request, latest_request, next_of, uses_after, uses_of}
use Rattle.iscsi_tasks.specs.Uses.{uses_without}
use Rattle.iscsi_tasks.specs.declared.tasks.Tasks.{Tasks}
use Rattle.iscsi_tasks.specs.declared.uses.Use.{Use}
use Rattle.iscsi_pdu.specs.declared.serial.Serial.{Serial}
use Rattle.iscsi_job.specs.declared.fault.Reason.{Reason}
use Rattle.iscsi_job.specs.declared.fault.Reason.TheVariants as reason
use Rattle.iscsi_job.specs.declared.item.Ended.{Ended}
use Rattle.iscsi_job.specs.Answers.{AnsweredItem, item_answered, refuses}
use Rattle.iscsi_job.specs.Jobs.{Item, NotedRequest}
use Rattle.iscsi_job.specs.Requests.{asked_item, gives, said_by}
use Rattle.iscsi_job.specs.declared.item.Asked.{Asked}
use Rattle.iscsi_job.specs.declared.recording.At.{At}
use Rattle.iscsi_job.specs.declared.state.Recording.{Recording}
use Rattle.iscsi_job.specs.declared.requests.Heard.{Heard}
use Rattle.iscsi_job.specs.declared.requests.Heard.TheVariants as heard

-- What a PDU makes of the requests, and why it has no place in a job, if it has none.
pub record AnsweredNoted : Type 0 where
  pub noted : List NotedRequest
  pub refusal : Option Reason

-- the PDU has no place in a job, and changes no request
abbrev pub noted_refuses : List NotedRequest → Reason → AnsweredNoted
noted_refuses noted why = record { noted = noted; refusal = Some why }

-- the request at an index is changed so
abbrev pub noted_with : List NotedRequest → ℕ → NotedRequest → AnsweredItem → AnsweredNoted
noted_with noted index request answered =
    record { noted = slice_set noted index (record request { item = answered.item }); refusal = answered.refusal }

-- A request that has ended is not answered again.
abbrev pub answered_unless : Option Ended → Item → Head → List ℕ → AnsweredItem
answered_unless (Some end) item head bytes = refuses item reason.Unasked
answered_unless None item head bytes = item_answered item head bytes

abbrev pub answered_once : Item → Head → List ℕ → AnsweredItem
answered_once item head bytes = answered_unless item.ended item head bytes

-- what a PDU makes of the request at an index, which may not be there
abbrev pub noted_found : List NotedRequest → ℕ → Option NotedRequest → Head → List ℕ → AnsweredNoted
noted_found noted index None head bytes = noted_refuses noted reason.Unasked
noted_found noted index (Some request) head bytes =
    noted_with noted index request (answered_once request.item head bytes)

-- what a PDU makes of the request that it belongs to, if it belongs to one
abbrev pub noted_answered : List NotedRequest → Option ℕ → Head → List ℕ → AnsweredNoted
noted_answered noted None head bytes = noted_refuses noted reason.Unasked
noted_answered noted (Some index) head bytes =
    noted_found noted index (slice_get noted index) head bytes

-- why a PDU of the target has no place in a job, by its kind
abbrev pub kind_refusal : Head → Option Reason
kind_refusal (heads.Reject h) = Some reason.Rejected
kind_refusal (heads.NopIn h) = None
kind_refusal (heads.ScsiResponse h) = None
kind_refusal (heads.TaskResponse h) = None
kind_refusal (heads.LoginResponse h) = None
kind_refusal (heads.TextResponse h) = None
kind_refusal (heads.DataIn h) = None
kind_refusal (heads.LogoutResponse h) = None
kind_refusal (heads.ReadyToTransfer h) = None
kind_refusal (heads.AsyncMessage h) = None
kind_refusal _ = Some reason.Kind

-- whether a PDU of the target answers a request; a ping of the target answers none
abbrev pub is_answer : Head → Bool
is_answer (heads.NopIn h) = not (h.initiator_task_tag == reserved_tag)
is_answer (heads.ScsiResponse h) = true
is_answer (heads.TaskResponse h) = true
is_answer (heads.TextResponse h) = true
is_answer (heads.DataIn h) = true
is_answer (heads.LogoutResponse h) = true
is_answer _ = false

-- what a PDU of the target makes of the requests, where it belongs to the request at this index
abbrev pub noted_unrefused : Option Reason → List NotedRequest → Option ℕ → Head → List ℕ → AnsweredNoted
noted_unrefused (Some why) noted index head bytes = noted_refuses noted why
noted_unrefused None noted index head bytes =
    if is_answer head then noted_answered noted index head bytes
    else record { noted = noted; refusal = None }

-- which of the requests that are held one is, if it was not taken out
abbrev pub slot : ℕ → Option ℕ → Option ℕ
slot given None = None
slot given (Some request) = if nat_le given request then Some (request - given) else None

abbrev pub noted_heard : ℕ → Tasks → List NotedRequest → Head → List ℕ → AnsweredNoted
noted_heard given tasks noted head bytes =
    noted_unrefused (kind_refusal head) noted (slot given (answered_request tasks head)) head bytes

-- the uses of tags after a PDU of the target
pub record TasksHear (old : Tasks) (head : Head) (new : Tasks) : Type 0 where
  pub uses : (tag : ℕ) → uses_of new tag ≡ uses_after old head tag
  pub next : next_of new ≡ next_after (next_of old) head

-- A recording: how many requests were taken out of it, those that are held, and the uses of tags.
pub record Recorded : Type 0 where
  pub given : ℕ
  pub noted : List NotedRequest
  pub tasks : Tasks

-- what a recording has noted
abbrev pub recorded : Recording → Recorded
recorded recording =
    record { given = recording.given; noted = recording.noted.items; tasks = recording.tasks }

-- A PDU of the target is heard, and has a place in a job but for this reason.
pub record AnswerStep (old : Recorded) (head : Head) (bytes : List ℕ) (refusal : Option Reason)
    (new : Recorded) : Type 0 where
  pub given : new.given ≡ old.given
  pub noted : new.noted ≡ (noted_heard old.given old.tasks old.noted head bytes).noted
  pub why : refusal ≡ (noted_heard old.given old.tasks old.noted head bytes).refusal
  pub tasks : TasksHear old.tasks head new.tasks

-- the uses of tags behind one more use of a tag
pub record TasksBegin (old : Tasks) (tag : ℕ) (begun : Use) (new : Tasks) : Type 0 where
  pub uses : (t : ℕ) → uses_of new t ≡ (if t == tag then uses_of old t ++ begun ∷ [] else uses_of old t)
  pub next : next_of new ≡ next_of old

-- a request that is noted anew: its tag, its place, and the number of its PDU
abbrev pub noted_request : ℕ → At → Asked → List ℕ → NotedRequest
noted_request tag at asked bytes =
    record { tag = tag; place = at.place; pdu = at.pdu; item = asked_item asked bytes }

-- A PDU asks something, and the recording has one request more, and one use of its tag.
pub record BeginsRequest (old : Recorded) (at : At) (tag : ℕ) (asked : Asked) (known : Serial)
    (bytes : List ℕ) (refusal : Option Reason) (new : Recorded) : Type 0 where
  pub why : refusal ≡ None
  pub given : new.given ≡ old.given
  pub noted : new.noted ≡ old.noted ++ noted_request tag at asked bytes ∷ []
  pub tasks : TasksBegin old.tasks tag
      (record { request = old.given + length old.noted; known = known }) new.tasks

-- A PDU changes nothing of a recording, and has no place in a job for this reason, if there is one.
pub record ChangesNothing (old : Recorded) (why : Option Reason) (refusal : Option Reason)
    (new : Recorded) : Type 0 where
  pub is : refusal ≡ why
  pub same : new ≡ old

-- a request to which bytes are given, unless they have no place
abbrev pub given_unless : Option Reason → Item → List ℕ → AnsweredItem
given_unless None item bytes = record { item = record item { sent = item.sent ++ bytes }; refusal = None }
given_unless (Some why) item bytes = refuses item why

-- what bytes at an offset make of the request at an index, which may not be there
abbrev pub noted_given_found : List NotedRequest → ℕ → Option NotedRequest → ℕ → List ℕ → AnsweredNoted
noted_given_found noted index None offset bytes = noted_refuses noted reason.Unasked
noted_given_found noted index (Some request) offset bytes =
    noted_with noted index request (given_unless (gives request.item offset bytes) request.item bytes)

-- what bytes at an offset make of the request that used their tag last, if there is one
abbrev pub noted_given : List NotedRequest → Option ℕ → ℕ → List ℕ → AnsweredNoted
noted_given noted None offset bytes = noted_refuses noted reason.Unasked
noted_given noted (Some index) offset bytes =
    noted_given_found noted index (slice_get noted index) offset bytes

-- Bytes are given to the request that used their tag last.
pub record GivesData (old : Recorded) (tag : ℕ) (offset : ℕ) (bytes : List ℕ) (refusal : Option Reason)
    (new : Recorded) : Type 0 where
  pub noted : new.noted
      ≡ (noted_given old.noted (slot old.given (latest_request (uses_of old.tasks tag))) offset bytes).noted
  pub why : refusal
      ≡ (noted_given old.noted (slot old.given (latest_request (uses_of old.tasks tag))) offset bytes).refusal
  pub given : new.given ≡ old.given
  pub tasks : new.tasks ≡ old.tasks

-- what a request with a tag makes of a recording; its PDU has an ExpStatSN
abbrev pub AsksKnown : Option Serial → Recorded → At → ℕ → Asked → List ℕ → Option Reason → Recorded → Type 0
AsksKnown None old at tag asked bytes refusal new = ChangesNothing old (Some reason.Kind) refusal new
AsksKnown (Some known) old at tag asked bytes refusal new =
    BeginsRequest old at tag asked known bytes refusal new

-- what a PDU of the initiator makes of a recording, by what it says
abbrev pub SaidStep : Heard → Option Serial → Recorded → At → List ℕ → Option Reason → Recorded → Type 0
SaidStep (heard.Asks tag asked) known old at bytes refusal new =
    AsksKnown known old at tag asked bytes refusal new
SaidStep (heard.Gives tag offset) known old at bytes refusal new =
    GivesData old tag offset bytes refusal new
SaidStep heard.Nothing known old at bytes refusal new = ChangesNothing old None refusal new
SaidStep (heard.Refuses why) known old at bytes refusal new = ChangesNothing old (Some why) refusal new

-- A PDU of the initiator is heard, at a place, with a number.
abbrev pub AskStep : Recorded → At → Head → List ℕ → Option Reason → Recorded → Type 0
AskStep old at head bytes refusal new =
    SaidStep (said_by head bytes) (acknowledged head) old at bytes refusal new

-- the uses of tags behind a request that was taken out
pub record TasksForget (old : Tasks) (tag : ℕ) (request : ℕ) (new : Tasks) : Type 0 where
  pub uses : (t : ℕ) → uses_of new t
      ≡ (if t == tag then uses_without request (uses_of old t) else uses_of old t)
  pub next : next_of new ≡ next_of old

-- the first request was taken out, and no answer belongs to it from now on
pub record GivesNoted (old : Recorded) (noted : NotedRequest) (new : Recorded) : Type 0 where
  pub first : old.noted ≡ noted ∷ new.noted
  pub given : new.given ≡ old.given + 1
  pub tasks : TasksForget old.tasks noted.tag old.given new.tasks

-- The first request was taken out, or there was none.
abbrev pub GivesFront : Recorded → Option NotedRequest → Recorded → Type 0
GivesFront old None new = (old.noted ≡ []) × (new ≡ old)
GivesFront old (Some noted) new = GivesNoted old noted new
