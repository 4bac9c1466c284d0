-- A request by its kind, and the bytes of its PDU.
use Rattle.std.proofs.Common.{◌≡◌, ◌∙◌, ℕ, List, Bool, true, false, Option, refl, sym, ap, subst}
use Rattle.std.specs.Prelude.{Result}
use Rattle.iscsi_pdu.specs.declared.head.Head.{Head}
use Rattle.iscsi_stream.specs.Segment.{segment_of, segment_bytes, is_last_login_pdu}
use Rattle.iscsi_stream.specs.Stream.{Message, message}
use Rattle.iscsi_target_session.specs.Session.{Session, Reply}
use Rattle.iscsi_target_session.specs.Replies.{ReplyPost}

-- a PDU with no text means its bytes
plain_at : (c : Bool) (hd : Head) (bytes : List ℕ) → is_last_login_pdu hd ≡ false → segment_bytes (message c hd bytes).segment ≡ bytes
unfolding segment_of segment_bytes
plain_at true hd bytes e = refl
plain_at false hd bytes e = rw e refl

pub plain : (c : Bool) (hd : Head) (bytes : List ℕ) (m : Message) (is : message c hd bytes ≡ m) → is_last_login_pdu hd ≡ false → segment_bytes m.segment ≡ bytes
plain c hd bytes m is e = ap (λ (x : Message). segment_bytes x.segment) (sym is) ∙ plain_at c hd bytes e

-- a message has the head of its PDU
pub head_of : (c : Bool) (hd : Head) (bytes : List ℕ) (m : Message) (is : message c hd bytes ≡ m) → m.head ≡ hd
head_of c hd bytes m is = ap (λ (x : Message). x.head) (sym is)

-- where the PDU is none of a login, its message means its bytes
pub bytes_of : (c : Bool) (hd : Head) (bytes : List ℕ) (m : Message) (is : message c hd bytes ≡ m) → is_last_login_pdu m.head ≡ false → segment_bytes m.segment
    ≡ bytes
bytes_of c hd bytes m is e = plain c hd bytes m is (sym (ap is_last_login_pdu (head_of c hd bytes m is)) ∙ e)

pub does_as : {E : Type 0} (result : Result (Option ℕ) E) (a b : Reply) (old new : Session) (before after : List ℕ) → a ≡ b
    → ReplyPost a result old new before after
    → ReplyPost b result old new before after
does_as result a b old new before after e h = subst (λ (r : Reply). ReplyPost r result old new before after) e h
