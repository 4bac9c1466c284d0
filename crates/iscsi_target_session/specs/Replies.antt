-- What a call leaves: the session, the output and the rule that was broken.
use Rattle.std.specs.Prelude.{◌≡◌, ℕ, Option, List, ◌++◌, Result, IfOk, OnErr}
use Rattle.iscsi_stream.specs.Canonical.{canon}
use Rattle.iscsi_target_session.specs.Session.{Session, Reply, ended_session}

-- The session, the output and the rule that was broken, after a reply.
pub record Replied (r : Reply) (broken : Option ℕ) (new : Session)
    (before after : List ℕ) : Type 0 where
  pub session : new ≡ r.session
  pub output : after ≡ before ++ canon r.answers
  pub rule_is : broken ≡ r.rule

-- What a session did with a message: it was answered so, or memory ran out; then nothing was
-- written, and the session is as it was.
pub record ReplyPost {E : Type 0} (r : Reply) (result : Result (Option ℕ) E) (old new : Session)
    (before after : List ℕ) : Type 0 where
  pub ok : IfOk result (λ rule. Replied r rule new before after)
  pub err : OnErr result (new ≡ old)
  pub unwritten : OnErr result (after ≡ before)

-- The same where memory ran out with the session as it was but for what a closed one drops.
pub record ReplyAttemptPost {E : Type 0} (r : Reply) (result : Result (Option ℕ) E)
    (old new : Session)
    (before after : List ℕ) : Type 0 where
  pub ok : IfOk result (λ rule. Replied r rule new before after)
  pub err : OnErr result (ended_session new ≡ ended_session old)
  pub unwritten : OnErr result (after ≡ before)
