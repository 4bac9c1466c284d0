-- A run moves the framer along its bytes and its PDUs.
use Rattle.std.proofs.Common.{◌≡◌, ℕ, List, [], ◌∷◌, take, sym, ap, subst, ◌∙◌}
use Rattle.iscsi_stream.specs.declared.logins.Logins.{Logins}
use Rattle.iscsi_stream.specs.Segment.{no_login, logins_after}
use Rattle.iscsi_stream.specs.Framing.{Framing, opening_framing, HasTaken, FramerMoves, pdu_given_up, message_of}
use Rattle.iscsi_stream.specs.Runs.{Call, Feed, Take, FramerRuns, call_bytes, messages_of}
use Rattle.iscsi_stream.proofs.TakingLemmas.{moves_none, moves_fed, moves_gave, moves_then, at_opening}

pub runs_move : (old : Framing) (calls : List Call) (new : Framing) → FramerRuns old calls new
    → FramerMoves old new (call_bytes calls) (messages_of old.logins calls)
unfolding FramerRuns call_bytes messages_of
runs_move old [] new runs = subst (λ (v : Framing). FramerMoves old v [] []) runs (moves_none old)
runs_move old (Feed piece taken ∷ calls) new runs =
    let mid = runs.0 in
    let logins : mid.logins ≡ old.logins = ap (λ (v : Framing). v.logins) runs.1.gathered in
    moves_then old mid new (take taken piece) (call_bytes calls) [] (messages_of old.logins calls) (moves_fed old piece taken mid runs.1)
    (subst (λ (l : Logins). FramerMoves mid new (call_bytes calls) (messages_of l calls)) logins (runs_move mid calls new runs.2))
runs_move old (Take head segment ∷ calls) new runs =
    moves_then old (pdu_given_up old head) new [] (call_bytes calls) (message_of old head segment ∷ []) (messages_of (logins_after old.logins head) calls)
    (moves_gave old head segment runs.1) (runs_move (pdu_given_up old head) calls new runs.2)

pub from_opening : (limit : ℕ) (calls : List Call) (new : Framing) → FramerRuns (opening_framing limit) calls new
    → HasTaken (call_bytes calls) (messages_of no_login calls) new
from_opening limit calls new runs = runs_move _ calls new runs [] [] (at_opening limit)

pub limit_kept : (old : Framing) (calls : List Call) (new : Framing) → FramerRuns old calls new → new.limit ≡ old.limit
unfolding FramerRuns
limit_kept old [] new runs = ap (λ (v : Framing). v.limit) (sym runs)
limit_kept old (Feed piece taken ∷ calls) new runs = limit_kept runs.0 calls new runs.2 ∙ ap (λ (v : Framing). v.limit) runs.1.gathered
limit_kept old (Take head segment ∷ calls) new runs = limit_kept (pdu_given_up old head) calls new runs.2
