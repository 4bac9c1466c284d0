-- The Data-In of a read tile its data.
use Rattle.std.proofs.Common.{◌≡◌, refl, ap, sym, ◌∙◌, subst, Bool, true, false, List, [], ◌∷◌, ◌++◌, ℕ, ◌+◌, ◌⊎◌, inl, inr, Option, Some, None, length}
use Rattle.std.proofs.Common.{append_assoc, append-nil, arith, length-append}
use Rattle.std.specs.Prelude.{if◌then◌else◌, not, ◌==◌, nat_lt, unwrap_or}
use Rattle.std.proofs.lemmas.Bool.{and_parts, eqb-true}
use Rattle.iscsi_pdu.specs.Fields.{is_tag, reserved_tag}
use Rattle.iscsi_pdu.specs.declared.head.Head.{Head}
use Rattle.iscsi_pdu.specs.declared.head.Head.TheVariants as heads
use Rattle.iscsi_pdu.specs.declared.head.scsi_response.ScsiResponse.{ScsiResponse}
use Rattle.iscsi_pdu.specs.declared.head.data_in.DataIn.{DataIn}
use Rattle.iscsi_stream.specs.Segment.{segment_bytes}
use Rattle.iscsi_stream.specs.Stream.{Message}
use Rattle.iscsi_login.specs.declared.phase.Phase.{Phase}
use Rattle.iscsi_login.specs.declared.phase.Phase.TheVariants as phases
use Rattle.iscsi_initiator.specs.declared.request.Done.TheVariants as done
use Rattle.iscsi_initiator.specs.declared.outstanding.Outstanding.{Outstanding}
use Rattle.iscsi_initiator.specs.declared.outstanding.Outstanding.TheVariants.{In, Out, Ping, Text, Logout}
use Rattle.iscsi_initiator.specs.Progress.{ReadProgress}
use Rattle.iscsi_initiator.specs.State.{InitiatorSession}
use Rattle.iscsi_pdu.specs.Serial.{next_sn}
use Rattle.iscsi_initiator.specs.Steps.{InitiatorStep, rule_broken, quiet}
use Rattle.iscsi_initiator.specs.declared.target_pdu.Answer.{Answer}
use Rattle.iscsi_initiator.specs.declared.target_pdu.Answer.TheVariants as answers
use Rattle.iscsi_initiator.specs.declared.target_pdu.Content.{Content}
use Rattle.iscsi_initiator.specs.declared.target_pdu.Content.TheVariants as contents
use Rattle.iscsi_initiator.specs.declared.target_pdu.Counters.{Counters}
use Rattle.iscsi_initiator.specs.declared.target_pdu.TargetPdu.{TargetPdu}
use Rattle.iscsi_initiator.specs.TargetPdu.{target_pdu}
use Rattle.iscsi_initiator.specs.Full.{DuePdu, UnsolicitedNopIn, Data, Response, Async, RejectPdu, on_due, outcome_with, sense_of, takes, due, due_to, pdu_step, initiator_full_step}
use Rattle.iscsi_initiator.specs.Full.{fits_reading, update_counters, is_in_turn, completes, has_received, read_outcome, residual}
use Rattle.iscsi_initiator.specs.Machine.{initiator_step, step_in}
use Rattle.iscsi_initiator.specs.Laws.{receives, IsReceiving, HasReceived, ReadsTile}
use Rattle.iscsi_stream.specs.Pieces.{TilesFrom, data_piece, data_pieces, piece_data, Pieces}

-- the read goes on with these bytes, or has them as its data
abbrev pub Stands : InitiatorSession → List ℕ → Type 0
Stands m bytes = IsReceiving m bytes ⊎ HasReceived m bytes

-- behind these bytes a message brought these pieces
pub record Got (a : List ℕ) (ps : Pieces) (n : InitiatorSession) : Type 0 where
  pub full : n.phase ≡ phases.Full
  pub tiles : TilesFrom (length a) ps (length a + length (piece_data ps))
  pub now : Stands n (a ++ piece_data ps)

-- it did, or it closed the session, and the read stands as it was
pub data Gets (a : List ℕ) (ps : Pieces) (n : InitiatorSession) : Type 0 where
  shut : n.phase ≡ phases.Closed → Stands n a → Gets a ps n
  got : Got a ps n → Gets a ps n

gets_if : (a : List ℕ) (ps : Pieces) (b : Bool) (x y : InitiatorStep) → Gets a ps x.machine → Gets a ps y.machine → Gets a ps (if b then x else y).machine
gets_if a ps true x y p q = p
gets_if a ps false x y p q = q

stands_at : (m n : InitiatorSession) (a : List ℕ) → n.outstanding ≡ m.outstanding → n.done ≡ m.done → Stands m a → Stands n a
stands_at m n a e f (inl i) = inl (record { reading = i.reading; is = e ∙ i.is; received = i.received })
stands_at m n a e f (inr h) = inr (record {
  response = h.response;
  status = h.status;
  sense = h.sense;
  residual = h.residual;
  none = e ∙ h.none;
  outcome = f
      ∙ h.outcome;
})

-- a message without data leaves the read as it is
nothing : (m n : InitiatorSession) (a : List ℕ) → n.phase ≡ phases.Full → n.outstanding ≡ m.outstanding → n.done ≡ m.done → Stands m a → Gets a [] n
nothing m n a p e f s = got (record { full = p; tiles = omega arith; now = subst (λ (x : List ℕ). Stands n x) (sym (append-nil a)) (stands_at m n a e f s) })

-- ---- the open read

abbrev IsRead : Option Outstanding → Type 0
IsRead None = Unit {0}
IsRead (Some (In r)) = Unit {0}
IsRead (Some (Out w)) = ⊥
IsRead (Some Ping) = ⊥
IsRead (Some Text) = ⊥
IsRead (Some Logout) = ⊥

is_read : (m : InitiatorSession) (a : List ℕ) (q : Option Outstanding) → m.outstanding ≡ q → Stands m a → IsRead q
is_read m a q e (inl i) = subst (λ (o : Option Outstanding). IsRead o) (sym i.is ∙ e) tt
is_read m a q e (inr h) = subst (λ (o : Option Outstanding). IsRead o) (sym h.none ∙ e) tt

abbrev read_or : Option Outstanding → ReadProgress → ReadProgress
read_or (Some (In r)) s = r
read_or _ s = s

abbrev IsSome : Option Outstanding → Type 0
IsSome None = ⊥
IsSome (Some o) = Unit {0}

-- what the outstanding read has received
has : (m : InitiatorSession) (a : List ℕ) (r : ReadProgress) → m.outstanding ≡ Some (In r) → Stands m a → r.received ≡ a
has m a r e (inl i) = ap (λ (o : Option Outstanding). (read_or o r).received) (sym e ∙ i.is) ∙ i.received
has m a r e (inr h) = absurd (subst (λ (o : Option Outstanding). IsSome o) (sym e ∙ h.none) tt)

one_piece : (a bytes : List ℕ) (offset : ℕ) → offset ≡ length a → TilesFrom (length a) ((offset, bytes) ∷ []) (length a + length (bytes ++ []))
one_piece a bytes offset e = (e, ap (λ (x : List ℕ). length a + length x) (sym (append-nil bytes)))

more_bytes : (a b bytes : List ℕ) → b ≡ a → b ++ bytes ≡ a ++ (bytes ++ [])
more_bytes a b bytes e = ap (λ (x : List ℕ). x ++ bytes) e ∙ ap (λ (x : List ℕ). a ++ x) (sym (append-nil bytes))

data_gets : (b c : Bool) (m : InitiatorSession) (a : List ℕ) (r : ReadProgress) (h : DataIn) (bytes : List ℕ) → Stands m a → m.phase ≡ phases.Full → r.received
    ≡ a →
    fits_reading r h bytes ≡ b
    → Gets a ((h.buffer_offset, bytes) ∷ []) (if not b then rule_broken m 3 else
    (if c then completes m (read_outcome (r.received ++ bytes) h) else quiet (has_received m r bytes))).machine
data_gets false c m a r h bytes s p e f = shut refl (stands_at m _ a refl refl s)
data_gets true true m a r h bytes s p e f =
    let at : h.buffer_offset ≡ length a = eqb-true _ _ (and_parts _ _ (and_parts _ _ f).0).1 ∙ ap (λ (x : List ℕ). length x) e in
    got (record {
      full = p;
      tiles = one_piece a bytes h.buffer_offset at;
      now = inr (record {
        response = 0;
        status = unwrap_or h.status 0;
        sense = [];
        residual = residual (unwrap_or h.overflow false) (unwrap_or h.underflow false) (unwrap_or h.residual 0);
        none = refl;
        outcome = ap (λ (x : List ℕ). Some (done.Command 0 (unwrap_or h.status 0) [] x (residual (unwrap_or h.overflow false) (unwrap_or h.underflow false)
            (unwrap_or h.residual 0)))) (more_bytes a r.received bytes e);
      });
    })
data_gets true false m a r h bytes s p e f =
    let at : h.buffer_offset ≡ length a = eqb-true _ _ (and_parts _ _ (and_parts _ _ f).0).1 ∙ ap (λ (x : List ℕ). length x) e in
    got (record {
      full = p;
      tiles = one_piece a bytes h.buffer_offset at;
      now = inl (record {
        reading = record r { received = r.received ++ bytes; next_data_sn = next_sn r.next_data_sn };
        is = refl;
        received = more_bytes a r.received bytes e;
      });
    })

response_gets : (o : Option (List ℕ)) (m : InitiatorSession) (a : List ℕ) (r : ReadProgress) (h : ScsiResponse) → Stands m a → m.phase ≡ phases.Full
    → r.received ≡ a →
    Gets a [] (outcome_with o m r.received h).machine
response_gets None m a r h s p e = shut refl (stands_at m _ a refl refl s)
response_gets (Some sense) m a r h s p e =
    got (record {
      full = p;
      tiles = omega arith;
      now = inr (record {
        response = h.response;
        status = unwrap_or h.status 0;
        sense = sense;
        residual = residual h.overflow h.underflow (unwrap_or h.residual 0);
        none = refl;
        outcome = ap (λ (x : List ℕ). Some (done.Command h.response (unwrap_or h.status 0) sense x (residual h.overflow h.underflow (unwrap_or h.residual 0))))
            (e ∙ sym (append-nil a));
      });
    })

some_gets : (a : List ℕ) (ps : Pieces) (m : InitiatorSession) (d : DuePdu) (counters : Counters) (bytes : List ℕ) → Stands m a →
    Gets a ps (on_due (update_counters m counters) d bytes).machine → Gets a ps (takes (Some d) counters m bytes).machine
some_gets a ps m d counters bytes s g =
    gets_if a ps (nat_lt m.held.initiator_max_recv (length bytes)) _ _ (shut refl (stands_at m _ a refl refl s))
    (gets_if a ps (not (is_in_turn m.exp_stat_sn counters.stat_sn)) _ _ (shut refl (stands_at m _ a refl refl s)) g)

-- the data of an answer
abbrev answer_piece : Answer → List ℕ → Pieces
answer_piece (answers.Data h) bytes = (h.buffer_offset, bytes) ∷ []
answer_piece _ bytes = []

due_gets : (q : Option Outstanding) (answer : Answer) (counters : Counters) (m : InitiatorSession) (bytes a : List ℕ) → m.phase ≡ phases.Full → m.outstanding
    ≡ q →
    Stands m a → Gets a (answer_piece answer bytes) (takes (due_to q answer) counters m bytes).machine
due_gets None answer counters m bytes a p e s = shut refl (stands_at m _ a refl refl s)
due_gets (Some Ping) answer counters m bytes a p e s = absurd (is_read m a _ e s)
due_gets (Some Text) answer counters m bytes a p e s = absurd (is_read m a _ e s)
due_gets (Some Logout) answer counters m bytes a p e s = absurd (is_read m a _ e s)
due_gets (Some (Out w)) answer counters m bytes a p e s = absurd (is_read m a _ e s)
due_gets (Some (In r)) (answers.Data h) counters m bytes a p e s =
    some_gets a _ m (Data r h) counters bytes s (data_gets (fits_reading r h bytes) h.has_status (update_counters m counters) a r h bytes
    (stands_at m _ a refl refl s) p (has m a r e s) refl)
due_gets (Some (In r)) (answers.Response h) counters m bytes a p e s =
    some_gets a _ m (Response r.received h) counters bytes s (response_gets (sense_of bytes)
    (update_counters m counters) a r h (stands_at m _ a refl refl s) p (has m a r e s))
due_gets (Some (In r)) _ counters m bytes a p e s = shut refl (stands_at m _ a refl refl s)

takes_gets : (a : List ℕ) (ps : Pieces) (b : Bool) (x y : Option DuePdu) (counters : Counters) (m : InitiatorSession) (bytes : List ℕ) →
    Gets a ps (takes x counters m bytes).machine → Gets a ps (takes y counters m bytes).machine
    → Gets a ps (takes (if b then x else y) counters m bytes).machine
takes_gets a ps true x y counters m bytes p q = p
takes_gets a ps false x y counters m bytes p q = q

-- the data of a PDU
abbrev content_piece : Content → List ℕ → Pieces
content_piece (contents.Tagged tag answer) bytes = answer_piece answer bytes
content_piece _ bytes = []

content_gets : (content : Content) (counters : Counters) (m : InitiatorSession) (bytes a : List ℕ) → m.phase ≡ phases.Full → Stands m a →
    Gets a (content_piece content bytes) (takes (due m content) counters m bytes).machine
content_gets (contents.UnsolicitedNopIn h) counters m bytes a p s =
    some_gets a [] m (UnsolicitedNopIn h) counters bytes s (gets_if a [] (is_tag h.target_transfer_tag) _ _ (nothing m _ a p refl refl s)
    (nothing m _ a p refl refl s))
content_gets contents.Async counters m bytes a p s = some_gets a [] m Async counters bytes s (nothing m _ a p refl refl s)
content_gets contents.Reject counters m bytes a p s = some_gets a [] m RejectPdu counters bytes s (shut refl (stands_at m _ a refl refl s))
content_gets (contents.Tagged tag answer) counters m bytes a p s =
    takes_gets a (answer_piece answer bytes) (tag == m.initiator_task_tag) (due_to m.outstanding answer) None counters m bytes
    (due_gets m.outstanding answer counters m bytes a p refl s) (shut refl (stands_at m _ a refl refl s))

-- the data of what may be a PDU of the target
abbrev pdu_piece : Option TargetPdu → List ℕ → Pieces
pdu_piece None bytes = []
pdu_piece (Some pdu) bytes = content_piece pdu.content bytes

pdu_gets : (pdu : Option TargetPdu) (m : InitiatorSession) (bytes a : List ℕ) → m.phase ≡ phases.Full → Stands m a →
    Gets a (pdu_piece pdu bytes) (pdu_step pdu m bytes).machine
pdu_gets None m bytes a p s = shut refl (stands_at m _ a refl refl s)
pdu_gets (Some pdu) m bytes a p s = content_gets pdu.content pdu.counters m bytes a p s

nop_piece : (b : Bool) (x y : TargetPdu) (bytes : List ℕ) → content_piece x.content bytes ≡ [] → content_piece y.content bytes ≡ [] →
    content_piece (if b then x else y).content bytes ≡ []
nop_piece true x y bytes p q = p
nop_piece false x y bytes p q = q

full_gets : (head : Head) (m : InitiatorSession) (bytes a : List ℕ) → m.phase ≡ phases.Full → Stands m a →
    Gets a (data_piece head bytes) (initiator_full_step m head bytes).machine
full_gets (heads.NopIn h) m bytes a p s =
    subst (λ (ps : Pieces). Gets a ps (initiator_full_step m (heads.NopIn h) bytes).machine)
    (nop_piece (h.initiator_task_tag == reserved_tag) _ _ bytes refl refl)
    (pdu_gets (target_pdu (heads.NopIn h)) m bytes a p s)
full_gets (heads.DataOut h) m bytes a p s = shut refl (stands_at m _ a refl refl s)
full_gets head m bytes a p s = pdu_gets (target_pdu head) m bytes a p s

step_gets : (m : InitiatorSession) (message : Message) (a : List ℕ) → m.phase ≡ phases.Full → Stands m a →
    Gets a (data_piece message.head (segment_bytes message.segment)) (initiator_step m message).machine
unfolding initiator_step
step_gets m message a p s =
    subst (λ (x : Phase). Gets a (data_piece message.head (segment_bytes message.segment)) (step_in x m message).machine) (sym p)
    (full_gets message.head m (segment_bytes message.segment) a p s)

-- ---- many messages

closed_step : (m : InitiatorSession) (message : Message) → m.phase ≡ phases.Closed → (initiator_step m message).machine ≡ m
unfolding initiator_step
closed_step m message e = subst (λ (x : Phase). (step_in x m message).machine ≡ m) (sym e) refl

closed_receives : (m : InitiatorSession) (messages : List Message) → m.phase ≡ phases.Closed → receives m messages ≡ m
closed_receives m [] e = refl
closed_receives m (message ∷ messages) e =
    let is : (initiator_step m message).machine ≡ m = closed_step m message e in
    closed_receives (initiator_step m message).machine messages (ap (λ (x : InitiatorSession). x.phase) is ∙ e) ∙ is

abbrev IsShut : Phase → Type 0
IsShut phases.Closed = Unit {0}
IsShut _ = ⊥

tiles_then : (x mid end : ℕ) (ps qs : Pieces) → TilesFrom x ps mid → TilesFrom mid qs end → TilesFrom x (ps ++ qs) end
tiles_then x mid end [] qs t u = subst (λ (n : ℕ). TilesFrom n qs end) (sym t) u
tiles_then x mid end (p ∷ ps) qs t u = (t.0, tiles_then (x + length p.1) mid end ps qs t.1 u)

bytes_then : (ps qs : Pieces) → piece_data (ps ++ qs) ≡ piece_data ps ++ piece_data qs
bytes_then [] qs = refl
bytes_then (p ∷ ps) qs = ap (λ (x : List ℕ). p.1 ++ x) (bytes_then ps qs) ∙ sym (append_assoc p.1 (piece_data ps) (piece_data qs))

pub record Received (m : InitiatorSession) (a : List ℕ) (messages : List Message) : Type 0 where
  pub received : List Message
  pub rest : List Message
  pub parts : messages ≡ received ++ rest
  pub live : (receives m received).phase ≡ phases.Full
  pub all : (receives m messages).phase ≡ phases.Full → rest ≡ []
  pub tiles : TilesFrom (length a) (data_pieces received) (length a + length (piece_data (data_pieces received)))
  pub now : Stands (receives m messages) (a ++ piece_data (data_pieces received))

joins : (m : InitiatorSession) (a : List ℕ) (message : Message) (messages : List Message)
    → Got a (data_piece message.head (segment_bytes message.segment)) (initiator_step m message).machine
    → Received (initiator_step m message).machine (a ++ piece_data (data_piece message.head (segment_bytes message.segment))) messages
    → Received m a (message ∷ messages)
joins m a message messages g h =
    let ps : Pieces = data_piece message.head (segment_bytes message.segment) in
    let qs : Pieces = data_pieces h.received in
    let whole : a ++ piece_data ps ++ piece_data qs ≡ a ++ piece_data (ps ++ qs) = append_assoc a (piece_data ps) (piece_data qs)
    ∙ ap (λ (x : List ℕ). a ++ x) (sym (bytes_then ps qs)) in
    let len : length (a ++ piece_data ps) ≡ length a + length (piece_data ps) = length-append a (piece_data ps) in
    let end : length (a ++ piece_data ps) + length (piece_data qs) ≡ length a + length (piece_data (ps ++ qs)) =
    sym (length-append (a ++ piece_data ps) (piece_data qs)) ∙ ap (λ (x : List ℕ). length x) whole ∙ length-append a (piece_data (ps ++ qs)) in
    record {
      received = message ∷ h.received;
      rest = h.rest;
      parts = ap (λ (xs : List Message). message ∷ xs) h.parts;
      live = h.live;
      all = h.all;
      tiles = tiles_then (length a) (length (a ++ piece_data ps)) (length a + length (piece_data (ps ++ qs))) ps qs
          (subst (λ (n : ℕ). TilesFrom (length a) ps n) (sym len) g.tiles)
          (subst (λ (n : ℕ). TilesFrom (length (a ++ piece_data ps)) qs n) end h.tiles);
      now = subst (λ (x : List ℕ). Stands (receives (initiator_step m message).machine messages) x) whole h.now;
    }

-- the session receives nothing more
receives_none : (m : InitiatorSession) (a : List ℕ) (messages : List Message) → m.phase ≡ phases.Full
    → ((receives m messages).phase ≡ phases.Full → messages ≡ []) →
    Stands (receives m messages) a → Received m a messages
receives_none m a messages p none s = record {
  received = [];
  rest = messages;
  parts = refl;
  live = p;
  all = none;
  tiles = omega arith;
  now = subst (λ (x : List ℕ). Stands (receives m messages) x) (sym (append-nil a)) s;
}

receives_all : (m : InitiatorSession) (a : List ℕ) (messages : List Message) → m.phase ≡ phases.Full → Stands m a → Received m a messages
receives_all m a [] p s = receives_none m a [] p (λ e. refl) s
receives_all m a (message ∷ messages) p s =
    elim (step_gets m message a p s) [
      | shut e t ↦ (let is : receives (initiator_step m message).machine messages
          ≡ (initiator_step m message).machine = closed_receives (initiator_step m message).machine messages e in
          receives_none m a (message ∷ messages) p (λ f. absurd (subst (λ (x : Phase). IsShut x) (sym (ap (λ (x : InitiatorSession). x.phase) is ∙ e) ∙ f) tt))
          (subst (λ (x : InitiatorSession). Stands x a) (sym is) t))
      | got g ↦ joins m a message messages g (receives_all (initiator_step m message).machine (a
          ++ piece_data (data_piece message.head (segment_bytes message.segment))) messages g.full g.now)
    ]

pub reads_tile : ReadsTile
reads_tile m messages p i =
    let h : Received m [] messages = receives_all m [] messages p (inl i) in
    record {
      received = h.received;
      rest = h.rest;
      parts = h.parts;
      live = h.live;
      all = h.all;
      tiles = subst (λ (n : ℕ). TilesFrom 0 (data_pieces h.received) n) (omega arith) h.tiles;
      carries = h.now;
    }
