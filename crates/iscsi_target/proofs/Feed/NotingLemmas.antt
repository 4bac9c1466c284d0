-- What is noted of commands that ask to last, over one PDU of a piece.
use Rattle.std.proofs.Common.{◌≡◌, ◌<◌, ◌≤◌, Bool, ◌⊎◌, inl, inr, ◌∙◌, ℕ, ◌+◌, List, [], ◌∷◌, ◌++◌, true, false, length, take, drop, Option, None}
use Rattle.std.proofs.Common.{refl, sym, ap, subst, arith}
use Rattle.std.specs.Prelude.{Ok}
use Rattle.std.specs.List.{AllByRecursion}
use Rattle.std.proofs.lemmas.List.{length-take, drop_all}
use Rattle.iscsi_pdu.specs.declared.head.Head.{Head}
use Rattle.iscsi_pdu.specs.Meaning.{Means}
use Rattle.iscsi_stream.specs.Stream.{Message}
use Rattle.iscsi_stream.specs.Framing.{Framing, FramerTakes, is_ready, message_of}
use Rattle.iscsi_stream.proofs.ReadyLemmas.{ready_of}
use Rattle.iscsi_stream.proofs.PassingLemmas.{takes_some}
use Rattle.iscsi_login.specs.declared.phase.Phase.{Phase}
use Rattle.iscsi_target.specs.State.{Machine, writes_joined}
use Rattle.iscsi_target.specs.Machine.{is_machine_closed}
use Rattle.iscsi_target.specs.Feed.{TargetConnection, FeedsOnePdu, Scene, Store, scene}
use Rattle.iscsi_target.specs.inner.Inside.{AnswersReady, TakesOnePdu, target_connection}
use Rattle.iscsi_target.specs.Asking.{NotesAsking, SomeNextAsks, SomeReadyAsks, machine_asks, has_cache}
use Rattle.iscsi_target.specs.inner.Asking.{NoneNextAsks}
use Rattle.iscsi_target.proofs.Feed.FeedStepLemmas.{FedAs, FedUpTo, GoesUpTo, fed_bytes, fed_none, fed_pdu}
use Rattle.iscsi_target.proofs.Feed.FeedInvariant.{feeds_one, front_taken}
use Rattle.iscsi_target.proofs.Steps.AskingLemmas.{answers_none}

-- ---- which PDUs are answered

-- this holds of the PDU that is ready
abbrev OfReady : (Message → Type 0) → Framing → Type 0
OfReady P framing =
    (head : Head) (segment : List ℕ) → is_ready framing ≡ true → Means framing.held head segment → P (message_of framing head segment)

all_append : (P : Message → Type 0) (ms : List Message) (m : Message) → AllByRecursion P ms → P m → AllByRecursion P (ms ++ m ∷ [])
all_append P [] m all one = (one, tt)
all_append P (x ∷ ms) m all one = (all.0, all_append P ms m all.1 one)

-- it holds of each PDU that was answered
fed_all : (protected : Bool) (P : Message → Type 0) (from : Scene) (piece rest after_rest : List ℕ) (here : Scene)
    (n : ℕ) (framing : Framing) (broken : Option ℕ) (to : Scene)
    → (g : GoesUpTo protected from piece rest here) → FramerTakes here.connection.framing rest n framing
    → AnswersReady protected (scene (target_connection here.connection.machine framing) here.store here.output) broken to → after_rest ≡ drop n rest
    → AllByRecursion P g.fed.messages → OfReady P framing
    → (x : FedAs protected from piece after_rest to broken (length g.fed.messages + 1) (is_ready framing))
    × AllByRecursion P x.fed.messages
unfolding fed_bytes fed_pdu
fed_all protected P from piece rest after_rest here n framing broken to g t (inl u) is all each =
    let first : Scene = from in
    let most : ℕ = length g.fed.messages + 1 in
    let ready : Bool = is_ready framing in
    subst (λ (b : Option ℕ). (x : FedAs protected first piece after_rest to b most ready) × AllByRecursion P x.fed.messages) (sym u.rule_is)
    (subst (λ (c : TargetConnection). (x : FedAs protected first piece after_rest (scene c to.store to.output) None most ready) × AllByRecursion P
    x.fed.messages)
    (sym u.connection_is)
    (subst (λ (s : Store). (x : FedAs protected first piece after_rest (scene (target_connection here.connection.machine framing) s to.output) None most ready)
    × AllByRecursion P x.fed.messages) (sym u.store_is)
    (subst (λ (o : List ℕ). (x : FedAs protected first piece after_rest (scene (target_connection here.connection.machine framing) here.store o) None most
    ready)
    × AllByRecursion P x.fed.messages) (sym u.output_is)
    (fed_bytes protected from.connection from.store from.output piece rest after_rest here.connection here.store here.output n framing g t u.unready is, all))))
fed_all protected P from piece rest after_rest here n framing broken to g t (inr a) is all each = (
  fed_pdu protected from.connection from.store from.output piece rest after_rest here.connection here.store here.output n framing broken to.connection
      to.store to.output g t a is,
  all_append P g.fed.messages (message_of framing a.head a.segment) all (each a.head a.segment a.ready a.means),
)

feeds_all : (protected : Bool) (P : Message → Type 0) (from : Scene) (piece : List ℕ) (n : ℕ) (phase : Phase)
    (to : Scene)
    → n ≤ length piece → (0 < length piece → 0 < n)
    → (f : FedUpTo protected from (take n piece) [] to) → f.stepped.rule ≡ None → length f.messages ≤ 1
    → (n < length piece → length f.messages ≡ 1) → writes_joined to.connection.machine ≡ to.connection.machine → phase ≡ to.connection.machine.session.phase
    → AllByRecursion P f.messages
    → (over : Bool) → is_machine_closed to.connection.machine ≡ over
    → (x : FeedsOnePdu protected from piece n phase to) × AllByRecursion P x.fed.messages
unfolding feeds_one
feeds_all protected P from piece n phase to bound some f rule few stops whole is all true over = (
  feeds_one protected from.connection from.store from.output piece n phase to.connection to.store to.output bound some f rule few stops whole is true over,
  all,
)
feeds_all protected P from piece n phase to bound some f rule few stops whole is all false live = (
  feeds_one protected from.connection from.store from.output piece n phase to.connection to.store to.output bound some f rule few stops whole is false live,
  all,
)

next_all : (protected : Bool) (P : Message → Type 0) (old : TargetConnection) (before : Store) (output piece : List ℕ) (n : ℕ) (phase : Phase)
    (new : TargetConnection) (after : Store) (written : List ℕ)
    → is_ready old.framing ≡ false → is_machine_closed old.machine ≡ false
    → (t : TakesOnePdu protected (scene old before output) piece n None (scene new after written))
    → writes_joined new.machine ≡ new.machine → phase ≡ new.machine.session.phase → OfReady P t.framing
    → (x : FeedsOnePdu protected (scene old before output) piece n phase (scene new after written)) × AllByRecursion P x.fed.messages
unfolding fed_none
next_all protected P old before output piece n phase new after written unready live t whole is each =
    let takes : FramerTakes old.framing (take n piece) n t.framing = front_taken old.framing t.framing piece n t.takes in
    let none : [] ≡ drop n (take n piece) = sym (drop_all n (take n piece) (omega (arith, length-take n piece))) in
    let f = fed_all protected P (scene old before output) (take n piece) (take n piece) [] (scene old before output) n t.framing None (scene new after written)
    (fed_none protected old before output (take n piece) unready live) takes t.answers none tt each in
    feeds_all protected P (scene old before output) piece n phase (scene new after written) t.takes.bound
    (takes_some old.framing piece n t.framing unready t.takes) f.0.fed f.0.rule f.0.few
    (λ lt. f.0.full (ready_of t.framing.failed t.framing.held (ap (λ (v : Framing). v.failed) t.takes.gathered ∙ t.takes.live) (t.takes.stops lt))) whole is
    f.1 (is_machine_closed new.machine) refl

-- ---- what is noted

given : (C : Type 0) (P : Message → Type 0) (ms : List Message) → C → AllByRecursion (λ m. C → P m) ms → AllByRecursion P ms
given C P [] c all = tt
given C P (m ∷ ms) c all = (all.0 c, given C P ms c all.1)

pub notes_next : (protected : Bool) (old : TargetConnection) (before : Store) (output piece : List ℕ) (n : ℕ) (phase : Phase) (new : TargetConnection)
    (after : Store) (written : List ℕ) (noted notes : Bool)
    → is_ready old.framing ≡ false → is_machine_closed old.machine ≡ false
    → TakesOnePdu protected (scene old before output) piece n None (scene new after written)
    → writes_joined new.machine ≡ new.machine → phase ≡ new.machine.session.phase
    → (has_cache old.machine ≡ true → notes ≡ false → noted ≡ false)
    → (has_cache old.machine ≡ true → notes ≡ false → NoneNextAsks old.machine old.framing piece n)
    → NotesAsking protected (scene old before output) piece (Ok (n, phase)) (scene new after written) noted notes
notes_next protected old before output piece n phase new after written noted notes unready live t whole is was none =
    let P : Message → Type 0 = λ m. machine_asks old.machine m.head ≡ false in
    let C : Type 0 = (has_cache old.machine ≡ true) × (notes ≡ false) in
    let x = next_all protected (λ m. C → P m) old before output piece n phase new after written unready live t whole is
    (λ head segment ready means c. none c.0 c.1 t.framing t.takes head segment ready means) in (
      x.0,
      λ cache quiet. (
        was cache quiet,
        answers_none protected old.machine before.disk before.failures x.0.fed.messages x.0.fed.stepped x.0.fed.answered.failures x.0.one
            x.0.fed.answered.may (given C P x.0.fed.messages (cache, quiet) x.1),
      ),
    )

-- one asks of the PDU that bytes complete, if one does of the PDU that is ready then
pub some_next : (s t : Machine) (old framing : Framing) (piece : List ℕ) (n : ℕ) (was : Bool) → FramerTakes old piece n framing → t ≡ s
    → (was ≡ true) ⊎ SomeReadyAsks t framing → (was ≡ true) ⊎ SomeNextAsks s old piece
some_next s t old framing piece n was takes kept (inl noted) = inl noted
some_next s t old framing piece n was takes kept (inr ready) =
    inr (record { framing = framing; count = n; takes = takes; ready = subst (λ (x : Machine). SomeReadyAsks x framing) kept ready })
