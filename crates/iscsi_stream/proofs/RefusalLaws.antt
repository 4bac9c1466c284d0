-- A header that is refused is a fault, whichever pieces it comes in.
use Rattle.std.proofs.Common.{◌≡◌, ℕ, false, ◌<◌, ◌≤◌, List, [], ◌∷◌, ◌++◌, length, take, drop, Result, Ok, Err, refl, sym, ap, subst, ◌∙◌, arith, append_assoc}
use Rattle.std.proofs.Common.{inl, inr}
use Rattle.std.specs.Prelude.{Some, IfOk, IfErr}
use Rattle.std.proofs.lemmas.Bool.{cases_lt}
use Rattle.std.proofs.lemmas.List.{length-append, length-take, take-append-drop, take-append-le, drop_at}
use Rattle.iscsi_pdu.specs.declared.head.Head.{Head}
use Rattle.iscsi_pdu.specs.declared.head.HeadFault.{HeadFault}
use Rattle.iscsi_pdu.specs.Meaning.{IsHeader, head_fault}
use Rattle.iscsi_pdu.proofs.HeaderLemmas.{IsHeader-unique}
use Rattle.iscsi_stream.specs.declared.fault.StreamFault.{StreamFault}
use Rattle.iscsi_stream.specs.declared.fault.StreamFault.TheVariants as faults
use Rattle.iscsi_stream.specs.declared.logins.Logins.{Logins}
use Rattle.iscsi_stream.specs.Segment.{no_login, logins_after}
use Rattle.iscsi_stream.specs.Stream.{Message, ReadsAs, SplitsStream}
use Rattle.iscsi_stream.specs.Framing.{Framing, settled, length_at, IsBegun, FramerTakes, FramerFeedFails, HasTaken}
use Rattle.iscsi_stream.proofs.HeadLemmas.{bad_header}
use Rattle.iscsi_stream.proofs.SettledBytesLemmas.{length-settled, settled-short, IsBegun-from_settled}
use Rattle.iscsi_stream.proofs.ReadyLemmas.{apart, is_whole-is}
use Rattle.iscsi_stream.proofs.OneMeaningLaw.{same_begin}

-- PDUs of the same meanings that begin the same bytes are the same bytes
same_given : (limit : ℕ) (logins : Logins) (given : List ℕ) (ms : List Message) (rest given' rest' : List ℕ) → ReadsAs limit logins given ms →
    ReadsAs limit logins given' ms → given ++ rest ≡ given' ++ rest' → given ≡ given'
unfolding ReadsAs
same_given limit logins given [] rest given' rest' p p' e = p ∙ sym p'
same_given limit logins given (m ∷ ms) rest given' rest' p p' e =
    let begins = p.0 in
    let begins' = p'.0 in
    let whole : begins.bytes ++ (begins.rest ++ rest) ≡ begins'.bytes ++ (begins'.rest ++ rest') =
    sym (append_assoc begins.bytes begins.rest rest) ∙ ap (λ (x : List ℕ). x ++ rest) (sym begins.whole) ∙ e ∙ ap (λ (x : List ℕ). x ++ rest') begins'.whole
    ∙ append_assoc begins'.bytes begins'.rest rest' in
    let same = same_begin begins.bytes (begins.rest ++ rest) begins'.bytes (begins'.rest ++ rest') m.head m.head begins.segment begins'.segment whole
    begins.means begins'.means in
    let more = same_given limit (logins_after logins m.head) begins.rest ms rest begins'.rest rest' p.1 p'.1 same.rest in
    begins.whole ∙ ap (λ (x : List ℕ). x ++ begins.rest) same.bytes ∙ ap (λ (x : List ℕ). begins'.bytes ++ x) more ∙ sym begins'.whole

-- no header within the limit begins the bytes
abbrev NoHeader : ℕ → List ℕ → Type 0
NoHeader limit rest = (head : Head) (len : ℕ) → IsHeader (take 48 rest) head len → len ≤ limit → ⊥

-- What the framer has of the rest is no whole header, and the piece has the others of its bytes.
record MeetsHeader (v : Framing) (piece rest : List ℕ) : Type 0 where
  pub short : length v.held < 48
  pub front : take 48 (v.held ++ piece) ≡ take 48 rest
  pub not_taken : (n : ℕ) (new : Framing) → FramerTakes v piece n new → ⊥

-- so much of the rest as a header needs is not taken
not_taken : (v : Framing) (piece rest : List ℕ) → rest ≡ v.held ++ piece → 48 ≤ length rest → NoHeader v.limit rest → (n : ℕ) (new : Framing) →
    FramerTakes v piece n new → ⊥
not_taken v piece rest is long none n new takes =
    let here = v.held ++ take n piece in
    let held : new.held ≡ settled here = ap (λ (x : Framing). x.held) takes.gathered in
    let size : length new.held ≡ length here = ap length held ∙ length-settled here in
    let le : 48 ≤ length here = (
    elim (cases_lt n (length piece)) [
      | inl lt ↦ omega (arith, (is_whole-is new.held (takes.stops lt)).0, size)
      | inr all ↦ omega (arith, long, ap length is, length-append v.held piece, length-append v.held (take n piece), length-take n piece, all, takes.bound)
    ]) in
    let begun_at : (u : Framing) → new ≡ u → IsBegun u.limit u.held = λ u e. subst (λ (x : Framing). IsBegun x.limit x.held) e takes.begun in
    let begun = IsBegun-from_settled v.limit here (begun_at _ takes.gathered) in
    let good = begun le in
    let all : v.held ++ piece ≡ here ++ drop n piece = ap (λ (x : List ℕ). v.held ++ x) (sym (take-append-drop n piece))
    ∙ sym (append_assoc v.held (take n piece) (drop n piece)) in
    let front : take 48 here ≡ take 48 rest = sym (take-append-le 48 here (drop n piece) le) ∙ ap (take 48) (sym all ∙ sym is) in
    none good.0 (length_at here) (subst (λ (x : List ℕ). IsHeader x good.0 (length_at here)) front good.1.header) good.1.within

meets : (stream piece given rest : List ℕ) (ms : List Message) (v : Framing) → HasTaken stream ms v → SplitsStream v.limit (stream ++ piece) ms given rest → 48
    ≤ length rest → NoHeader v.limit rest → MeetsHeader v piece rest
meets stream piece given rest ms v t s long none =
    let whole : stream ++ piece ≡ t.given ++ (t.rest ++ piece) = ap (λ (x : List ℕ). x ++ piece) t.whole ∙ append_assoc t.given t.rest piece in
    let same : given ≡ t.given = same_given v.limit no_login given ms rest t.given (t.rest ++ piece) s.reaches.reads t.reads (sym s.reaches.whole ∙ whole) in
    let behind : rest ≡ t.rest ++ piece = sym (drop_at given rest (length given) refl) ∙ ap (drop (length given)) (sym s.reaches.whole ∙ whole)
    ∙ drop_at t.given (t.rest ++ piece) (length given) (ap length (sym same)) in
    let short : length t.rest < 48 = (
    elim (cases_lt (length t.rest) 48) [
      | inl lt ↦ lt
      | inr le ↦
          let good = t.begun le in
          let front : take 48 t.rest ≡ take 48 rest = sym (take-append-le 48 t.rest piece le) ∙ ap (take 48) (sym behind) in
          absurd (none good.0 (length_at t.rest) (subst (λ (x : List ℕ). IsHeader x good.0 (length_at t.rest)) front good.1.header) good.1.within)
    ]) in
    let held : v.held ≡ t.rest = t.held ∙ settled-short t.rest (omega (arith, short)) in
    let is : rest ≡ v.held ++ piece = behind ∙ ap (λ (x : List ℕ). x ++ piece) (sym held) in
    record { short = omega (arith, short, ap length held); front = ap (take 48) (sym is); not_taken = not_taken v piece rest is long none }

-- ---- what feed answers

-- whatever it answers by its contract, it is this fault
abbrev pub Answers : Framing → List ℕ → StreamFault → Type 0
Answers v piece due =
    (result : Result ℕ StreamFault) (new : Framing) → IfOk result (λ n. FramerTakes v piece n new) → IfErr result (FramerFeedFails v piece) → result
    ≡ Err due

header_is : (v : Framing) (piece rest : List ℕ) (fault : HeadFault) → v.failed ≡ false → MeetsHeader v piece rest → head_fault (take 48 rest) ≡ Some fault →
    (e : StreamFault) → FramerFeedFails v piece e → e ≡ faults.Head fault v.place
header_is v piece rest fault live meet bad faults.NoMemory fails = absurd (bad_header (take 48 (v.held ++ piece)) fails.1.0 fails.1.1 fault fails.1.2.header
    (ap head_fault meet.front ∙ bad))
header_is v piece rest fault live meet bad (faults.Head f place) fails =
    let same : Some f ≡ Some fault = sym fails.2 ∙ ap head_fault meet.front ∙ bad in
    let one : f ≡ fault = cc in
    rw (one, fails.3) refl
header_is v piece rest fault live meet bad (faults.OverLimit place) fails = absurd
    (bad_header (take 48 (v.held ++ piece)) fails.1.0 fails.1.1 fault fails.1.2.header (ap head_fault meet.front ∙ bad))
header_is v piece rest fault live meet bad (faults.Truncated place) fails = absurd fails
header_is v piece rest fault live meet bad faults.Failed fails = absurd (apart fails live)

too_long : (limit m n : ℕ) → limit < m → n ≤ limit → m ≡ n → ⊥
too_long limit m n lt le e = omega (arith, lt, le, e)

limit_is : (v : Framing) (piece rest : List ℕ) (head : Head) (len : ℕ) → v.failed ≡ false → MeetsHeader v piece rest → IsHeader (take 48 rest) head len →
    v.limit < len → (e : StreamFault) → FramerFeedFails v piece e → e ≡ faults.OverLimit v.place
limit_is v piece rest head len live meet over lt faults.NoMemory fails =
    absurd (too_long v.limit len fails.1.1 lt fails.1.4 (IsHeader-unique (take 48 rest) head fails.1.0 len fails.1.1 over
    (subst (λ (x : List ℕ). IsHeader x fails.1.0 fails.1.1) meet.front fails.1.2.header)).1)
limit_is v piece rest head len live meet over lt (faults.Head f place) fails = absurd
    (bad_header (take 48 rest) head len f over (ap head_fault (sym meet.front) ∙ fails.2))
limit_is v piece rest head len live meet over lt (faults.OverLimit place) fails = rw fails.2 refl
limit_is v piece rest head len live meet over lt (faults.Truncated place) fails = absurd fails
limit_is v piece rest head len live meet over lt faults.Failed fails = absurd (apart fails live)

answers_fault : (v : Framing) (piece : List ℕ) (due : StreamFault) → ((n : ℕ) (new : Framing) → FramerTakes v piece n new → ⊥) →
    ((e : StreamFault) → FramerFeedFails v piece e → e ≡ due) → Answers v piece due
answers_fault v piece due none one (Ok n) new takes fails = absurd (none n new takes)
answers_fault v piece due none one (Err e) new takes fails = ap (λ (x : StreamFault). let r : Result ℕ StreamFault = Err x in r) (one e fails)

pub header_due : (stream piece given rest : List ℕ) (ms : List Message) (fault : HeadFault) (v : Framing) → HasTaken stream ms v →
    SplitsStream v.limit (stream ++ piece) ms given rest → 48 ≤ length rest → head_fault (take 48 rest) ≡ Some fault
    → Answers v piece (faults.Head fault v.place)
header_due stream piece given rest ms fault v t s long bad =
    let meet = meets stream piece given rest ms v t s long (λ head len header le. bad_header (take 48 rest) head len fault header bad) in
    answers_fault v piece (faults.Head fault v.place) meet.not_taken (header_is v piece rest fault t.live meet bad)

pub limit_due : (stream piece given rest : List ℕ) (ms : List Message) (head : Head) (len : ℕ) (v : Framing) → HasTaken stream ms v →
    SplitsStream v.limit (stream ++ piece) ms given rest → 48 ≤ length rest → IsHeader (take 48 rest) head len → v.limit < len
    → Answers v piece (faults.OverLimit v.place)
limit_due stream piece given rest ms head len v t s long over lt =
    let meet = meets stream piece given rest ms v t s long (λ other size header le. omega (
      arith,
      lt,
      le,
      (IsHeader-unique (take 48 rest) other head size len header over).1,
    )) in
    answers_fault v piece (faults.OverLimit v.place) meet.not_taken (limit_is v piece rest head len t.live meet over lt)
