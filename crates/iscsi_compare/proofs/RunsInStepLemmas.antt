-- Two runs in step.
use Rattle.std.proofs.Common.{
  ◌≡◌,
  ℕ,
  ◌≤◌,
  Bool,
  true,
  false,
  List,
  [],
  ◌∷◌,
  ◌++◌,
  length,
  take,
  drop,
  Option,
  Some,
  None,
  refl,
  sym,
  ap,
  subst,
  ◌∙◌,
  append-nil,
  arith,
}
use Rattle.std.specs.Prelude.{◌↔◌, not, map, option_map, option_to_list}
use Rattle.std.specs.Io.KnownBytes.{Consumes}
use Rattle.std.proofs.KnownBytes.{Consumes-nil, Consumes-trans}
use Rattle.std.proofs.lemmas.List.{same_from_push, map_push, length_push, length-take, length-drop}
use Rattle.iscsi_pdu.specs.declared.head.Head.{Head}
use Rattle.iscsi_pdu.specs.Meaning.{IsHeader}
use Rattle.iscsi_stream.specs.Segment.{no_login, continues, segment_of}
use Rattle.iscsi_stream.specs.Stream.{pdu_len, Message, ReadsAs, logins_after_all}
use Rattle.iscsi_stream.specs.Framing.{Framing, length_at, is_whole_pdu, pdu_given_up, message_of, is_ready}
use Rattle.iscsi_stream.proofs.HeadLemmas.{means_of}
use Rattle.iscsi_stream.proofs.SettledBytesLemmas.{is_whole-settled}
use Rattle.iscsi_stream.proofs.ReadyLemmas.{is_whole-is, and_right}
use Rattle.iscsi_stream.proofs.OneMeaningLaw.{reads_one_more}
use Rattle.iscsi_compare.specs.declared.fault.Which.{Which}
use Rattle.iscsi_compare.specs.declared.fault.Which.TheVariants.{First, Second}
use Rattle.iscsi_compare.specs.declared.fault.CompareFault.{CompareFault}
use Rattle.iscsi_compare.specs.declared.fault.CompareFault.TheVariants as fault
use Rattle.iscsi_compare.specs.declared.side.Side.{Side}
use Rattle.iscsi_compare.specs.declared.same_job.renaming.Renaming.{Renaming}
use Rattle.iscsi_compare.specs.Comparing.{ReadInput, BeginsWithMessages, StreamGoesOn}
use Rattle.iscsi_compare.specs.inner.Comparing.{input_of}
use Rattle.iscsi_compare.specs.inner.Inside.{PdusGivenUp, HasRead, IsOpen, SideReadsOn, SideHasRead, SideFails, pending}
use Rattle.iscsi_compare.specs.SameJob.{Renumbering, renumbered_message, SameJob}
use Rattle.iscsi_compare.specs.inner.SameJobLearning.{LearnsAnswer}
use Rattle.iscsi_compare.specs.inner.SameJobJudge.{AllowsRenumbering, IsSoundRenaming, NextIs, LearnsNext}
use Rattle.iscsi_compare.specs.SameJobVerdict.{AgreeOnJob, PartFromJob, FailsInJob}
use Rattle.iscsi_compare.proofs.SideLemmas.{read_given, begins, stands_at}
use Rattle.iscsi_compare.proofs.InStepLemmas.{BothSides, Compared, Streams, streams, GivesUp, gave, has_read, begun}
use Rattle.iscsi_compare.proofs.LearningLemmas.{some_left}
use Rattle.iscsi_compare.proofs.SameJobLaws.{same_self}
use Rattle.iscsi_compare.proofs.NextMessageLemmas.{inside}
use Rattle.iscsi_compare.proofs.WholeRunsLaw.{same_count}
use Rattle.iscsi_stream.proofs.LoopInvariants.{sides}

-- ---- what is known of two lists

-- what is known agrees with a renumbering exactly where it gives the one list from the other
abbrev pub Knows : Renaming → List Message → List Message → Type 0
Knows known ms ns = (r : Renumbering) → AllowsRenumbering known r ↔ (ns ≡ map (renumbered_message r) ms)

pub same_job : (known : Renaming) (ms ns : List Message) → IsSoundRenaming known → Knows known ms ns → SameJob ms ns
same_job known ms ns s k = let some = some_left known s in (some.0, (k some.0).0 some.1)

pub knows_more : (old new : Renaming) (ms ns : List Message) (m n : Message) → Knows old ms ns →
    LearnsAnswer (AllowsRenumbering old) (AllowsRenumbering new) (λ r. option_map (renumbered_message r) (Some m) ≡ Some n) true
    → Knows new (ms ++ m ∷ []) (ns ++ n ∷ [])
knows_more old new ms ns m n k l r = (
  λ allowed. ap (λ (x : List Message). x ++ n ∷ []) ((k r).0 (l.less r allowed))
      ∙ ap (λ (x : Message). map (renumbered_message r) ms ++ x ∷ []) (sym (inside (renumbered_message r m) n (l.said refl r allowed)))
      ∙ sym (map_push (renumbered_message r) ms m),
  λ e. (let both = same_from_push ns (map (renumbered_message r) ms) n (renumbered_message r m) (e ∙ map_push (renumbered_message r) ms m) in
      l.kept r ((k r).1 both.0) (ap Some (sym both.1))),
)

too_long : (ms ns : List Message) (m : Message) → SameJob ms ns → SameJob (ms ++ m ∷ []) (ns ++ []) → ⊥
too_long ms ns m s t = omega (arith, same_count ms ns s, same_count (ms ++ m ∷ []) (ns ++ []) t, length_push ms m, ap length (append-nil ns))

too_short : (ms ns : List Message) (n : Message) → SameJob ms ns → SameJob (ms ++ []) (ns ++ n ∷ []) → ⊥
too_short ms ns n s t = omega (arith, same_count ms ns s, same_count (ms ++ []) (ns ++ n ∷ []) t, length_push ns n, ap length (append-nil ms))

pub no_job : (old new : Renaming) (ms ns : List Message) (next other : Option Message) → SameJob ms ns → Knows old ms ns
    → LearnsAnswer (AllowsRenumbering old) (AllowsRenumbering new) (λ r. option_map (renumbered_message r) next ≡ other) false →
    SameJob (ms ++ option_to_list next) (ns ++ option_to_list other) → ⊥
no_job old new ms ns (Some m) (Some n) s k l t =
    let both = same_from_push ns (map (renumbered_message t.0) ms) n (renumbered_message t.0 m) (t.1 ∙ map_push (renumbered_message t.0) ms m) in
    l.none refl t.0 ((k t.0).1 both.0) (ap Some (sym both.1))
no_job old new ms ns (Some m) None s k l t = too_long ms ns m s t
no_job old new ms ns None (Some n) s k l t = too_short ms ns n s t
no_job old new ms ns None None s k l t = l.none refl s.0 ((k s.0).1 s.1) refl

-- ---- what stands next

pub goes_on : (some : Bool) (side : Side) (x : ReadInput) (ms : List Message) (next : Option Message) → SideHasRead some side x ms
    → NextIs some side.framer next →
    StreamGoesOn x ms next
goes_on true side x ms next r f =
    subst (StreamGoesOn x ms) (sym f.3)
    (begins x.read (ms ++ message_of side.framer f.0 f.1 ∷ []) (pdu_given_up side.framer f.0)
    (pending side) side.reads x.left (read_given x.read ms side.framer (pending side) side.reads f.0 f.1 r f.2))
goes_on false side x ms next r f = subst (StreamGoesOn x ms) (sym f) r.1

-- ---- faults

first_fails : (e : CompareFault) (x y : ReadInput) (ms ns : List Message) → SameJob ms ns → SideFails e First x ms → BeginsWithMessages y ns → FailsInJob e x y
first_fails fault.NoMemory x y ms ns s fails begun = (ms, ns, s, (fails, begun))
first_fails (fault.Stream First f) x y ms ns s fails begun = (ms, ns, s, (fails.1, begun))
first_fails (fault.Stream Second f) x y ms ns s fails begun = (let no : Second ≡ First = fails.0 in absurd cc)
first_fails (fault.Read First) x y ms ns s fails begun = (ms, ns, s, (fails.1, begun))
first_fails (fault.Read Second) x y ms ns s fails begun = (let no : Second ≡ First = fails.0 in absurd cc)

second_fails : (e : CompareFault) (x y : ReadInput) (ms ns : List Message) (next : Option Message) → SameJob ms ns → SideFails e Second y ns
    → BeginsWithMessages x ms
    → StreamGoesOn x ms next → FailsInJob e x y
second_fails fault.NoMemory x y ms ns next s fails begun goes = (ms, ns, s, (begun, fails))
second_fails (fault.Stream Second f) x y ms ns next s fails begun goes = (ms, ns, s, (next, goes, fails.1))
second_fails (fault.Stream First f) x y ms ns next s fails begun goes = (let no : First ≡ Second = fails.0 in absurd cc)
second_fails (fault.Read Second) x y ms ns next s fails begun goes = (ms, ns, s, (next, goes, fails.1))
second_fails (fault.Read First) x y ms ns next s fails begun goes = (let no : First ≡ Second = fails.0 in absurd cc)

-- a PDU that is ready is the stream's next
ready_next : (read : List ℕ) (ms : List Message) (v : Framing) (rest : List ℕ) (k : ℕ) (left : Option (List ℕ)) → PdusGivenUp read ms v rest k → is_ready v
    ≡ true
    → (next : Option Message) × StreamGoesOn (input_of read left) ms next
ready_next read ms v rest k left r ready =
    let t = r.taken in
    let is = is_whole-is t.rest (sym (ap is_whole_pdu t.held ∙ is_whole-settled t.rest) ∙ and_right (not v.failed) (is_whole_pdu v.held) ready) in
    let good = t.begun is.0 in
    let n = length_at t.rest in
    let segment = take n (drop 48 t.rest) in
    let size : length segment ≡ n = omega (arith, length-take n (drop 48 t.rest), length-drop 48 t.rest, is.1) in
    let header : IsHeader (take 48 t.rest) good.0 (length segment) = subst (λ (j : ℕ). IsHeader (take 48 t.rest) good.0 j) (sym size) good.1.header in
    let means = means_of t.rest good.0 segment header (is.1 ∙ ap pdu_len (sym size)) (ap (λ (j : ℕ). take j (drop 48 t.rest)) size) in
    let within : length segment ≤ v.limit = omega (arith, size, good.1.within) in
    let reads = reads_one_more v.limit no_login t.given ms t.rest good.0 segment t.reads means within in (
      Some (record { head = good.0; segment = segment_of (continues (logins_after_all no_login ms) good.0) good.0 segment }),
      (
        t.given ++ t.rest,
        rest,
        record {
          whole = r.whole ∙ ap (λ (x : List ℕ). x ++ rest) t.whole;
          reads = subst (λ (limit : ℕ). ReadsAs limit no_login (t.given ++ t.rest)
              (ms ++ record { head = good.0; segment = segment_of (continues (logins_after_all no_login ms) good.0) good.0 segment } ∷ [])) r.limit reads;
        },
      ),
    )

next_exists : (p : Bool) (side : Side) (x : ReadInput) (ms : List Message) → is_ready side.framer ≡ p → SideHasRead p side x ms
    → (next : Option Message) × StreamGoesOn x ms next
next_exists true side x ms ready r = ready_next x.read ms side.framer (pending side) side.reads x.left r ready
next_exists false side x ms ready r = (None, r.1)

-- ---- the loop

-- Of both streams PDUs of one job were given up, and what they say of its renumberings is known.
pub record JobInStep (before now : Streams) (first second : Side) (known : Renaming) : Type 0 where
  pub read : List ℕ
  pub other_read : List ℕ
  pub ms : List Message
  pub ns : List Message
  pub consumed : Consumes before.mine now.mine read
  pub other_consumed : Consumes before.other now.other other_read
  pub has_read : HasRead read ms first
  pub other_has_read : HasRead other_read ns second
  pub inside : IsOpen first
  pub other_inside : IsOpen second
  pub which : first.which ≡ First
  pub other_which : second.which ≡ Second
  pub sound : IsSoundRenaming known
  pub knows : Knows known ms ns
  pub same : now.written ≡ before.written

job_of : (a b c d : Option (List ℕ)) (first second : Side) (known : Renaming) (held now : List ℕ)
    (step : JobInStep (streams a c held) (streams b d now) first second known) →
    SameJob step.ms step.ns
job_of a b c d first second known held now step = same_job known step.ms step.ns step.sound step.knows

pub job_at_start : (a b : Option (List ℕ)) (first second : Side) (known : Renaming) (held : List ℕ) → HasRead [] [] first → HasRead [] [] second → IsOpen first
    → IsOpen second → first.which ≡ First
    → second.which ≡ Second → IsSoundRenaming known → ((r : Renumbering) → AllowsRenumbering known r)
    → JobInStep (streams a b held) (streams a b held) first second known
job_at_start a b first second known held r s i j w u sound all = record {
  read = [];
  other_read = [];
  ms = [];
  ns = [];
  consumed = Consumes-nil a;
  other_consumed = Consumes-nil b;
  has_read = r;
  other_has_read = s;
  inside = i;
  other_inside = j;
  which = w;
  other_which = u;
  sound = sound;
  knows = λ r. (λ p. refl, λ e. all r);
  same = refl;
}

-- nothing is read where there is no memory for the names that stand for themselves
pub job_not_begun : (a b : Option (List ℕ)) (first second : Side) → HasRead [] [] first → HasRead [] [] second → Compared (FailsInJob fault.NoMemory) a a b b
job_not_begun a b first second r s = (
  input_of [] a,
  input_of [] b,
  record { bytes = r.bytes; consumed = Consumes-nil a; left_is = refl },
  record { bytes = s.bytes; consumed = Consumes-nil b; left_is = refl },
  ([], [], same_self [], (begins [] [] first.framer (pending first) first.reads a r, begins [] [] second.framer (pending second) second.reads b s)),
)

-- the first stream has a fault
pub job_first_stops : (e : CompareFault) (a b c d f : Option (List ℕ)) (first second : Side) (known : Renaming) (held now : List ℕ) →
    JobInStep (streams a d held) (streams b f now) first second known
    → SideReadsOn first b c (SideFails e first.which) → Compared (FailsInJob e) a c d f
job_first_stops e a b c d f first second known held now step reads =
    let one = reads step.read step.ms step.has_read in
    let x = input_of (step.read ++ one.0) c in
    let y = input_of step.other_read f in (
      x,
      y,
      gave a b c step.read one.0 step.consumed one.1 one.2,
      record { bytes = step.other_has_read.bytes; consumed = step.other_consumed; left_is = refl },
      first_fails e x y step.ms step.ns (job_of a b d f first second known held now step) (subst (λ (w : Which). SideFails e w x step.ms) step.which one.3)
          (begins step.other_read step.ns second.framer (pending second) second.reads f step.other_has_read),
    )

-- the second stream has a fault
pub job_second_stops : (e : CompareFault) (from here : Streams) (c h : Option (List ℕ)) (first second first_new : Side) (known : Renaming) (p : Bool) →
    JobInStep from here first second known → is_ready first_new.framer ≡ p
    → SideReadsOn first here.mine c (SideHasRead p first_new) → SideReadsOn second here.other h (SideFails e second.which) → Compared (FailsInJob e)
    from.mine c from.other h
job_second_stops e from here c h first second first_new known p step ready reads others =
    let one = reads step.read step.ms step.has_read in
    let two = others step.other_read step.ns step.other_has_read in
    let x = input_of (step.read ++ one.0) c in
    let y = input_of (step.other_read ++ two.0) h in
    let next = next_exists p first_new x step.ms ready one.3 in (
      x,
      y,
      gave from.mine here.mine c step.read one.0 step.consumed one.1 one.2,
      gave from.other here.other h step.other_read two.0 step.other_consumed two.1 two.2,
      second_fails e x y step.ms step.ns next.0 (job_of from.mine here.mine from.other here.other first second known from.written here.written step)
          (subst (λ (w : Which). SideFails e w y step.ns) step.other_which two.3) (begun p first_new x step.ms one.3) next.1,
    )

-- both went on
pub job_onwards : (Holds : ReadInput → ReadInput → Type 0) (from here : Streams) (c h : Option (List ℕ)) (first second first_new second_new : Side)
    (known : Renaming)
    (p q : Bool)
    → JobInStep from here first second known → SideReadsOn first here.mine c (SideHasRead p first_new)
    → SideReadsOn second here.other h (SideHasRead q second_new)
    → ((x y : ReadInput) (ms ns : List Message) → SameJob ms ns → Knows known ms ns → SideHasRead p first_new x ms → SideHasRead q second_new y ns → Holds x y)
    →
    Compared Holds from.mine c from.other h
job_onwards Holds from here c h first second first_new second_new known p q step reads others so =
    let one = reads step.read step.ms step.has_read in
    let two = others step.other_read step.ns step.other_has_read in
    let x = input_of (step.read ++ one.0) c in
    let y = input_of (step.other_read ++ two.0) h in (
      x,
      y,
      gave from.mine here.mine c step.read one.0 step.consumed one.1 one.2,
      gave from.other here.other h step.other_read two.0 step.other_consumed two.1 two.2,
      so x y step.ms step.ns (job_of from.mine here.mine from.other here.other first second known from.written here.written step) step.knows one.3 two.3,
    )

-- memory runs out
pub job_memory : (p q : Bool) (first second : Side) (known : Renaming) (x y : ReadInput) (ms ns : List Message) → SameJob ms ns → Knows known ms ns →
    SideHasRead p first x ms → SideHasRead q second y ns → FailsInJob fault.NoMemory x y
job_memory p q first second known x y ms ns s k a b = (ms, ns, s, (begun p first x ms a, begun q second y ns b))

next_at : (v : Framing) (p : Bool) (next : Option Message) → is_ready v ≡ p → NextIs (is_ready v) v next → NextIs p v next
next_at v p next e n = subst (λ (b : Bool). NextIs b v next) e n

pub job_parts : (p q : Bool) (first second : Side) (old new : Renaming) → is_ready first.framer ≡ p → is_ready second.framer ≡ q →
    LearnsNext old new first.framer second.framer false
    → (x y : ReadInput) (ms ns : List Message) → SameJob ms ns → Knows old ms ns → SideHasRead p first x ms → SideHasRead q second y ns →
    PartFromJob x y first.framer.place second.framer.place
job_parts p q first second old new e f l x y ms ns s k a b = record {
  ms = ms;
  ns = ns;
  same = s;
  at = stands_at x.read ms first.framer (pending first) first.reads x.left (has_read p first x ms a);
  other_at = stands_at y.read ns second.framer (pending second) second.reads y.left (has_read q second y ns b);
  next = l.next;
  other_next = l.other_next;
  goes_on = goes_on p first x ms l.next a (next_at first.framer p l.next e l.next_is);
  other_goes_on = goes_on q second y ns l.other_next b (next_at second.framer q l.other_next f l.other_next_is);
  differ = no_job old new ms ns l.next l.other_next s k l.learns;
}

-- where what stands next is learnt, both streams go on or both end
both_alike : (f : Message → Message) (next other : Option Message) (p q : Bool) (v w : Framing) → option_map f next ≡ other → NextIs p v next → NextIs q w other
    → p ≡ q
both_alike f next other true true v w e n o = refl
both_alike f next other false false v w e n o = refl
both_alike f next other true false v w e n o = absurd (let no : Some (f (message_of v n.0 n.1)) ≡ None = ap (option_map f) (sym n.3) ∙ e ∙ o in cc)
both_alike f next other false true v w e n o = absurd (let no : None ≡ Some (message_of w o.0 o.1) = ap (option_map f) (sym n) ∙ e ∙ o.3 in cc)

pub alike : (p q : Bool) (v w : Framing) (old new : Renaming) → IsSoundRenaming new → is_ready v ≡ p → is_ready w ≡ q → LearnsNext old new v w true → p ≡ q
alike p q v w old new s e f l =
    let some = some_left new s in
    both_alike (renumbered_message some.0) l.next l.other_next p q v w (l.learns.said refl some.0 some.1) (next_at v p l.next e l.next_is)
    (next_at w q l.other_next f l.other_next_is)

pub job_agrees : (p q : Bool) (first second : Side) (known : Renaming) → p ≡ false → q ≡ false → (x y : ReadInput) (ms ns : List Message) → SameJob ms ns →
    Knows known ms ns → SideHasRead p first x ms → SideHasRead q second y ns
    → AgreeOnJob x y
job_agrees true q first second known e u x y ms ns s k a b = absurd cc
job_agrees false true first second known e u x y ms ns s k a b = absurd cc
job_agrees false false first second known e u x y ms ns s k a b = (ms, ns, s, (a.1, b.1))

-- what is known of the PDUs that are given up
knows_given : (old new : Renaming) (ms ns : List Message) (v w : Framing) (g h : Head) (a b : List ℕ) (next other : Option Message) → next
    ≡ Some (message_of v g a) → other ≡ Some (message_of w h b)
    → Knows old ms ns → LearnsAnswer (AllowsRenumbering old) (AllowsRenumbering new) (λ r. option_map (renumbered_message r) next ≡ other) true →
    Knows new (ms ++ message_of v g a ∷ []) (ns ++ message_of w h b ∷ [])
knows_given old new ms ns v w g h a b next other e f k l =
    knows_more old new ms ns (message_of v g a) (message_of w h b) k
    (subst (λ (x : Option Message). LearnsAnswer (AllowsRenumbering old) (AllowsRenumbering new)
    (λ r. option_map (renumbered_message r) x ≡ Some (message_of w h b)) true) e
    (subst (λ (x : Option Message). LearnsAnswer (AllowsRenumbering old) (AllowsRenumbering new) (λ r. option_map (renumbered_message r) next ≡ x) true) f l))

-- both gave up a PDU
pub job_one_more : (from here : Streams) (c h : Option (List ℕ)) (sides read left : BothSides) (old new : Renaming)
    (p q : Bool) → p ≡ true → q ≡ true
    → JobInStep from here sides.first sides.second old → SideReadsOn sides.first here.mine c (SideHasRead p read.first)
    → SideReadsOn sides.second here.other h (SideHasRead q read.second) →
    is_ready read.first.framer ≡ p → is_ready read.second.framer ≡ q
    → IsSoundRenaming new → LearnsNext old new read.first.framer read.second.framer true → GivesUp read.first left.first → GivesUp read.second left.second
    → IsOpen left.first → IsOpen left.second → left.first.which ≡ sides.first.which → left.second.which ≡ sides.second.which →
    JobInStep from (streams c h here.written) left.first left.second new
job_one_more from here c h sides read left old new false q i j step reads others r s sound l up down o t w u =
    absurd cc
job_one_more from here c h sides read left old new true false i j step reads others r s sound l up down o t w u = absurd cc
job_one_more from here c h sides read left old new true true i j step reads others r s sound l up down o t w u =
    let one = reads step.read step.ms step.has_read in
    let two = others step.other_read step.ns step.other_has_read in
    let g : NextIs true read.first.framer l.next = next_at read.first.framer true l.next r l.next_is in
    let k : NextIs true read.second.framer l.other_next = next_at read.second.framer true l.other_next s l.other_next_is in
    record {
      read = step.read ++ one.0;
      other_read = step.other_read ++ two.0;
      ms = step.ms ++ message_of read.first.framer g.0 g.1 ∷ [];
      ns = step.ns ++ message_of read.second.framer k.0 k.1 ∷ [];
      consumed = Consumes-trans from.mine here.mine c step.read one.0 step.consumed one.1;
      other_consumed = Consumes-trans from.other here.other h step.other_read two.0 step.other_consumed two.1;
      has_read = up (step.read ++ one.0) step.ms g.0 g.1 one.3 r g.2;
      other_has_read = down (step.other_read ++ two.0) step.ns k.0 k.1 two.3 s k.2;
      inside = o;
      other_inside = t;
      which = w ∙ step.which;
      other_which = u ∙ step.other_which;
      sound = sound;
      knows = knows_given old new step.ms step.ns read.first.framer read.second.framer g.0 k.0 g.1 k.1 l.next l.other_next g.3 k.3 step.knows l.learns;
      same = step.same;
    }
