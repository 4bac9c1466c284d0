-- What a verdict says of whole streams.
use Rattle.std.proofs.Common.{◌≡◌, ℕ, List, [], ◌∷◌, ◌++◌, length, Option, Some, None, refl, sym, ap, subst, ◌∙◌, arith, append-nil, append_assoc}
use Rattle.std.specs.Io.KnownBytes.{Consumes, IsAtEnd}
use Rattle.std.proofs.lemmas.List.{length-append, append_cancel_left}
use Rattle.iscsi_pdu.specs.declared.head.Head.{Head}
use Rattle.iscsi_pdu.specs.Meaning.{AreBytes}
use Rattle.iscsi_stream.specs.declared.fault.StreamFault.{StreamFault}
use Rattle.iscsi_stream.specs.declared.fault.StreamFault.TheVariants as stream
use Rattle.iscsi_stream.specs.declared.logins.Logins.{Logins}
use Rattle.iscsi_stream.specs.Segment.{no_login, continues, logins_after, segment_of}
use Rattle.iscsi_stream.specs.Stream.{Message, ReadsAs, StreamMeans, SplitsStream, longest_segment}
use Rattle.iscsi_stream.specs.Canonical.{canon}
use Rattle.iscsi_stream.proofs.OneMeaningLaw.{canon_again, one_meaning, same_begin, same_message, splits_more, all_given}
use Rattle.iscsi_compare.specs.declared.fault.Which.{Which}
use Rattle.iscsi_compare.specs.declared.fault.Which.TheVariants.{First, Second}
use Rattle.iscsi_compare.specs.declared.fault.CompareFault.TheVariants as fault
use Rattle.iscsi_compare.specs.Comparing.{ReadInput, GaveInput, StreamGoesOn, AgreeAtEnds, Part, IsRefused, ComparisonFails}

-- ---- the same

pub agree_means : (first second : ReadInput) (ms ns : List Message) → StreamMeans first.read ms → StreamMeans second.read ns → AgreeAtEnds first second → ms
    ≡ ns
agree_means first second ms ns p q agree =
    one_meaning longest_segment no_login first.read ms agree.0 p agree.1.0 ∙ one_meaning longest_segment no_login second.read agree.0 ns agree.2.0 q

pub means_agree : (first second : ReadInput) (ms ns : List Message) → IsAtEnd first.left → IsAtEnd second.left → StreamMeans first.read ms →
    StreamMeans second.read ns → ms ≡ ns → AgreeAtEnds first second
means_agree first second ms ns end end' p q same = (ms, (p, end), (subst (StreamMeans second.read) (sym same) q, end'))

pub same_forms : (s t : List ℕ) (ms ns : List Message) → AreBytes s → AreBytes t → StreamMeans s ms → StreamMeans t ns → canon ms ≡ canon ns → ms ≡ ns
same_forms s t ms ns b c p q e =
    one_meaning longest_segment no_login (canon ms) ms ns (canon_again longest_segment no_login s ms b p)
    (subst (λ (x : List ℕ). ReadsAs longest_segment no_login x ns) (sym e) (canon_again longest_segment no_login t ns c q))

-- ---- what was read of a stream that is known

-- the bytes that were read, and those that are left
pub record Rest (s : List ℕ) (x : ReadInput) : Type 0 where
  pub more : List ℕ
  pub left_is : x.left ≡ Some more
  pub whole : s ≡ x.read ++ more

rest_from : (s : List ℕ) (left : Option (List ℕ)) (x : ReadInput) → Consumes (Some s) left x.read → x.left ≡ left → Rest s x
rest_from s None x consumed is = absurd consumed
rest_from s (Some more) x consumed is = record { more = more; left_is = is; whole = consumed }

pub rest_of : (s : List ℕ) (left : Option (List ℕ)) (x : ReadInput) → GaveInput (Some s) left x → Rest s x
rest_of s left x gave = rest_from s left x gave.consumed gave.left_is

pub all_read : (s : List ℕ) (x : ReadInput) → Rest s x → IsAtEnd x.left → s ≡ x.read
all_read s x rest end =
    let none : rest.more ≡ [] = subst IsAtEnd rest.left_is end in
    rest.whole ∙ ap (λ (y : List ℕ). x.read ++ y) none ∙ append-nil x.read

pub same_wholes : (s t : List ℕ) (ms ns : List Message) (x y : ReadInput) → Rest s x → Rest t y → StreamMeans s ms → StreamMeans t ns → AgreeAtEnds x y → ms
    ≡ ns
same_wholes s t ms ns x y a b p q agree =
    agree_means x y ms ns (subst (λ (z : List ℕ). StreamMeans z ms) (all_read s x a agree.1.1) p)
    (subst (λ (z : List ℕ). StreamMeans z ns) (all_read t y b agree.2.1) q) agree

-- ---- where they differ

-- PDUs that begin a stream are the first that it means
front_of : (limit : ℕ) (logins : Logins) (given rest s : List ℕ) (ms ns : List Message) → ReadsAs limit logins given ms → ReadsAs limit logins s ns → s ≡ given
    ++ rest → (more : List Message) × (ns ≡ ms ++ more)
unfolding ReadsAs
front_of limit logins given rest s [] ns p q e = (ns, refl)
front_of limit logins given rest s (m ∷ ms) [] p q e =
    let b = p.0 in
    absurd (omega (arith, b.means.size, ap length b.whole, length-append b.bytes b.rest, ap length e, length-append given rest, ap length q))
front_of limit logins given rest s (m ∷ ms) (n ∷ ns) p q e =
    let b = p.0 in
    let c = q.0 in
    let whole : b.bytes ++ (b.rest ++ rest) ≡ c.bytes ++ c.rest = sym (append_assoc b.bytes b.rest rest) ∙ ap (λ (x : List ℕ). x ++ rest) (sym b.whole) ∙ sym
    e ∙ c.whole in
    let same = same_begin b.bytes (b.rest ++ rest) c.bytes c.rest m.head n.head b.segment c.segment whole b.means c.means in
    let segment : m.segment ≡ n.segment =
    b.meaning ∙ ap (λ (h : Head). segment_of (continues logins h) h b.segment) same.head ∙ ap (segment_of (continues logins n.head) n.head) same.segment
    ∙ sym c.meaning in
    let one : m ≡ n = same_message m n same.head segment in
    let more = front_of limit (logins_after logins m.head) b.rest rest c.rest ms ns p.1
    (subst (λ (h : Head). ReadsAs limit (logins_after logins h) c.rest ns) (sym same.head) q.1)
    (sym same.rest) in
    (more.0, ap (λ (x : Message). x ∷ ns) (sym one) ∙ ap (λ (xs : List Message). m ∷ xs) more.1)

-- what follows, with the PDUs behind it
abbrev pub following : Option Message → List Message → List Message
following None behind = []
following (Some m) behind = m ∷ behind

pub follows : (s : List ℕ) (ms before : List Message) (x : ReadInput) (next : Option Message) → Rest s x → StreamMeans s ms → StreamGoesOn x before next →
    (behind : List Message) × (ms ≡ before ++ following next behind)
follows s ms before x None a p goes = (
  [],
  one_meaning longest_segment no_login s ms before p (subst (λ (z : List ℕ). StreamMeans z before) (sym (all_read s x a goes.1)) goes.0)
      ∙ sym (append-nil before),
)
follows s ms before x (Some m) a p goes =
    let r = goes.2 in
    let front = front_of longest_segment no_login goes.0 (goes.1 ++ a.more) s (before ++ m ∷ []) ms r.reads p (a.whole
    ∙ ap (λ (z : List ℕ). z ++ a.more) r.whole ∙ append_assoc goes.0 goes.1 a.more) in
    (front.0, front.1 ∙ append_assoc before (m ∷ []) front.0)

same_following : (p q : Option Message) (behind other : List Message) → following p behind ≡ following q other → p ≡ q
same_following None None behind other e = refl
same_following None (Some n) behind other e = absurd cc
same_following (Some m) None behind other e = absurd cc
same_following (Some m) (Some n) behind other e = cc

pub other_wholes : (s t : List ℕ) (ms ns : List Message) (x y : ReadInput) (place other_place : ℕ) → Rest s x → Rest t y → StreamMeans s ms → StreamMeans t ns →
    Part x y place other_place → ms ≡ ns → ⊥
other_wholes s t ms ns x y place other_place a b p q part e =
    let one = follows s ms part.ms x part.next a p part.goes_on in
    let two = follows t ns part.ms y part.other_next b q part.other_goes_on in
    part.differ (same_following part.next part.other_next one.0 two.0 (append_cancel_left part.ms (following part.next one.0) (following part.other_next two.0)
    (sym one.1 ∙ e ∙ two.1)))

-- ---- no fault

nothing_behind : (s given rest : List ℕ) (ms ns : List Message) → StreamMeans s ns → SplitsStream longest_segment s ms given rest → length rest ≡ 0
nothing_behind s given rest ms ns means splits = ap length (all_given s given rest ms ns means splits)

pub refused_whole : (f : StreamFault) (s : List ℕ) (ns ms : List Message) (x : ReadInput) → Rest s x → StreamMeans s ns → IsRefused f x ms → ⊥
refused_whole stream.NoMemory s ns ms x a means r = absurd r.3
refused_whole (stream.Head f place) s ns ms x a means r =
    let on = splits_more longest_segment x.read a.more ms r.0 r.1 f r.2 r.3.0 r.3.1 in
    omega (arith, nothing_behind (x.read ++ a.more) r.0 (r.1 ++ a.more) ms ns (subst (λ (z : List ℕ). StreamMeans z ns) a.whole means) on.0, on.1)
refused_whole (stream.OverLimit place) s ns ms x a means r = absurd r.3
refused_whole (stream.Truncated place) s ns ms x a means r =
    omega (arith, nothing_behind x.read r.0 r.1 ms ns (subst (λ (z : List ℕ). StreamMeans z ns) (all_read s x a r.4) means) r.2, r.3.0)
refused_whole stream.Failed s ns ms x a means r = absurd r.3

pub no_refusal : (which : Which) (f : StreamFault) (s t : List ℕ) (ms ns : List Message) (x y : ReadInput) → Rest s x → Rest t y → StreamMeans s ms →
    StreamMeans t ns → ComparisonFails (fault.Stream which f) x y → ⊥
no_refusal First f s t ms ns x y a b p q fails = refused_whole f s ms fails.0 x a p fails.1
no_refusal Second f s t ms ns x y a b p q fails = refused_whole f t ns fails.0 y b q fails.3
