-- What a verdict on two runs says of whole streams.
use Rattle.std.proofs.Common.{◌≡◌, ℕ, List, [], ◌∷◌, ◌++◌, length, take, drop, Option, Some, None, sym, ap, subst, ◌∙◌, arith, append-nil}
use Rattle.std.specs.Prelude.{map, option_to_list}
use Rattle.std.proofs.lemmas.List.{length-append, length-map, map-append, take_at, drop_at}
use Rattle.iscsi_stream.specs.declared.fault.StreamFault.{StreamFault}
use Rattle.iscsi_stream.specs.Segment.{no_login}
use Rattle.iscsi_stream.specs.Stream.{Message, StreamMeans, longest_segment}
use Rattle.iscsi_stream.proofs.OneMeaningLaw.{one_meaning}
use Rattle.iscsi_compare.specs.declared.fault.Which.{Which}
use Rattle.iscsi_compare.specs.declared.fault.Which.TheVariants.{First, Second}
use Rattle.iscsi_compare.specs.declared.fault.CompareFault.TheVariants as fault
use Rattle.iscsi_compare.specs.Comparing.{ReadInput}
use Rattle.iscsi_compare.specs.SameJob.{renumbered_message, SameJob}
use Rattle.iscsi_compare.specs.SameJobVerdict.{AgreeOnJob, PartFromJob, FailsInJob}
use Rattle.iscsi_compare.proofs.WholeStreamsLaw.{Rest, all_read, following, follows, refused_whole}

pub same_whole_runs : (s t : List ℕ) (ms ns : List Message) (x y : ReadInput) → Rest s x → Rest t y → StreamMeans s ms
    → StreamMeans t ns → AgreeOnJob x y → SameJob ms ns
same_whole_runs s t ms ns x y a b p q agree =
    let one : agree.0 ≡ ms = one_meaning longest_segment no_login x.read agree.0 ms agree.3.0.0
    (subst (λ (z : List ℕ). StreamMeans z ms) (all_read s x a agree.3.0.1) p) in
    let two : agree.1 ≡ ns = one_meaning longest_segment no_login y.read agree.1 ns agree.3.1.0
    (subst (λ (z : List ℕ). StreamMeans z ns) (all_read t y b agree.3.1.1) q) in
    subst (λ (xs : List Message). SameJob xs ns) one (subst (SameJob agree.0) two agree.2)

-- ---- where they part

pub same_count : (ms ns : List Message) → SameJob ms ns → length ns ≡ length ms
same_count ms ns s = ap length s.1 ∙ length-map ms (renumbered_message s.0)

first_of : (m n : Message) (a b : List Message) → m ∷ a ≡ n ∷ b → m ≡ n
first_of m n a b e = cc

-- as many first messages of one job are of one job
fronts : (a b c d : List Message) → length b ≡ length a → (s : SameJob (a ++ c) (b ++ d))
    → (b ≡ map (renumbered_message s.0) a) × (d ≡ map (renumbered_message s.0) c)
fronts a b c d same s =
    let f = renumbered_message s.0 in
    let whole : b ++ d ≡ map f a ++ map f c = s.1 ∙ map-append f a c in
    let count : length (map f a) ≡ length b = length-map a f ∙ sym same in (
      sym (take_at b d (length b) (ap length (let e : b ≡ b = λ i. b in e))) ∙ ap (take (length b)) whole ∙ take_at (map f a) (map f c) (length b) count,
      sym (drop_at b d (length b) (ap length (let e : b ≡ b = λ i. b in e))) ∙ ap (drop (length b)) whole ∙ drop_at (map f a) (map f c) (length b) count,
    )

one_more : (a b c d : List Message) (m n : Message) → length b ≡ length a → SameJob (a ++ m ∷ c) (b ++ n ∷ d) → SameJob (a ++ m ∷ []) (b ++ n ∷ [])
one_more a b c d m n same s =
    let f = renumbered_message s.0 in
    let both = fronts a b (m ∷ c) (n ∷ d) same s in
    let next : n ≡ f m = first_of n (f m) d (map f c) both.1 in
    (s.0, ap (λ (xs : List Message). xs ++ n ∷ []) both.0 ∙ ap (λ (x : Message). map f a ++ x ∷ []) next ∙ sym (map-append f a (m ∷ [])))

part_first : (a b : List Message) (next other : Option Message) (c d : List Message) → SameJob a b
    → SameJob (a ++ following next c) (b ++ following other d) → SameJob (a ++ option_to_list next) (b ++ option_to_list other)
part_first a b (Some m) (Some n) c d s t = one_more a b c d m n (same_count a b s) t
part_first a b None None c d s t = t
part_first a b (Some m) None c d s t =
    absurd (omega (arith, same_count a b s, same_count (a ++ m ∷ c) (b ++ []) t, length-append a (m ∷ c), ap length (append-nil b)))
part_first a b None (Some n) c d s t =
    absurd (omega (arith, same_count a b s, same_count (a ++ []) (b ++ n ∷ d) t, length-append b (n ∷ d), ap length (append-nil a)))

pub other_whole_runs : (s t : List ℕ) (ms ns : List Message) (x y : ReadInput) (place other_place : ℕ) → Rest s x → Rest t y → StreamMeans s ms
    → StreamMeans t ns → PartFromJob x y place other_place → SameJob ms ns → ⊥
other_whole_runs s t ms ns x y place other_place a b p q part same =
    let one = follows s ms part.ms x part.next a p part.goes_on in
    let two = follows t ns part.ns y part.other_next b q part.other_goes_on in
    part.differ (part_first part.ms part.ns part.next part.other_next one.0 two.0 part.same
    (subst (λ (xs : List Message). SameJob xs (part.ns ++ following part.other_next two.0)) one.1 (subst (SameJob ms) two.1 same)))

-- ---- no fault

pub no_run_refused : (which : Which) (f : StreamFault) (s t : List ℕ) (ms ns : List Message) (x y : ReadInput) → Rest s x → Rest t y → StreamMeans s ms
    → StreamMeans t ns → FailsInJob (fault.Stream which f) x y → ⊥
no_run_refused First f s t ms ns x y a b p q fails = refused_whole f s ms fails.0 x a p fails.3.0
no_run_refused Second f s t ms ns x y a b p q fails = refused_whole f t ns fails.1 y b q fails.3.2
