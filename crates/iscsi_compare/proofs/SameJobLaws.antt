-- Being of one job is an equivalence.
use Rattle.std.proofs.Common.{◌≡◌, List, [], ◌∷◌, refl, sym, ap, ◌∙◌}
use Rattle.std.specs.Prelude.{map}
use Rattle.iscsi_pdu.specs.declared.head.Head.{Head}
use Rattle.iscsi_stream.specs.Stream.{Message}
use Rattle.iscsi_compare.specs.SameJob.{Renumbering, renumbered, renumbered_message, SameJob}
use Rattle.iscsi_compare.proofs.HeadNumberLemmas.{nothing, inverse, both, head_nothing, head_back, head_both}

with_head : (m : Message) (g h : Head) → g ≡ h → ◌≡◌ {A = Message} (record m { head = g }) (record m { head = h })
with_head m g h e = ap (λ (x : Head). let k : Message = record m { head = x } in k) e

pub all_nothing : (ms : List Message) → ms ≡ map (renumbered_message nothing) ms
all_nothing [] = refl
all_nothing (m ∷ ms) = let first : m ≡ renumbered_message nothing m = with_head m m.head (renumbered nothing m.head) (sym (head_nothing m.head)) in
    ap (λ (x : Message). x ∷ ms) first ∙ ap (λ (xs : List Message). renumbered_message nothing m ∷ xs) (all_nothing ms)

pub all_back : (r : Renumbering) (ms : List Message) → ms ≡ map (renumbered_message (inverse r)) (map (renumbered_message r) ms)
all_back r [] = refl
all_back r (m ∷ ms) =
    let first : m ≡ renumbered_message (inverse r) (renumbered_message r m) = with_head m m.head (renumbered (inverse r) (renumbered r m.head))
    (sym (head_back r m.head)) in
    ap (λ (x : Message). x ∷ ms) first ∙ ap (λ (xs : List Message). renumbered_message (inverse r) (renumbered_message r m) ∷ xs) (all_back r ms)

pub all_both : (r q : Renumbering) (ms : List Message) → map (renumbered_message q) (map (renumbered_message r) ms) ≡ map (renumbered_message (both r q)) ms
all_both r q [] = refl
all_both r q (m ∷ ms) =
    let first : renumbered_message q (renumbered_message r m) ≡ renumbered_message (both r q) m =
    with_head m (renumbered q (renumbered r m.head)) (renumbered (both r q) m.head) (head_both r q m.head) in
    ap (λ (x : Message). x ∷ map (renumbered_message q) (map (renumbered_message r) ms)) first
    ∙ ap (λ (xs : List Message). renumbered_message (both r q) m ∷ xs) (all_both r q ms)

pub same_self : (ms : List Message) → SameJob ms ms
same_self ms = (nothing, all_nothing ms)

pub same_back : (ms ns : List Message) → SameJob ms ns → SameJob ns ms
same_back ms ns s = (inverse s.0, all_back s.0 ms ∙ ap (map (renumbered_message (inverse s.0))) (sym s.1))

pub same_both : (ms ns os : List Message) → SameJob ms ns → SameJob ns os → SameJob ms os
same_both ms ns os s t = (both s.0 t.0, t.1 ∙ ap (map (renumbered_message t.0)) s.1 ∙ all_both s.0 t.0 ms)
