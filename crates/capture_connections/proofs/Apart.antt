-- A connection takes its own segments, and the others leave it as it is.
use mathlib.Core.Path.{fun_ext}
use Rattle.std.proofs.Common.{◌≡◌, ℕ, ◌+◌, Bool, true, false, List, [], ◌∷◌, length, refl, sym, ap, ◌∙◌, subst, max}
use Rattle.std.proofs.lemmas.Bool.{eqb-true, eqb-false}
use Rattle.std.specs.Prelude.{slice_get, Option, ◌==◌, if◌then◌else◌}
use Rattle.capture_connections.specs.declared.belonging.Last.{Last}
use Rattle.capture_connections.specs.declared.connections.Connection.{Connection}
use Rattle.capture_connections.specs.declared.ends.Ends.{Ends}
use Rattle.capture_connections.specs.declared.heard.Heard.{Heard}
use Rattle.capture_connections.specs.Following.{TableStep, Table, last_with}
use Rattle.capture_connections.specs.Private.{ConnectionRuns, KnownEnds, TableRuns, known_after, known_of, own, owner_among}

-- what the next table knows is what is known after the segment
pub known_next : (old : Table) (heard : Heard) (number : ℕ) (next : Table) (before after : List ℕ)
    → TableStep old heard number next before after
    → known_of next ≡ known_after (known_of old) heard
known_next old heard number next before after h =
    let F : ℕ → (Ends → Option Last) → KnownEnds = λ n l. record { count = n; last = l } in
    let most : ℕ → ℕ = λ n. max (length old.connections) (n + 1) in
    let e : length next.connections ≡ (known_after (known_of old) heard).count =
    h.count ∙ ap most h.belongs in
    let f : last_with next ≡ (known_after (known_of old) heard).last = fun_ext h.last in
    ap (λ (n : ℕ). F n (last_with next)) e
    ∙ ap (λ (l : Ends → Option Last). F (known_after (known_of old) heard).count l) f

-- by cases on a test
pub follows_cond : (b : Bool) (x y : List Heard) (old new : Option Connection)
    → (b ≡ true → ConnectionRuns old x new) → (b ≡ false → ConnectionRuns old y new)
    → ConnectionRuns old (if b then x else y) new
follows_cond true x y old new p q = p refl
follows_cond false x y old new p q = q refl

-- the connection that the segment belongs to takes it
pub takes_own : (old : Table) (heard : Heard) (number : ℕ) (next : Table) (before after : List ℕ)
    → TableStep old heard number next before after
    → (k : ℕ) → number ≡ k → (rest : List Heard) (new : Option Connection)
    → ConnectionRuns (slice_get next.connections k) rest new
    → ConnectionRuns (slice_get old.connections k) (heard ∷ rest) new
takes_own old heard number next before after h k e rest new f =
    let P : ℕ → Type 0 = λ n. ConnectionRuns (slice_get next.connections n) rest new
    → ConnectionRuns (slice_get old.connections n) (heard ∷ rest) new in
    let Q : Option Connection → Type 0 = λ c. ConnectionRuns c rest new in
    subst P e (λ g. (h.own.0, before, after, h.own.2, subst Q h.own.1 g)) f

-- each connection goes through its own segments
pub goes_through : (segments : List Heard) (old new : Table) → TableRuns old segments new → (k : ℕ)
    → ConnectionRuns (slice_get old.connections k) (own k (known_of old) segments)
    (slice_get new.connections k)
goes_through [] old new r k = ap (λ (t : Table). slice_get t.connections k) r
goes_through (heard ∷ segments) old new r k =
    let last : Option Connection = slice_get new.connections k in
    let rest : List Heard = own k (known_after (known_of old) heard) segments in
    let P : KnownEnds → Type 0 = λ v. ConnectionRuns (slice_get r.1.connections k) (own k v segments) last in
    let f : ConnectionRuns (slice_get r.1.connections k) rest last =
    subst P (known_next old heard r.0 r.1 r.2 r.3 r.4) (goes_through segments r.1 new r.5 k) in
    let Q : Option Connection → Type 0 = λ c. ConnectionRuns c rest last in
    follows_cond ((owner_among (known_of old) heard).number == k) (heard ∷ rest) rest
    (slice_get old.connections k) last
    (λ e. takes_own old heard r.0 r.1 r.2 r.3 r.4 k (r.4.belongs ∙ eqb-true _ _ e) rest last f)
    (λ e. subst Q (r.4.others k (λ same. eqb-false _ _ e (sym r.4.belongs ∙ sym same))) f)
