-- How much waits in connections, where one of them changed.
use Rattle.std.proofs.Common.{◌≡◌, ◌≢◌, ℕ, zero, suc, ◌+◌, ◌≤◌, ◌<◌, List, [], ◌∷◌, ◌++◌, length, max, set, refl, sym, ap, subst, unwrap_or, arith}
use Rattle.std.proofs.lemmas.Bool.{false≢true}
use Rattle.std.proofs.Math.Nat.{max-le, le-max_left, le-max_right}
use Rattle.std.specs.Prelude.{slice_get, Option, Some, None, IfSome, IsSome}
use Rattle.capture_connections.specs.declared.connections.Connection.{Connection}
use Rattle.capture_connections.specs.Waiting.{waiting_in, waiting_in_all}
use Rattle.capture_connections.specs.inner.Waiting.{IsCounted, larger_at, connection_waiting}
use Rattle.capture_connections.proofs.Places.{get_set_same, get_set_other, get_behind}

some_none : (c : Connection) → Some c ≡ None → ⊥
some_none c e = cc

same_one : (c d : Connection) → Some d ≡ Some c → waiting_in d ≡ waiting_in c
same_one c d e = ap (λ (o : Option Connection). waiting_in (unwrap_or o c)) e

-- the same connections
all_same : (xs ys : List Connection) → ((k : ℕ) → slice_get ys k ≡ slice_get xs k)
    → waiting_in_all ys ≡ waiting_in_all xs
all_same [] [] h = refl
all_same [] (y ∷ ys) h = absurd (some_none y (h zero))
all_same (x ∷ xs) [] h = absurd (some_none x (sym (h zero)))
all_same (x ∷ xs) (y ∷ ys) h =
    omega (arith, same_one x y (h zero), all_same xs ys (λ k. h (suc k)))

-- all are the same but one
pub one_changed : (xs ys : List Connection) (n : ℕ)
    → ((k : ℕ) → k ≢ n → slice_get ys k ≡ slice_get xs k)
    → waiting_in_all ys + connection_waiting (slice_get xs n) ≡ waiting_in_all xs + connection_waiting (slice_get ys n)
one_changed [] [] n h = refl
one_changed [] (y ∷ ys) zero h =
    omega (arith, all_same [] ys (λ k. h (suc k) (λ e. omega (arith, e))))
one_changed [] (y ∷ ys) (suc n) h = absurd (some_none y (h zero (λ e. omega (arith, e))))
one_changed (x ∷ xs) [] zero h =
    omega (arith, all_same xs [] (λ k. h (suc k) (λ e. omega (arith, e))))
one_changed (x ∷ xs) [] (suc n) h = absurd (some_none x (sym (h zero (λ e. omega (arith, e)))))
one_changed (x ∷ xs) (y ∷ ys) zero h =
    omega (arith, all_same xs ys (λ k. h (suc k) (λ e. omega (arith, e))))
one_changed (x ∷ xs) (y ∷ ys) (suc n) h =
    omega (
      arith,
      same_one x y (h zero (λ e. omega (arith, e))),
      one_changed xs ys n (λ k d. h (suc k) (λ e. d (omega (arith, e)))),
    )

-- the count after it
pub counted : (result old : Option ℕ) (before after : ℕ) (xs ys : List Connection) (n : ℕ)
    → IsCounted old xs → IfSome result (λ m. IfSome old (λ all. m + before ≡ all + after) × IsSome old)
    → before ≡ connection_waiting (slice_get xs n) → after ≡ connection_waiting (slice_get ys n)
    → ((k : ℕ) → k ≢ n → slice_get ys k ≡ slice_get xs k) → IsCounted result ys
counted None old before after xs ys n c r b a h = tt
counted (Some m) None before after xs ys n c r b a h = absurd (false≢true r.1)
counted (Some m) (Some all) before after xs ys n c r b a h =
    omega (arith, c, r.0, b, a, one_changed xs ys n h)

-- ---- the one in which most waits

-- what holds of all that are there holds everywhere
pub at_most : (list : List Connection) (b : ℕ)
    → ((j : ℕ) → j < length list → larger_at (slice_get list j) ≤ b)
    → (k : ℕ) → larger_at (slice_get list k) ≤ b
at_most [] b h k = omega arith
at_most (c ∷ cs) b h zero = h zero (omega arith)
at_most (c ∷ cs) b h (suc k) = at_most cs b (λ j l. h (suc j) (omega (arith, l))) k

nothing : (list : List Connection) → ((k : ℕ) → larger_at (slice_get list k) ≤ 0)
    → waiting_in_all list ≡ 0
nothing [] h = refl
nothing (c ∷ cs) h =
    omega (
      arith,
      h zero,
      le-max_left c.lower.waiting c.upper.waiting,
      le-max_right c.lower.waiting c.upper.waiting,
      nothing cs (λ k. h (suc k)),
    )

positive : (b : ℕ) (list : List Connection) → ((k : ℕ) → larger_at (slice_get list k) ≤ b)
    → 0 < waiting_in_all list → 0 < b
positive zero list h p = absurd (omega (arith, p, nothing list h))
positive (suc b) list h p = omega arith

some_larger : (c : Connection) → 0 < larger_at (Some c) → 0 < waiting_in c
some_larger c p =
    let h : max c.lower.waiting c.upper.waiting ≤ waiting_in c = max-le (omega arith) (omega arith) in
    omega (arith, p, h)

-- less waits, if less does in the one in which most did
pub less_one : (list : List Connection) (n : ℕ) (old new : Connection) → n < length list
    → slice_get list n ≡ Some old
    → ((k : ℕ) → larger_at (slice_get list k) ≤ larger_at (slice_get list n))
    → (0 < waiting_in old → waiting_in new < waiting_in old)
    → 0 < waiting_in_all list → waiting_in_all (set list n new) < waiting_in_all list
less_one list n old new lt is most less some =
    let some_at : 0 < larger_at (slice_get list n) = positive (larger_at (slice_get list n)) list most some in
    let P : Option Connection → Type 0 = λ o. 0 < larger_at o in
    let l : waiting_in new < waiting_in old = less (some_larger old (subst P is some_at)) in
    let o : connection_waiting (slice_get list n) ≡ waiting_in old = ap connection_waiting is in
    let s : connection_waiting (slice_get (set list n new) n) ≡ waiting_in new =
    ap connection_waiting (get_set_same list n new lt) in
    omega (arith, l, o, s, one_changed list (set list n new) n (λ k d. get_set_other list n k new d))

-- no one is there in which most does
pub none_more : (list : List Connection) (n : ℕ) → length list ≤ n
    → ((k : ℕ) → larger_at (slice_get list k) ≤ larger_at (slice_get list n))
    → 0 < waiting_in_all list → ⊥
none_more list n le most some =
    let P : Option Connection → Type 0 = λ o. (k : ℕ) → larger_at (slice_get list k) ≤ larger_at o in
    omega (arith, some, nothing list (subst P (get_behind list n le) most))

-- ---- all of them, one after another

pub all_more : (xs : List Connection) (c : Connection)
    → waiting_in_all (xs ++ c ∷ []) ≡ waiting_in_all xs + waiting_in c
all_more [] c = omega arith
all_more (x ∷ xs) c = omega (arith, all_more xs c)
