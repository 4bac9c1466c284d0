-- Bytes in chunks: one after another they are the bytes, and the first is followed by those of the rest.
use Rattle.std.proofs.Common.{◌≡◌, ◌<◌, ◌≤◌, ℕ, zero, suc, List, [], ◌∷◌, ◌++◌, length, take, drop, refl, ap, ◌∙◌, arith}
use Rattle.std.specs.List.{flat_map}
use Rattle.std.proofs.lemmas.List.{length-drop, take-append-drop}
use Rattle.iscsi_stream.specs.Pieces.{chunks_within, chunks}

-- chunks, one after another
abbrev pub joined : List (List ℕ) → List ℕ
joined xs = flat_map (λ x. x) xs

shorter : (size fuel byte : ℕ) (bytes : List ℕ) → 0 < size → length (byte ∷ bytes) ≤ suc fuel → length (drop size (byte ∷ bytes)) ≤ fuel
shorter size fuel byte bytes lt le = omega (arith, length-drop size (byte ∷ bytes), lt, le)

-- a longer count down makes no difference
chunks_any : (one two size : ℕ) (bytes : List ℕ) → 0 < size → length bytes ≤ one → length bytes ≤ two → chunks_within one size bytes
    ≡ chunks_within two size bytes
chunks_any zero zero size bytes lt le le' = refl
chunks_any zero (suc two) size [] lt le le' = refl
chunks_any zero (suc two) size (b ∷ bytes) lt le le' = absurd (omega (arith, le))
chunks_any (suc one) zero size [] lt le le' = refl
chunks_any (suc one) zero size (b ∷ bytes) lt le le' = absurd (omega (arith, le'))
chunks_any (suc one) (suc two) size [] lt le le' = refl
chunks_any (suc one) (suc two) size (b ∷ bytes) lt le le' =
    ap (λ (xs : List (List ℕ)). take size (b ∷ bytes) ∷ xs) (chunks_any one two size (drop size (b ∷ bytes)) lt (shorter size one b bytes lt le)
    (shorter size two b bytes lt le'))

pub chunks_step : (size b : ℕ) (bytes : List ℕ) → 0 < size → chunks size (b ∷ bytes) ≡ take size (b ∷ bytes) ∷ chunks size (drop size (b ∷ bytes))
chunks_step size b bytes lt =
    ap (λ (xs : List (List ℕ)). take size (b ∷ bytes) ∷ xs) (chunks_any (length bytes)
    (length (drop size (b ∷ bytes))) size (drop size (b ∷ bytes)) lt (shorter size (length bytes) b bytes lt (omega arith)) (omega arith))

joined_within : (fuel size : ℕ) (bytes : List ℕ) → 0 < size → length bytes ≤ fuel → joined (chunks_within fuel size bytes) ≡ bytes
joined_within zero size [] lt le = refl
joined_within zero size (b ∷ bytes) lt le = absurd (omega (arith, le))
joined_within (suc fuel) size [] lt le = refl
joined_within (suc fuel) size (b ∷ bytes) lt le =
    ap (λ (x : List ℕ). take size (b ∷ bytes) ++ x) (joined_within fuel size (drop size (b ∷ bytes)) lt (shorter size fuel b bytes lt le))
    ∙ take-append-drop size (b ∷ bytes)

pub joined_chunks : (size : ℕ) (bytes : List ℕ) → 0 < size → joined (chunks size bytes) ≡ bytes
joined_chunks size bytes lt = joined_within (length bytes) size bytes lt (omega arith)
