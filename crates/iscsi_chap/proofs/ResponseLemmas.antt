-- A response is 16 bytes, or 32.
use Rattle.std.proofs.Common.{arith, ◌≡◌, ◌≢◌, ℕ, zero, suc, ◌/◌, List, [], ◌∷◌, ◌++◌, length, sym, ap, ◌∙◌}
use Rattle.std.specs.Prelude.{slice_index}
use Rattle.std.specs.Int.{to_le_bytes, to_be_bytes, w32}
use Rattle.std.proofs.Math.Nat.{mod-lt}
use Rattle.hex.specs.Hex.{IsBytes}
use Rattle.md5.specs.Md5.{md5}
use Rattle.md5.specs.Md5 as little
use Rattle.md5.proofs.StandardFacts.{length-md5}
use Rattle.sha2.specs.Sha256.{sha256, final_hash, initial_hash_256}
use Rattle.sha2.specs.Sha256 as big
use Rattle.sha2.proofs.Facts256.{length-sha256}
use Rattle.iscsi_chap.specs.declared.algorithm.Algorithm.{Algorithm}
use Rattle.iscsi_chap.specs.declared.algorithm.Algorithm.TheVariants.{Md5, Sha256}
use Rattle.iscsi_chap.specs.Response.{chap_response, hashed}

joined : (xs ys : List ℕ) → IsBytes xs → IsBytes ys → IsBytes (xs ++ ys)
joined [] ys a b i = b i
joined (x ∷ xs) ys a b zero = a zero
joined (x ∷ xs) ys a b (suc i) = joined xs ys (λ j. a (suc j)) b i

little_word : (n : ℕ) → IsBytes (to_le_bytes w32 n)
little_word n zero = mod-lt _ (omega arith)
little_word n (suc zero) = mod-lt _ (omega arith)
little_word n (suc (suc zero)) = mod-lt _ (omega arith)
little_word n (suc (suc (suc zero))) = mod-lt _ (omega arith)
little_word n (suc (suc (suc (suc i)))) = omega arith

big_word : (n : ℕ) → IsBytes (to_be_bytes w32 n)
big_word n zero = mod-lt _ (omega arith)
big_word n (suc zero) = mod-lt _ (omega arith)
big_word n (suc (suc zero)) = mod-lt _ (omega arith)
big_word n (suc (suc (suc zero))) = mod-lt _ (omega arith)
big_word n (suc (suc (suc (suc i)))) = omega arith

none : IsBytes []
none i = omega arith

little_digests : (h : List ℕ) (n : ℕ) → IsBytes (little.digest_bytes h n)
unfolding little.digest_bytes
little_digests h zero = none
little_digests h (suc n) =
    joined (little.digest_bytes h n) (to_le_bytes w32 (slice_index h n)) (little_digests h n) (little_word (slice_index h n))

big_digests : (h : List ℕ) (n : ℕ) → IsBytes (big.digest_bytes h n)
unfolding big.digest_bytes
big_digests h zero = none
big_digests h (suc n) =
    joined (big.digest_bytes h n) (to_be_bytes w32 (slice_index h n)) (big_digests h n) (big_word (slice_index h n))

md5_bytes : (m : List ℕ) → IsBytes (md5 m)
unfolding md5
md5_bytes m = little_digests (little.hash_after (little.padded_message m) (length (little.padded_message m) / 64)) 4

sha256_bytes : (m : List ℕ) → IsBytes (sha256 m)
unfolding sha256
sha256_bytes m = big_digests (final_hash initial_hash_256 m) 8

pub response_bytes : (a : Algorithm) (i : ℕ) (secret challenge : List ℕ) → IsBytes (chap_response a i secret challenge)
response_bytes Md5 i secret challenge = md5_bytes (hashed i secret challenge)
response_bytes Sha256 i secret challenge = sha256_bytes (hashed i secret challenge)

pub response_some : (a : Algorithm) (i : ℕ) (secret challenge : List ℕ) → chap_response a i secret challenge ≢ []
response_some Md5 i secret challenge e = let n : 0 ≡ 16 = sym (ap length e) ∙ length-md5 (hashed i secret challenge) in absurd (omega (arith, n))
response_some Sha256 i secret challenge e =
    let n : 0 ≡ 32 = sym (ap length e) ∙ length-sha256 (hashed i secret challenge) in absurd (omega (arith, n))
