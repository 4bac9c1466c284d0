-- The bytes of a block again and again.
use Rattle.std.proofs.Common.{◌≡◌, ◌≤◌, ℕ, zero, suc, ◌+◌, ◌*◌, List, ◌++◌, length, sym, ap, ◌∙◌, arith, append_assoc}
use Rattle.std.proofs.lemmas.List.{append-nil, length-append}
use Rattle.std.specs.List.{repeat}

-- once more at the end is once more in front
pub repeat_more : (n : ℕ) (block : List ℕ) → repeat n block ++ block ≡ repeat (suc n) block
repeat_more zero block = sym (append-nil block)
repeat_more (suc n) block =
    append_assoc block (repeat n block) block ∙ ap (λ (t : List ℕ). block ++ t) (repeat_more n block)

pub repeated_next : (n : ℕ) (block all : List ℕ) → all ≡ repeat n block → all ++ block ≡ repeat (n + 1) block
repeated_next n block all e =
    let more : suc n ≡ n + 1 = omega arith in
    ap (λ (t : List ℕ). t ++ block) e ∙ repeat_more n block ∙ ap (λ (k : ℕ). repeat k block) more

-- n times a block is n times as long
pub length_repeat : (n size : ℕ) (block : List ℕ) → length block ≡ size → length (repeat n block) ≡ size * n
length_repeat zero size block e = omega arith
length_repeat (suc n) size block e =
    let rest = length_repeat n size block e in
    length-append block (repeat n block) ∙ (let all : length block + length (repeat n block) ≡ size * suc n = omega (arith, rest, e) in all)
