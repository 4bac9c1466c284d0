use Rattle.std.proofs.Common.{◌≡◌, ◌*◌, ◌<◌, take, get_or, ap, ◌∙◌, length, arith}
use Rattle.std.specs.Char.{digit_value}
use Rattle.std.specs.Str.Parse.{digits_value}
use Rattle.std.proofs.lemmas.Int.Digits.{digits_value_more, digits_more}
use Rattle.std.proofs.lemmas.List.{take_all}
use Rattle.std.proofs.lemmas.Bool.Decides.{nat_tests}
use Rattle.iscsi_text.proofs.DigitLemmas.{digit_below, value_so_far}
use Rattle.iscsi_text.proofs.numeral.value_of.Goals as goal

pub returns-in_err-digit : goal.returns-in_err-digit
returns-in_err-digit c = rw c.from_residual.ensures (λ p.
    let below : digit_value c.from.result < c.args.radix = rw c.from.ensures (digit_below c.args.radix c.args.text.now c.loop-byte.byte-index p.0.1
    (omega arith)) in
    c.in_err-digit.ensures.value below)

pub returns-in_err-checked_mul : goal.returns-in_err-checked_mul
returns-in_err-checked_mul c = rw c.from_residual-in_err-checked_mul.ensures (λ p.
    let product : c.loop-byte.value * c.from-in-loop-byte.result ≡ digits_value c.args.radix (take c.loop-byte.byte-index c.args.text.now) * c.args.radix =
    cc in
    c.in_err-checked_mul.ensures (omega (arith, product, p.1, value_so_far c.args.radix c.args.text.now c.loop-byte.byte-index (omega arith) (omega arith))))

pub returns-in_err-value : goal.returns-in_err-value
returns-in_err-value c = rw c.from_residual-in_err-value.ensures (λ p.
    let product : c.loop-byte.value * c.from-in-loop-byte.result ≡ digits_value c.args.radix (take c.loop-byte.byte-index c.args.text.now) * c.args.radix =
    cc in
    let digit : digit_value c.from.result ≡ digit_value (get_or c.args.text.now c.loop-byte.byte-index 0) = ap digit_value c.from.ensures in
    c.in_err-value.ensures (omega (
      arith,
      product,
      digit,
      p.1,
      c.in_ok-digit.ensures.value,
      c.in_ok-checked_mul.ensures,
      c.from-in-loop-byte-2.ensures,
      value_so_far c.args.radix c.args.text.now c.loop-byte.byte-index (omega arith) (omega arith),
    )))

pub loop-byte-preserved : goal.loop-byte-preserved
loop-byte-preserved c =
    let product : c.loop-byte.value * c.from-in-loop-byte.result ≡ digits_value c.args.radix (take c.loop-byte.byte-index c.args.text.now) * c.args.radix =
    cc in
    let digit : digit_value c.from.result ≡ digit_value (get_or c.args.text.now c.loop-byte.byte-index 0) = ap digit_value c.from.ensures in
    let below : digit_value (get_or c.args.text.now c.loop-byte.byte-index 0) < c.args.radix = omega (arith, digit, c.in_ok-digit.ensures.value) in
    record {
      value = omega (
        arith,
        product,
        digit,
        c.in_ok-digit.ensures.value,
        c.in_ok-checked_mul.ensures,
        c.in_ok-value.ensures,
        c.from-in-loop-byte-2.ensures,
        digits_value_more c.args.radix c.args.text.now c.loop-byte.byte-index (omega arith),
      );
      fits = omega (arith, c.in_ok-value.ensures);
      digits = digits_more c.args.radix c.args.text.now c.loop-byte.byte-index (omega arith) c.loop-byte.invariant.digits below;
    }

pub returns : goal.returns
returns c =
    let whole : take c.loop-byte.byte-index c.args.text.now ≡ c.args.text.now = take_all c.loop-byte.byte-index c.args.text.now (omega arith) in
    let value : c.loop-byte.value ≡ digits_value c.args.radix c.args.text.now = c.loop-byte.invariant.value ∙ ap (digits_value c.args.radix) whole in
    let some : 0 < length c.args.text.now = grind (arith, nat_tests, c.is_empty.ensures, c.if-is_empty.false) in
    (((some, rw whole at c.loop-byte.invariant.digits), omega (arith, c.loop-byte.invariant.fits)), value)
