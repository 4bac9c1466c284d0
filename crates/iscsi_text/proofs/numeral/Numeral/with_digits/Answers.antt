use Rattle.std.proofs.Common.{◌≡◌, ◌/◌, ◌%◌, ◌++◌, ◌∷◌, [], false, sym, ap, ◌∙◌, append_assoc, length, arith}
use Rattle.std.specs.Fmt.{digits, digit_glyph}
use Rattle.std.proofs.lemmas.List.{append-nil, length-append}
use Rattle.std.proofs.Math.Nat.{div-le_self}
use Rattle.iscsi_text.proofs.DigitLemmas.{printed_one, printed_step, printed_some, length-printed-le, fits_base}
use Rattle.iscsi_text.proofs.numeral.Numeral.with_digits.Goals as goal

pub loop-rest-init : goal.loop-rest-init
loop-rest-init c =
    let fits = fits_base c.args.base c.args.n (omega arith) (omega arith) in
    record {
      written = sym (append-nil _);
      room = omega (arith, length-printed-le c.args.base 20 c.args.n (omega arith) (omega arith) fits.0 fits.1);
      rest = omega arith;
    }

pub prepend-requires : goal.prepend-requires
prepend-requires c = omega (arith, printed_some c.args.base c.loop-rest.rest (omega arith) (omega arith) (omega arith), c.loop-rest.invariant.room)

pub loop-rest-preserved : goal.loop-rest-preserved
loop-rest-preserved c =
    let base = c.args.base in
    let rest = c.loop-rest.rest in
    let front = digits base false (rest / base) in
    let step = printed_step base rest (omega arith) (omega arith) (fits_base base rest (omega arith) (omega arith)).1 in
    let placed : c.prepend.new.self ≡ digit_glyph false (rest % base) ∷ c.loop-rest.numeral = c.prepend.ensures
    ∙ ap (λ d. d ∷ c.loop-rest.numeral) c.digit_char.ensures in
    record {
      written = c.loop-rest.invariant.written ∙ ap (λ ds. ds ++ c.loop-rest.numeral) step
          ∙ append_assoc front (digit_glyph false (rest % base) ∷ []) c.loop-rest.numeral ∙ ap (λ ds. front ++ ds) (sym placed);
      room = omega (arith, c.loop-rest.invariant.room, ap length step, length-append front (digit_glyph false (rest % base) ∷ []), ap length placed);
      rest = omega (arith, div-le_self rest base);
    }

pub prepend-requires-2 : goal.prepend-requires-2
prepend-requires-2 c = omega (arith, printed_some c.args.base c.loop-rest.rest (omega arith) (omega arith) (omega arith), c.loop-rest.invariant.room)

pub returns : goal.returns
returns c =
    c.prepend-2.ensures
    ∙ ap (λ d. d ∷ c.loop-rest.numeral) c.digit_char-2.ensures
    ∙ ap (λ ds. ds ++ c.loop-rest.numeral) (sym (printed_one c.args.base c.loop-rest.rest (omega arith)))
    ∙ sym c.loop-rest.invariant.written
