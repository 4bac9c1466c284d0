use Rattle.std.proofs.Common.{◌≡◌, ◌<◌, ◌^◌, take}
use Rattle.std.specs.Str.Parse.{AllDigits, digits_value}
use Rattle.iscsi_text.proofs.numeral.value_of.Given as goal

abbrev pub invariant-loop-byte : goal.invariant-loop-byte
invariant-loop-byte l = record {
  value : l.value ≡ digits_value l.radix (take l.byte-index l.text);
  fits : l.value < 2 ^ 64;
  digits : AllDigits l.radix (take l.byte-index l.text);
}
