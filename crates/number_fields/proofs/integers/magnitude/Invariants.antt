use Rattle.std.proofs.Common.{◌≡◌, ◌<◌, true, false, take}
use Rattle.std.specs.List.{list_all}
use Rattle.number_fields.specs.Digits.{is_digit, number_of}
use Rattle.number_fields.proofs.integers.magnitude.Given as goal

abbrev pub invariant-digits : goal.invariant-digits
invariant-digits l = record {
  spelled : l.is_over ≡ false → l.value ≡ number_of (take l.c-index l.digits);
  over : l.is_over ≡ true → 9_223_372_036_854_775_808 < number_of (take l.c-index l.digits);
  digits : list_all is_digit (take l.c-index l.digits) ≡ true;
}
