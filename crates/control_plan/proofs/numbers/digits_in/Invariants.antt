use Rattle.std.proofs.Common.{◌≡◌, ◌<◌, ◌^◌, fold, take, true}
use Rattle.std.specs.List.{list_all}
use Rattle.number_fields.specs.Digits.{is_digit, with_digit}
use Rattle.control_plan.proofs.numbers.digits_in.Given as goal

abbrev pub invariant-digits : goal.invariant-digits
invariant-digits l = record {
  digits : list_all is_digit (take l.c-index l.digits) ≡ true;
  value : l.value ≡ fold with_digit 0 (take l.c-index l.digits);
  below : l.value < 10 ^ l.c-index;
}
