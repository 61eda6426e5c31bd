use Rattle.std.proofs.Common.{◌≡◌, ◌≤◌, true, take, fold}
use Rattle.std.specs.List.{list_all}
use Rattle.number_fields.specs.Capped.{capped}
use Rattle.number_fields.specs.Digits.{is_digit, with_digit}
use Rattle.number_fields.proofs.digits.value_after.Given as goal

abbrev pub invariant-digits : goal.invariant-digits
invariant-digits l = record {
  spelled : l.value ≡ capped (fold with_digit l.fn.value (take l.c-index l.digits));
  digits : list_all is_digit (take l.c-index l.digits) ≡ true;
  most : l.value ≤ 1_000_000_000_000_000_000;
}
