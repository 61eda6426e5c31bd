use Rattle.std.proofs.Common.{◌≡◌, ◌∙◌, sym, true, get_or, arith}
use Rattle.std.specs.Char.{is_ascii_digit}
use Rattle.std.proofs.lemmas.Bool.{and_from}
use Rattle.std.proofs.lemmas.List.Folds.{list_all_more}
use Rattle.std.proofs.lemmas.Int.Digits.{digits_value_more}
use Rattle.voodoo_text.proofs.Numbers.{stops_at, grows_past, digit_is}
use Rattle.voodoo_text.proofs.values.digits_within.Goals as goal
use Rattle.voodoo_text.proofs.values.digits_within.Goals.{then-not-is_ascii_digit-via-then-not-is_ascii_digit, then-not-is_ascii_digit-via-else-not-is_ascii_digit+then-value-most}

pub returns-then-not-is_ascii_digit-clause-value : goal.returns-then-not-is_ascii_digit-clause-value
returns-then-not-is_ascii_digit-clause-value c =
    elim c.then-not-is_ascii_digit.branch [
      | then-not-is_ascii_digit-via-then-not-is_ascii_digit w ↦
          sym (stops_at c.args.most c.args.digits.now c.loop-byte.byte-index c.loop-byte-test.true (sym c.is_ascii_digit.ensures.value ∙ w.if-not-is_ascii_digit.true))
      | then-not-is_ascii_digit-via-else-not-is_ascii_digit+then-value-most w ↦
          sym (grows_past c.args.most c.args.digits.now c.loop-byte.byte-index c.loop-byte-test.true (omega arith))
    ]

pub loop-byte-preserved : goal.loop-byte-preserved
loop-byte-preserved c =
    let digit : is_ascii_digit (get_or c.args.digits.now c.loop-byte.byte-index 0) ≡ true = sym c.is_ascii_digit.ensures.value ∙ c.if-not-is_ascii_digit.false in
    let value = digit_is (get_or c.args.digits.now c.loop-byte.byte-index 0) digit in
    let more = digits_value_more 10 c.args.digits.now c.loop-byte.byte-index c.loop-byte-test.true in
    record {
      digits = list_all_more is_ascii_digit c.args.digits.now c.loop-byte.byte-index 0 c.loop-byte-test.true ∙ and_from _ _ c.loop-byte.invariant.digits digit;
      spelled = cc;
    }
