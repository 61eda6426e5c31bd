-- Which numbers the fields of a column spell: whole numbers of 64 bits, and decimals of at most so many digits.
use Rattle.std.specs.Prelude.{◌≡◌, ℕ, ◌-◌, ◌^◌, ℤ, pos, negsuc, neg_ℤ, int_le, Bool, true, ◌&&◌, List, Ok}
use Rattle.number_fields.specs.Decimals.{decimal_value}
use Rattle.number_fields.specs.Integers.{integer_value}

abbrev pub lies_between : ℤ → ℤ → ℤ → Bool
lies_between least greatest z = int_le least z && int_le z greatest

abbrev pub IntegerRange : Type 0
IntegerRange = (f : List ℕ) (z : ℤ) → integer_value f ≡ Ok z → lies_between (negsuc 9_223_372_036_854_775_807) (pos 9_223_372_036_854_775_807) z ≡ true

abbrev pub DecimalRange : Type 0
DecimalRange = (p s : ℕ) (f : List ℕ) (z : ℤ) → decimal_value p s f ≡ Ok z → lies_between (neg_ℤ (pos (10 ^ p - 1))) (pos (10 ^ p - 1)) z ≡ true
