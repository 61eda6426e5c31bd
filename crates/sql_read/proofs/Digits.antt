-- Further digits never make a value smaller, and the digits of a number may be taken in two runs.
use Rattle.std.proofs.Common.{◌≡◌, ◌∙◌, ℕ, ◌+◌, ◌*◌, ◌-◌, ◌≤◌, ◌<◌, Bool, true, false, [], ◌∷◌, ◌++◌, length, refl, ap, sym, if◌then◌else◌, arith}
use Rattle.std.specs.Prelude.{nat_le, Some, None}
use Rattle.std.proofs.lemmas.Bool.{lt-leb, leb-false}
use Rattle.std.proofs.lemmas.List.Sums.{fold-append}
use Rattle.sql_read.specs.Lexis.{Bytes, digits_after, decimal, max_integer, if_within, integer_within}

after-le : (n : ℕ) (z : Bytes) → n ≤ digits_after n z
after-le n [] = omega arith
after-le n (b ∷ z) = omega (arith, after-le (10 * n + (b - 48)) z)

too_wide : (n b : ℕ) (z : Bytes) → 17014118346046923173168730371588410572 < n → 170141183460469231731687303715884105727 < digits_after n (b ∷ z)
too_wide n b z h = omega (arith, after-le (10 * n + (b - 48)) z)

pub none_wide : (n : ℕ) (z : Bytes) → 0 < length z → 17014118346046923173168730371588410572 < n → nat_le (digits_after n z) max_integer ≡ false
none_wide n [] some h = absurd (omega arith)
none_wide n (b ∷ z) some h = lt-leb (digits_after n (b ∷ z)) max_integer (too_wide n b z h)

in_two_runs : (whole part : Bytes) → decimal (whole ++ part) ≡ digits_after (decimal whole) part
in_two_runs whole part = fold-append _ 0 whole part

-- what the first run does not keep within, a second does not either
pub none_joined : (whole part : Bytes) → integer_within whole ≡ None → None ≡ integer_within (whole ++ part)
none_joined whole part h = sym (ap if_within (in_two_runs whole part) ∙ ap (λ c. if c then Some (digits_after (decimal whole) part) else None) (lt-leb (digits_after (decimal whole) part) max_integer (omega (arith, after-le (decimal whole) part, by_test (nat_le (decimal whole) max_integer) refl h))))
  where
    by_test : (c : Bool) → nat_le (decimal whole) max_integer ≡ c → (if c then Some (decimal whole) else None) ≡ None → max_integer < decimal whole
    by_test true same e = absurd (cc)
    by_test false same e = leb-false (decimal whole) max_integer same
