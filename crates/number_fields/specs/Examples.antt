-- Worked fields, each a theorem: the number that a field spells, or why it spells none.
use Rattle.std.specs.Prelude.{◌≡◌, ℕ, pos, neg_ℤ, ℤ, List, [], codes, Ok, Err}
use Rattle.number_fields.specs.Decimals.{decimal_value}
use Rattle.number_fields.specs.Integers.{integer_value}
use Rattle.number_fields.specs.declared.fault.NumberFault.{NumberFault}
use Rattle.number_fields.specs.declared.fault.NumberFault.TheVariants.{NoNumber, OutOfRange}

abbrev pub IsInteger : List ℕ → ℤ → Type 0
IsInteger field z = integer_value field ≡ Ok z

abbrev pub IsNoInteger : List ℕ → NumberFault → Type 0
IsNoInteger field why = integer_value field ≡ Err why

abbrev pub WorkedIntegers : Type 0
WorkedIntegers =
    IsInteger (codes "-7") (neg_ℤ (pos 7))
    × IsInteger (codes "007") (pos 7)
    × IsInteger (codes "-0") (pos 0)
    × IsInteger (codes "9223372036854775807") (pos 9_223_372_036_854_775_807)
    × IsInteger (codes "-9223372036854775808") (neg_ℤ (pos 9_223_372_036_854_775_808))
    × IsNoInteger (codes "9223372036854775808") OutOfRange
    × IsNoInteger (codes "-9223372036854775809") OutOfRange
    × IsNoInteger (codes "+5") NoNumber
    × IsNoInteger (codes "1.5") NoNumber
    × IsNoInteger (codes "-") NoNumber
    × IsNoInteger [] NoNumber

-- a field of a decimal of this precision and scale has so many units
abbrev pub IsDecimal : ℕ → ℕ → List ℕ → ℤ → Type 0
IsDecimal p s field units = decimal_value p s field ≡ Ok units

-- or is refused
abbrev pub IsNoDecimal : ℕ → ℕ → List ℕ → NumberFault → Type 0
IsNoDecimal p s field why = decimal_value p s field ≡ Err why

abbrev pub WorkedDecimals : Type 0
WorkedDecimals =
    IsDecimal 10 2 (codes "12.50") (pos 1250)
    × IsDecimal 10 2 (codes "-0.05") (neg_ℤ (pos 5))
    × IsDecimal 10 2 (codes "1") (pos 100)
    × IsDecimal 4 3 (codes "0.125") (pos 125)
    -- zeros behind the scale are free, and other digits are not
    × IsDecimal 10 2 (codes "12.500") (pos 1250)
    × IsNoDecimal 10 2 (codes "12.505") OutOfRange
    × IsNoDecimal 10 2 (codes "12.5001") OutOfRange
    -- the precision is asked of the value, not of how it is written
    × IsDecimal 4 2 (codes "000099.99000") (pos 9999)
    × IsNoDecimal 4 2 (codes "100") OutOfRange
    × IsNoDecimal 4 2 (codes "-100.00") OutOfRange
    × IsDecimal 4 2 (codes "-99.99") (neg_ℤ (pos 9999))
    × IsDecimal 1 1 (codes "0.9") (pos 9)
    × IsNoDecimal 1 1 (codes "1") OutOfRange
    × IsDecimal 18 0 (codes "999999999999999999") (pos 999_999_999_999_999_999)
    × IsNoDecimal 18 0 (codes "1000000000000000000") OutOfRange
    × IsNoDecimal 18 18 (codes "18446744073709551616") OutOfRange
    -- the point before, among or after the digits, and at most one
    × IsDecimal 10 2 (codes ".5") (pos 50)
    × IsDecimal 10 2 (codes "5.") (pos 500)
    × IsDecimal 10 2 (codes "-.5") (neg_ℤ (pos 50))
    × IsDecimal 10 2 (codes "-0") (pos 0)
    × IsDecimal 10 2 (codes "-0.000") (pos 0)
    × IsNoDecimal 10 2 (codes "1.2.3") NoNumber
    × IsNoDecimal 10 2 (codes "1..") NoNumber
    × IsNoDecimal 10 2 (codes ".") NoNumber
    × IsNoDecimal 10 2 (codes "-.") NoNumber
    × IsNoDecimal 10 2 (codes "-") NoNumber
    × IsNoDecimal 10 2 (codes "--1") NoNumber
    × IsNoDecimal 10 2 (codes "+1") NoNumber
    × IsNoDecimal 10 2 (codes "1e2") NoNumber
    × IsNoDecimal 10 2 (codes " 1") NoNumber
    × IsNoDecimal 10 2 (codes "1,5") NoNumber
    × IsNoDecimal 10 2 [] NoNumber
    -- the form comes before the range
    × IsNoDecimal 4 2 (codes "12.505x") NoNumber
    × IsNoDecimal 4 2 (codes "1000000000000000000000000x") NoNumber
