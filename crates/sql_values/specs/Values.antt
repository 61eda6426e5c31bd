-- The values of table rows and of expressions, and their one order: null lowest, then numbers and dates by number, texts by bytes, and false before true.
-- After SQL-92 (ISO/IEC 9075:1992), 4.4.1, 8.2 and 13.1, which leaves open whether null is the lowest or the greatest.
use Rattle.std.specs.Prelude.{ℕ, ℤ, Bool, List}
use Rattle.std.specs.declared.cmp.Ordering.{Ordering}
use Rattle.std.specs.declared.cmp.Ordering.TheVariants.{Less, Equal, Greater}
use Rattle.std.specs.Ordering.{is_lt, int_cmp, bool_cmp}
use Rattle.sql_values.specs.Texts.{by_bytes}

-- a number or a date as its day, the bytes of a text, a truth, or no value
pub data Value : Type 0 where
  number : ℤ → Value
  text : List ℕ → Value
  truth : Bool → Value
  null : Value

-- values of one kind by what they are, and kinds in the order null, number, text, truth
abbrev pub by_value : Value → Value → Ordering
by_value null null = Equal
by_value null b = Less
by_value a null = Greater
by_value (number x) (number y) = int_cmp x y
by_value (text x) (text y) = by_bytes x y
by_value (truth x) (truth y) = bool_cmp x y
by_value (number x) b = Less
by_value a (number y) = Greater
by_value (text x) (truth y) = Less
by_value (truth x) (text y) = Greater

abbrev pub is_below : Value → Value → Bool
is_below a b = is_lt (by_value a b)
