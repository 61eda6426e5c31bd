-- Tables, and what a column reads a field as: a whole number, a decimal as its units, a date as its day number from 1970-01-01 on, a text, or a
-- null.
use Rattle.std.specs.Prelude.{Bool, false, ◌&&◌, ℕ, ◌==◌, ℤ, List, [], ◌∷◌, length, Option, Some, None, Result, Ok, Err, if◌then◌else◌, nat_lt, slice_index_or}
use Rattle.std.specs.Ordering.{is_eq}
use Rattle.std.specs.Str.{is_utf8}
use Rattle.civil_days.specs.Dates.{day_number}
use Rattle.sql_read.specs.declared.definition.ColumnKind.{ColumnKind}
use Rattle.sql_read.specs.declared.definition.ColumnKind.TheVariants as kind
use Rattle.number_fields.specs.Decimals.{decimal_value}
use Rattle.number_fields.specs.Integers.{integer_value}
use Rattle.number_fields.specs.declared.fault.NumberFault.{NumberFault}
use Rattle.number_fields.specs.declared.fault.NumberFault.TheVariants.{NoNumber, OutOfRange}
use Rattle.sql_read.specs.declared.definition.ColumnDef.{ColumnDef}
use Rattle.sql_read.specs.declared.definition.TableDef.{TableDef}
use Rattle.sql_types.specs.Catalog.{may_be_null}
use Rattle.sql_values.specs.Values.{Value, number, text, null, by_value}
use Rattle.table_load.specs.declared.refusal.DataKind.{DataKind}
use Rattle.table_load.specs.declared.refusal.DataKind.TheVariants.{NotInteger, IntegerRange, NotDate, NotText, TextTooLong, NotDecimal, DecimalRange}

-- a table: how many columns it has, and its rows (SQL-92, 4.9 "Tables"), in the order of the file
pub record Table : Type 0 where
  pub degree : ℕ
  pub rows : List (List Value)

-- whether two values are equal: neither is below the other, and neither is null, since a null is equal to no value (SQL-92, 8.2)
abbrev pub same_value : Value → Value → Bool
same_value null b = false
same_value a b = is_eq (by_value a b)

-- a row's value in a column, counted from 0; null where it has none
abbrev pub value_at : ℕ → List Value → Value
value_at j row = slice_index_or row j null

abbrev pub integer_field : Result ℤ NumberFault → Result Value DataKind
integer_field (Ok z) = Ok (number z)
integer_field (Err NoNumber) = Err NotInteger
integer_field (Err OutOfRange) = Err IntegerRange

abbrev pub decimal_field : Result ℤ NumberFault → Result Value DataKind
decimal_field (Ok z) = Ok (number z)
decimal_field (Err NoNumber) = Err NotDecimal
decimal_field (Err OutOfRange) = Err DecimalRange

abbrev pub date_field : Option ℤ → Result Value DataKind
date_field (Some day) = Ok (number day)
date_field None = Err NotDate

-- UTF-8 of at most so many bytes
abbrev pub text_field : ℕ → List ℕ → Result Value DataKind
text_field width f = if is_utf8 f then (if nat_lt width (length f) then Err TextTooLong else Ok (text f)) else Err NotText

abbrev pub typed_field : ColumnKind → ℕ → ℕ → List ℕ → Result Value DataKind
typed_field kind.Integer width scale f = integer_field (integer_value f)
typed_field kind.Date width scale f = date_field (day_number f)
typed_field kind.Text width scale f = text_field width f
typed_field kind.Decimal width scale f = decimal_field (decimal_value width scale f)

-- a field that stands for a null: an empty one, in a column that may hold nulls
abbrev pub is_null_field : TableDef → ColumnDef → List ℕ → Bool
is_null_field t c f = (length f == 0) && may_be_null t c

-- the value of a field in its column, or what is wrong with it; a null has no other form to meet
abbrev pub field_value : TableDef → ColumnDef → List ℕ → Result Value DataKind
field_value t c f = if is_null_field t c f then Ok null else typed_field c.kind c.width c.scale f

-- the same of each field in its column
abbrev pub field_values : TableDef → List ColumnDef → List (List ℕ) → List (Result Value DataKind)
field_values t [] fields = []
field_values t (c ∷ cs) [] = []
field_values t (c ∷ cs) (f ∷ fs) = field_value t c f ∷ field_values t cs fs
