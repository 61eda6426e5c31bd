-- Values that can be printed: a date is a day of the years 1 to 9999, and a text is one of the dictionary.
use Rattle.std.specs.Prelude.{ℕ, Bool, true, false, List}
use Rattle.civil_days.specs.Dates.{in_range}
use Rattle.dict_codes.specs.Dictionaries.{is_among}
use Rattle.sql_values.specs.Values.{Value, number, text, truth, null}
use Rattle.typed_trees.specs.declared.kinds.Kind.{Kind}
use Rattle.typed_trees.specs.declared.kinds.Kind.TheVariants.{Number, Date, Text, Truth}

-- a value of a kind that is held as it is: a number, a day of those years, a text of the dictionary, or null
abbrev pub is_shown : List (List ℕ) → Kind → Value → Bool
is_shown texts kind null = true
is_shown texts Number (number z) = true
is_shown texts Date (number z) = in_range z
is_shown texts Text (text t) = is_among texts t
is_shown texts Truth (truth b) = true
is_shown texts kind v = false

-- the kinds whose values are taken from tables and literals alone
abbrev pub is_taken : Kind → Bool
is_taken Date = true
is_taken Text = true
is_taken kind = false
