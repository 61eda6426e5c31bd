-- Aggregates of a list in two parts, and as folds over slots (Voodoo, PVLDB 9(14), 2016, section 2.2).
use Rattle.std.specs.Prelude.{◌≡◌, pos, ◌+◌, ◌+ℤ◌, Bool, true, false, if◌then◌else◌, List, ◌∷◌, ◌++◌, length, map, Some, None, Ok}
use Rattle.std.specs.List.{Contains, list_all}
use Rattle.std.specs.Option.{option_cmp}
use Rattle.std.specs.Ordering.{int_cmp}
use Rattle.control_vectors.specs.Folds.{fold_slots, total_of}
use Rattle.control_vectors.specs.Slots.{Slot, numbers}
use Rattle.control_vectors.specs.declared.FoldKind.TheVariants as fold
use Rattle.query_trees.specs.declared.expr.Sign.TheVariants.{Plus}
use Rattle.sql_values.specs.Values.{Value, number, null, by_value}
use Rattle.typed_trees.specs.declared.typed.AggregateKind.{AggregateKind}
use Rattle.typed_trees.specs.declared.typed.AggregateKind.TheVariants.{Count, Sum, Min, Max, Avg}
use Rattle.typed_trees.specs.declared.typed.TypedExpr.{TypedExpr}
use Rattle.typed_values.specs.Aggregates.{those_there, numbers_in, lesser, greater, aggregate_over, argument_over}
use Rattle.typed_values.specs.Values.{exact, is_null, quotient_value, value}
use Rattle.query_answers.specs.Overs.{◌>>=◌, each}
use Rattle.query_answers.specs.Answers.{FromRow, column_value, on_row}

-- ---- in two parts

-- the lesser of two values that are there; a null is none
abbrev pub lesser_there : Value → Value → Value
lesser_there a b = if is_null a then b else if is_null b then a else lesser a b

pub record PartLaws : Type 0 where
  pub count : (vs ws : List Value) → aggregate_over Count (vs ++ ws) ≡ Ok (number (pos (length (those_there vs) + length (those_there ws))))
  -- a sum is exact, whatever its parts add to; without a number that is there it is null
  pub sum_is : (vs : List Value) → aggregate_over Sum vs ≡ (if list_all is_null vs then Ok null else exact (total_of (numbers_in vs)))
  pub total : (vs ws : List Value) → total_of (numbers_in (vs ++ ws)) ≡ total_of (numbers_in vs) +ℤ total_of (numbers_in ws)
  pub least : (vs ws : List Value) → aggregate_over Min (vs ++ ws) ≡ (aggregate_over Min vs >>= λ a. aggregate_over Min ws >>= λ b. Ok (lesser_there a b))
  pub greatest : (vs ws : List Value) → aggregate_over Max (vs ++ ws) ≡ (aggregate_over Max vs >>= λ a. aggregate_over Max ws >>= λ b. Ok (greater a b))
  pub mean : (vs : List Value) → aggregate_over Avg vs ≡ (aggregate_over Sum vs >>= λ sum. quotient_value sum Plus (length (those_there vs)))

-- ---- over rows: an argument that is Over on one of them is so for all

pub record ArgumentLaws : Type 0 where
  pub over_rows : (kind : AggregateKind) (e : TypedExpr) (rows : List FromRow)
      → argument_over kind (Some e) (map column_value rows) ≡ (each (λ row. value (on_row row) e) rows >>= aggregate_over kind)
  pub count_rows : (kind : AggregateKind) (rows : List FromRow) → argument_over kind None (map column_value rows) ≡ Ok (number (pos (length rows)))

-- ---- over slots

-- a number as its slot, and a null as an empty one
abbrev pub number_slot : Value → Slot
number_slot (number z) = Some z
number_slot v = None

abbrev pub is_numeric : Value → Bool
is_numeric (number z) = true
is_numeric null = true
is_numeric v = false

-- a one for each value that is there
abbrev pub one_slot : Value → Slot
one_slot null = Some (pos 0)
one_slot v = Some (pos 1)

-- slots that compare as some values and null do
abbrev pub Compare : (Value → Slot) → List Value → Type 0
Compare slot vs = (a b : Value) → Contains (null ∷ vs) a → Contains (null ∷ vs) b → option_cmp int_cmp (slot a) (slot b) ≡ by_value a b

pub record SlotLaws : Type 0 where
  pub count : (vs : List Value) → total_of (numbers (map one_slot vs)) ≡ pos (length (those_there vs))
  pub sum : (vs : List Value) → list_all is_numeric vs ≡ true → fold_slots fold.Sum (map number_slot vs) ≡ (aggregate_over Sum vs >>= λ v. Ok (number_slot v))
  -- the least and the greatest of numbers, or of texts by their codes
  pub least : (slot : Value → Slot) (vs : List Value) → slot null ≡ None → Compare slot vs → fold_slots fold.Min (map slot vs) ≡ (aggregate_over Min vs >>= λ v. Ok (slot v))
  pub greatest : (slot : Value → Slot) (vs : List Value) → slot null ≡ None → Compare slot vs → fold_slots fold.Max (map slot vs) ≡ (aggregate_over Max vs >>= λ v. Ok (slot v))
