-- An expression's steps at the places of a vector that holds rows: they make the column of its values.
-- After SQL-92 (ISO/IEC 9075:1992), 6.11 <value expression>; vectors are those of Voodoo, PVLDB 9(14), 2016, section 2.
use Rattle.std.specs.Prelude.{◌≡◌, ℕ, true, List, length, map, Option, Result, Ok, Err}
use Rattle.std.specs.List.{All, range_with_len}
use Rattle.control_vectors.specs.Slots.{Slot, Cell, all_slots}
use Rattle.control_vectors.specs.declared.Over.{Over}
use Rattle.programs.specs.Mentions.{Label}
use Rattle.programs.specs.Vectors.{Vector, slots_of, slot_at}
use Rattle.table_load.specs.Databases.{coded}
use Rattle.typed_trees.specs.declared.typed.ColumnRef.{ColumnRef}
use Rattle.typed_trees.specs.declared.typed.TypedExpr.{TypedExpr}
use Rattle.typed_trees.specs.Names.{names_column, names_aggregate}
use Rattle.typed_trees.specs.Types.{DataType}
use Rattle.typed_values.specs.Values.{On, value}
use Rattle.expr_steps.specs.Lowered.{Bytes, steps_of}
use Rattle.expr_values.specs.Places.{Place, steps_cell}
use Rattle.expr_values.specs.Laws.{CanStand, IsLowerable, value_slot, value_cell, ValueLaw, BlankLaw}
use Rattle.query_answers.specs.Overs.{each}
use Rattle.held_rows.specs.Held.{Held, present, column, one, cell_at}

-- the attributes of a vector that an expression may name
pub record Paths : Type 0 where
  pub mark : Label
  pub column : ColumnRef → Label
  pub aggregate : ℕ → Label

-- what stands at a place of a vector
abbrev pub place : Vector → Paths → ℕ → Place
place v paths i = record {
  mark = slot_at v paths.mark i;
  column = λ c. slot_at v (paths.column c) i;
  aggregate = λ n. slot_at v (paths.aggregate n) i;
}

-- a vector holds rows, their mark, and the values of the columns and the aggregates that an expression names
pub record HoldsNamed {A : Type 0} (texts : List Bytes) (v : Vector) (paths : Paths) (held : Held A) (on : A → On) (e : TypedExpr) : Type 0 where
  pub len : v.len ≡ length held
  pub mark : slots_of v.attributes paths.mark ≡ column one held
  pub columns : (c : ColumnRef) → names_column c e ≡ true → slots_of v.attributes (paths.column c) ≡ column (λ a. coded texts ((on a).column c)) held
  pub aggregates : (n : ℕ) → names_aggregate n e ≡ true → slots_of v.attributes (paths.aggregate n) ≡ column (λ a. value_slot texts ((on a).aggregate n)) held

-- what the last step makes at each place, or Over where some step is
abbrev pub expr_cells : List Bytes → Vector → Paths → TypedExpr → List Cell
expr_cells texts v paths e = map (λ i. steps_cell (place v paths i) (steps_of texts e)) (range_with_len 0 v.len)

-- the values, a slot for each row
abbrev pub values_told : {A : Type 0} → List Bytes → (A → On) → TypedExpr → A → Slot
values_told texts on e a = value_slot texts (value (on a) e)

-- some slots, where nothing was Over
abbrev pub unless_over : {B : Type 0} → Result B Over → List Slot → Result (List Slot) Over
unless_over (Err e) slots = Err e
unless_over (Ok b) slots = Ok slots

pub record LiftLaws (A : Type 0) : Type 0 where
  -- each row's value stands where the row does
  pub cells : ValueLaw → BlankLaw → (texts : List Bytes) (types : ℕ → Option DataType) (v : Vector) (paths : Paths) (held : Held A) (on : A → On) (e : TypedExpr)
      → IsLowerable types e → All (λ a. CanStand texts types (on a) e) (present held) → HoldsNamed texts v paths held on e
      → expr_cells texts v paths e ≡ map (cell_at (λ a. value_cell texts (value (on a) e))) held
  -- all are slots just where the expression is Over on no row
  pub slots : ValueLaw → BlankLaw → (texts : List Bytes) (types : ℕ → Option DataType) (v : Vector) (paths : Paths) (held : Held A) (on : A → On) (e : TypedExpr)
      → IsLowerable types e → All (λ a. CanStand texts types (on a) e) (present held) → HoldsNamed texts v paths held on e
      → all_slots (expr_cells texts v paths e) ≡ unless_over (each (λ a. value (on a) e) (present held)) (column (values_told texts on e) held)
