-- Values over the rows that a vector holds.
use Rattle.std.proofs.Common.{◌≡◌, ◌∙◌, ℕ, zero, suc, Bool, true, false, List, [], ◌∷◌, map, refl, ap, subst, Option, Some, None, Result, Ok, Err, if◌then◌else◌}
use Rattle.std.specs.Prelude.{is_some, slice_index_or, unwrap_or}
use Rattle.std.specs.List.{All}
use Rattle.std.proofs.lemmas.List.Elements.{All-head, All-tail}
use Rattle.control_vectors.specs.Slots.{Slot, Cell, over, has_over, slots_in, all_slots}
use Rattle.control_vectors.specs.declared.Over.{Over}
use Rattle.programs.specs.Mentions.{Label}
use Rattle.programs.specs.Vectors.{Vector, slots_of, slot_at}
use Rattle.sql_values.specs.Values.{Value}
use Rattle.table_load.specs.Databases.{coded}
use Rattle.typed_trees.specs.declared.typed.TypedExpr.{TypedExpr}
use Rattle.typed_trees.specs.Types.{DataType}
use Rattle.typed_values.specs.Values.{Valued, On, value}
use Rattle.expr_steps.specs.Lowered.{Bytes, steps_of}
use Rattle.expr_values.specs.Places.{steps_cell}
use Rattle.expr_values.specs.Laws.{CanStand, IsLowerable, value_slot, value_cell, ValueLaw, BlankLaw}
use Rattle.query_answers.specs.Overs.{◌>>=◌, each}
use Rattle.held_rows.specs.Held.{Held, present, at, column, one, cell_at}
use Rattle.held_rows.proofs.RowPlaces.{asked}
use Rattle.held_rows.proofs.Paired.{each_place}
use Rattle.held_values.specs.Lifted.{Paths, place, HoldsNamed, expr_cells, unless_over, LiftLaws}

-- what is so of each row that is present is so of the row at a place
pub at_row : {A : Type 0} (P : A → Type 0) (held : Held A) → All P (present held) → (i : ℕ) (a : A) → slice_index_or held i None ≡ Some a → P a
at_row P [] h i a e = absurd cc
at_row P (None ∷ held) h zero a e = absurd cc
at_row P (None ∷ held) h (suc i) a e = at_row P held h i a e
at_row {A} P (Some b ∷ held) h zero a e = subst P (ap (λ (o : Option A). unwrap_or o b) e) (All-head P b (present held) h)
at_row P (Some b ∷ held) h (suc i) a e = at_row P held (All-tail P b (present held) h) i a e

module _ {A : Type 0} (held : Held A) (v : Vector) (i : ℕ) where
  told_at : (p : Label) (f : A → Slot) (o : Option A) → slots_of v.attributes p ≡ column f held → slice_index_or held i None ≡ o → slot_at v p i ≡ at f o
  told_at p f o e is = ap (λ (l : List Slot). slice_index_or l i None) e ∙ asked f held i ∙ ap (at f) is

-- ---- place by place

module _ {A : Type 0} (value_law : ValueLaw) (blank_law : BlankLaw) (texts : List Bytes) (types : ℕ → Option DataType) (v : Vector) (paths : Paths) (held : Held A) (on : A → On) (e : TypedExpr)
    (low : IsLowerable types e) (stand : All (λ a. CanStand texts types (on a) e) (present held)) (h : HoldsNamed texts v paths held on e) where
  cell_is : (i : ℕ) (o : Option A) → slice_index_or held i None ≡ o → steps_cell (place v paths i) (steps_of texts e) ≡ cell_at (λ a. value_cell texts (value (on a) e)) o
  cell_is i None is =
      blank_law texts (place v paths i) e (record {
        mark = told_at held v i paths.mark one None h.mark is;
        columns = λ c n. told_at held v i (paths.column c) (λ a. coded texts ((on a).column c)) None (h.columns c n) is;
        aggregates = λ m n. told_at held v i (paths.aggregate m) (λ a. value_slot texts ((on a).aggregate m)) None (h.aggregates m n) is;
      })
  cell_is i (Some a) is =
      value_law texts types (on a) (place v paths i) e low (at_row (λ b. CanStand texts types (on b) e) held stand i a is) (record {
        mark = ap is_some (told_at held v i paths.mark one (Some a) h.mark is);
        columns = λ c n. told_at held v i (paths.column c) (λ b. coded texts ((on b).column c)) (Some a) (h.columns c n) is;
        aggregates = λ m n. told_at held v i (paths.aggregate m) (λ b. value_slot texts ((on b).aggregate m)) (Some a) (h.aggregates m n) is;
      })

  pub cells_are : expr_cells texts v paths e ≡ map (cell_at (λ a. value_cell texts (value (on a) e))) held
  cells_are =
      each_place (cell_at (λ a. value_cell texts (value (on a) e))) (λ i. steps_cell (place v paths i) (steps_of texts e)) held None v.len h.len
      (λ i. cell_is i (slice_index_or held i None) refl)

-- ---- all slots, or Over

abbrev cons_slot : Slot → Result (List Slot) Over → Result (List Slot) Over
cons_slot s (Err e) = Err e
cons_slot s (Ok slots) = Ok (s ∷ slots)

all_slots_more : (s : Slot) (cells : List Cell) → all_slots (Ok s ∷ cells) ≡ cons_slot s (all_slots cells)
all_slots_more s cells = by (has_over cells)
  where
    by : (b : Bool) → (if b then Err over else Ok (s ∷ slots_in cells)) ≡ cons_slot s (if b then Err over else Ok (slots_in cells))
    by true = refl
    by false = refl

slot_before : {B : Type 0} (s : Slot) (r : Result B Over) (slots : List Slot) → cons_slot s (unless_over r slots) ≡ unless_over r (s ∷ slots)
slot_before s (Err e) slots = refl
slot_before s (Ok b) slots = refl

value_before : (s : Slot) (y : Value) (r : Result (List Value) Over) (slots : List Slot) → cons_slot s (unless_over r slots) ≡ unless_over (r >>= λ ys. Ok (y ∷ ys)) (s ∷ slots)
value_before s y (Err e) slots = refl
value_before s y (Ok ys) slots = refl

module _ {A : Type 0} (texts : List Bytes) (f : A → Valued) where
  abbrev cells : Held A → List Cell
  cells held = map (cell_at (λ a. value_cell texts (f a))) held

  abbrev slots : Held A → List Slot
  slots held = column (λ a. value_slot texts (f a)) held

  pub slots_are : (held : Held A) → all_slots (cells held) ≡ unless_over (each f (present held)) (slots held)
  slots_are [] = refl
  slots_are (None ∷ held) = all_slots_more None (cells held) ∙ ap (cons_slot None) (slots_are held) ∙ slot_before None (each f (present held)) (slots held)
  slots_are (Some a ∷ held) = by (f a) (slots_are held)
    where
      by : (r : Valued) → all_slots (cells held) ≡ unless_over (each f (present held)) (slots held)
          → all_slots (value_cell texts r ∷ cells held) ≡ unless_over (r >>= λ y. each f (present held) >>= λ ys. Ok (y ∷ ys)) (value_slot texts r ∷ slots held)
      by (Err e) h = refl
      by (Ok y) h = all_slots_more (coded texts y) (cells held) ∙ ap (cons_slot (coded texts y)) h ∙ value_before (coded texts y) y (each f (present held)) (slots held)

pub lift_laws : {A : Type 0} → LiftLaws A
lift_laws = record {
  cells = λ values blanks texts types v paths held on e low stand h. cells_are values blanks texts types v paths held on e low stand h;
  slots = λ values blanks texts types v paths held on e low stand h.
      ap all_slots (cells_are values blanks texts types v paths held on e low stand h) ∙ slots_are texts (λ a. value (on a) e) held;
}
