-- When the results of a program hold rows: there is one result, `answer`, whose first places are marked and hold the rows in order.
-- A number stands as itself, a date as its day, a text as its code in the dictionary, and a null as an empty slot.
use Rattle.std.specs.Prelude.{◌≡◌, ℕ, ◌+◌, ◌-◌, ◌<◌, ◌≤◌, true, List, [], ◌∷◌, map, length, codes, is_some}
use Rattle.std.specs.List.{range_with_len}
use Rattle.std.specs.Map.{lookup}
use Rattle.std.specs.Str.{bytes_eq}
use Rattle.control_vectors.specs.Slots.{Slot}
use Rattle.programs.specs.Vectors.{Vector, Named}
use Rattle.query_answers.specs.Answers.{Row}
use Rattle.table_load.specs.Databases.{coded}
use Rattle.table_load.specs.Values.{value_at}
use Rattle.held_rows.specs.Held.{Told, Holds, packed, one}
use Rattle.program_writers.specs.Statements.{mark}
use Rattle.plan_programs.specs.Items.{item_path}

-- the n-th item of a row, counted from 1, as a slot
abbrev pub item_slot : List (List ℕ) → ℕ → Row → Slot
item_slot texts n row = coded texts (value_at (n - 1) row)

-- an attribute for each of so many items, and the mark
abbrev pub answer_attributes : List (List ℕ) → ℕ → List (Told Row)
answer_attributes texts items = (mark, one) ∷ map (λ n. (item_path n, item_slot texts n)) (range_with_len 1 items)

pub record HoldsRows (texts : List (List ℕ)) (items : ℕ) (rows : List Row) (named : Named) : Type 0 where
  pub vector : Vector
  pub one : named ≡ (codes "answer", vector) ∷ []
  pub fit : length rows ≤ vector.len
  pub holds : Holds vector (packed vector.len rows) (answer_attributes texts items)
  -- it has these attributes even where it has no place
  pub paths : (k : ℕ) → k < items → is_some (lookup (bytes_eq (item_path (k + 1))) vector.attributes) ≡ true
  pub mark_is : is_some (lookup (bytes_eq mark) vector.attributes) ≡ true
  -- and no other
  pub alone : length vector.attributes ≡ items + 1
