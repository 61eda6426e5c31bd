-- The statements of steps over a vector, as a part of a program.
use Rattle.std.specs.Prelude.{◌≡◌, ℕ, ◌+◌, List, [], ◌∷◌, true, map}
use Rattle.std.specs.List.{range_with_len}
use Rattle.control_vectors.specs.Slots.{Cell}
use Rattle.programs.specs.Mentions.{Label}
use Rattle.programs.specs.Outlines.{Shapes}
use Rattle.programs.specs.Vectors.{Vector, slot_at}
use Rattle.typed_trees.specs.declared.typed.ColumnRef.{ColumnRef}
use Rattle.expr_steps.specs.declared.steps.Step.{Step}
use Rattle.expr_lower.specs.declared.places.ColumnPlace.{ColumnPlace}
use Rattle.expr_lower.specs.declared.places.AggregatePlace.{AggregatePlace}
use Rattle.expr_lower.specs.Statements.{Site, site, value_name, statements, column_path, aggregate_path}
use Rattle.expr_values.specs.Places.{Place, steps_cell}
use Rattle.expr_scopes.specs.Scopes.{Names}
use Rattle.program_writers.specs.Writers.{Writer, numbered}
use Rattle.program_writers.specs.Statements.{mark}
use Rattle.writer_checks.specs.Checks.{HasShape}

-- a vector, and the attributes of its columns and aggregates
pub record Base : Type 0 where
  pub vector : Label
  pub columns : List ColumnPlace
  pub aggregates : List AggregatePlace

-- steps over it, whose names begin with a stem
abbrev pub site_of : Base → Label → Site
site_of b stem = site b.vector mark b.columns b.aggregates stem

-- the value of some steps, at `.out` of the vector that it tells; its names begin with a word and a number
abbrev pub steps_value : Label → Base → List Step → Writer Label
steps_value word b steps k = record {
  statements = statements (site_of b (numbered word k)) steps;
  next = k + 1;
  told = value_name (numbered word k);
}

-- the vector has its mark, and an attribute of each column and each aggregate that may be read
pub record HasPlaces (names : Names) (shapes : Shapes) (b : Base) (len : ℕ) : Type 0 where
  pub marked : HasShape shapes b.vector len (mark ∷ [])
  pub columns : (c : ColumnRef) → names.column c ≡ true → HasShape shapes b.vector len (column_path b.columns c ∷ [])
  pub aggregates : (n : ℕ) → names.aggregate n ≡ true → HasShape shapes b.vector len (aggregate_path b.aggregates n ∷ [])

-- what stands at a place of the vector
abbrev pub place_of : Base → Vector → ℕ → Place
place_of b v i = record {
  mark = slot_at v mark i;
  column = λ c. slot_at v (column_path b.columns c) i;
  aggregate = λ n. slot_at v (aggregate_path b.aggregates n) i;
}

-- what the last step makes at each place, or Over where some step is
abbrev pub value_cells : Base → Vector → List Step → List Cell
value_cells b v steps = map (λ i. steps_cell (place_of b v i) steps) (range_with_len 0 v.len)
