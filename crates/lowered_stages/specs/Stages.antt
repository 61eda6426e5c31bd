-- Rows or groups that stand at a base: what a part of a plan's program finds in the vector that it works on, and leaves in the one that it makes.
-- At each marked place stands one row, in order, with the slots of its columns' and aggregates' values; at every other place there is nothing.
use Rattle.std.specs.Prelude.{◌≡◌, ◌≢◌, ℕ, true, ◌==◌, List, ◌∷◌, ◌++◌, map, length}
use Rattle.std.specs.List.{list_any}
use Rattle.programs.specs.Mentions.{Label}
use Rattle.programs.specs.Outlines.{Shapes}
use Rattle.programs.specs.Vectors.{Vector, Env}
use Rattle.programs.specs.declared.op.Statement.{Statement}
use Rattle.programs.specs.Mentions.{is_persist}
use Rattle.table_load.specs.Databases.{coded}
use Rattle.typed_trees.specs.declared.typed.ColumnRef.{ColumnRef}
use Rattle.typed_trees.specs.declared.typed.TypedExpr.{TypedExpr}
use Rattle.typed_trees.specs.Names.{same_column, names_column, names_aggregate}
use Rattle.typed_values.specs.Values.{On}
use Rattle.expr_lower.specs.declared.places.ColumnPlace.{ColumnPlace}
use Rattle.expr_lower.specs.declared.places.AggregatePlace.{AggregatePlace}
use Rattle.expr_steps.specs.Lowered.{Bytes}
use Rattle.expr_values.specs.Laws.{value_slot}
use Rattle.held_rows.specs.Held.{Held, Told, Holds, present, one}
use Rattle.program_writers.specs.Statements.{mark}
use Rattle.plan_programs.specs.Sites.{Base}
use Rattle.writer_checks.specs.Checks.{HasShape}
use Rattle.writer_runs.specs.Runs.{Sees}

-- ---- what a base tells of its rows

abbrev pub column_told : {A : Type 0} → List Bytes → (A → On) → ColumnPlace → Told A
column_told texts on p = (p.path, λ a. coded texts ((on a).column p.column))

abbrev pub aggregate_told : {A : Type 0} → List Bytes → (A → On) → AggregatePlace → Told A
aggregate_told texts on p = (p.path, λ a. value_slot texts ((on a).aggregate p.aggregate))

abbrev pub told_of : {A : Type 0} → List Bytes → (A → On) → Base → List (Told A)
told_of texts on b = (mark, one) ∷ (map (column_told texts on) b.columns ++ map (aggregate_told texts on) b.aggregates)

-- rows stand at a base: `held` says at which places
pub record StandsAt {A : Type 0} (texts : List Bytes) (env : Env) (b : Base) (on : A → On) (held : Held A) : Type 0 where
  pub vector : Vector
  pub sees : Sees env b.vector vector
  pub holds : Holds vector held (told_of texts on b)

-- these rows, at some places of so many
pub record Stands {A : Type 0} (texts : List Bytes) (b : Base) (on : A → On) (len : ℕ) (rows : List A) (env : Env) : Type 0 where
  pub held : Held A
  pub places : length held ≡ len
  pub rows_are : present held ≡ rows
  pub at : StandsAt texts env b on held

-- ---- what a base has for an expression, and for the check

-- each column and each aggregate that an expression names has a place
pub record Covers (b : Base) (e : TypedExpr) : Type 0 where
  pub columns : (c : ColumnRef) → names_column c e ≡ true → list_any (λ p. same_column p.column c) b.columns ≡ true
  pub aggregates : (n : ℕ) → names_aggregate n e ≡ true → list_any (λ p. p.aggregate == n) b.aggregates ≡ true

-- the paths of a base's vector
abbrev pub paths_of : Base → List Label
paths_of b = mark ∷ (map (λ p. p.path) b.columns ++ map (λ p. p.path) b.aggregates)

-- the vector is known, with all these paths
abbrev pub IsShaped : ℕ → Base → Shapes → Type 0
IsShaped len b shapes = HasShape shapes b.vector len (paths_of b)

-- ---- what is static: the statements of a part show no result

abbrev pub ShowNothing : List Statement → Type 0
ShowNothing statements = list_any (λ s. is_persist s.op) statements ≢ true
