-- Steps that read only what stands before them, and steps of which each is read.
use Rattle.std.specs.Prelude.{◌≡◌, ℕ, ◌+◌, ◌<◌, ◌==◌, Bool, true, false, ◌&&◌, ◌||◌, List, [], ◌∷◌}
use Rattle.std.specs.List.{list_any}
use Rattle.typed_trees.specs.declared.typed.ColumnRef.{ColumnRef}
use Rattle.typed_trees.specs.declared.typed.TypedExpr.{TypedExpr}
use Rattle.typed_trees.specs.Names.{names_column, names_aggregate}
use Rattle.expr_steps.specs.declared.steps.Source.{Source}
use Rattle.expr_steps.specs.declared.steps.Source.TheVariants.{Mark, Column, Aggregate, Made, Number}
use Rattle.expr_steps.specs.declared.steps.Step.{Step}

-- ---- what may be read

-- the columns and the aggregates that may be read
pub record Names : Type 0 where
  pub column : ColumnRef → Bool
  pub aggregate : ℕ → Bool

-- those that an expression names
abbrev pub names_in : TypedExpr → Names
names_in e = record { column = λ c. names_column c e; aggregate = λ n. names_aggregate n e }

-- an operand that stands before the step of number k
abbrev pub IsBefore : Names → ℕ → Source → Type 0
IsBefore names k Mark = Unit {0}
IsBefore names k (Column c) = names.column c ≡ true
IsBefore names k (Aggregate n) = names.aggregate n ≡ true
IsBefore names k (Made i) = i < k
IsBefore names k (Number z) = Unit {0}

abbrev pub is_number : Source → Bool
is_number (Number z) = true
is_number x = false

-- a step of number k that reads what stands before it, and not two numbers
pub record IsScoped (names : Names) (k : ℕ) (step : Step) : Type 0 where
  pub x : IsBefore names k step.x
  pub y : IsBefore names k step.y
  pub source : (is_number step.x && is_number step.y) ≡ false

-- steps that are numbered from k on
abbrev pub AreScoped : Names → ℕ → List Step → Type 0
AreScoped names k [] = Unit {0}
AreScoped names k (step ∷ rest) = IsScoped names k step × AreScoped names (k + 1) rest

-- ---- what is read

abbrev pub is_made : ℕ → Source → Bool
is_made j (Made i) = i == j
is_made j x = false

abbrev pub step_reads : ℕ → Step → Bool
step_reads j step = is_made j step.x || is_made j step.y

-- whether some of these steps reads what step j makes
abbrev pub reads : List Step → ℕ → Bool
reads steps j = list_any (step_reads j) steps

-- each of some steps, numbered from k on, is read by one behind it, or is among those that are wanted behind all of them
abbrev pub AreRead : (ℕ → Bool) → ℕ → List Step → Type 0
AreRead wanted k [] = Unit {0}
AreRead wanted k (step ∷ rest) = ((reads rest k || wanted k) ≡ true) × AreRead wanted (k + 1) rest
