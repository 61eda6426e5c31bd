-- What the parts that write groups do for the program's check, and for the statements that are used.
-- After SQL-92 (ISO/IEC 9075:1992), 7.7 <group by clause> and 6.5 <set function specification>.
use Rattle.std.specs.Prelude.{◌≡◌, ℕ, ◌≤◌, ◌^◌, true, List, [], ◌∷◌, length, Option}
use Rattle.programs.specs.Mentions.{Label}
use Rattle.programs.specs.Outlines.{Shapes}
use Rattle.typed_trees.specs.declared.typed.Aggregate.{Aggregate}
use Rattle.typed_trees.specs.declared.typed.ColumnRef.{ColumnRef}
use Rattle.typed_trees.specs.declared.typed.TypedExpr.{TypedExpr}
use Rattle.typed_trees.specs.Types.{DataType}
use Rattle.query_answers.specs.Clauses.{is_grouped}
use Rattle.expr_steps.specs.Lowered.{Bytes}
use Rattle.program_writers.specs.Names.{is_word}
use Rattle.program_writers.specs.Statements.{out}
use Rattle.plan_programs.specs.Sites.{Base, value_of}
use Rattle.plan_programs.specs.Groups.{grouped}
use Rattle.writer_checks.specs.Checks.{PassesFrom, HasShape}
use Rattle.writer_runs.specs.Uses.{Uses}
use Rattle.lowered_stages.specs.Stages.{IsShaped}
use Rattle.lowered_stages.specs.Parts.{CanGroup, CanValue, told_at}

-- ---- the value of an expression

-- it passes, and tells a vector of one attribute
abbrev pub ValuePasses : Type 0
ValuePasses =
    (tables : Shapes) (texts : List Bytes) (at : ℕ → Option DataType) (word : Label) (len : ℕ) (b : Base) (e : TypedExpr) → is_word word ≡ true → len ≤ 2 ^ 22 → CanValue at b e
    → PassesFrom tables (value_of texts word b e) (IsShaped len b) (λ name shapes. HasShape shapes name len (out ∷ []))

-- its vector reaches the base's
abbrev pub ValueUses : Type 0
ValueUses = (texts : List Bytes) (word : Label) (b : Base) (e : TypedExpr) (k : ℕ) → Uses (told_at (value_of texts word b e) k ∷ []) (b.vector ∷ []) (value_of texts word b e k).statements

-- ---- groups

-- where there is a group column or an aggregate, the groups' vector reaches the rows'
abbrev pub GroupsUsed : Type 0
GroupsUsed =
    (texts : List Bytes) (b : Base) (columns : List ColumnRef) (aggregates : List Aggregate) (k : ℕ) → is_grouped columns aggregates ≡ true
    → Uses ((told_at (grouped texts b columns aggregates) k).vector ∷ []) (b.vector ∷ []) (grouped texts b columns aggregates k).statements

-- the groups' vector is as long as the rows', or has one place; no more aggregates than a query has
abbrev pub GroupsPass : Type 0
GroupsPass =
    (tables : Shapes) (texts : List Bytes) (len : ℕ) (b : Base) (columns : List ColumnRef) (aggregates : List Aggregate) → len ≤ 2 ^ 22 → CanGroup b columns aggregates → length aggregates ≤ 512
    → PassesFrom tables (grouped texts b columns aggregates) (IsShaped len b) (λ c shapes. (count : ℕ) × ((count ≤ 2 ^ 22) × IsShaped count c shapes))

-- what values do, groups do
abbrev pub UseLaw : Type 0
UseLaw = ValueUses → GroupsUsed

abbrev pub PassLaw : Type 0
PassLaw = ValuePasses → GroupsPass
