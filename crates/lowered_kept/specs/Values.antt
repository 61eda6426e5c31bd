-- The value of an expression over the rows that stand at a base: the part that writes it makes a slot for each row, passes the check, and is used.
use Rattle.std.specs.Prelude.{◌≡◌, ℕ, ◌≤◌, ◌^◌, true, List, [], ◌∷◌, Option}
use Rattle.programs.specs.Mentions.{Label}
use Rattle.programs.specs.Outlines.{Shapes}
use Rattle.programs.specs.Vectors.{Env}
use Rattle.typed_trees.specs.declared.typed.TypedExpr.{TypedExpr}
use Rattle.typed_trees.specs.Types.{DataType}
use Rattle.typed_values.specs.Values.{On, value}
use Rattle.query_answers.specs.Overs.{each}
use Rattle.expr_steps.specs.Lowered.{Bytes}
use Rattle.expr_values.specs.Laws.{value_slot}
use Rattle.held_rows.specs.Held.{Held, present}
use Rattle.program_writers.specs.Names.{IsBelow, is_word}
use Rattle.program_writers.specs.Statements.{out}
use Rattle.plan_programs.specs.Sites.{Base, value_of}
use Rattle.writer_checks.specs.Checks.{PassesFrom, HasShape}
use Rattle.writer_runs.specs.Runs.{Delivers}
use Rattle.writer_runs.specs.Uses.{Uses}
use Rattle.lowered_stages.specs.Laws.{Tells}
use Rattle.lowered_stages.specs.Stages.{StandsAt, IsShaped}
use Rattle.lowered_stages.specs.Parts.{CanValue, CanValueAll, told_at}

-- the values are made, or both are Over; the steps of an expression of so many nodes have numbers of 64 bits
abbrev pub ValueRuns : Type 1
ValueRuns =
    (A : Type 0) (texts : List Bytes) (at : ℕ → Option DataType) (on : A → On) (held : Held A) (store env : Env) (b : Base) (word : Label) (e : TypedExpr) (k : ℕ)
    → is_word word ≡ true → IsBelow k b.vector → StandsAt texts env b on held → CanValue at b e → CanValueAll texts at on (present held) e
    → Delivers store (value_of texts word b e) k env (each (λ a. value (on a) e) (present held)) (λ values name next after. IsBelow next name × Tells held (λ a. value_slot texts (value (on a) e)) name after)

-- it tells a vector of one attribute
abbrev pub ValuePasses : Type 0
ValuePasses =
    (tables : Shapes) (texts : List Bytes) (at : ℕ → Option DataType) (word : Label) (len : ℕ) (b : Base) (e : TypedExpr) → is_word word ≡ true → len ≤ 2 ^ 22 → CanValue at b e
    → PassesFrom tables (value_of texts word b e) (IsShaped len b) (λ name shapes. HasShape shapes name len (out ∷ []))

-- its vector reaches the base's
abbrev pub ValueUses : Type 0
ValueUses = (texts : List Bytes) (word : Label) (b : Base) (e : TypedExpr) (k : ℕ) → Uses (told_at (value_of texts word b e) k ∷ []) (b.vector ∷ []) (value_of texts word b e k).statements
