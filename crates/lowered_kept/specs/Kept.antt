-- The rows for which conditions are true: the part that keeps them makes a base where they stand, passes the check, and is used.
-- After SQL-92 (ISO/IEC 9075:1992), 7.6 <where clause>.
use Rattle.std.specs.Prelude.{ℕ, List, All, Option}
use Rattle.control_vectors.specs.Controls.{Control}
use Rattle.programs.specs.Vectors.{Env}
use Rattle.typed_trees.specs.declared.typed.TypedExpr.{TypedExpr}
use Rattle.typed_trees.specs.Typed.{IsCondition}
use Rattle.typed_trees.specs.Types.{DataType}
use Rattle.typed_values.specs.Values.{On}
use Rattle.query_answers.specs.Answers.{condition}
use Rattle.query_answers.specs.Overs.{kept}
use Rattle.expr_steps.specs.Lowered.{Bytes}
use Rattle.program_writers.specs.Names.{IsBelow}
use Rattle.plan_programs.specs.Sites.{Base}
use Rattle.plan_programs.specs.Rows as rows
use Rattle.writer_runs.specs.Runs.{Delivers}
use Rattle.lowered_stages.specs.Stages.{Stands}
use Rattle.lowered_stages.specs.Parts.{CanValue, CanValueAll, SamePlaces}

-- it is so for conditions alone: a slot of any other value tells nothing of a truth
abbrev pub ConditionsRun : Type 1
ConditionsRun =
    (A : Type 0) (select : Control) (texts : List Bytes) (at : ℕ → Option DataType) (on : A → On) (len : ℕ) (held : List A) (b : Base) (es : List TypedExpr) (k : ℕ) (store env : Env)
    → All (IsCondition at) es → All (CanValue at b) es → All (CanValueAll texts at on held) es → IsBelow k b.vector → Stands texts b on len held env
    → Delivers store (rows.kept select texts b es) k env (kept (λ a. condition es (on a)) held) (λ left c next after. Stands texts c on len left after × (IsBelow next c.vector × SamePlaces b c))
