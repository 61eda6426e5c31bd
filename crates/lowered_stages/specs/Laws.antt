-- The value of an expression over the rows that stand at a base: the part that writes it makes a slot for each row, or is Over where the value is on one of them.
use Rattle.std.specs.Prelude.{◌≡◌, ℕ, ℤ, List, All, length}
use Rattle.programs.specs.Vectors.{Env}
use Rattle.programs.specs.Vectors as vectors
use Rattle.typed_trees.specs.declared.typed.TypedExpr.{TypedExpr}
use Rattle.typed_trees.specs.Types.{DataType}
use Rattle.std.specs.Prelude.{Option, true}
use Rattle.programs.specs.Mentions.{Label}
use Rattle.typed_values.specs.Values.{On, value}
use Rattle.query_answers.specs.Overs.{each}
use Rattle.expr_steps.specs.Lowered.{Bytes}
use Rattle.expr_values.specs.Laws.{CanStand, IsLowerable, value_slot}
use Rattle.held_rows.specs.Held.{Held, column, present}
use Rattle.program_writers.specs.Names.{IsBelow, is_word}
use Rattle.program_writers.specs.Statements.{out}
use Rattle.plan_programs.specs.Sites.{Base, value_of}
use Rattle.writer_runs.specs.Runs.{Delivers, Sees}
use Rattle.lowered_stages.specs.Stages.{StandsAt, Covers}

-- a vector of one slot for each place, which holds what is asked of the rows
pub record Tells {A : Type 0} (held : Held A) (f : A → Option ℤ) (name : Label) (env : Env) : Type 0 where
  pub vector : vectors.Vector
  pub sees : Sees env name vector
  pub len : vector.len ≡ length held
  pub slots : vectors.slots_of vector.attributes out ≡ column f held

abbrev pub ValueLaw : Type 1
ValueLaw =
    (A : Type 0) (texts : List Bytes) (at : ℕ → Option DataType) (on : A → On) (held : Held A) (store env : Env) (b : Base) (word : Label) (e : TypedExpr) (k : ℕ)
    → is_word word ≡ true → IsBelow k b.vector → StandsAt texts env b on held → IsLowerable at e → Covers b e → All (λ a. CanStand texts at (on a) e) (present held)
    → Delivers store (value_of texts word b e) k env (each (λ a. value (on a) e) (present held)) (λ values name next after. IsBelow next name × Tells held (λ a. value_slot texts (value (on a) e)) name after)
