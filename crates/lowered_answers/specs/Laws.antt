-- The program of a plan over one table holds the plan's answer.
-- After SQL-92 (ISO/IEC 9075:1992), 7.3 <table expression> to 7.9 <query specification>.
use Rattle.std.specs.Prelude.{◌≡◌, ℕ, List, length, None, Result, Ok, Err}
use Rattle.control_vectors.specs.Controls.{Control}
use Rattle.control_vectors.specs.declared.Over.{Over}
use Rattle.sql_read.specs.declared.definition.TableDef.{TableDef}
use Rattle.table_load.specs.Databases.{DatabaseValue, database_of}
use Rattle.table_load.specs.Values.{Table}
use Rattle.programs.specs.Check.{check, limit_of}
use Rattle.programs.specs.Outlines.{Outline, outlines}
use Rattle.programs.specs.Vectors.{Named, tables}
use Rattle.voodoo_ops.specs.Meaning.{meaning}
use Rattle.query_answers.specs.Answers.{Row}
use Rattle.rel_plan.specs.declared.plans.RelPlan.{RelPlan}
use Rattle.plan_laws.specs.PlanAnswers.{plan_answer}
use Rattle.lowered_stages.specs.Plans.{CanLower}
use Rattle.plan_programs.specs.Lowered.{lowered}
use Rattle.lowered_answers.specs.Holding.{HoldsRows}

-- the program passes its check, and makes no vector of more than 2^22 places
pub record PassesCheck (db : DatabaseValue) (select : Control) (p : RelPlan) : Type 0 where
  pub shape : List Outline
  pub passes : check (outlines (tables db.store)) (lowered select db p) ≡ Ok shape
  pub small : limit_of shape ≡ None

abbrev pub CheckLaw : Type 0
CheckLaw = (select : Control) (defs : List TableDef) (ts : List Table) (p : RelPlan) → CanLower defs ts p → PassesCheck (database_of defs ts) select p

-- the results hold the rows of the answer, or both are Over
abbrev pub HoldsAnswer : List (List ℕ) → ℕ → Result (List Row) Over → Result Named Over → Type 0
HoldsAnswer texts items (Ok rows) (Ok named) = HoldsRows texts items rows named
HoldsAnswer texts items (Err e) (Err f) = Unit {0}
HoldsAnswer texts items a b = ⊥

abbrev pub AnswerLaw : Type 0
AnswerLaw =
    (select : Control) (defs : List TableDef) (ts : List Table) (p : RelPlan) → CanLower defs ts p
    → HoldsAnswer (database_of defs ts).dictionary (length p.items) (plan_answer ts p) (meaning (tables (database_of defs ts).store) (lowered select (database_of defs ts) p))
