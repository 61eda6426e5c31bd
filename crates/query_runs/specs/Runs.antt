-- The program of a query over one table, and what its results print.
-- After SQL-92 (ISO/IEC 9075:1992), 7.3 <table expression> to 7.9 <query specification>.
use Rattle.std.specs.Prelude.{◌≡◌, ℕ, ◌≤◌, List, length, Result, Ok, Err, ⊤}
use Rattle.control_vectors.specs.declared.Over.{Over}
use Rattle.control_plan.specs.Plans.{usual}
use Rattle.table_load.specs.Databases.{DatabaseValue}
use Rattle.table_load.specs.Values.{Table}
use Rattle.typed_trees.specs.declared.typed.TypedQuery.{TypedQuery}
use Rattle.programs.specs.declared.op.Statement.{Statement}
use Rattle.programs.specs.Vectors.{Named, tables}
use Rattle.voodoo_ops.specs.Meaning.{meaning}
use Rattle.rel_plan.specs.declared.plans.RelPlan.{RelPlan}
use Rattle.rel_plan.specs.Plans.{plan_of}
use Rattle.rel_plan.specs.Prunes.{pruned}
use Rattle.rel_plan.specs.Pushes.{pushed}
use Rattle.plan_programs.specs.Lowered.{lowered}
use Rattle.lowered_stages.specs.Plans.{CanLower}
use Rattle.lowered_answers.specs.Laws.{PassesCheck}
use Rattle.answer_texts.specs.Texts.{answer_text}
use Rattle.answer_print.specs.Conditions.{HoldsAnswer}
use Rattle.answer_print.specs.Held.{held_text}
use Rattle.run_steps.specs.Loaded.{AreTablesOf, IsQueryOver}

-- a query over one of a database's tables
pub record IsAsked (db : DatabaseValue) (ts : List Table) (q : TypedQuery) : Type 0 where
  pub tables : AreTablesOf db ts
  pub query : IsQueryOver db.defs q
  pub one_table : length q.sources ≤ 1

-- its plan: conditions stand at the table, which has the columns that the query names
abbrev pub query_plan : TypedQuery → RelPlan
query_plan q = pruned (pushed (plan_of q))

-- its program
abbrev pub query_program : DatabaseValue → TypedQuery → List Statement
query_program db q = lowered usual.select db (query_plan q)

-- results that print a text, or Over in its place
abbrev pub PrintsText : List (List ℕ) → TypedQuery → Result (List ℕ) Over → Result Named Over → Type 0
PrintsText dictionary q (Ok text) (Ok named) = HoldsAnswer q named × (held_text dictionary q named ≡ text)
PrintsText dictionary q (Err e) (Err f) = ⊤
PrintsText dictionary q a b = ⊥

-- the plan has few tables, before its conditions are pushed and after it; and it can be lowered
pub record PlansLower : Type 0 where
  pub few : (db : DatabaseValue) (ts : List Table) (q : TypedQuery) → IsAsked db ts q → (length (plan_of q).sources ≤ 8) × (length (pushed (plan_of q)).sources ≤ 8)
  pub lowerable : (db : DatabaseValue) (ts : List Table) (q : TypedQuery) → IsAsked db ts q → CanLower db.defs ts (query_plan q)

pub record RunLaws : Type 0 where
  -- the program can be run
  pub checked : (db : DatabaseValue) (ts : List Table) (q : TypedQuery) → IsAsked db ts q → PassesCheck db usual.select (query_plan q)
  -- and its results print the answer, or both are Over
  pub prints : (db : DatabaseValue) (ts : List Table) (q : TypedQuery) → IsAsked db ts q → PrintsText db.dictionary q (answer_text ts q) (meaning (tables db.store) (query_program db q))
