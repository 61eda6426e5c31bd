-- Plans over the tables that definitions load.
-- After SQL-92 (ISO/IEC 9075:1992), 4.9 "Tables" and 7.3 <table expression> to 7.9 <query specification>.
use Rattle.std.specs.Prelude.{◌≡◌, ℕ, List, [], ◌∷◌, Ok, ⊤}
use Rattle.sql_read.specs.declared.definition.TableDef.{TableDef}
use Rattle.table_load.specs.Tables.{table_of}
use Rattle.table_load.specs.Values.{Table}
use Rattle.query_trees.specs.declared.query.Query.{Query}
use Rattle.typed_trees.specs.declared.typed.TypedQuery.{TypedQuery}
use Rattle.query_read.specs.QueryText.{query_of}
use Rattle.query_types.specs.Typing.{typed_query}
use Rattle.query_shapes.specs.Laws.{HasGroups}
use Rattle.query_answers.specs.Answers.{query_answer}
use Rattle.rel_plan.specs.declared.plans.RelPlan.{RelPlan}
use Rattle.rel_plan.specs.Plans.{plan_of}
use Rattle.rel_plan.specs.Prunes.{pruned}
use Rattle.rel_plan.specs.Pushes.{pushed}
use Rattle.plan_laws.specs.PlanAnswers.{plan_answer}
use Rattle.plan_laws.specs.WellFormed.{IsWellFormed, TablesFit}

-- a table that its definition reads from some file's bytes
pub record IsLoaded (def : TableDef) (t : Table) : Type 0 where
  pub bytes : List ℕ
  pub read : table_of def bytes ≡ Ok t

-- as many tables as definitions, each loaded by the one in its place
abbrev pub AreLoaded : List TableDef → List Table → Type 0
AreLoaded [] [] = ⊤
AreLoaded (def ∷ defs) (t ∷ ts) = IsLoaded def t × AreLoaded defs ts
AreLoaded defs ts = ⊥

-- their numbers lie in the intervals of the columns' types
abbrev pub LoadedFit : Type 0
LoadedFit = (defs : List TableDef) (tables : List Table) → AreLoaded defs tables → TablesFit defs tables

pub record LoadedAnswers : Type 0 where
  -- conditions may be pushed in each well-formed plan
  pub pushed_keeps : (defs : List TableDef) (tables : List Table) (p : RelPlan) → AreLoaded defs tables → IsWellFormed defs p → plan_answer tables (pushed p) ≡ plan_answer tables p
  -- the plan of a typed query, pushed and then pruned, has the query's answer
  pub query_kept :
      (defs : List TableDef) (tables : List Table) (q : Query) (t : TypedQuery) → AreLoaded defs tables → HasGroups q → typed_query q defs ≡ Ok t → plan_answer tables (pruned (pushed (plan_of t))) ≡ query_answer tables t

-- the same of a query that is read from a text: no premise is left but what reading, typing and loading give
abbrev pub ReadAnswers : Type 0
ReadAnswers =
    (text : List ℕ) (defs : List TableDef) (tables : List Table) (q : Query) (t : TypedQuery) → query_of text ≡ Ok q → typed_query q defs ≡ Ok t → AreLoaded defs tables → plan_answer tables (pruned (pushed (plan_of t))) ≡ query_answer tables t
