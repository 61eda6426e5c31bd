-- What a lowering needs of every expression of a plan: it is typed, it stands alone, and its literals are as the grammar has them.
-- After SQL-92 (ISO/IEC 9075:1992), 7.3 <table expression> to 7.9 <query specification>.
use Rattle.std.specs.Prelude.{◌≡◌, List, All, Ok}
use Rattle.std.specs.Option.{ForSome}
use Rattle.sql_read.specs.declared.definition.TableDef.{TableDef}
use Rattle.sql_read.specs.Lexis.{Bytes}
use Rattle.query_trees.specs.declared.query.Query.{Query}
use Rattle.typed_trees.specs.declared.typed.TypedQuery.{TypedQuery}
use Rattle.typed_trees.specs.Types.{no_aggregate, types_of}
use Rattle.query_read.specs.QueryText.{query_of}
use Rattle.query_types.specs.Typing.{typed_query}
use Rattle.expr_values.specs.Laws.{IsLowerable}
use Rattle.rel_plan.specs.declared.plans.RelPlan.{RelPlan}
use Rattle.rel_plan.specs.Plans.{expressions, plan_of}
use Rattle.rel_plan.specs.Prunes.{pruned}
use Rattle.rel_plan.specs.Pushes.{pushed}
use Rattle.plan_laws.specs.WellFormed.{IsWellFormed}
use Rattle.written_queries.specs.Laws.{IsAsWritten}
use Rattle.written_queries.specs.Scales.{HasScales}

-- the literals of the plan that is made of a query that is read and typed are as the grammar has them
abbrev pub PlanWritten : Type 0
PlanWritten =
    (text : Bytes) (defs : List TableDef) (q : Query) (t : TypedQuery) → query_of text ≡ Ok q → HasScales defs → typed_query q defs ≡ Ok t → All IsAsWritten (expressions (pruned (pushed (plan_of t))))

-- each expression of a plan can be lowered, on rows or on groups
pub record IsLowerablePlan (p : RelPlan) : Type 0 where
  pub sources : All (λ s. All (IsLowerable no_aggregate) s.filter) p.sources
  pub filter : All (IsLowerable no_aggregate) p.filter
  pub aggregates : All (λ a. ForSome a.argument (IsLowerable no_aggregate)) p.aggregates
  pub having : ForSome p.having (IsLowerable (types_of p.aggregates))
  pub items : All (IsLowerable (types_of p.aggregates)) p.items

pub record LowerableLaw : Type 0 where
  -- so it is in every well-formed plan whose literals are as the grammar has them
  pub formed : (defs : List TableDef) (p : RelPlan) → IsWellFormed defs p → All IsAsWritten (expressions p) → IsLowerablePlan p
  -- and in the plan that is made of a query that is read and typed
  pub read :
      (text : Bytes) (defs : List TableDef) (q : Query) (t : TypedQuery) → query_of text ≡ Ok q → HasScales defs → typed_query q defs ≡ Ok t → IsLowerablePlan (pruned (pushed (plan_of t)))
