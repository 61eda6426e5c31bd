-- The plans of queries that are typed over a catalog: each source has no more columns than a table.
-- After SQL-92 (ISO/IEC 9075:1992), 7.3 <table expression>, with this project's limit of 64 columns.
use Rattle.std.specs.Prelude.{◌≡◌, ◌≤◌, List, [], All, length, Ok}
use Rattle.sql_read.specs.declared.definition.TableDef.{TableDef}
use Rattle.sql_types.specs.Catalog.{findings}
use Rattle.query_trees.specs.declared.query.Query.{Query}
use Rattle.typed_trees.specs.declared.typed.TypedQuery.{TypedQuery}
use Rattle.query_types.specs.Typing.{typed_query}
use Rattle.rel_plan.specs.declared.plans.RelPlan.{RelPlan}
use Rattle.rel_plan.specs.Plans.{plan_of}
use Rattle.rel_plan.specs.Prunes.{pruned}
use Rattle.rel_plan.specs.Pushes.{pushed}

abbrev pub HasFewColumns : RelPlan → Type 0
HasFewColumns p = All (λ s. length s.columns ≤ 64) p.sources

abbrev pub FewColumnsLaw : Type 0
FewColumnsLaw = (q : Query) (defs : List TableDef) (t : TypedQuery) → findings defs ≡ [] → typed_query q defs ≡ Ok t → HasFewColumns (pruned (pushed (plan_of t)))
