-- The plan of a query over one table, pushed and pruned, can be lowered.
use Rattle.std.proofs.Common.{◌≡◌, ◌∙◌, List, [], ◌∷◌, length, ap, arith}
use Rattle.std.specs.Prelude.{sum_by}
use Rattle.sql_read.specs.declared.definition.TableDef.{TableDef}
use Rattle.table_load.specs.Databases.{DatabaseValue}
use Rattle.table_load.specs.Values.{Table}
use Rattle.query_sizes.specs.Sizes.{SizeLaw, nodes}
use Rattle.read_queries.specs.Laws.{AnswerLaw}
use Rattle.typed_trees.specs.declared.typed.Aggregate.{Aggregate}
use Rattle.typed_trees.specs.declared.typed.TypedQuery.{TypedQuery}
use Rattle.typing_laws.specs.Laws.{ColumnLaw, places_of}
use Rattle.rel_plan.specs.declared.plans.RelPlan.{RelPlan}
use Rattle.rel_plan.specs.Plans.{plan_of}
use Rattle.rel_plan.specs.Pushes.{pushed}
use Rattle.plan_laws.specs.Sizes.{SizeLaws, plan_nodes}
use Rattle.plan_laws.specs.WellFormed.{IsWellFormed, WellFormedLaws}
use Rattle.loaded_plans.specs.Laws.{AreLoaded}
use Rattle.lowered_stages.specs.Parts.{IsDatabase}
use Rattle.lowered_stages.specs.Plans.{IsLowerablePlan, IsSmallPlan}
use Rattle.written_queries.specs.Plans.{LowerableLaw}
use Rattle.written_queries.specs.Plans as written
use Rattle.written_queries.specs.Scales.{ScalesLaw}
use Rattle.run_steps.specs.Loaded.{AreTablesOf, IsQueryOver}
use Rattle.query_runs.specs.Runs.{PlansLower, query_plan}
use Rattle.query_runs.proofs.Columns.{few_of_sources}
use Rattle.query_runs.proofs.FewSources.{all_few, same_count, still_few}

-- ---- the database

as_many_tables : (defs : List TableDef) (ts : List Table) → AreLoaded defs ts → length ts ≡ length defs
as_many_tables [] [] h = omega arith
as_many_tables [] (t ∷ ts) h = absurd h
as_many_tables (def ∷ defs) [] h = absurd h
as_many_tables (def ∷ defs) (t ∷ ts) h = omega (arith, as_many_tables defs ts h.1)

database : (db : DatabaseValue) (ts : List Table) → AreTablesOf db ts → IsDatabase db.defs ts
database db ts h = record { clean = h.clean; formed = h.formed; as_many = as_many_tables db.defs ts h.loaded; short = h.short }

-- ---- the plan's size

small : SizeLaws → SizeLaw → (defs : List TableDef) (q : TypedQuery) → IsQueryOver defs q → IsSmallPlan (query_plan q)
small sizes size defs q h =
    let of_query = size h.text h.query defs q h.written h.typed in
    let same_nodes : plan_nodes (query_plan q) ≡ plan_nodes (plan_of q) = ap (sum_by nodes) (sizes.pruned_expressions (pushed (plan_of q))) ∙ sizes.pushed_weighs nodes (plan_of q) in
    let same_aggregates = sizes.pruned_aggregates (pushed (plan_of q)) ∙ (sizes.pushed_aggregates (plan_of q) ∙ sizes.planned_aggregates q) in
    record {
      nodes = omega (arith, same_nodes, sizes.planned q, of_query.0);
      aggregates = omega (arith, ap (λ (l : List Aggregate). length l) same_aggregates, of_query.1);
    }

-- ---- its expressions

as_lowerable : (p : RelPlan) → written.IsLowerablePlan p → IsLowerablePlan p
as_lowerable p h = record { sources = h.sources; filter = h.filter; arguments = h.aggregates; having = h.having; items = h.items }

-- ---- the plan

module _ (groups : AnswerLaw) (formed : WellFormedLaws) (sizes : SizeLaws) (size : SizeLaw) (columns : ColumnLaw) (scales : ScalesLaw) (lowerable : LowerableLaw) where
  planned : (defs : List TableDef) (q : TypedQuery) → IsQueryOver defs q → IsWellFormed defs (plan_of q)
  planned defs q h = formed.planned h.query defs q (groups h.text h.query h.read) h.typed

  pub plans_lower : PlansLower
  plans_lower = record {
    few = λ db ts q a.
        let w = planned db.defs q a.query in
        (w.few_sources, (formed.pushed_is db.defs (plan_of q) w).few_sources);
    lowerable = λ db ts q a.
        let w = planned db.defs q a.query in
        let o = columns a.query.query db.defs q a.query.typed in
        record {
          well_formed = formed.pruned_is db.defs (pushed (plan_of q)) (formed.pushed_is db.defs (plan_of q) w);
          one_source = omega (arith, same_count (plan_of q), w.some_source, a.one_table);
          lowerable = as_lowerable (query_plan q) (lowerable.read a.query.text db.defs a.query.query q a.query.read (scales a.tables.schema.text db.defs a.tables.schema.read a.tables.clean) a.query.typed);
          small = small sizes size db.defs q a.query;
          loaded = a.tables.loaded;
          database = database db ts a.tables;
          few_columns = all_few (query_plan q).sources (still_few (plan_of q) (few_of_sources db.defs (places_of q) 0 q.sources a.tables.clean (λ n s e. (n, o.sources n s e))));
        };
  }
