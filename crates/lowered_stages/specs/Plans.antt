-- Plans that can be lowered: those of accepted queries over one table.
-- After SQL-92 (ISO/IEC 9075:1992), 7.3 <table expression> to 7.9 <query specification>.
use Rattle.std.specs.Prelude.{◌≡◌, ◌≤◌, List, All, length}
use Rattle.std.specs.Option.{ForSome}
use Rattle.sql_read.specs.declared.definition.TableDef.{TableDef}
use Rattle.table_load.specs.Values.{Table}
use Rattle.typed_trees.specs.Types.{no_aggregate, types_of}
use Rattle.rel_plan.specs.declared.plans.RelPlan.{RelPlan}
use Rattle.plan_laws.specs.Sizes.{plan_nodes}
use Rattle.plan_laws.specs.WellFormed.{IsWellFormed}
use Rattle.loaded_plans.specs.Laws.{AreLoaded}
use Rattle.expr_values.specs.Laws.{IsLowerable}
use Rattle.lowered_stages.specs.Parts.{IsDatabase}

-- the expressions of a plan are typed, and their literals as the grammar has them
pub record IsLowerablePlan (p : RelPlan) : Type 0 where
  pub sources : All (λ s. All (IsLowerable no_aggregate) s.filter) p.sources
  pub filter : All (IsLowerable no_aggregate) p.filter
  pub arguments : All (λ a. ForSome a.argument (IsLowerable no_aggregate)) p.aggregates
  pub having : ForSome p.having (IsLowerable (types_of p.aggregates))
  pub items : All (IsLowerable (types_of p.aggregates)) p.items

-- no more than every accepted query has
pub record IsSmallPlan (p : RelPlan) : Type 0 where
  pub nodes : plan_nodes p ≤ 2176
  pub aggregates : length p.aggregates ≤ 512

-- what is lowered: a well-formed plan over one table of a catalog whose tables are loaded
pub record CanLower (defs : List TableDef) (ts : List Table) (p : RelPlan) : Type 0 where
  pub well_formed : IsWellFormed defs p
  pub one_source : length p.sources ≡ 1
  pub lowerable : IsLowerablePlan p
  pub small : IsSmallPlan p
  pub loaded : AreLoaded defs ts
  pub database : IsDatabase defs ts
  -- a source has no more columns than a table
  pub few_columns : All (λ s. length s.columns ≤ 64) p.sources
