-- The program of a plan over one table obeys its control plan, where that has no layout and no level, and brings groups together by sorting.
-- After SQL-92 (ISO/IEC 9075:1992), 7.3 <table expression> to 7.9 <query specification>; control vectors are those of Voodoo, PVLDB 9(14), 2016, section 2.2.
use Rattle.std.specs.Prelude.{◌≡◌, List, [], None}
use Rattle.control_plan.specs.Plans.{PlanValue}
use Rattle.control_plan.specs.declared.choices.Grouping.TheVariants.{Sort}
use Rattle.sql_read.specs.declared.definition.TableDef.{TableDef}
use Rattle.table_load.specs.Databases.{database_of}
use Rattle.table_load.specs.Values.{Table}
use Rattle.programs.specs.Vectors.{tables}
use Rattle.rel_plan.specs.declared.plans.RelPlan.{RelPlan}
use Rattle.plan_programs.specs.Lowered.{lowered}
use Rattle.plan_obeyed.specs.Obeyed.{ObeysPlan}
use Rattle.lowered_stages.specs.Plans.{CanLower}

-- what the lowering is written for so far
pub record IsPlain (plan : PlanValue) : Type 0 where
  pub layout : plan.layout ≡ None
  pub levels : plan.levels ≡ []
  pub group : plan.group ≡ Sort

abbrev pub ObeyLaw : Type 0
ObeyLaw =
    (plan : PlanValue) (defs : List TableDef) (ts : List Table) (p : RelPlan) → IsPlain plan → CanLower defs ts p
    → ObeysPlan (tables (database_of defs ts).store) defs p plan (lowered plan.select (database_of defs ts) p)
