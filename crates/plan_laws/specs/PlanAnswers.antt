-- The answer of a plan: that of a query with its clauses. Of each table only those rows count of which every condition of its source is true.
-- After SQL-92 (ISO/IEC 9075:1992), 7.4 <from clause> to 7.9 <query specification>.
use Rattle.std.specs.Prelude.{List, Result}
use Rattle.control_vectors.specs.declared.Over.{Over}
use Rattle.table_load.specs.Values.{Table}
use Rattle.query_answers.specs.Clauses.{Clauses}
use Rattle.query_answers.specs.Answers.{Row, answer}
use Rattle.rel_plan.specs.declared.plans.RelPlan.{RelPlan}

-- the clauses of a plan
abbrev pub clauses_of_plan : RelPlan → Clauses
clauses_of_plan p = record {
  sources = p.sources;
  filter = p.filter;
  grouped = p.grouped;
  groups = p.groups;
  aggregates = p.aggregates;
  having = p.having;
  items = p.items;
  order = p.order;
}

abbrev pub plan_answer : List Table → RelPlan → Result (List Row) Over
plan_answer tables p = answer tables (clauses_of_plan p)
