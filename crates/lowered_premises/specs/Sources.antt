-- A plan over one table: its source, and the from-rows and groups that are made of the table's rows.
-- After SQL-92 (ISO/IEC 9075:1992), 7.4 <from clause> to 7.7 <group by clause>.
use Rattle.std.specs.Prelude.{◌≡◌, ℕ, ◌<◌, ◌==◌, true, List, [], ◌∷◌, All, length, filter, slice_get, Some, None, Ok}
use Rattle.std.specs.List.{Contains, list_any}
use Rattle.sql_read.specs.declared.definition.TableDef.{TableDef}
use Rattle.table_load.specs.Databases.{database_of}
use Rattle.table_load.specs.Values.{Table}
use Rattle.typed_trees.specs.declared.typed.PlanSource.{PlanSource}
use Rattle.typed_trees.specs.Names.{same_column}
use Rattle.typed_values.specs.Values.{On}
use Rattle.query_answers.specs.Answers.{Row, FromRow, Group, groups_of, meets, on_group}
use Rattle.query_answers.specs.Clauses.{Clauses}
use Rattle.expr_steps.specs.Lowered.{Bytes}
use Rattle.rel_plan.specs.declared.plans.RelPlan.{RelPlan}
use Rattle.plan_programs.specs.Sites.{Base}

-- the one source of a plan, and its table with its definition
pub record OverTable (defs : List TableDef) (ts : List Table) (p : RelPlan) (s : PlanSource) (def : TableDef) (t : Table) : Type 0 where
  pub only : p.sources ≡ s ∷ []
  pub defined : slice_get defs s.table ≡ Some def
  pub stored : slice_get ts s.table ≡ Some t
  -- nothing stands to its left
  pub unjoined : s.join ≡ None

-- the texts of a database
abbrev pub texts_of : List TableDef → List Table → List Bytes
texts_of defs ts = (database_of defs ts).dictionary

-- a table's row as a from-row
abbrev pub alone : Row → FromRow
alone r = r ∷ []

-- the rows of the source that meet its conditions
abbrev pub met_rows : PlanSource → Table → List Row
met_rows s t = filter (meets s.filter) t.rows

-- a from-row that is a row of the table
abbrev pub IsRowOf : Table → FromRow → Type 0
IsRowOf t row = (r : Row) × Contains t.rows r × (row ≡ alone r)

-- a group of some rows with the values of its aggregates
abbrev pub IsGroupOf : Clauses → List FromRow → On → Type 0
IsGroupOf q rows on = (g : Group) × Contains (groups_of q.groups rows) g × (on_group q g ≡ Ok on)

-- a base with a place for each group column and each aggregate
pub record HasGroupPlaces (q : Clauses) (b : Base) : Type 0 where
  pub columns : All (λ g. list_any (λ p. same_column p.column g) b.columns ≡ true) q.groups
  pub aggregates : (n : ℕ) → n < length q.aggregates → list_any (λ p. p.aggregate == n) b.aggregates ≡ true
