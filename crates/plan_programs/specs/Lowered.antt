-- The program of a plan over one table: its rows, those for which WHERE is true, their groups, those for which HAVING is true, and the items in order.
-- After SQL-92 (ISO/IEC 9075:1992), 7.3 <table expression> to 7.9 <query specification>.
use Rattle.std.specs.Prelude.{ℕ, Bool, true, false, List, [], ◌∷◌, slice_get, option_to_list, Option, Some, None}
use Rattle.control_vectors.specs.Controls.{Control}
use Rattle.programs.specs.declared.op.Statement.{Statement}
use Rattle.sql_read.specs.declared.definition.TableDef.{TableDef}
use Rattle.table_load.specs.Databases.{DatabaseValue}
use Rattle.typed_trees.specs.declared.typed.PlanSource.{PlanSource}
use Rattle.expr_steps.specs.Lowered.{Bytes}
use Rattle.rel_plan.specs.declared.plans.RelPlan.{RelPlan}
use Rattle.program_writers.specs.Writers.{Writer, tell, ◌>>=◌}
use Rattle.plan_programs.specs.Sites.{Base, marked_alone}
use Rattle.plan_programs.specs.Rows.{rows_of, kept}
use Rattle.plan_programs.specs.Groups.{grouped}
use Rattle.plan_programs.specs.Items.{answered}

-- no rows, of no vector
abbrev pub nothing : Base
nothing = marked_alone []

-- the rows of a table, where it is defined
abbrev pub defined_rows : Option TableDef → List ℕ → Writer Base
defined_rows None columns = tell nothing
defined_rows (Some def) columns = rows_of def 0 columns

abbrev pub table_rows : List TableDef → ℕ → List ℕ → Writer Base
table_rows defs table columns = defined_rows (slice_get defs table) columns

-- a source's rows, but for those that its conditions drop
abbrev pub source_rows : Control → List Bytes → List TableDef → PlanSource → Writer Base
source_rows select texts defs s = do
  b ← table_rows defs s.table s.columns
  kept select texts b s.filter

abbrev pub from_rows : Control → List Bytes → List TableDef → List PlanSource → Writer Base
from_rows select texts defs [] = tell nothing
from_rows select texts defs (s ∷ sources) = source_rows select texts defs s

-- the rows or the groups that items are evaluated on
abbrev pub stands_on : Control → List Bytes → RelPlan → Bool → Base → Writer Base
stands_on select texts p false b = tell b
stands_on select texts p true b = do
  groups ← grouped texts b p.groups p.aggregates
  kept select texts groups (option_to_list p.having)

abbrev pub program : Control → List Bytes → List TableDef → RelPlan → Writer (Unit {0})
program select texts defs p = do
  rows ← from_rows select texts defs p.sources
  b ← kept select texts rows p.filter
  on ← stands_on select texts p p.grouped b
  answered texts on p.items p.order

-- the statements of a plan over a database
unfoldable pub lowered : Control → DatabaseValue → RelPlan → List Statement
lowered select db p = (program select db.dictionary db.defs p 0).statements
