-- What a query asks of its program.
-- After SQL-92 (ISO/IEC 9075:1992), 7.3 <table expression> to 7.7 <group by clause>.
use Rattle.std.specs.Prelude.{ℕ, Bool, true, false, ◌||◌, List, [], ◌∷◌, map, slice_get, Option, Some, None}
use Rattle.std.specs.List.{list_any}
use Rattle.programs.specs.Mentions.{Label}
use Rattle.rel_plan.specs.declared.plans.RelPlan.{RelPlan}
use Rattle.sql_read.specs.declared.definition.ColumnDef.{ColumnDef}
use Rattle.sql_read.specs.declared.definition.TableDef.{TableDef}
use Rattle.table_load.specs.Databases.{path_of}
use Rattle.typed_trees.specs.declared.typed.AggregateKind.{AggregateKind}
use Rattle.typed_trees.specs.declared.typed.ColumnRef.{ColumnRef}
use Rattle.typed_trees.specs.declared.typed.PlanSource.{PlanSource}
use Rattle.typed_trees.specs.declared.typed.TypedExpr.{TypedExpr}
use Rattle.plan_obeyed.specs.Columns.{SourceColumn}

pub record QueryParts : Type 0 where
  -- the tables of FROM, in order
  pub tables : List Label
  -- whether it has WHERE, and whether its answer is made of groups
  pub has_where : Bool
  pub is_grouped : Bool
  pub groups : List SourceColumn
  pub aggregates : List AggregateKind

-- ---- those of a plan, over the definitions of its tables

abbrev pub name_of : Option TableDef → Label
name_of None = []
name_of (Some def) = def.name

abbrev pub path_in : Option ColumnDef → Label
path_in None = []
path_in (Some c) = path_of c

abbrev pub table_of : List TableDef → Option PlanSource → Option TableDef
table_of defs None = None
table_of defs (Some s) = slice_get defs s.table

abbrev pub column_of : Option TableDef → ℕ → Option ColumnDef
column_of None k = None
column_of (Some def) k = slice_get def.columns k

abbrev pub column_in : ℕ → Option TableDef → ℕ → SourceColumn
column_in source def k = record { source = source; table = name_of def; path = path_in (column_of def k) }

abbrev pub group_of : List TableDef → List PlanSource → ColumnRef → SourceColumn
group_of defs sources c = column_in c.source (table_of defs (slice_get sources c.source)) c.column

abbrev pub has_some : List TypedExpr → Bool
has_some [] = false
has_some (e ∷ es) = true

-- conditions may stand at a source, or with the other parts of WHERE
abbrev pub parts_of : List TableDef → RelPlan → QueryParts
parts_of defs p = record {
  tables = map (λ s. name_of (slice_get defs s.table)) p.sources;
  has_where = has_some p.filter || list_any (λ s. has_some s.filter) p.sources;
  is_grouped = p.grouped;
  groups = map (group_of defs p.sources) p.groups;
  aggregates = map (λ a. a.kind) p.aggregates;
}
