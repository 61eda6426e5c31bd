-- Which column of FROM a name means. After SQL-92 (ISO/IEC 9075:1992), 6.3 <table reference> and 6.4 <column reference>.
use Rattle.std.specs.Prelude.{ℕ, suc, ◌≤◌, Bool, true, not, if◌then◌else◌, List, [], ◌∷◌, ◌++◌, length, All, slice_get, option_to_list, Option, Some, None, Ok}
use Rattle.std.specs.List.{list_any}
use Rattle.std.specs.Str.{bytes_eq}
use Rattle.sql_read.specs.declared.definition.ColumnDef.{ColumnDef}
use Rattle.sql_read.specs.declared.definition.TableDef.{TableDef}
use Rattle.sql_types.specs.Catalog.{is_column_named}
use Rattle.query_trees.specs.declared.expr.ColumnName.{ColumnName}
use Rattle.typed_trees.specs.declared.typed.ColumnRef.{ColumnRef}
use Rattle.typed_trees.specs.declared.typed.ColumnType.{ColumnType}
use Rattle.typed_trees.specs.Names.{same_column}
use Rattle.query_types.specs.declared.refusal.TypeKind.TheVariants.{UnknownTable, UnknownColumn, Ambiguous, NotGrouped}
use Rattle.query_types.specs.declared.scope.Called.{Called}
use Rattle.query_types.specs.declared.scope.Found.{Found}
use Rattle.query_types.specs.declared.scope.Level.{Level}
use Rattle.query_types.specs.declared.scope.Level.TheVariants.{Row, Group}
use Rattle.query_types.specs.declared.scope.Scope.{Scope as Borrowed}
use Rattle.query_types.specs.Outcomes.{Outcome, refuse, refuse_if, and_then}

-- ---- the tables of the catalog

-- as every catalog is: at most 16 tables of at most 64 columns
abbrev pub IsNarrow : List TableDef → Type 0
IsNarrow defs = (length defs ≤ 16) × All (λ t. length t.columns ≤ 64) defs

abbrev pub columns_at : Option TableDef → List ColumnDef
columns_at (Some t) = t.columns
columns_at None = []

-- the columns of the table at this place
abbrev pub columns_of : List TableDef → ℕ → List ColumnDef
columns_of defs table = columns_at (slice_get defs table)

-- ---- a scope

pub record Scope : Type 0 where
  pub defs : List TableDef
  pub tables : List Called
  pub level : Level
  pub groups : List ColumnRef

-- a scope as a call has it
abbrev pub seen : Borrowed → Scope
seen s = record { defs = s.defs.now; tables = s.tables.now; level = s.level; groups = s.groups.now }

abbrev pub on_rows : List TableDef → List Called → Scope
on_rows defs tables = record { defs = defs; tables = tables; level = Row; groups = [] }

abbrev pub on_groups : List TableDef → List Called → List ColumnRef → Scope
on_groups defs tables groups = record { defs = defs; tables = tables; level = Group; groups = groups }

-- the same inside an aggregate
abbrev pub inside : Scope → Scope
inside s = on_rows s.defs s.tables

-- ---- columns by name

abbrev pub column_ref : ℕ → ℕ → ColumnRef
column_ref s k = record { source = s; column = k }

-- the type that a definition gives its column
abbrev pub type_of_column : ColumnDef → ColumnType
type_of_column c = record { kind = c.kind; width = c.width; scale = c.scale }

abbrev pub found : ℕ → ℕ → ColumnDef → Found
found s k c = record { column = column_ref s k; type_ = type_of_column c }

-- the column of this name among the columns of source s, from its k-th on
abbrev pub in_columns : List ℕ → ℕ → ℕ → List ColumnDef → Option Found
in_columns name s k [] = None
in_columns name s k (c ∷ cs) = if is_column_named name c then Some (found s k c) else in_columns name s (suc k) cs

unfoldable pub column_in : List TableDef → List ℕ → ℕ → Called → Option Found
column_in defs name s t = in_columns name s 0 (columns_of defs t.table)

-- all columns of this name in the tables of FROM, the s-th first
abbrev pub holders : List TableDef → List ℕ → ℕ → List Called → List Found
holders defs name s [] = []
holders defs name s (t ∷ ts) = option_to_list (column_in defs name s t) ++ holders defs name (suc s) ts

-- the only one of those that a bare name may mean
abbrev pub only : ℕ → List Found → Outcome Found
only at [] = refuse UnknownColumn at
only at (f ∷ []) = Ok f
only at (f ∷ g ∷ more) = refuse Ambiguous at

unfoldable pub bare : List TableDef → List Called → List ℕ → ℕ → Outcome Found
bare defs tables name at = only at (holders defs name 0 tables)

abbrev pub or_unknown : ℕ → Option Found → Outcome Found
or_unknown at (Some f) = Ok f
or_unknown at None = refuse UnknownColumn at

-- q.c: the column c of the table that is called q
abbrev pub in_table : List TableDef → ColumnName → List ℕ → ℕ → List Called → Outcome Found
in_table defs c q s [] = refuse UnknownTable c.at
in_table defs c q s (t ∷ ts) = if bytes_eq t.name q then or_unknown c.name_at (column_in defs c.name s t) else in_table defs c q (suc s) ts

unfoldable pub qualified : List TableDef → List Called → ColumnName → List ℕ → Outcome Found
qualified defs tables c q = in_table defs c q 0 tables

abbrev pub resolved_by : List TableDef → List Called → ColumnName → Option (List ℕ) → Outcome Found
resolved_by defs tables c None = bare defs tables c.name c.name_at
resolved_by defs tables c (Some q) = qualified defs tables c q

-- the column of FROM that a name means
unfoldable pub resolved : List TableDef → List Called → ColumnName → Outcome Found
resolved defs tables c = resolved_by defs tables c c.table

-- ---- columns on a group

abbrev pub is_group_column : List ColumnRef → ColumnRef → Bool
is_group_column groups a = list_any (λ g. same_column g a) groups

abbrev pub may_stand : Level → List ColumnRef → ColumnRef → Bool
may_stand Row groups a = true
may_stand Group groups a = is_group_column groups a

-- a column, which on a group is a group column
unfoldable pub standing : Scope → ℕ → Found → Outcome Found
standing s at f = refuse_if (not (may_stand s.level s.groups f.column)) NotGrouped at (Ok f)

-- a column by its name, in a scope
unfoldable pub column : Scope → ColumnName → Outcome Found
column s c = and_then (resolved s.defs s.tables c) (standing s c.at)
