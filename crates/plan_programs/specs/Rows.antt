-- The rows of a table, and those of them for which conditions are true.
-- After SQL-92 (ISO/IEC 9075:1992), 7.4 <from clause> and 7.6 <where clause>; selection by positions is that of Voodoo, PVLDB 9(14), 2016, section 2.2.
use Rattle.std.specs.Prelude.{ℕ, ◌^◌, nat_lt, ◌&&◌, if◌then◌else◌, List, [], ◌∷◌, ◌++◌, length, codes, slice_get, Option, Some, None}
use Rattle.std.specs.Fmt.{decimal}
use Rattle.control_vectors.specs.Controls.{Control}
use Rattle.control_vectors.specs.declared.PairKind.TheVariants as pair
use Rattle.key_paths.specs.Paths.{is_path}
use Rattle.programs.specs.declared.family.FoldOperator.TheVariants as fold
use Rattle.programs.specs.declared.op.Op.TheVariants as op
use Rattle.programs.specs.declared.op.Size.TheVariants as size
use Rattle.programs.specs.Mentions.{Label}
use Rattle.sql_read.specs.declared.definition.ColumnDef.{ColumnDef}
use Rattle.sql_read.specs.declared.definition.TableDef.{TableDef}
use Rattle.table_load.specs.Databases.{path_of}
use Rattle.typed_trees.specs.declared.typed.TypedExpr.{TypedExpr}
use Rattle.expr_steps.specs.Lowered.{Bytes}
use Rattle.program_writers.specs.Writers.{Writer, tell, ◌>>=◌, through, make}
use Rattle.program_writers.specs.Statements.{out, mark, val, run, ones, attribute, pair, with_attribute, fold_args, fold_of, at_places}
use Rattle.plan_programs.specs.Sites.{Base, marked_alone, moved_to, with_column, value_of}

-- ---- the rows of a table: a mark for each, and an attribute for each column that is asked for

-- a text that is a path, as every column's is
abbrev pub named_path : Label → Label
named_path p = if nat_lt (length p) (2 ^ 32) && is_path p then p else out

abbrev pub path_at : Option ColumnDef → Label
path_at None = out
path_at (Some c) = named_path (path_of c)

-- where a table has a column
abbrev pub loaded_path : TableDef → ℕ → Label
loaded_path def k = path_at (slice_get def.columns k)

-- columns by their number among those that are asked for
abbrev pub value_path : ℕ → Label
value_path k = codes ".v" ++ decimal k

abbrev pub column_in : TableDef → ℕ → Label → Base → ℕ → Writer Base
column_in def source table b k = do
  rows ← make (codes "rows") (with_attribute b.vector (value_path (length b.columns)) table (loaded_path def k))
  tell (with_column rows (record { source = source; column = k }) (value_path (length b.columns)) b)

-- the mark of each row of a table
abbrev pub marked : Label → Writer Label
marked table = make (codes "rows") (op.Range (size.Of table) mark ones)

-- the s-th source, whose table is loaded
abbrev pub rows_of : TableDef → ℕ → List ℕ → Writer Base
rows_of def source columns = do
  table ← make (codes "table") (op.Load def.name)
  vector ← marked table
  through (column_in def source table) (marked_alone vector) columns

-- ---- the rows for which each of some conditions is true

-- 1 where a row stands
abbrev pub everywhere : Base → Writer Label
everywhere b = make (codes "all") (pair pair.Equals (attribute b.vector mark) (attribute b.vector mark))

-- what is true so far, and of a condition more
abbrev pub and_true : List Bytes → Base → Label → TypedExpr → Writer Label
and_true texts b all e = do
  value ← value_of texts (codes "where") b e
  make (codes "all") (pair pair.LogicalAnd (attribute all out) (attribute value out))

-- the places that a truth holds, in some runs
abbrev pub picked : Label → Label → Writer Label
picked runs all = do
  pick ← make (codes "pick") (with_attribute runs val all out)
  make (codes "places") (fold_of fold.Select (fold_args pick))

abbrev pub places_of : Control → Label → Label → Writer Label
places_of select vector all = do
  runs ← make (codes "runs") (op.Range (size.Of vector) run select)
  picked runs all

-- the rows there
abbrev pub selected : Control → Base → Label → Writer Base
selected select b all = do
  places ← places_of select b.vector all
  rows ← make (codes "rows") (at_places b.vector places)
  tell (moved_to rows b)

abbrev pub kept : Control → List Bytes → Base → List TypedExpr → Writer Base
kept select texts b [] = tell b
kept select texts b (e ∷ es) = do
  all ← everywhere b
  truth ← through (and_true texts b) all (e ∷ es)
  selected select b truth
