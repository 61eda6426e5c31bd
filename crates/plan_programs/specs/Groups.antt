-- Groups of rows, with the values of their aggregates.
-- After SQL-92 (ISO/IEC 9075:1992), 7.7 <group by clause> and 6.5 <set function specification>; folds over runs are those of Voodoo, PVLDB 9(14), 2016, section 2.2.
use Rattle.std.specs.Prelude.{ℕ, List, [], ◌∷◌, ◌++◌, map, codes, false, Option, Some, None}
use Rattle.std.specs.Fmt.{decimal}
use Rattle.std.specs.List.{enumerate_from}
use Rattle.control_vectors.specs.Controls.{Control}
use Rattle.control_vectors.specs.declared.PairKind.TheVariants as pair
use Rattle.programs.specs.declared.family.FoldOperator.{FoldOperator}
use Rattle.programs.specs.declared.family.FoldOperator.TheVariants as fold
use Rattle.programs.specs.declared.op.Op.TheVariants as op
use Rattle.programs.specs.declared.op.Size.TheVariants as size
use Rattle.programs.specs.declared.order_keys.OrderPath.{OrderPath}
use Rattle.programs.specs.Mentions.{Label}
use Rattle.typed_trees.specs.declared.typed.Aggregate.{Aggregate}
use Rattle.typed_trees.specs.declared.typed.AggregateKind.{AggregateKind}
use Rattle.typed_trees.specs.declared.typed.AggregateKind.TheVariants as of
use Rattle.typed_trees.specs.declared.typed.ColumnRef.{ColumnRef}
use Rattle.typed_trees.specs.declared.typed.TypedExpr.{TypedExpr}
use Rattle.expr_steps.specs.Lowered.{Bytes}
use Rattle.program_writers.specs.Writers.{Writer, tell, ◌>>=◌, through, make}
use Rattle.program_writers.specs.Statements.{out, mark, val, run, zeros, ones, attribute, pair, with_attribute, fold_args, fold_of, at_places}
use Rattle.plan_programs.specs.Sites.{Base, marked_alone, moved_to, path_in, with_column, with_aggregate, value_of}
use Rattle.plan_programs.specs.Rows.{everywhere}

-- what aggregates are folded over: the rows, a 0 at each of them, their runs, the place that each fold is gathered from where it is not left where its
-- run begins, the groups so far, and a 0 at each of them
pub record Folding : Type 0 where
  pub rows : Base
  pub nought : Label
  pub runs : Label
  pub first : Option Label
  pub groups : Base
  pub zero : Label

-- 0 where a row or a group stands
abbrev pub nought_at : Label → Writer Label
nought_at vector = make (codes "nought") (pair pair.Greater (attribute vector mark) (attribute vector mark))

-- ---- by group columns: the rows sorted by them, and runs of one tuple

abbrev pub ascending : Label → OrderPath
ascending p = record { path = p; descending = false }

abbrev pub sorted : Base → List ColumnRef → Writer Base
sorted b columns = do
  order ← make (codes "order") (op.Order b.vector mark out (map (λ c. ascending (path_in b c)) columns))
  rows ← make (codes "sorted") (at_places b.vector order)
  tell (moved_to rows b)

abbrev pub run_path : ℕ → Label
run_path j = codes ".run.g" ++ decimal j

abbrev pub run_by : Base → Label → ℕ × ColumnRef → Writer Label
run_by rows runs (j, c) = make (codes "runs") (with_attribute runs (run_path j) rows.vector (path_in rows c))

-- the group columns and the mark
abbrev pub runs_of : Base → List ColumnRef → Writer Label
runs_of rows columns = do
  runs ← make (codes "runs") (op.Project rows.vector mark (codes ".run.mark"))
  through (run_by rows) runs (enumerate_from 0 columns)

abbrev pub key_path : ℕ → Label
key_path j = codes ".k" ++ decimal j

-- a group column's value where a group stands
abbrev pub key_of : Base → Label → Base → ℕ × ColumnRef → Writer Base
key_of rows zero groups (j, c) = do
  key ← make (codes "key") (pair pair.Add (attribute zero out) (attribute rows.vector (path_in rows c)))
  vector ← make (codes "groups") (with_attribute groups.vector (key_path j) key out)
  tell (with_column vector c (key_path j) groups)

-- a group stands where its run begins
abbrev pub first_marks : Label → Writer Label
first_marks marks = do
  firsts ← make (codes "firsts") (fold_of fold.Max (fold_args marks))
  make (codes "groups") (op.Project firsts out mark)

abbrev pub run_groups : Base → Label → Writer Label
run_groups rows runs = do
  marks ← make (codes "marks") (with_attribute runs val rows.vector mark)
  first_marks marks

-- the groups of sorted rows, in their runs
abbrev pub keyed : Base → List ColumnRef → Label → Label → Label → Writer Folding
keyed rows columns nought runs vector = do
  zero ← nought_at vector
  groups ← through (key_of rows zero) (marked_alone vector) (enumerate_from 0 columns)
  tell (record { rows = rows; nought = nought; runs = runs; first = None; groups = groups; zero = zero })

abbrev pub keyed_groups : Base → List ColumnRef → Label → Label → Writer Folding
keyed_groups rows columns nought runs = do
  vector ← run_groups rows runs
  keyed rows columns nought runs vector

abbrev pub by_columns : Base → List ColumnRef → Writer Folding
by_columns b columns = do
  rows ← sorted b columns
  nought ← nought_at rows.vector
  runs ← runs_of rows columns
  keyed_groups rows columns nought runs

-- ---- without group columns: one group, even of no rows, in a vector of one place

-- a vector of one place
abbrev pub one_place : Label → Label → Control → Writer Label
one_place word p control = make word (op.Range (size.Number 1) p control)

-- one run of all places
abbrev pub one_run : Label → Writer Label
one_run vector = make (codes "runs") (op.Range (size.Of vector) run zeros)

abbrev pub one_group : Base → Label → Label → Writer Folding
one_group b nought runs = do
  first ← one_place (codes "first") out zeros
  groups ← one_place (codes "groups") mark ones
  zero ← nought_at groups
  tell (record { rows = b; nought = nought; runs = runs; first = Some first; groups = marked_alone groups; zero = zero })

abbrev pub as_one : Base → Writer Folding
as_one b = do
  nought ← nought_at b.vector
  runs ← one_run b.vector
  one_group b nought runs

abbrev pub folding : Base → List ColumnRef → Writer Folding
folding b [] = as_one b
folding b (c ∷ cs) = by_columns b (c ∷ cs)

-- ---- aggregates

abbrev pub collected : Option Label → Label → Writer Label
collected None folded = tell folded
collected (Some first) folded = make (codes "one") (at_places folded first)

-- the fold of a value
abbrev pub fold_in : Option Label → FoldOperator → Label → Writer Label
fold_in first kind values = do
  fold ← make (codes "fold") (fold_of kind (fold_args values))
  collected first fold

abbrev pub folded : Folding → FoldOperator → Label → Writer Label
folded f kind value = do
  values ← make (codes "values") (with_attribute f.runs val value out)
  fold_in f.first kind values

-- 1 where a row has a value, 0 where it has a null
abbrev pub same_in : Label → Writer Label
same_in value = make (codes "same") (pair pair.Equals (attribute value out) (attribute value out))

abbrev pub is_there : Folding → Label → Writer Label
is_there f value = do
  same ← same_in value
  make (codes "there") (pair pair.Fill (attribute same out) (attribute f.nought out))

abbrev pub counted : Folding → Label → Writer Label
counted f value = is_there f value >>= folded f fold.Sum

-- 0 of no row
abbrev pub count : Folding → Label → Writer Label
count f value = do
  n ← counted f value
  make (codes "count") (pair pair.Fill (attribute n out) (attribute f.zero out))

abbrev pub mean : Folding → Label → Writer Label
mean f value = do
  total ← folded f fold.Sum value
  n ← counted f value
  make (codes "mean") (pair pair.Divide (attribute total out) (attribute n out))

abbrev pub aggregated : Folding → AggregateKind → Label → Writer Label
aggregated f of.Count value = count f value
aggregated f of.Sum value = folded f fold.Sum value
aggregated f of.Min value = folded f fold.Min value
aggregated f of.Max value = folded f fold.Max value
aggregated f of.Avg value = mean f value

-- COUNT(*) counts a 1 for each row
abbrev pub argument : List Bytes → Folding → Option TypedExpr → Writer Label
argument texts f None = everywhere f.rows
argument texts f (Some e) = value_of texts (codes "argument") f.rows e

abbrev pub aggregate_path : ℕ → Label
aggregate_path n = codes ".a" ++ decimal n

abbrev pub aggregate_of : List Bytes → Folding → Base → ℕ × Aggregate → Writer Base
aggregate_of texts f groups (n, a) = do
  value ← argument texts f a.argument
  x ← aggregated f a.kind value
  vector ← make (codes "groups") (with_attribute groups.vector (aggregate_path n) x out)
  tell (with_aggregate vector n (aggregate_path n) groups)

-- the groups of rows, with the values of their group columns and of their aggregates
abbrev pub grouped : List Bytes → Base → List ColumnRef → List Aggregate → Writer Base
grouped texts b columns aggregates = do
  f ← folding b columns
  through (aggregate_of texts f) f.groups (enumerate_from 0 aggregates)
