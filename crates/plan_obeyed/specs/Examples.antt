-- Worked examples of programs that obey a control plan, and of programs that do not, for each of the four points.
use Rattle.std.specs.Prelude.{◌≡◌, ℕ, pos, neg_ℤ, ◌^◌, true, false, List, [], ◌∷◌, ◌++◌, codes, Some}
use Rattle.control_plan.specs.Plans.{PlanValue, usual}
use Rattle.control_plan.specs.declared.choices.Grouping.{Grouping}
use Rattle.control_plan.specs.declared.choices.Grouping.TheVariants as by
use Rattle.control_vectors.specs.Controls.{Control, control_of}
use Rattle.programs.specs.declared.op.Op.TheVariants as op
use Rattle.programs.specs.declared.op.Operand.TheVariants as operand
use Rattle.programs.specs.declared.op.Statement.{Statement}
use Rattle.programs.specs.declared.op.Size.TheVariants as size
use Rattle.programs.specs.Mentions.{Label}
use Rattle.typed_trees.specs.declared.typed.AggregateKind.TheVariants.{Count, Sum, Min, Max, Avg}
use Rattle.plan_obeyed.specs.Columns.{SourceColumn}
use Rattle.plan_obeyed.specs.Queries.{QueryParts}
use Rattle.plan_obeyed.specs.Programs.{group_column, no_groups, some_rows, by_groups, in_all, follows, zeros, pairs, fours, in_turn, statement, range, with_one, fold_args, key, attribute, pair, rows, selected, sorted_by, group_runs, one_run, level_runs, folded, sum, shown}

-- ---- in which runs rows are selected

abbrev pub selecting : Control → PlanValue
selecting c = record usual { select = c }

abbrev pub in_two_runs : List Statement
in_two_runs =
    rows
    ++ range (codes "select") (codes "rows") (codes ".run.a") pairs
    ∷ range (codes "select_too") (codes "rows") (codes ".run.b") pairs
    ∷ statement (codes "both") (op.Zip (codes "select") (codes "select_too"))
    ∷ with_one (codes "pick") (codes "both") (codes ".val") (codes "rows") (codes ".v")
    ∷ statement (codes "places") (op.FoldSelect (fold_args (codes "pick")))
    ∷ shown (codes "places")

-- in the runs of a column, whatever its values are
abbrev pub by_value : List Statement
by_value =
    rows
    ++ statement (codes "select") (op.Project (codes "rows") (codes ".k") (codes ".run"))
    ∷ with_one (codes "pick") (codes "select") (codes ".val") (codes "rows") (codes ".v")
    ∷ statement (codes "places") (op.FoldSelect (fold_args (codes "pick")))
    ∷ shown (codes "places")

-- the same numbers, but by a quotient of another Range
abbrev pub by_quotient : List Statement
by_quotient =
    rows
    ++ range (codes "ids") (codes "rows") (codes ".id") (control_of (pos 0) 1 0 1)
    ∷ statement (codes "halves") (op.Divide (pair (attribute (codes "ids") (codes ".id")) (operand.Number (pos 2))))
    ∷ statement (codes "select") (op.Project (codes "halves") (codes ".out") (codes ".run"))
    ∷ with_one (codes "pick") (codes "select") (codes ".val") (codes "rows") (codes ".v")
    ∷ statement (codes "places") (op.FoldSelect (fold_args (codes "pick")))
    ∷ shown (codes "places")

pub record SelectExamples : Type 0 where
  pub in_pairs : follows some_rows (selecting pairs) (rows ++ selected pairs ++ shown (codes "kept")) ≡ Some true
  pub in_fours : follows some_rows (selecting fours) (rows ++ selected fours ++ shown (codes "kept")) ≡ Some true
  -- other runs than the plan's
  pub other_runs : follows some_rows (selecting fours) (rows ++ selected pairs ++ shown (codes "kept")) ≡ Some false
  pub two_runs : follows some_rows (selecting pairs) in_two_runs ≡ Some false
  pub values : follows some_rows (selecting pairs) by_value ≡ Some false
  pub no_range : follows some_rows (selecting pairs) by_quotient ≡ Some false
  -- where there is WHERE, something selects; where there is none, nothing has to
  pub nothing_selects : follows some_rows (selecting pairs) (rows ++ shown (codes "rows")) ≡ Some false
  pub nothing_to_select : follows no_groups (selecting pairs) (rows ++ shown (codes "rows")) ≡ Some true

-- ---- through which folds values pass

abbrev pub levels_of : List Control → PlanValue
levels_of levels = record usual { levels = levels }

-- the rows sorted by k, and their groups
abbrev pub in_groups : List Statement
in_groups = rows ++ sorted_by (codes "rows") (codes ".k") ++ group_runs (codes "sorted")

abbrev pub total : Label → Label → List Statement
total from p = sum (codes "total") (codes "runs") from p ++ shown (codes "total")

abbrev pub flat : List Statement
flat = in_groups ++ total (codes "sorted") (codes ".v")

-- a level, and two
abbrev pub part : Control → List Statement
part c = level_runs (codes "first") c ++ sum (codes "part") (codes "first") (codes "sorted") (codes ".v")

abbrev pub more : Control → List Statement
more c = level_runs (codes "second") c ++ sum (codes "more") (codes "second") (codes "part") (codes ".out")

abbrev pub one_level : Control → List Statement
one_level c = in_groups ++ part c ++ total (codes "part") (codes ".out")

abbrev pub two_levels : Control → Control → List Statement
two_levels c d = in_groups ++ part c ++ more d ++ total (codes "more") (codes ".out")

-- between the level and the last fold a Gather, and an addition
abbrev pub gathered : List Statement
gathered =
    in_groups
    ++ part pairs
    ++ range (codes "ids") (codes "part") (codes ".id") (control_of (pos 0) 1 0 1)
    ∷ statement (codes "moved") (op.Gather (codes "part") (codes "ids") (codes ".id"))
    ∷ total (codes "moved") (codes ".out")

abbrev pub added_to : List Statement
added_to = in_groups ++ part pairs ++ statement (codes "added") (op.Add (pair (attribute (codes "part") (codes ".out")) (operand.Number (pos 0)))) ∷ total (codes "added") (codes ".out")

-- the level's fold is made, and the last one does not read it; and a flat fold beside the chain
abbrev pub passed_by : List Statement
passed_by = in_groups ++ part pairs ++ total (codes "sorted") (codes ".v")

abbrev pub beside : List Statement
beside = in_groups ++ sum (codes "flat") (codes "runs") (codes "sorted") (codes ".v") ++ part pairs ++ total (codes "part") (codes ".out")

-- runs without the mark, without the group column, and of one column more
abbrev pub unmarked : List Statement
unmarked = rows ++ sorted_by (codes "rows") (codes ".k") ++ statement (codes "runs") (op.Project (codes "sorted") (codes ".k") (codes ".run.k")) ∷ total (codes "sorted") (codes ".v")

abbrev pub marks_alone : List Statement
marks_alone = rows ++ sorted_by (codes "rows") (codes ".k") ++ statement (codes "runs") (op.Project (codes "sorted") (codes ".mark") (codes ".run.mark")) ∷ total (codes "sorted") (codes ".v")

abbrev pub one_more : List Statement
one_more = in_groups ++ with_one (codes "more") (codes "runs") (codes ".run.v") (codes "sorted") (codes ".v") ∷ sum (codes "total") (codes "more") (codes "sorted") (codes ".v") ++ shown (codes "total")

-- the greatest mark of each group
abbrev pub greatest_marks : Label → List Statement
greatest_marks name = folded name (λ f. op.FoldMax f) (codes "runs") (codes "sorted") (codes ".mark")

-- 1 at each row, counted flat
abbrev pub marks_counted : List Statement
marks_counted = in_groups ++ total (codes "sorted") (codes ".mark")

-- a sum and a count
abbrev pub counted : List Statement
counted = statement (codes "there") (op.Equals (pair (attribute (codes "sorted") (codes ".v")) (attribute (codes "sorted") (codes ".v")))) ∷ sum (codes "count") (codes "runs") (codes "there") (codes ".out")

-- high and low parts, joined behind the last folds; and joined behind the folds of the level
abbrev pub high_and_low : Label → Label → List Statement
high_and_low from p = statement (codes "high") (op.BitShift (attribute from p) (neg_ℤ (pos 64)) (codes ".out")) ∷ statement (codes "low") (op.Modulo (pair (attribute from p) (operand.Number (pos (2 ^ 64))))) ∷ []

abbrev pub joined : Label → Label → List Statement
joined high low =
    statement (codes "raised") (op.BitShift (attribute high (codes ".out")) (pos 64) (codes ".out"))
    ∷ statement (codes "joined") (op.Add (pair (attribute (codes "raised") (codes ".out")) (attribute low (codes ".out"))))
    ∷ []

abbrev pub parts_of_level : List Statement
parts_of_level =
    in_groups
    ++ high_and_low (codes "sorted") (codes ".v")
    ++ level_runs (codes "first") pairs
    ++ sum (codes "high_part") (codes "first") (codes "high") (codes ".out")
    ++ sum (codes "low_part") (codes "first") (codes "low") (codes ".out")

abbrev pub joined_last : List Statement
joined_last = parts_of_level ++ sum (codes "highs") (codes "runs") (codes "high_part") (codes ".out") ++ sum (codes "lows") (codes "runs") (codes "low_part") (codes ".out") ++ joined (codes "highs") (codes "lows") ++ shown (codes "joined")

abbrev pub joined_before : List Statement
joined_before = parts_of_level ++ joined (codes "high_part") (codes "low_part") ++ total (codes "joined") (codes ".out")

pub record LevelExamples : Type 0 where
  -- no level, one, and two in their order
  pub no_level : follows (by_groups (Sum ∷ [])) usual flat ≡ Some true
  pub first : follows (by_groups (Sum ∷ [])) (levels_of (pairs ∷ [])) (one_level pairs) ≡ Some true
  pub both : follows (by_groups (Sum ∷ [])) (levels_of (pairs ∷ fours ∷ [])) (two_levels pairs fours) ≡ Some true
  pub moved : follows (by_groups (Sum ∷ [])) (levels_of (pairs ∷ [])) gathered ≡ Some true
  -- the levels are left out, have other numbers, or another order; one Range stands for both
  pub left_out : follows (by_groups (Sum ∷ [])) (levels_of (pairs ∷ [])) flat ≡ Some false
  pub too_many : follows (by_groups (Sum ∷ [])) usual (one_level pairs) ≡ Some false
  pub other_numbers : follows (by_groups (Sum ∷ [])) (levels_of (pairs ∷ [])) (one_level fours) ≡ Some false
  pub other_order : follows (by_groups (Sum ∷ [])) (levels_of (pairs ∷ fours ∷ [])) (two_levels fours pairs) ≡ Some false
  pub one_for_both : follows (by_groups (Sum ∷ [])) (levels_of (pairs ∷ fours ∷ [])) (two_levels pairs pairs) ≡ Some false
  -- the last fold does not take what the level's fold makes, or takes something made of it; a flat fold stands beside the chain
  pub skipped : follows (by_groups (Sum ∷ [])) (levels_of (pairs ∷ [])) passed_by ≡ Some false
  pub changed : follows (by_groups (Sum ∷ [])) (levels_of (pairs ∷ [])) added_to ≡ Some false
  pub flat_beside : follows (by_groups (Sum ∷ [])) (levels_of (pairs ∷ [])) beside ≡ Some false
  -- other runs than those of the groups
  pub no_mark : follows (by_groups (Sum ∷ [])) usual unmarked ≡ Some false
  pub no_column : follows (by_groups (Sum ∷ [])) usual marks_alone ≡ Some false
  pub another_column : follows (by_groups (Sum ∷ [])) usual one_more ≡ Some false

pub record KindExamples : Type 0 where
  -- each aggregate's values pass folds of its kind
  pub greatest : follows (by_groups (Max ∷ [])) usual (in_groups ++ folded (codes "top") (λ f. op.FoldMax f) (codes "runs") (codes "sorted") (codes ".v") ++ shown (codes "top")) ≡ Some true
  pub not_least : follows (by_groups (Min ∷ [])) usual (in_groups ++ folded (codes "top") (λ f. op.FoldMax f) (codes "runs") (codes "sorted") (codes ".v") ++ shown (codes "top")) ≡ Some false
  -- an average passes as a sum and a count
  pub average : follows (by_groups (Avg ∷ [])) usual (in_groups ++ counted ++ total (codes "sorted") (codes ".v")) ≡ Some true
  pub no_count : follows (by_groups (Avg ∷ [])) usual flat ≡ Some false
  -- parts of a sum are joined behind the last folds
  pub parts : follows (by_groups (Sum ∷ [])) (levels_of (pairs ∷ [])) joined_last ≡ Some true
  pub parts_of_level : follows (by_groups (Sum ∷ [])) (levels_of (pairs ∷ [])) joined_before ≡ Some false
  -- the marks of groups pass no level, and counted rows do
  pub marks : follows (by_groups (Sum ∷ [])) (levels_of (pairs ∷ [])) (in_groups ++ greatest_marks (codes "groups") ++ part pairs ++ total (codes "part") (codes ".out")) ≡ Some true
  pub counts : follows (by_groups (Count ∷ [])) (levels_of (pairs ∷ [])) marks_counted ≡ Some false
  pub flat_counts : follows (by_groups (Count ∷ [])) usual marks_counted ≡ Some true
  -- without group columns all rows are one run
  pub in_one : follows (in_all (Sum ∷ [])) usual (rows ++ one_run (codes "rows") zeros ++ total (codes "rows") (codes ".v")) ≡ Some true
  pub in_fives : follows (in_all (Sum ∷ [])) usual (rows ++ one_run (codes "rows") (control_of (pos 5) 3 1 2) ++ total (codes "rows") (codes ".v")) ≡ Some true
  pub in_several : follows (in_all (Sum ∷ [])) usual (rows ++ one_run (codes "rows") pairs ++ total (codes "rows") (codes ".v")) ≡ Some false
  pub level_of_all : follows (in_all (Sum ∷ [])) (levels_of (pairs ∷ [])) (rows ++ one_run (codes "rows") zeros ++ level_runs (codes "first") pairs ++ sum (codes "part") (codes "first") (codes "rows") (codes ".v") ++ total (codes "part") (codes ".out")) ≡ Some true
  -- without aggregates groups are found by one fold of the mark, whatever the levels are
  pub distinct : follows (by_groups []) (levels_of (pairs ∷ [])) (in_groups ++ greatest_marks (codes "groups") ++ shown (codes "groups")) ≡ Some true
  pub none : follows (by_groups []) usual (in_groups ++ shown (codes "runs")) ≡ Some false
  pub twice : follows (by_groups []) usual (in_groups ++ greatest_marks (codes "groups") ++ greatest_marks (codes "again") ++ shown (codes "groups")) ≡ Some false

-- ---- by what rows are laid out

abbrev pub laying : Control → PlanValue
laying c = record usual { layout = Some c }

-- the rows scattered to the places that a Range's values give them, where its values are the pivots too
abbrev pub turns : Control → List Statement
turns c = range (codes "turns") (codes "rows") (codes ".turn") c ∷ []

abbrev pub places_by : Label → Label → List Statement
places_by pivots p = statement (codes "places") (op.Partition (record { a = codes "turns"; key = codes ".turn"; b = pivots; pivot = p; out = codes ".place" })) ∷ []

abbrev pub scattered : List Statement
scattered = statement (codes "laid") (op.Scatter (codes "rows") (size.Of (codes "rows")) (codes "places") (codes ".place")) ∷ []

abbrev pub laid_out : Control → List Statement
laid_out c = rows ++ turns c ++ places_by (codes "turns") (codes ".turn") ++ scattered

abbrev pub sorted_behind : List Statement
sorted_behind = sorted_by (codes "laid") (codes ".k") ++ group_runs (codes "sorted")

-- one pivot, which moves nothing
abbrev pub by_one_pivot : List Statement
by_one_pivot = rows ++ turns in_turn ++ statement (codes "pivots") (op.Range (size.Number 1) (codes ".turn") zeros) ∷ places_by (codes "pivots") (codes ".turn") ++ scattered

-- the Scatter is made, and what is folded is not taken from it; it is, but the group column is not
abbrev pub rows_as_before : List Statement
rows_as_before = laid_out in_turn ++ sorted_by (codes "rows") (codes ".k") ++ group_runs (codes "sorted") ++ total (codes "sorted") (codes ".v")

abbrev pub groups_as_before : List Statement
groups_as_before = laid_out in_turn ++ sorted_by (codes "rows") (codes ".k") ++ group_runs (codes "sorted") ++ total (codes "laid") (codes ".v")

-- twice what is laid out, and what is laid out with something beside it
abbrev pub doubled : List Statement
doubled = statement (codes "doubled") (op.Multiply (pair (attribute (codes "sorted") (codes ".v")) (operand.Number (pos 2)))) ∷ []

abbrev pub mixed : List Statement
mixed = statement (codes "mixed") (op.Add (pair (attribute (codes "sorted") (codes ".v")) (attribute (codes "rows") (codes ".v")))) ∷ []

pub record LayoutExamples : Type 0 where
  pub by_turns : follows (by_groups (Sum ∷ [])) (laying in_turn) (laid_out in_turn ++ sorted_behind ++ total (codes "sorted") (codes ".v")) ≡ Some true
  pub further : follows (by_groups (Sum ∷ [])) (laying in_turn) (laid_out in_turn ++ sorted_behind ++ doubled ++ total (codes "doubled") (codes ".out")) ≡ Some true
  pub of_all : follows (in_all (Sum ∷ [])) (laying in_turn) (laid_out in_turn ++ one_run (codes "laid") zeros ++ total (codes "laid") (codes ".v")) ≡ Some true
  -- nothing is laid out; it is by other numbers, or by one pivot
  pub not_laid_out : follows (by_groups (Sum ∷ [])) (laying in_turn) flat ≡ Some false
  pub other_numbers : follows (by_groups (Sum ∷ [])) (laying in_turn) (laid_out pairs ++ sorted_behind ++ total (codes "sorted") (codes ".v")) ≡ Some false
  pub one_pivot : follows (by_groups (Sum ∷ [])) (laying in_turn) (by_one_pivot ++ sorted_behind ++ total (codes "sorted") (codes ".v")) ≡ Some false
  -- the places are not scattered to; values, or group columns, are those of the rows before; a value is so in part
  pub no_scatter : follows (by_groups (Sum ∷ [])) (laying in_turn) (rows ++ turns in_turn ++ places_by (codes "turns") (codes ".turn") ++ sorted_by (codes "rows") (codes ".k") ++ group_runs (codes "sorted") ++ total (codes "sorted") (codes ".v")) ≡ Some false
  pub values_before : follows (by_groups (Sum ∷ [])) (laying in_turn) rows_as_before ≡ Some false
  pub groups_before : follows (by_groups (Sum ∷ [])) (laying in_turn) groups_as_before ≡ Some false
  pub half_before : follows (by_groups (Sum ∷ [])) (laying in_turn) (laid_out in_turn ++ sorted_behind ++ mixed ++ total (codes "mixed") (codes ".out")) ≡ Some false
  -- without aggregates a layout has no effect
  pub no_aggregate : follows (by_groups []) (laying in_turn) (in_groups ++ greatest_marks (codes "groups") ++ shown (codes "groups")) ≡ Some true

-- ---- how the rows of a group are brought together

abbrev pub bringing : Grouping → PlanValue
bringing g = record usual { group = g }

-- the total of v in the groups of a vector, whose rows stand as they do there
abbrev pub total_in : Label → List Statement
total_in from = group_runs from ++ total from (codes ".v")

abbrev pub order_by : Label → Label → List Statement
order_by name p = statement name (op.Order (codes "rows") (codes ".mark") (codes ".out") (key p ∷ [])) ∷ []

abbrev pub by_both : List Statement
by_both = statement (codes "order") (op.Order (codes "rows") (codes ".mark") (codes ".out") (key (codes ".k") ∷ key (codes ".v") ∷ [])) ∷ statement (codes "sorted") (op.Gather (codes "rows") (codes "order") (codes ".out")) ∷ []

-- the rows of a vector moved to the places of a Partition by an attribute, whose pivots are another
abbrev pub partition : Label → Label → Label → Label → List Statement
partition keys p pivots q =
    statement (codes "places") (op.Partition (record { a = keys; key = p; b = pivots; pivot = q; out = codes ".place" }))
    ∷ statement (codes "grouped") (op.Scatter (codes "rows") (size.Of (codes "rows")) (codes "places") (codes ".place"))
    ∷ []

abbrev pub by_itself : Label → Label → List Statement
by_itself keys p = partition keys p keys p

-- k, or a number where it is empty: all values of k are from 1 on
abbrev pub filled : ℕ → List Statement
filled n = statement (codes "filled") (op.Fill (pair (attribute (codes "rows") (codes ".k")) (operand.Number (pos n)))) ∷ []

pub record SortExamples : Type 0 where
  pub sorted : follows (by_groups (Sum ∷ [])) (bringing by.Sort) (rows ++ sorted_by (codes "rows") (codes ".k") ++ total_in (codes "sorted")) ≡ Some true
  -- nothing is sorted, or by another column, or by one column more; sorted once more; or not before the fold
  pub unsorted : follows (by_groups (Sum ∷ [])) (bringing by.Sort) (rows ++ total_in (codes "rows")) ≡ Some false
  pub another : follows (by_groups (Sum ∷ [])) (bringing by.Sort) (rows ++ sorted_by (codes "rows") (codes ".v") ++ total_in (codes "sorted")) ≡ Some false
  pub both : follows (by_groups (Sum ∷ [])) (bringing by.Sort) (rows ++ by_both ++ total_in (codes "sorted")) ≡ Some false
  pub twice : follows (by_groups (Sum ∷ [])) (bringing by.Sort) (rows ++ order_by (codes "again") (codes ".k") ++ sorted_by (codes "rows") (codes ".k") ++ total_in (codes "sorted")) ≡ Some false
  pub too_late : follows (by_groups (Sum ∷ [])) (bringing by.Sort) (rows ++ total_in (codes "rows") ++ order_by (codes "late") (codes ".k")) ≡ Some false
  -- another Order beside it, which has no group column
  pub beside : follows (by_groups (Sum ∷ [])) (bringing by.Sort) (rows ++ order_by (codes "other") (codes ".v") ++ sorted_by (codes "rows") (codes ".k") ++ total_in (codes "sorted")) ≡ Some true
  pub partitioned : follows (by_groups (Sum ∷ [])) (bringing by.Sort) (rows ++ by_itself (codes "rows") (codes ".k") ++ total_in (codes "grouped")) ≡ Some false
  -- without group columns nothing is asked
  pub no_columns : follows (in_all (Sum ∷ [])) (bringing by.Sort) (rows ++ one_run (codes "rows") zeros ++ total (codes "rows") (codes ".v")) ≡ Some true

pub record PartitionExamples : Type 0 where
  pub by_values : follows (by_groups (Sum ∷ [])) (bringing by.Partition) (rows ++ by_itself (codes "rows") (codes ".k") ++ total_in (codes "grouped")) ≡ Some true
  pub by_filled : follows (by_groups (Sum ∷ [])) (bringing by.Partition) (rows ++ filled 0 ++ by_itself (codes "filled") (codes ".out") ++ total_in (codes "grouped")) ≡ Some true
  -- filled by one of the values, by another column, or among other pivots
  pub by_one_value : follows (by_groups (Sum ∷ [])) (bringing by.Partition) (rows ++ filled 1 ++ by_itself (codes "filled") (codes ".out") ++ total_in (codes "grouped")) ≡ Some false
  pub another : follows (by_groups (Sum ∷ [])) (bringing by.Partition) (rows ++ by_itself (codes "rows") (codes ".v") ++ total_in (codes "grouped")) ≡ Some false
  pub other_pivots : follows (by_groups (Sum ∷ [])) (bringing by.Partition) (rows ++ partition (codes "rows") (codes ".k") (codes "rows") (codes ".v") ++ total_in (codes "grouped")) ≡ Some false
  -- no Scatter; and a sort by the group column, which may stand behind the fold alone
  pub no_scatter : follows (by_groups (Sum ∷ [])) (bringing by.Partition) (rows ++ statement (codes "places") (op.Partition (record { a = codes "rows"; key = codes ".k"; b = codes "rows"; pivot = codes ".k"; out = codes ".place" })) ∷ total_in (codes "rows")) ≡ Some false
  pub sorted_too : follows (by_groups (Sum ∷ [])) (bringing by.Partition) (rows ++ order_by (codes "order") (codes ".k") ++ by_itself (codes "rows") (codes ".k") ++ total_in (codes "grouped")) ≡ Some false
  pub sorted_behind : follows (by_groups (Sum ∷ [])) (bringing by.Partition) (rows ++ by_itself (codes "rows") (codes ".k") ++ total_in (codes "grouped") ++ order_by (codes "order") (codes ".k")) ≡ Some true
  pub sorted_otherwise : follows (by_groups (Sum ∷ [])) (bringing by.Partition) (rows ++ order_by (codes "order") (codes ".v") ++ by_itself (codes "rows") (codes ".k") ++ total_in (codes "grouped")) ≡ Some true

-- ---- which Load is which source's

-- SELECT .. FROM t, t GROUP BY the first one's k, and by both
abbrev pub of_two : List SourceColumn → QueryParts
of_two groups = record no_groups { tables = codes "t" ∷ codes "t" ∷ []; is_grouped = true; groups = groups }

abbrev pub of_second : SourceColumn
of_second = record group_column { source = 1 }

abbrev pub one_loaded_more : List Statement
one_loaded_more = statement (codes "another") (op.Load (codes "t")) ∷ in_groups ++ greatest_marks (codes "groups") ++ shown (codes "groups")

pub record SourceExamples : Type 0 where
  pub either : follows (of_two (group_column ∷ [])) usual one_loaded_more ≡ Some true
  pub other : follows (of_two (of_second ∷ [])) usual one_loaded_more ≡ Some true
  -- one Load is not both sources', and a source has one
  pub both : follows (of_two (group_column ∷ of_second ∷ [])) usual one_loaded_more ≡ Some false
  pub one : follows (of_two (group_column ∷ [])) usual (in_groups ++ greatest_marks (codes "groups") ++ shown (codes "groups")) ≡ Some false
