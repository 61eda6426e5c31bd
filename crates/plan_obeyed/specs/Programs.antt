-- Pieces of the programs that the examples are made of: over a table `t` of six rows with the columns `k` and `v`.
use Rattle.std.specs.Prelude.{ℕ, pos, Bool, true, false, List, [], ◌∷◌, ◌++◌, map, codes, if◌then◌else◌, Option, Some, None, Result, Ok, Err}
use Rattle.std.specs.Str.{bytes_eq}
use Rattle.control_plan.specs.Plans.{PlanValue}
use Rattle.control_vectors.specs.Controls.{Control, control_of}
use Rattle.control_vectors.specs.Slots.{Slot}
use Rattle.programs.specs.declared.op.FoldArgs.{FoldArgs}
use Rattle.programs.specs.declared.op.Op.{Op}
use Rattle.programs.specs.declared.op.Op.TheVariants as op
use Rattle.programs.specs.declared.op.Operand.{Operand}
use Rattle.programs.specs.declared.op.Operand.TheVariants as operand
use Rattle.programs.specs.declared.op.PairArgs.{PairArgs}
use Rattle.programs.specs.declared.op.Size.TheVariants as size
use Rattle.programs.specs.declared.op.Statement.{Statement}
use Rattle.programs.specs.declared.order_keys.OrderPath.{OrderPath}
use Rattle.programs.specs.Check.{Fault, check}
use Rattle.programs.specs.Mentions.{Label}
use Rattle.programs.specs.Outlines.{outlines}
use Rattle.programs.specs.Vectors.{Env}
use Rattle.typed_trees.specs.declared.typed.AggregateKind.{AggregateKind}
use Rattle.plan_obeyed.specs.Columns.{SourceColumn}
use Rattle.plan_obeyed.specs.Queries.{QueryParts}
use Rattle.plan_obeyed.specs.Obeyed.{obeys}

-- ---- the table, and queries over it

abbrev pub slots : List ℕ → List Slot
slots ns = map (λ n. Some (pos n)) ns

abbrev pub some_table : Env
some_table = λ n. if bytes_eq n (codes "t") then Some (record { len = 6; attributes = (codes ".k", slots (3 ∷ 1 ∷ 3 ∷ 1 ∷ 2 ∷ 1 ∷ [])) ∷ (codes ".v", slots (10 ∷ 20 ∷ 30 ∷ 40 ∷ 50 ∷ 60 ∷ [])) ∷ [] }) else None

abbrev pub group_column : SourceColumn
group_column = record { source = 0; table = codes "t"; path = codes ".k" }

-- SELECT .. FROM t
abbrev pub no_groups : QueryParts
no_groups = record { tables = codes "t" ∷ []; has_where = false; is_grouped = false; groups = []; aggregates = [] }

-- SELECT .. FROM t WHERE ..
abbrev pub some_rows : QueryParts
some_rows = record no_groups { has_where = true }

-- SELECT k, .. FROM t GROUP BY k, and SELECT .. FROM t with aggregates
abbrev pub by_groups : List AggregateKind → QueryParts
by_groups aggregates = record no_groups { is_grouped = true; groups = group_column ∷ []; aggregates = aggregates }

abbrev pub in_all : List AggregateKind → QueryParts
in_all aggregates = record no_groups { is_grouped = true; aggregates = aggregates }

-- whether a program obeys a plan, where it passes its check
abbrev pub if_checked : {A : Type 0} → Result A Fault → Bool → Option Bool
if_checked (Err e) b = None
if_checked (Ok shape) b = Some b

abbrev pub follows : QueryParts → PlanValue → List Statement → Option Bool
follows q plan program = if_checked (check (outlines some_table) program) (obeys some_table q plan program)

-- ---- control vectors: all the same, pairs, fours, and 0, 1, 0, 1, ..

abbrev pub zeros : Control
zeros = control_of (pos 0) 0 0 1

abbrev pub pairs : Control
pairs = control_of (pos 0) 1 0 2

abbrev pub fours : Control
fours = control_of (pos 0) 1 0 4

abbrev pub in_turn : Control
in_turn = control_of (pos 0) 1 2 1

-- ---- statements

abbrev pub statement : Label → Op → Statement
statement name o = record { name = name; op = o }

abbrev pub range : Label → Label → Label → Control → Statement
range name of p c = statement name (op.Range (size.Of of) p c)

abbrev pub with_one : Label → Label → Label → Label → Label → Statement
with_one name a p b q = statement name (op.Upsert a p b q)

abbrev pub fold_args : Label → FoldArgs
fold_args a = record { a = a; val = codes ".val"; run = codes ".run"; out = codes ".out" }

abbrev pub key : Label → OrderPath
key p = record { path = p; descending = false }

abbrev pub attribute : Label → Label → Operand
attribute a p = operand.Column a p

abbrev pub pair : Operand → Operand → PairArgs
pair x y = record { x = x; y = y; out = codes ".out" }

-- ---- pieces, each behind the vector that it is told

-- the rows, each with a mark
abbrev pub rows : List Statement
rows =
    statement (codes "table") (op.Load (codes "t"))
    ∷ range (codes "ones") (codes "table") (codes ".mark") (control_of (pos 1) 0 0 1)
    ∷ with_one (codes "keys") (codes "ones") (codes ".k") (codes "table") (codes ".k")
    ∷ with_one (codes "rows") (codes "keys") (codes ".v") (codes "table") (codes ".v")
    ∷ []

-- those for which v is more than 15, in some runs
abbrev pub selected : Control → List Statement
selected c =
    statement (codes "truth") (op.Greater (pair (attribute (codes "rows") (codes ".v")) (operand.Number (pos 15))))
    ∷ range (codes "select") (codes "rows") (codes ".run") c
    ∷ with_one (codes "pick") (codes "select") (codes ".val") (codes "truth") (codes ".out")
    ∷ statement (codes "places") (op.FoldSelect (fold_args (codes "pick")))
    ∷ statement (codes "kept") (op.Gather (codes "rows") (codes "places") (codes ".out"))
    ∷ []

-- the rows of a vector sorted by one of its attributes
abbrev pub sorted_by : Label → Label → List Statement
sorted_by from p =
    statement (codes "order") (op.Order from (codes ".mark") (codes ".out") (key p ∷ []))
    ∷ statement (codes "sorted") (op.Gather from (codes "order") (codes ".out"))
    ∷ []

-- the runs of groups of a vector's rows
abbrev pub group_runs : Label → List Statement
group_runs from =
    statement (codes "marks") (op.Project from (codes ".mark") (codes ".run.mark"))
    ∷ with_one (codes "runs") (codes "marks") (codes ".run.k") from (codes ".k")
    ∷ []

-- one run of a vector's places
abbrev pub one_run : Label → Control → List Statement
one_run from c = range (codes "runs") from (codes ".run.all") c ∷ []

-- the runs of a level within them
abbrev pub level_runs : Label → Control → List Statement
level_runs name c = range (codes "blocks_of_" ++ name) (codes "runs") (codes ".run.level") c ∷ statement name (op.Zip (codes "runs") (codes "blocks_of_" ++ name)) ∷ []

-- a fold of an attribute in some runs
abbrev pub folded : Label → (FoldArgs → Op) → Label → Label → Label → List Statement
folded name fold runs from p = with_one (codes "values_of_" ++ name) runs (codes ".val") from p ∷ statement name (fold (fold_args (codes "values_of_" ++ name))) ∷ []

abbrev pub sum : Label → Label → Label → Label → List Statement
sum name runs from p = folded name (λ f. op.FoldSum f) runs from p

abbrev pub shown : Label → List Statement
shown a = statement (codes "answer") (op.Persist a) ∷ []
