-- How many statements a plan's program has: at most five for each node of its expressions, eleven for each aggregate, three for each group column, and some more.
use Rattle.std.proofs.Common.{◌≡◌, ℕ, suc, ◌+◌, ◌-◌, ◌*◌, ◌≤◌, map, List, [], ◌∷◌, length, refl, sym, ap, ◌∙◌, subst, length-append, Option, Some, None, arith}
use Rattle.std.specs.List.{sum_by, enumerate_from}
use Rattle.std.proofs.lemmas.List.Sums.{sum_by-cons}
use Rattle.std.proofs.lemmas.List.FromFn.{length-enumerate_from}
use Rattle.control_vectors.specs.Controls.{Control}
use Rattle.programs.specs.declared.family.FoldOperator.{FoldOperator}
use Rattle.programs.specs.declared.family.FoldOperator.TheVariants as fold
use Rattle.programs.specs.Mentions.{Label}
use Rattle.sql_read.specs.declared.definition.TableDef.{TableDef}
use Rattle.typed_trees.specs.declared.typed.Aggregate.{Aggregate}
use Rattle.typed_trees.specs.declared.typed.AggregateKind.{AggregateKind}
use Rattle.typed_trees.specs.declared.typed.AggregateKind.TheVariants as of
use Rattle.typed_trees.specs.declared.typed.ColumnRef.{ColumnRef}
use Rattle.typed_trees.specs.declared.typed.KeyRef.{KeyRef}
use Rattle.typed_trees.specs.declared.typed.KeyRef.TheVariants.{Item, Column}
use Rattle.typed_trees.specs.declared.typed.OrderKey.{OrderKey}
use Rattle.typed_trees.specs.declared.typed.TypedExpr.{TypedExpr}
use Rattle.query_sizes.specs.Sizes.{nodes}
use Rattle.expr_steps.specs.declared.steps.Step.{Step}
use Rattle.expr_steps.specs.Lowered.{Bytes, steps_of}
use Rattle.expr_counts.specs.Counts.{CountLaw}
use Rattle.expr_lower.specs.Statements.{Site, site, statements_from}
use Rattle.std.specs.Prelude.{codes}
use Rattle.control_vectors.specs.declared.PairKind.TheVariants as kinds
use Rattle.programs.specs.declared.op.Op.TheVariants as op
use Rattle.program_writers.specs.Statements.{mark, out, attribute, pair, with_attribute, at_places}
use Rattle.program_writers.specs.Writers.{Writer, tell, ◌>>=◌, through, make, numbered}
use Rattle.plan_programs.specs.Sites.{Base, marked_alone, with_aggregate, value_of}
use Rattle.plan_programs.specs.Rows.{column_in, rows_of, and_true, selected, kept}
use Rattle.plan_programs.specs.Groups as groups
use Rattle.plan_programs.specs.Groups.{Folding}
use Rattle.plan_programs.specs.Items.{item_path, item_of, items_of, key_of, numbered_key, keys_of, key_by, in_order}

-- how many statements a part has
abbrev pub count : {A : Type 0} → Writer A → ℕ → ℕ
count m k = length (m k).statements

pub count_then : {A B : Type 0} (m : Writer A) (f : A → Writer B) (k : ℕ) → count (m >>= f) k ≡ count m k + count (f (m k).told) (m k).next
count_then m f k = length-append (m k).statements (f (m k).told (m k).next).statements

pub through_most : {A B : Type 0} (f : A → B → Writer A) (cost : B → ℕ) → ((a : A) (b : B) (k : ℕ) → count (f a b) k ≤ cost b) → (bs : List B) (a : A) (k : ℕ) → count (through f a bs) k ≤ sum_by cost bs
through_most f cost each [] a k = omega arith
through_most f cost each (b ∷ bs) a k =
    omega (arith, count_then (f a b) (λ next. through f next bs) k, each a b k, through_most f cost each bs (f a b k).told (f a b k).next, sum_by-cons cost b bs)

numbered_sum : {A : Type 0} (cost : A → ℕ) (xs : List A) (n : ℕ) → sum_by (λ x. cost x.1) (enumerate_from n xs) ≡ sum_by cost xs
numbered_sum cost [] n = refl
numbered_sum cost (x ∷ xs) n = sum_by-cons (λ y. cost y.1) (n, x) (enumerate_from (n + 1) xs) ∙ ap (λ (m : ℕ). cost x + m) (numbered_sum cost xs (n + 1)) ∙ sym (sum_by-cons cost x xs)

ones_sum : {A : Type 0} (xs : List A) → sum_by (λ x. 1) xs ≡ length xs
ones_sum [] = refl
ones_sum (x ∷ xs) = omega (arith, sum_by-cons (λ y. 1) x xs, ones_sum xs)

twos_sum : {A : Type 0} (xs : List A) → sum_by (λ x. 2) xs ≡ length xs + length xs
twos_sum [] = refl
twos_sum (x ∷ xs) = omega (arith, sum_by-cons (λ y. 2) x xs, twos_sum xs)

-- ---- expressions

as_many : (s : Site) (last k : ℕ) (steps : List Step) → length (statements_from s last k steps) ≡ length steps
as_many s last k [] = refl
as_many s last k (step ∷ rest) = ap suc (as_many s last (k + 1) rest)

value_most : CountLaw → (texts : List Bytes) (word : Label) (b : Base) (e : TypedExpr) (k : ℕ) → count (value_of texts word b e) k ≤ 4 * nodes e
value_most law texts word b e k = subst (λ (n : ℕ). n ≤ 4 * nodes e) (sym (as_many (site b.vector mark b.columns b.aggregates (numbered word k)) (length (steps_of texts e) - 1) 0 (steps_of texts e))) (law texts e)

-- a value, and one statement more
abbrev pub cost : TypedExpr → ℕ
cost e = 4 * nodes e + 1

-- ---- rows

pub rows_most : (def : TableDef) (source : ℕ) (columns : List ℕ) (k : ℕ) → count (rows_of def source columns) k ≤ 2 + length columns
rows_most def source columns k =
    let table = numbered (codes "table") k in
    let start = marked_alone (numbered (codes "rows") (k + 1)) in
    omega (arith, through_most (column_in def source table) (λ c. 1) (λ b c n. omega arith) columns start (k + 1 + 1), ones_sum columns)

true_most : CountLaw → (texts : List Bytes) (b : Base) (a : Label) (x : TypedExpr) (n : ℕ) → count (and_true texts b a x) n ≤ cost x
true_most law texts b a x n = omega (arith, value_most law texts (codes "where") b x n, count_then (value_of texts (codes "where") b x) (λ value. make (codes "all") (pair kinds.LogicalAnd (attribute a out) (attribute value out))) n)

pub kept_most : CountLaw → (select : Control) (texts : List Bytes) (b : Base) (es : List TypedExpr) (k : ℕ) → count (kept select texts b es) k ≤ 5 + sum_by cost es
kept_most law select texts b [] k = omega arith
kept_most law select texts b (e ∷ es) k =
    let all = numbered (codes "all") k in
    let loop = through (and_true texts b) all (e ∷ es) in
    omega (arith, count_then loop (selected select b) (k + 1), through_most (and_true texts b) cost (true_most law texts b) (e ∷ es) all (k + 1))

-- ---- groups

fold_in_most : (first : Option Label) (kind : FoldOperator) (values : Label) (k : ℕ) → count (groups.fold_in first kind values) k ≤ 2
fold_in_most None kind values k = omega arith
fold_in_most (Some first) kind values k = omega arith

folded_most : (f : Folding) (kind : FoldOperator) (value : Label) (k : ℕ) → count (groups.folded f kind value) k ≤ 3
folded_most f kind value k = omega (arith, fold_in_most f.first kind (numbered (codes "values") k) (k + 1))

counted_most : (f : Folding) (value : Label) (k : ℕ) → count (groups.counted f value) k ≤ 5
counted_most f value k = omega (arith, count_then (groups.is_there f value) (groups.folded f fold.Sum) k, folded_most f fold.Sum (numbered (codes "there") (k + 1)) (k + 1 + 1))

aggregated_most : (f : Folding) (kind : AggregateKind) (value : Label) (k : ℕ) → count (groups.aggregated f kind value) k ≤ 9
aggregated_most f of.Sum value k = omega (arith, folded_most f fold.Sum value k)
aggregated_most f of.Min value k = omega (arith, folded_most f fold.Min value k)
aggregated_most f of.Max value k = omega (arith, folded_most f fold.Max value k)
aggregated_most f of.Count value k = omega (arith, count_then (groups.counted f value) (λ n. make (codes "count") (pair kinds.Fill (attribute n out) (attribute f.zero out))) k, counted_most f value k)
aggregated_most f of.Avg value k =
    let total = groups.folded f fold.Sum value k in
    omega (
      arith,
      count_then (groups.folded f fold.Sum value) (λ t. groups.counted f value >>= λ n. make (codes "mean") (pair kinds.Divide (attribute t out) (attribute n out))) k,
      folded_most f fold.Sum value k,
      count_then (groups.counted f value) (λ n. make (codes "mean") (pair kinds.Divide (attribute total.told out) (attribute n out))) total.next,
      counted_most f value total.next,
    )

abbrev pub argument_cost : Option TypedExpr → ℕ
argument_cost None = 1
argument_cost (Some e) = 4 * nodes e

argument_most : CountLaw → (texts : List Bytes) (f : Folding) (x : Option TypedExpr) (k : ℕ) → count (groups.argument texts f x) k ≤ argument_cost x
argument_most law texts f None k = omega arith
argument_most law texts f (Some e) k = value_most law texts (codes "argument") f.rows e k

abbrev pub aggregate_cost : Aggregate → ℕ
aggregate_cost a = argument_cost a.argument + 10

aggregate_most : CountLaw → (texts : List Bytes) (f : Folding) (b : Base) (x : ℕ × Aggregate) (k : ℕ) → count (groups.aggregate_of texts f b x) k ≤ aggregate_cost x.1
aggregate_most law texts f b (n, a) k =
    let value = groups.argument texts f a.argument k in
    omega (
      arith,
      count_then (groups.argument texts f a.argument) (λ v. groups.aggregated f a.kind v >>= λ x. make (codes "groups") (with_attribute b.vector (groups.aggregate_path n) x out) >>= λ vector. tell (with_aggregate vector n (groups.aggregate_path n) b)) k,
      argument_most law texts f a.argument k,
      count_then (groups.aggregated f a.kind value.told) (λ x. make (codes "groups") (with_attribute b.vector (groups.aggregate_path n) x out) >>= λ vector. tell (with_aggregate vector n (groups.aggregate_path n) b)) value.next,
      aggregated_most f a.kind value.told value.next,
    )

runs_most : (rows : Base) (columns : List ColumnRef) (k : ℕ) → count (groups.runs_of rows columns) k ≤ 1 + length columns
runs_most rows columns k =
    omega (arith, through_most (groups.run_by rows) (λ x. 1) (λ r x n. omega arith) (enumerate_from 0 columns) (numbered (codes "runs") k) (k + 1), ones_sum (enumerate_from 0 columns), length-enumerate_from 0 columns)

keyed_most : (rows : Base) (columns : List ColumnRef) (nought runs vector : Label) (k : ℕ) → count (groups.keyed rows columns nought runs vector) k ≤ 1 + (length columns + length columns)
keyed_most rows columns nought runs vector k =
    let zero = numbered (codes "nought") k in
    let loop = through (groups.key_of rows zero) (marked_alone vector) (enumerate_from 0 columns) in
    let folding : Base → Writer Folding = λ g. tell (record { rows = rows; nought = nought; runs = runs; first = None; groups = g; zero = zero }) in
    omega (
      arith,
      count_then loop folding (k + 1),
      through_most (groups.key_of rows zero) (λ x. 2) (λ r x n. omega arith) (enumerate_from 0 columns) (marked_alone vector) (k + 1),
      twos_sum (enumerate_from 0 columns),
      length-enumerate_from 0 columns,
    )

folding_most : (b : Base) (columns : List ColumnRef) (k : ℕ) → count (groups.folding b columns) k ≤ 8 + 3 * length columns
folding_most b [] k = omega arith
folding_most b (c ∷ cs) k =
    let columns = c ∷ cs in
    let rows = groups.sorted b columns k in
    let nought = groups.nought_at rows.told.vector rows.next in
    let runs = groups.runs_of rows.told columns nought.next in
    let vector = groups.run_groups rows.told runs.told runs.next in
    omega (
      arith,
      count_then (groups.runs_of rows.told columns) (groups.keyed_groups rows.told columns nought.told) nought.next,
      runs_most rows.told columns nought.next,
      count_then (groups.run_groups rows.told runs.told) (groups.keyed rows.told columns nought.told runs.told) runs.next,
      keyed_most rows.told columns nought.told runs.told vector.told vector.next,
    )

pub grouped_most : CountLaw → (texts : List Bytes) (b : Base) (columns : List ColumnRef) (aggregates : List Aggregate) (k : ℕ) → count (groups.grouped texts b columns aggregates) k ≤ 8 + 3 * length columns + sum_by aggregate_cost aggregates
grouped_most law texts b columns aggregates k =
    let f = groups.folding b columns k in
    omega (
      arith,
      count_then (groups.folding b columns) (λ x. through (groups.aggregate_of texts x) x.groups (enumerate_from 0 aggregates)) k,
      folding_most b columns k,
      through_most (groups.aggregate_of texts f.told) (λ x. aggregate_cost x.1) (aggregate_most law texts f.told) (enumerate_from 0 aggregates) f.told.groups f.next,
      numbered_sum aggregate_cost aggregates 0,
    )

-- ---- items

item_most : CountLaw → (texts : List Bytes) (b : Base) (v : Label) (x : ℕ × TypedExpr) (n : ℕ) → count (item_of texts b v x) n ≤ cost x.1
item_most law texts b v (m, e) n = omega (arith, count_then (value_of texts (codes "item") b e) (λ value. make (codes "items") (with_attribute v (item_path m) value out)) n, value_most law texts (codes "item") b e n)

pub items_most : CountLaw → (texts : List Bytes) (b : Base) (items : List TypedExpr) (k : ℕ) → count (items_of texts b items) k ≤ 1 + sum_by cost items
items_most law texts b items k =
    omega (arith, through_most (item_of texts b) (λ x. cost x.1) (item_most law texts b) (enumerate_from 1 items) (numbered (codes "items") k) (k + 1), numbered_sum cost items 1)

key_most : (b : Base) (vector keys : Label) (j : ℕ) (key : KeyRef) (n : ℕ) → count (key_of b vector keys j key) n ≤ 1
key_most b vector keys j (Item m) n = omega arith
key_most b vector keys j (Column c) n = omega arith

pub order_most : (b : Base) (vector : Label) (keys : List OrderKey) (k : ℕ) → count (in_order b vector keys) k ≤ 3 + length keys
order_most b vector keys k =
    let by = keys_of b vector keys in
    omega (
      arith,
      count_then by (λ v. make (codes "order") (op.Order v mark out (map key_by (enumerate_from 0 keys))) >>= λ order. make (codes "answer") (at_places vector order)) k,
      through_most (numbered_key b vector) (λ x. 1) (λ v x n. key_most b vector v x.0 x.1.key n) (enumerate_from 0 keys) (numbered (codes "keys") k) (k + 1),
      ones_sum (enumerate_from 0 keys),
      length-enumerate_from 0 keys,
    )
