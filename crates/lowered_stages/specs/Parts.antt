-- What each part of a plan's program does: it makes the rows or groups that it is to make, passes its check, and is used.
-- After SQL-92 (ISO/IEC 9075:1992), 7.3 <table expression> to 7.9 <query specification> and 13.1 <order by clause>.
use Rattle.std.specs.Prelude.{◌≡◌, ℕ, ◌+◌, ◌-◌, ◌≤◌, ◌<◌, ◌^◌, Bool, true, List, [], ◌∷◌, All, map, length, slice_get, Option, Some, None, Ok, ◌==◌, IsSome}
use Rattle.std.specs.Option.{ForSome}
use Rattle.control_vectors.specs.Controls.{Control}
use Rattle.control_vectors.specs.Slots.{Slot, fits_128}
use Rattle.programs.specs.Mentions.{Label}
use Rattle.programs.specs.Outlines.{Shapes, outlines}
use Rattle.programs.specs.Vectors.{Env, tables}
use Rattle.query_sizes.specs.Sizes.{nodes}
use Rattle.sql_read.specs.declared.definition.TableDef.{TableDef}
use Rattle.sql_read.specs.Forms.{IsFormed}
use Rattle.sql_types.specs.Catalog.{findings}
use Rattle.table_load.specs.Databases.{database_of}
use Rattle.table_load.specs.Values.{Table, value_at}
use Rattle.typed_trees.specs.declared.typed.Aggregate.{Aggregate}
use Rattle.typed_trees.specs.declared.typed.ColumnRef.{ColumnRef}
use Rattle.typed_trees.specs.declared.typed.KeyRef.{KeyRef}
use Rattle.typed_trees.specs.declared.typed.KeyRef.TheVariants.{Item, Column}
use Rattle.typed_trees.specs.declared.typed.OrderKey.{OrderKey}
use Rattle.typed_trees.specs.declared.typed.TypedExpr.{TypedExpr}
use Rattle.typed_trees.specs.Names.{same_column}
use Rattle.typed_trees.specs.Typed.{IsCondition}
use Rattle.typed_trees.specs.Types.{DataType, no_aggregate, aggregate_type}
use Rattle.std.specs.List.{list_any}
use Rattle.typed_values.specs.Values.{On}
use Rattle.sql_values.specs.Values.{Value, null}
use Rattle.typed_trees.specs.declared.kinds.Kind.{Kind}
use Rattle.value_laws.specs.Laws.{is_of}
use Rattle.query_answers.specs.Answers.{Row, FromRow, OutputRow, condition, on_row}
use Rattle.query_answers.specs.Answers as answers
use Rattle.query_answers.specs.Clauses.{Clauses}
use Rattle.query_answers.specs.Overs.{each}
use Rattle.query_answers.specs.Overs as overs
use Rattle.expr_steps.specs.Lowered.{Bytes}
use Rattle.expr_values.specs.Laws.{CanStand, IsLowerable, is_known}
use Rattle.program_writers.specs.Names.{IsBelow}
use Rattle.program_writers.specs.Writers.{Writer}
use Rattle.plan_programs.specs.Sites.{Base}
use Rattle.plan_programs.specs.Rows.{rows_of, kept}
use Rattle.plan_programs.specs.Groups.{grouped}
use Rattle.plan_programs.specs.Items.{items_of, item_path}
use Rattle.plan_programs.specs.Items as lowered_items
use Rattle.held_rows.specs.Held.{Holds, packed, one}
use Rattle.program_writers.specs.Statements.{mark}
use Rattle.program_writers.specs.Writers.{◌>>=◌}
use Rattle.table_load.specs.Databases.{coded}
use Rattle.programs.specs.Vectors.{Vector}
use Rattle.std.specs.List.{range_with_len}
use Rattle.writer_checks.specs.Checks.{PassesFrom, HasShape}
use Rattle.writer_runs.specs.Runs.{Makes, Delivers}
use Rattle.writer_runs.specs.Uses.{Uses}
use Rattle.lowered_stages.specs.Stages.{Stands, Covers, IsShaped}

-- ---- what an expression is, so that it has a value over a base

pub record CanValue (at : ℕ → Option DataType) (b : Base) (e : TypedExpr) : Type 0 where
  pub lowerable : IsLowerable at e
  pub covers : Covers b e
  pub few : nodes e ≤ 2176

-- and what rows are, on which it has one
abbrev pub CanValueAll : {A : Type 0} → List Bytes → (ℕ → Option DataType) → (A → On) → List A → TypedExpr → Type 0
CanValueAll texts at on rows e = All (λ a. CanStand texts at (on a) e) rows

-- the places of one base are those of another
pub record SamePlaces (b c : Base) : Type 0 where
  pub columns : c.columns ≡ b.columns
  pub aggregates : c.aggregates ≡ b.aggregates

-- ---- the rows of a table

-- a database of loaded tables, whose catalog is clean
pub record IsDatabase (defs : List TableDef) (ts : List Table) : Type 0 where
  pub clean : findings defs ≡ []
  pub formed : All IsFormed defs
  pub as_many : length ts ≡ length defs
  pub short : All (λ t. length t.rows ≤ 2 ^ 20) ts

-- a table's row by itself
abbrev pub on_table : Row → On
on_table r = record { column = λ c. value_at c.column r; aggregate = λ n. Ok null }

-- the columns that are asked for, of a source, have places
abbrev pub HasColumnsOf : ℕ → List ℕ → Base → Type 0
HasColumnsOf source columns b = All (λ k. list_any (λ p. same_column p.column (record { source = source; column = k })) b.columns ≡ true) columns

abbrev pub RowsRuns : Type 0
RowsRuns =
    (defs : List TableDef) (ts : List Table) (n source : ℕ) (def : TableDef) (t : Table) (columns : List ℕ) (k : ℕ) (env : Env)
    → IsDatabase defs ts → slice_get defs n ≡ Some def → slice_get ts n ≡ Some t → All (λ c. c < length def.columns) columns → length columns ≤ 64
    → Makes (tables (database_of defs ts).store) (rows_of def source columns) k env (λ b next after. Stands (database_of defs ts).dictionary b on_table (length t.rows) t.rows after × (IsBelow next b.vector × (HasColumnsOf source columns b × (All (λ p. p.column.source ≡ source) b.columns × (b.aggregates ≡ [])))))

abbrev pub RowsPasses : Type 0
RowsPasses =
    (defs : List TableDef) (ts : List Table) (n source : ℕ) (def : TableDef) (t : Table) (columns : List ℕ)
    → IsDatabase defs ts → slice_get defs n ≡ Some def → slice_get ts n ≡ Some t → All (λ c. c < length def.columns) columns → length columns ≤ 64
    → PassesFrom (outlines (tables (database_of defs ts).store)) (rows_of def source columns) (λ shapes. Unit {0}) (λ b shapes. IsShaped (length t.rows) b shapes)

-- what a part tells does not depend on anything but its number
abbrev pub told_at : {A : Type 0} → Writer A → ℕ → A
told_at m k = (m k).told

abbrev pub RowsUses : Type 0
RowsUses = (def : TableDef) (source : ℕ) (columns : List ℕ) (k : ℕ) → Uses ((told_at (rows_of def source columns) k).vector ∷ []) [] (rows_of def source columns k).statements

-- ---- the rows of which conditions are true

abbrev pub KeptRuns : Type 1
KeptRuns =
    (A : Type 0) (select : Control) (texts : List Bytes) (at : ℕ → Option DataType) (on : A → On) (len : ℕ) (rows : List A) (b : Base) (es : List TypedExpr) (k : ℕ) (store env : Env)
    → All (IsCondition at) es → All (CanValue at b) es → All (CanValueAll texts at on rows) es → IsBelow k b.vector → Stands texts b on len rows env
    → Delivers store (kept select texts b es) k env (overs.kept (λ a. condition es (on a)) rows) (λ left c next after. Stands texts c on len left after × (IsBelow next c.vector × SamePlaces b c))

abbrev pub KeptPasses : Type 0
KeptPasses =
    (tables : Shapes) (select : Control) (texts : List Bytes) (at : ℕ → Option DataType) (len : ℕ) (b : Base) (es : List TypedExpr) → len ≤ 2 ^ 22 → All (CanValue at b) es
    → PassesFrom tables (kept select texts b es) (IsShaped len b) (λ c shapes. IsShaped len c shapes × SamePlaces b c)

abbrev pub KeptUses : Type 0
KeptUses = (select : Control) (texts : List Bytes) (b : Base) (es : List TypedExpr) (k : ℕ) → Uses ((told_at (kept select texts b es) k).vector ∷ []) (b.vector ∷ []) (kept select texts b es k).statements

-- ---- groups

-- a group as what expressions are evaluated on
abbrev pub itself : On → On
itself on = on

-- what is grouped: group columns that have places, and arguments of aggregates
pub record CanGroup (b : Base) (columns : List ColumnRef) (aggregates : List Aggregate) : Type 0 where
  pub places : All (λ c. list_any (λ p. same_column p.column c) b.columns ≡ true) columns
  pub few : length columns ≤ 4
  pub arguments : All (λ a. ForSome a.argument (CanValue no_aggregate b)) aggregates
  pub typed : All (λ a. IsSome (aggregate_type a)) aggregates

-- a slot of 128 bits, or an empty one
abbrev pub fits_slot : Slot → Bool
fits_slot None = true
fits_slot (Some z) = fits_128 z

-- values of one kind or null, whose texts are texts of the dictionary
pub record AreAlike (texts : List Bytes) (values : List Value) : Type 0 where
  pub kind : Kind
  pub each_is : All (λ v. is_of kind v ≡ true) values
  pub known : All (λ v. is_known texts v ≡ true) values

-- at most as many rows as a table has, in whose group columns stand values of one kind and known texts, and on which arguments have values
pub record CanGroupRows (texts : List Bytes) (columns : List ColumnRef) (aggregates : List Aggregate) (rows : List FromRow) : Type 0 where
  pub columns_alike : All (λ c. AreAlike texts (map (λ r. (on_row r).column c) rows)) columns
  pub columns_fit : All (λ c. All (λ r. fits_slot (coded texts ((on_row r).column c)) ≡ true) rows) columns
  pub few : length rows ≤ 2 ^ 20
  pub arguments : All (λ a. ForSome a.argument (CanValueAll texts no_aggregate on_row rows)) aggregates

-- the groups have places for their columns and aggregates
abbrev pub GroupedPlaces : Type 0
GroupedPlaces =
    (texts : List Bytes) (b : Base) (columns : List ColumnRef) (aggregates : List Aggregate) (k : ℕ)
    → All (λ g. list_any (λ p. same_column p.column g) (told_at (grouped texts b columns aggregates) k).columns ≡ true) columns × ((n : ℕ) → n < length aggregates → list_any (λ p. p.aggregate == n) (told_at (grouped texts b columns aggregates) k).aggregates ≡ true)

-- ---- items in order

-- keys are items, or columns that have places
abbrev pub IsKeyOf : ℕ → Base → KeyRef → Type 0
IsKeyOf items b (Item n) = n < items
IsKeyOf items b (Column c) = list_any (λ p. same_column p.column c) b.columns ≡ true

abbrev pub key_alike : {A : Type 0} → List Bytes → (A → On) → List A → KeyRef → Type 0
key_alike texts on rows (Item n) = Unit {0}
key_alike texts on rows (Column c) = AreAlike texts (map (λ a. (on a).column c) rows)

-- the vector of the items in order, which the result shows
abbrev pub ordered_items : List Bytes → Base → List TypedExpr → List OrderKey → Writer Label
ordered_items texts b items keys = items_of texts b items >>= λ vector. lowered_items.in_order b vector keys

-- the answer's rows
abbrev pub answer_rows : Clauses → List OutputRow → List Row
answer_rows q outputs = map (λ o. o.items) (answers.in_order q.order outputs)

-- an attribute for each item, and the mark, and no other
pub record HoldsItems (texts : List Bytes) (items : ℕ) (rows : List Row) (v : Vector) : Type 0 where
  pub fit : length rows ≤ v.len
  pub holds : Holds v (packed v.len rows) ((mark, one) ∷ map (λ n. (item_path n, λ row. coded texts (value_at (n - 1) row))) (range_with_len 1 items))
  pub alone : length v.attributes ≡ items + 1

abbrev pub ItemsPasses : Type 0
ItemsPasses =
    (tables : Shapes) (texts : List Bytes) (at : ℕ → Option DataType) (len : ℕ) (b : Base) (items : List TypedExpr) (keys : List OrderKey) → len ≤ 2 ^ 22 → All (CanValue at b) items → length items ≤ 64 → length keys ≤ 8 → All (λ key. IsKeyOf (length items) b key.key) keys
    → PassesFrom tables (ordered_items texts b items keys) (IsShaped len b) (λ name shapes. HasShape shapes name len (mark ∷ []))

abbrev pub ItemsUses : Type 0
ItemsUses = (texts : List Bytes) (b : Base) (items : List TypedExpr) (keys : List OrderKey) (k : ℕ) → Uses (told_at (ordered_items texts b items keys) k ∷ []) (b.vector ∷ []) (ordered_items texts b items keys k).statements
