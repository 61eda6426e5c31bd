-- The items of a query for each row or group, in order: the part that makes them makes the rows of the answer, passes the check and is used, as the values that it is made of are.
-- After SQL-92 (ISO/IEC 9075:1992), 7.9 <query specification> and 13.1 <order by clause>.
use Rattle.std.specs.Prelude.{◌≡◌, ℕ, ◌+◌, ◌-◌, ◌<◌, ◌≤◌, ◌^◌, true, List, [], ◌∷◌, All, map, length, Option, is_some}
use Rattle.std.specs.List.{range_with_len}
use Rattle.std.specs.Map.{lookup}
use Rattle.std.specs.Option.{option_cmp}
use Rattle.std.specs.Ordering.{int_cmp}
use Rattle.std.specs.Str.{bytes_eq}
use Rattle.programs.specs.Mentions.{Label, has_name}
use Rattle.programs.specs.Outlines.{Shapes, outlines}
use Rattle.programs.specs.Vectors.{Vector, Env}
use Rattle.sql_values.specs.Values.{Value, by_value}
use Rattle.table_load.specs.Databases.{coded}
use Rattle.table_load.specs.Values.{value_at}
use Rattle.typed_trees.specs.declared.kinds.Kind.{Kind}
use Rattle.typed_trees.specs.declared.typed.OrderKey.{OrderKey}
use Rattle.typed_trees.specs.declared.typed.TypedExpr.{TypedExpr}
use Rattle.typed_trees.specs.Types.{DataType}
use Rattle.typed_values.specs.Values.{On}
use Rattle.value_laws.specs.Laws.{KindLaw, is_of}
use Rattle.query_answers.specs.Answers.{Row, output_row}
use Rattle.query_answers.specs.Clauses.{Clauses}
use Rattle.query_answers.specs.Overs.{each}
use Rattle.expr_steps.specs.Lowered.{Bytes}
use Rattle.expr_values.specs.Laws.{KnownLaw, is_known}
use Rattle.held_rows.specs.Held.{Holds, packed, one}
use Rattle.program_writers.specs.Names.{IsBelow}
use Rattle.program_writers.specs.Statements.{mark}
use Rattle.plan_programs.specs.Items.{item_path}
use Rattle.plan_programs.specs.Sites.{Base}
use Rattle.writer_checks.specs.Checks.{HasShape, PassesFrom}
use Rattle.writer_runs.specs.Runs.{Delivers, Sees}
use Rattle.lowered_stages.specs.Stages.{Stands, IsShaped}
use Rattle.lowered_stages.specs.Parts.{CanValue, CanValueAll, IsKeyOf, key_alike, ordered_items, answer_rows, HoldsItems, ItemsPasses, ItemsUses}
use Rattle.lowered_kept.specs.Values.{ValueRuns, ValuePasses, ValueUses}

-- values of one kind, whose texts are known, compare as their slots do
abbrev pub CodesCompare : Type 0
CodesCompare =
    (texts : List Bytes) (kind : Kind) (v w : Value) → is_of kind v ≡ true → is_of kind w ≡ true → is_known texts v ≡ true → is_known texts w ≡ true → option_cmp int_cmp (coded texts v) (coded texts w) ≡ by_value v w

-- the rows of the answer, and an attribute for each item
pub record ShowsItems (texts : List Bytes) (items : ℕ) (rows : List Row) (v : Vector) : Type 0 where
  pub fit : length rows ≤ v.len
  pub holds : Holds v (packed v.len rows) ((mark, one) ∷ map (λ n. (item_path n, λ row. coded texts (value_at (n - 1) row))) (range_with_len 1 items))

-- the part makes them; that there is no other attribute only the check tells, since a base may have more below its mark
abbrev pub ItemsMade : Type 1
ItemsMade =
    (A : Type 0) (texts : List Bytes) (at : ℕ → Option DataType) (on : A → On) (q : Clauses) (len : ℕ) (rows : List A) (b : Base) (k : ℕ) (store env : Env)
    → All (CanValue at b) q.items → All (CanValueAll texts at on rows) q.items → length q.items ≤ 64 → length q.order ≤ 8 → All (λ key. IsKeyOf (length q.items) b key.key) q.order → All (λ key. key_alike texts on rows key.key) q.order
    → IsBelow k b.vector → Stands texts b on len rows env
    → Delivers store (ordered_items texts b q.items q.order) k env (each (λ a. output_row q (on a)) rows)
    (λ outputs name next after. (v : Vector) × (Sees after name v × (ShowsItems texts (length q.items) (answer_rows q outputs) v × IsBelow next name)))

abbrev pub ItemsRun : Type 1
ItemsRun = KindLaw → KnownLaw → CodesCompare → ValueRuns → ItemsMade

-- a vector with a mark and as many attributes more as there are items
pub record IsAlone (shapes : Shapes) (name : Label) (len items : ℕ) : Type 0 where
  pub shape : HasShape shapes name len (mark ∷ [])
  pub many : length shape.outline.paths ≡ items + 1
  pub named : (k : ℕ) → k < items → has_name shape.outline.paths (item_path (k + 1)) ≡ true

-- the part passes, and makes no other attribute
abbrev pub ItemsAlone : Type 0
ItemsAlone =
    (tables : Shapes) (texts : List Bytes) (at : ℕ → Option DataType) (len : ℕ) (b : Base) (items : List TypedExpr) (keys : List OrderKey) → len ≤ 2 ^ 22 → All (CanValue at b) items → length items ≤ 64 → length keys ≤ 8 → All (λ key. IsKeyOf (length items) b key.key) keys
    → PassesFrom tables (ordered_items texts b items keys) (IsShaped len b) (λ name shapes. IsAlone shapes name len (length items))

abbrev pub ItemsPass : Type 0
ItemsPass = ValuePasses → ItemsAlone × ItemsPasses

-- so what is shown is the answer's rows and nothing else, where a check knows the vectors that a run made
abbrev pub HoldLaw : Type 0
HoldLaw =
    (texts : List Bytes) (items : ℕ) (rows : List Row) (v : Vector) (env : Env) (shapes : Shapes) (name : Label) (len : ℕ)
    → ShowsItems texts items rows v → Sees env name v → outlines env name ≡ shapes name → IsAlone shapes name len items → HoldsItems texts items rows v

-- the attributes themselves: where a vector has no place, its slots do not tell them
pub record HasItemPaths (count : ℕ) (v : Vector) : Type 0 where
  pub items : (k : ℕ) → k < count → is_some (lookup (bytes_eq (item_path (k + 1))) v.attributes) ≡ true
  pub mark_is : is_some (lookup (bytes_eq mark) v.attributes) ≡ true

abbrev pub PathLaw : Type 0
PathLaw = (items : ℕ) (v : Vector) (env : Env) (shapes : Shapes) (name : Label) (len : ℕ) → Sees env name v → outlines env name ≡ shapes name → IsAlone shapes name len items → HasItemPaths items v

abbrev pub ItemsUse : Type 0
ItemsUse = ValueUses → ItemsUses
