-- What the parts of a plan's program make, one behind another: the rows of its answer, or they are Over where it is.
use Rattle.std.proofs.Common.{◌≡◌, ℕ, ◌≤◌, Bool, true, List, [], ◌∷◌, map, length, refl, sym, ◌∙◌, subst, option_to_list, Option, Some, None, Result, Ok, Err, ◌^◌, filter, not, zero, suc, arith}
use Rattle.std.specs.List.{All, list_any}
use Rattle.std.specs.Prelude.{slice_get}
use Rattle.std.proofs.lemmas.List.{length-map}
use Rattle.std.proofs.lemmas.List.Filters.{length-filter_both}
use Rattle.sql_values.specs.Values.{Value}
use Rattle.expr_lower.specs.declared.places.ColumnPlace.{ColumnPlace}
use Rattle.typed_trees.specs.Names.{same_column}
use Rattle.control_vectors.specs.Controls.{Control}
use Rattle.control_vectors.specs.declared.Over.{Over}
use Rattle.programs.specs.Mentions.{Label}
use Rattle.programs.specs.Vectors.{Vector, Env, nothing, tables}
use Rattle.sql_read.specs.declared.definition.TableDef.{TableDef}
use Rattle.table_load.specs.Databases.{database_of}
use Rattle.table_load.specs.Values.{Table}
use Rattle.typed_trees.specs.declared.typed.PlanSource.{PlanSource}
use Rattle.typed_trees.specs.declared.typed.TypedExpr.{TypedExpr}
use Rattle.typed_trees.specs.Typed.{IsCondition, IsSource}
use Rattle.typed_trees.specs.Types.{DataType, no_aggregate}
use Rattle.std.specs.Option.{ForSome}
use Rattle.typed_values.specs.Values.{Valued}
use Rattle.query_answers.specs.Answers.{Row, FromRow, condition, meets, on_row}
use Rattle.query_answers.specs.Overs.{each}
use Rattle.query_answers.specs.Overs as overs
use Rattle.rel_plan.specs.declared.plans.RelPlan.{RelPlan}
use Rattle.expr_steps.specs.Lowered.{Bytes}
use Rattle.program_writers.specs.Names.{IsBelow}
use Rattle.writer_runs.specs.Runs.{Makes, Delivers, Sees}
use Rattle.plan_programs.specs.Sites.{Base}
use Rattle.plan_programs.specs.Rows.{kept}
use Rattle.plan_programs.specs.Lowered.{defined_rows, table_rows, from_rows}
use Rattle.lowered_stages.specs.Stages.{Stands}
use Rattle.lowered_stages.specs.Parts.{on_table, HasColumnsOf, SamePlaces, RowsRuns, KeptRuns}
use Rattle.lowered_groups.specs.Laws.{GroupsRun}
use Rattle.lowered_items.specs.Items.{ShowsItems, ItemsMade}
use Rattle.lowered_stages.specs.Plans.{CanLower}
use Rattle.lowered_premises.specs.Sources.{OverTable, texts_of, alone, met_rows, IsRowOf}
use Rattle.lowered_premises.specs.Laws.{ColumnLaw, TableLaw, RowsLaw, GroupsLaw, MemberLaws, PlacesLaw, GroupPlacesLaw, where_rows, ShapeLaws}
use Rattle.lowered_answers.proofs.Alone.{stands_alone}
use Rattle.lowered_answers.proofs.Lists.{all_none, all_more, all_head, all_tail}
use Rattle.lowered_answers.proofs.Delivering.{makes_then, delivers_same}

-- the laws of the parts, and of what they are asked over
pub record RunLaws : Type 1 where
  pub rows_run : RowsRuns
  pub kept_run : KeptRuns
  pub grouped_run : GroupsRun
  pub items_run : ItemsMade

pub record Premises : Type 0 where
  pub columns : ColumnLaw
  pub table : TableLaw
  pub rows : RowsLaw
  pub groups : GroupsLaw
  pub members : MemberLaws
  pub places : PlacesLaw
  pub group_places : GroupPlacesLaw
  pub shapes : ShapeLaws

-- one plan over its table
pub record Given : Type 0 where
  pub select : Control
  pub defs : List TableDef
  pub ts : List Table
  pub plan : RelPlan
  pub source : PlanSource
  pub def : TableDef
  pub table : Table
  pub can : CanLower defs ts plan
  pub over : OverTable defs ts plan source def table

abbrev pub texts : Given → List Bytes
texts g = texts_of g.defs g.ts

abbrev pub store : Given → Env
store g = tables (database_of g.defs g.ts).store

-- the vector that holds the rows of an answer
abbrev pub HoldsAt : List Bytes → ℕ → List Row → Label → ℕ → Env → Type 0
HoldsAt texts items rows name next after = (v : Vector) × (Sees after name v × ShowsItems texts items rows v)

-- ---- the rows of FROM

-- from-rows stand at a base, which has a place for each of the source's columns
abbrev pub RowsStand : Given → List FromRow → Base → ℕ → Env → Type 0
RowsStand g rows b next after = Stands (texts g) b on_row (length g.table.rows) rows after × (IsBelow next b.vector × HasColumnsOf 0 g.source.columns b)

abbrev TableStand : Given → Base → ℕ → Env → Type 0
TableStand g b next after = Stands (texts g) b on_table (length g.table.rows) g.table.rows after × (IsBelow next b.vector × (HasColumnsOf 0 g.source.columns b × (All (λ p. p.column.source ≡ 0) b.columns × (b.aggregates ≡ []))))

pub few_columns : (g : Given) → length g.source.columns ≤ 64
few_columns g = all_head (λ s. length s.columns ≤ 64) g.source [] (subst (All (λ s. length s.columns ≤ 64)) g.over.only g.can.few_columns)

pub table_made : RunLaws → Premises → (g : Given) → Makes (store g) (table_rows g.defs g.source.table g.source.columns) 0 nothing (TableStand g)
table_made laws h g =
    subst (λ (d : Option TableDef). Makes (store g) (defined_rows d g.source.columns) 0 nothing (TableStand g)) (sym g.over.defined)
    (laws.rows_run g.defs g.ts g.source.table 0 g.def g.table g.source.columns 0 nothing g.can.database g.over.defined g.over.stored (h.columns g.defs g.ts g.plan g.source g.def g.table g.can g.over).within (few_columns g))

-- conditions are truths
source_conditions : (g : Given) → All (IsCondition no_aggregate) g.source.filter
source_conditions g = all_head IsSource g.source [] (subst (All IsSource) g.over.only g.can.well_formed.typed.sources)

pub having_conditions : {at : ℕ → Option DataType} (having : Option TypedExpr) → ForSome having (IsCondition at) → All (IsCondition at) (option_to_list having)
having_conditions {at} None h = all_none (IsCondition at)
having_conditions {at} (Some e) h = all_more (IsCondition at) e [] (h e refl) (all_none (IsCondition at))

-- a part that keeps places
pub has_same : (source : ℕ) (columns : List ℕ) (b c : Base) → SamePlaces b c → HasColumnsOf source columns b → HasColumnsOf source columns c
has_same source columns b c s h = subst (λ (l : List ColumnPlace). All (λ k. list_any (λ p. same_column p.column (record { source = source; column = k })) l ≡ true) columns) (sym s.columns) h

-- what is kept of a table's rows, and of from-rows, of a base
abbrev TableKept : Given → Base → List Row → Base → ℕ → Env → Type 0
TableKept g b left c n after = Stands (texts g) c on_table (length g.table.rows) left after × (IsBelow n c.vector × SamePlaces b c)

abbrev RowsKept : Given → Base → List FromRow → Base → ℕ → Env → Type 0
RowsKept g b left c n after = Stands (texts g) c on_row (length g.table.rows) left after × (IsBelow n c.vector × SamePlaces b c)

-- the conditions of the source alone
source_kept : RunLaws → Premises → (g : Given) (b : Base) (next : ℕ) (between : Env) → TableStand g b next between → Delivers (store g) (kept g.select (texts g) b g.source.filter) next between (Ok (met_rows g.source g.table)) (λ rows. RowsStand g (map alone rows))
source_kept laws h g b next between (stands, (below, (places, (first, none)))) =
    let values = (h.places g.defs g.ts g.plan g.source g.def g.table b g.can g.over places).source in
    let asked = h.table g.defs g.ts g.plan g.source g.def g.table g.can g.over in
    let made = laws.kept_run Row g.select (texts g) no_aggregate on_table (length g.table.rows) g.table.rows b g.source.filter next (store g) between (source_conditions g) values asked below stands in
    let kept_so : Delivers (store g) (kept g.select (texts g) b g.source.filter) next between (Ok (met_rows g.source g.table)) (TableKept g b) =
    subst (λ (r : Result (List Row) Over). Delivers (store g) (kept g.select (texts g) b g.source.filter) next between r (TableKept g b)) (h.shapes.kept_are g.defs g.ts g.plan g.source g.def g.table g.can g.over) made in
    delivers_same (store g) (kept g.select (texts g) b g.source.filter) next between (Ok (met_rows g.source g.table)) (TableKept g b) (λ rows. RowsStand g (map alone rows)) so kept_so
  where
    so : (rows : List Row) (c : Base) (n : ℕ) (after : Env) → ◌≡◌ {A = Result (List Row) Over} (Ok (met_rows g.source g.table)) (Ok rows) → (TableKept g b) rows c n after → RowsStand g (map alone rows) c n after
    so rows c n after e (stand, (name, same)) = (
      stands_alone (texts g) c (length g.table.rows) rows after (subst (All (λ p. p.column.source ≡ 0)) (sym same.columns) first) (same.aggregates ∙ none) stand,
      (name, has_same 0 g.source.columns b c same places),
    )

pub from_made : RunLaws → Premises → (g : Given) → Makes (store g) (from_rows g.select (texts g) g.defs g.plan.sources) 0 nothing (RowsStand g (map alone (met_rows g.source g.table)))
from_made laws h g =
    subst (λ (l : List PlanSource). Makes (store g) (from_rows g.select (texts g) g.defs l) 0 nothing (RowsStand g (map alone (met_rows g.source g.table)))) (sym g.over.only)
    (makes_then (store g) (table_rows g.defs g.source.table g.source.columns) (λ b. kept g.select (texts g) b g.source.filter) 0 nothing (TableStand g) (Ok (met_rows g.source g.table)) (λ rows. RowsStand g (map alone rows)) (table_made laws h g)
    (λ b next between le stands still. source_kept laws h g b next between stands))

-- ---- WHERE

pub all_rows : Premises → (g : Given) → All (IsRowOf g.table) (map alone (met_rows g.source g.table))
all_rows h g = h.members.rows g.table g.source

-- what is left of a list is no more than the list
filter_few : {A : Type 0} (p : A → Bool) (xs : List A) → length (filter p xs) ≤ length xs
filter_few p xs = omega (arith, length-filter_both p (λ x. not (p x)) (λ x. refl) xs)

some_same : {A : Type 0} (a b : A) → Some a ≡ Some b → a ≡ b
some_same a b q = cc

ok_same : {A : Type 0} (a b : A) → ◌≡◌ {A = Result A Over} (Ok a) (Ok b) → a ≡ b
ok_same a b q = cc

-- a loaded table has at most 2^20 rows
pub few_rows : (g : Given) → length g.table.rows ≤ 2 ^ 20
few_rows g = by g.ts g.source.table g.over.stored g.can.database.short
  where
    by : (ts : List Table) (n : ℕ) → slice_get ts n ≡ Some g.table → All (λ t. length t.rows ≤ 2 ^ 20) ts → length g.table.rows ≤ 2 ^ 20
    by [] n e h = absurd cc
    by (t ∷ ts) zero e h = subst (λ (u : Table). length u.rows ≤ 2 ^ 20) (some_same t g.table e) (all_head (λ t. length t.rows ≤ 2 ^ 20) t ts h)
    by (t ∷ ts) (suc n) e h = by ts n e (all_tail (λ t. length t.rows ≤ 2 ^ 20) t ts h)

-- what is kept is no more than there was
kept_few : {A : Type 0} (c : A → Valued) (rows left : List A) → overs.kept c rows ≡ Ok left → length left ≤ length rows
kept_few c rows left e = by (each c rows) e
  where
    by : (r : Result (List Value) Over) → overs.◌>>=◌ r (λ truths. Ok (filter (λ row. overs.is_met (c row)) rows)) ≡ Ok left → length left ≤ length rows
    by (Ok truths) q = subst (λ (l : List _). length l ≤ length rows) (ok_same (filter (λ row. overs.is_met (c row)) rows) left q) (filter_few (λ row. overs.is_met (c row)) rows)
    by (Err o) q = absurd cc

pub met_few : (g : Given) → length (map alone (met_rows g.source g.table)) ≤ 2 ^ 20
met_few g = omega (arith, length-map (met_rows g.source g.table) alone, filter_few (meets g.source.filter) g.table.rows, few_rows g)

pub where_few : (g : Given) (rows : List FromRow) → where_rows g.plan g.source g.table ≡ Ok rows → length rows ≤ 2 ^ 20
where_few g rows e = omega (arith, kept_few (λ row. condition g.plan.filter (on_row row)) (map alone (met_rows g.source g.table)) rows e, met_few g)

pub where_members : Premises → (g : Given) (rows : List FromRow) → where_rows g.plan g.source g.table ≡ Ok rows → All (IsRowOf g.table) rows
where_members h g rows e = h.members.kept_rows g.table (λ row. condition g.plan.filter (on_row row)) (map alone (met_rows g.source g.table)) rows e (all_rows h g)

pub where_made : RunLaws → Premises → (g : Given) (b : Base) (next : ℕ) (between : Env) → RowsStand g (map alone (met_rows g.source g.table)) b next between → Delivers (store g) (kept g.select (texts g) b g.plan.filter) next between (where_rows g.plan g.source g.table) (RowsStand g)
where_made laws h g b next between (stands, (below, places)) =
    let rows = map alone (met_rows g.source g.table) in
    let values = (h.places g.defs g.ts g.plan g.source g.def g.table b g.can g.over places).filter in
    let asked = (h.rows g.defs g.ts g.plan g.source g.def g.table rows g.can g.over (all_rows h g) (met_few g)).filter in
    delivers_same (store g) (kept g.select (texts g) b g.plan.filter) next between (where_rows g.plan g.source g.table) (RowsKept g b) (RowsStand g) so
    (laws.kept_run FromRow g.select (texts g) no_aggregate on_row (length g.table.rows) rows b g.plan.filter next (store g) between g.can.well_formed.typed.filter values asked below stands)
  where
    so : (left : List FromRow) (c : Base) (n : ℕ) (after : Env) → where_rows g.plan g.source g.table ≡ Ok left → (RowsKept g b) left c n after → RowsStand g left c n after
    so left c n after e (stand, (name, same)) = (stand, (name, has_same 0 g.source.columns b c same places))
