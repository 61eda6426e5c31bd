-- A plan's program obeys its control plan.
use Rattle.std.proofs.Common.{◌≡◌, ℕ, suc, ◌<◌, ◌≤◌, ◌==◌, Bool, true, false, not, ◌||◌, List, [], ◌∷◌, ◌++◌, map, length, refl, sym, ap, ◌∙◌, subst, arith, append_assoc, codes, Option, Some}
use Rattle.std.specs.Prelude.{All, filter, option_map, slice_get}
use Rattle.std.proofs.lemmas.Bool.{and_from, or_right, false≢true}
use Rattle.std.proofs.lemmas.Bool.Decides.{nat_tests}
use Rattle.std.specs.List.{list_any, list_all}
use Rattle.std.proofs.lemmas.List.Elements.{All-nil, All-cons, All-head, All-map, All-append}
use Rattle.control_plan.specs.Plans.{PlanValue}
use Rattle.control_plan.specs.declared.choices.Grouping.TheVariants.{Sort}
use Rattle.control_vectors.specs.Controls.{Control}
use Rattle.programs.specs.declared.op.Statement.{Statement}
use Rattle.programs.specs.Families.{family}
use Rattle.programs.specs.Mentions.{Label}
use Rattle.programs.specs.Outlines.{Outline, Shapes, outline_of, outlines}
use Rattle.programs.specs.Vectors.{tables, nothing}
use Rattle.sql_read.specs.declared.definition.TableDef.{TableDef}
use Rattle.table_load.specs.Databases.{database_of}
use Rattle.table_load.specs.Values.{Table}
use Rattle.typed_trees.specs.declared.typed.Aggregate.{Aggregate}
use Rattle.typed_trees.specs.declared.typed.ColumnRef.{ColumnRef}
use Rattle.typed_trees.specs.declared.typed.PlanSource.{PlanSource}
use Rattle.expr_steps.specs.Lowered.{Bytes}
use Rattle.rel_plan.specs.declared.plans.RelPlan.{RelPlan}
use Rattle.program_writers.specs.Names.{IsBelow}
use Rattle.plan_programs.specs.Groups.{grouped}
use Rattle.plan_programs.specs.Lowered.{stands_on, lowered}
use Rattle.plan_programs.specs.Rows.{rows_of}
use Rattle.plan_programs.specs.Sites.{Base}
use Rattle.lowered_rows.proofs.Runs.{rows_runs}
use Rattle.lowered_rows.proofs.Shapes.{table_outline}
use Rattle.lowered_rows.proofs.Stores.{table_is}
use Rattle.lowered_stages.specs.Plans.{CanLower}
use Rattle.lowered_premises.specs.Laws.{SourceLaw, ColumnLaw, PlacesLaw, HasItsColumns}
use Rattle.lowered_premises.specs.Sources.{OverTable, texts_of}
use Rattle.attribute_origins.specs.Traces.{Origin, Traces, no_traces}
use Rattle.attribute_origins.specs.Origins.{traces_from}
use Rattle.plan_obeyed.specs.Columns.{loaded_at, choices}
use Rattle.plan_obeyed.specs.Groups.{each_behind, are_sorted}
use Rattle.plan_obeyed.specs.Runs.{fold_by, is_one}
use Rattle.plan_obeyed.specs.Queries.{QueryParts, has_some, name_of, group_of, parts_of}
use Rattle.plan_obeyed.specs.Obeyed.{Reading, selects_in_runs, passes_levels, aggregates_pass, laid_out_by, brought_by, obeys_as, obeys, ObeysPlan}
use Rattle.plan_obeyed.specs.Obeyed as obeyed
use Rattle.lowered_obeys.specs.Laws.{IsPlain, ObeyLaw}
use Rattle.writer_runs.proofs.Names.{is_below}
use Rattle.lowered_obeys.proofs.Leaving.{Leaves, less_leaves, tell_leaves, Each}
use Rattle.lowered_obeys.proofs.Calm.{folds_over, Calm, Settled}
use Rattle.lowered_obeys.proofs.Standing.{HasPlace, StandsIn}
use Rattle.lowered_obeys.proofs.Rows.{loaded, rows_leave}
use Rattle.lowered_obeys.proofs.Aggregates.{Anything}
use Rattle.lowered_obeys.proofs.Folding.{finds}
use Rattle.lowered_obeys.proofs.Sorting.{BeginsSorted}
use Rattle.lowered_obeys.proofs.Grouped.{Folded, Groups, by_columns_leave, as_one_leaves, fold_none}
use Rattle.lowered_obeys.proofs.Whole.{HasBehind, Lies, grouped_leaves, all_leaves}
use Rattle.lowered_obeys.proofs.Brought.{brought_law}
use Rattle.lowered_obeys.proofs.Obeying.{Fine, settled_fine, brought_fine, reading, selects_law, folds_law, chains_law, found_law}
use Rattle.lowered_obeys.proofs.Columns.{columns_named_so, groups_at}
use Rattle.lowered_obeys.proofs.Program.{over_table, lowered_is, table_name, first_choice, where_selects}

-- ---- the points together

-- a plan without a layout and without levels, by sorting
pub points : (plan : PlanValue) → IsPlain plan → (store : _) (q : QueryParts) (r : Reading) (loads : List Label) → selects_in_runs r q plan.select ≡ true → aggregates_pass r q [] q.aggregates ≡ true → brought_by r store loads q.groups Sort ≡ true → obeys_as store q plan r loads ≡ true
points plan plain store q r loads a b c =
    let passes : aggregates_pass r q plan.levels q.aggregates ≡ true = ap (λ (ls : List Control). aggregates_pass r q ls q.aggregates) plain.levels ∙ b in
    let laid : laid_out_by r plan.levels plan.layout q.aggregates ≡ true = ap (λ (x : Option Control). laid_out_by r plan.levels x q.aggregates) plain.layout in
    let brought : brought_by r store loads q.groups plan.group ≡ true = ap (brought_by r store loads q.groups) plain.group ∙ c in
    rw (a, passes, laid, brought) refl

-- ---- the statements of the three kinds of queries

-- nothing
abbrev IsNone : Traces → List Statement → Type 0
IsNone final l = l ≡ []

none_fine : (select : Control) (groups : List Origin) (final : Traces) (l : List Statement) → Lies select groups IsNone final l → All (Fine select groups final) l
none_fine select groups final l h =
    let F = Fine select groups final in
    subst (All F) (sym (h.is ∙ ap (λ (m : List Statement). h.before ++ (m ++ h.behind)) h.mid))
    (All-append F h.before h.behind (settled_fine select groups final h.before (λ i d less. (h.calm i d less).settled)) (settled_fine select groups final h.behind h.settled))

folded_fine : (select : Control) (groups : List Origin) (aggregates : List Aggregate) (final : Traces) (l : List Statement) → Lies select groups (Folded select groups aggregates) final l → All (Fine select groups final) l
folded_fine select groups aggregates final l h =
    let F = Fine select groups final in
    subst (All F) (sym h.is)
    (All-append F h.before (h.middle ++ h.behind) (settled_fine select groups final h.before (λ i d less. (h.calm i d less).settled))
    (All-append F h.middle h.behind (brought_fine select groups final h.middle h.mid.each) (settled_fine select groups final h.behind h.settled)))

-- groups by columns: the order, and what stands behind it
abbrev IsSorted : Control → List Origin → List Aggregate → Traces → List Statement → Type 0
IsSorted select groups aggregates = BeginsSorted select groups (Groups select groups aggregates)

sorted_is : (select : Control) (groups : List Origin) (aggregates : List Aggregate) (final : Traces) (l : List Statement) (h : Lies select groups (IsSorted select groups aggregates) final l) → l ≡ h.before ++ ((h.mid.order ∷ h.mid.rest) ++ h.behind)
sorted_is select groups aggregates final l h = h.is ∙ ap (λ (m : List Statement). h.before ++ (m ++ h.behind)) h.mid.is

sorted_fine : (select : Control) (groups : List Origin) (aggregates : List Aggregate) (final : Traces) (l : List Statement) → Lies select groups (IsSorted select groups aggregates) final l → All (Fine select groups final) l
sorted_fine select groups aggregates final l h =
    let F = Fine select groups final in
    let order = h.mid.order in
    subst (All F) (sym (sorted_is select groups aggregates final l h))
    (All-append F h.before ((order ∷ h.mid.rest) ++ h.behind) (settled_fine select groups final h.before (λ i d less. (h.calm i d less).settled))
    (All-append F (order ∷ h.mid.rest) h.behind
    (All-append F (order ∷ []) h.mid.rest (settled_fine select groups final (order ∷ []) (All-cons (Settled select groups final) order [] h.mid.sorts.settled (All-nil (Settled select groups final)))) (brought_fine select groups final h.mid.rest h.mid.behind.folded.each))
    (settled_fine select groups final h.behind h.settled)))

order_before : (l a b c : List Statement) (order : Statement) → l ≡ a ++ ((order ∷ b) ++ c) → l ≡ (a ++ order ∷ []) ++ (b ++ c)
order_before l a b c order is = is ∙ sym (append_assoc a (order ∷ []) (b ++ c))

-- whether there is a group column or an aggregate
abbrev has_groups : List ColumnRef → List Aggregate → Bool
has_groups columns aggregates = not (length columns == 0) || not (length aggregates == 0)

not_zero : (n : ℕ) → (suc n == 0) ≡ false
not_zero n = grind (arith, nat_tests)

some_columns : (c : ColumnRef) (cs : List ColumnRef) (xs : List Aggregate) → has_groups (c ∷ cs) xs ≡ true
some_columns c cs xs = ap (λ (b : Bool). not b || not (length xs == 0)) (not_zero (length cs))

some_aggregates : (a : Aggregate) (rest : List Aggregate) → has_groups [] (a ∷ rest) ≡ true
some_aggregates a rest = ap not (not_zero (length rest))

-- ---- one plan over its table

pub record Given : Type 0 where
  pub plan : PlanValue
  pub defs : List TableDef
  pub ts : List Table
  pub p : RelPlan
  pub source : PlanSource
  pub def : TableDef
  pub table : Table
  pub plain : IsPlain plan
  pub can : CanLower defs ts p
  pub over : OverTable defs ts p source def table
  pub its : HasItsColumns p source def
  pub places : All (HasPlace (rows_of def 0 source.columns 0).told) p.groups
  pub few : length p.groups ≤ 4

module _ (g : Given) where
  abbrev store : Shapes
  store = outlines (tables (database_of g.defs g.ts).store)

  abbrev texts : List Bytes
  texts = texts_of g.defs g.ts

  abbrev outline : Outline
  outline = table_outline (database_of g.defs g.ts).dictionary g.def g.table

  abbrev place : ColumnRef → Origin
  place = loaded 0 g.def table_name outline

  abbrev parts : QueryParts
  parts = parts_of g.defs g.p

  abbrev columns : List Origin
  columns = map (loaded_at (table_name ∷ [])) (map (group_of g.defs g.p.sources) g.p.groups)

  columns_are : columns ≡ map place g.p.groups
  columns_are = groups_at g.defs g.ts g.p g.source g.def g.table g.can g.over g.its table_name

  columns_below : All (λ o. IsBelow 1 o.vector) columns
  columns_below = subst (All (λ (o : Origin). IsBelow 1 o.vector)) (sym columns_are) (All-map (λ (o : Origin). IsBelow 1 o.vector) place g.p.groups (λ i d less. is_below (codes "table") 0 refl))

  abbrev program : List Statement
  program = (over_table g.plan.select texts g.p g.source (Some g.def) 0).statements

  abbrev final : Traces
  final = traces_from store program no_traces

  few_columns : length g.source.columns ≤ 64
  few_columns = All-head (λ (s : PlanSource). length s.columns ≤ 64) g.source [] (subst (All (λ (s : PlanSource). length s.columns ≤ 64)) g.over.only g.can.few_columns)

  rows_stand : Leaves store (rows_of g.def 0 g.source.columns) 0 no_traces (λ b next after. (1 ≤ next) × StandsIn 1 place b next after) (Each (Calm g.plan.select columns))
  rows_stand = rows_leave store g.plan.select columns 0 g.def outline g.source.columns 0 no_traces (ap (option_map outline_of) (table_is g.defs g.ts g.source.table g.def g.table g.can.database.clean g.over.defined g.over.stored)) few_columns (columns_named_so g.defs g.ts g.p g.source g.def g.table g.can g.over g.its)

  -- the whole, by the statements of its groups
  lies : (M : Traces → List Statement → Type 0) → ((c : Base) (l : ℕ) (after : Traces) → 1 ≤ l → All (HasPlace c) g.p.groups → StandsIn 1 place c l after → Leaves store (stands_on g.plan.select texts g.p g.p.grouped c) l after Anything (HasBehind g.plan.select columns M)) → Lies g.plan.select columns M final program
  lies M each =
      let rows = rows_of g.def 0 g.source.columns in
      let stand = less_leaves store rows 0 no_traces (λ b next after. (1 ≤ next) × StandsIn 1 place b next after) (λ b next after. StandsIn 1 place b next after) (Each (Calm g.plan.select columns)) (Each (Calm g.plan.select columns)) (λ b next after le same h. h.1) (λ final l x. x) rows_stand in
      (all_leaves store g.plan.select columns 1 place texts g.p g.source.filter rows 0 no_traces M columns_below rows_stand.holds.0 g.places stand each).stands final (λ n below. refl)

  -- ---- conditions

  where_is : parts.has_where ≡ true → (has_some g.p.filter || (has_some g.source.filter || false)) ≡ true
  where_is e = ap (λ (ss : List PlanSource). has_some g.p.filter || list_any (λ s. has_some s.filter) ss) (sym g.over.only) ∙ e

  selects : All (Fine g.plan.select columns final) program → selects_in_runs (reading program final columns) parts g.plan.select ≡ true
  selects fine = selects_law g.plan.select columns final program parts fine (λ e. where_selects g.plan.select texts g.p g.source g.def (where_is e))

  -- ---- aggregates

  chains : (a b c : List Statement) → program ≡ a ++ (b ++ c) → Folded g.plan.select columns g.p.aggregates final b → list_all (passes_levels (reading program final columns) []) (map (λ x. x.kind) g.p.aggregates) ≡ true
  chains a b c is folded = subst (λ (l : List Statement). list_all (passes_levels (reading l final columns) []) (map (λ x. x.kind) g.p.aggregates) ≡ true) (sym is) (chains_law columns final a b c g.p.aggregates folded.chains)

  aggregates_pass_so : (a : Aggregate) (rest : List Aggregate) → g.p.aggregates ≡ a ∷ rest → list_all (passes_levels (reading program final columns) []) (map (λ x. x.kind) g.p.aggregates) ≡ true → All (Fine g.plan.select columns final) program → aggregates_pass (reading program final columns) parts [] parts.aggregates ≡ true
  aggregates_pass_so a rest some pass fine =
      ap (λ (xs : List Aggregate). aggregates_pass (reading program final columns) parts [] (map (λ x. x.kind) xs)) some
      ∙ and_from (list_all (passes_levels (reading program final columns) []) (map (λ x. x.kind) (a ∷ rest))) _ (sym (ap (λ (xs : List Aggregate). list_all (passes_levels (reading program final columns) []) (map (λ x. x.kind) xs)) some) ∙ pass) (folds_law g.plan.select columns final program fine)

  -- ---- without groups

  plain_obeys : g.p.grouped ≡ false → g.p.groups ≡ [] → g.p.aggregates ≡ [] → obeys_as (tables (database_of g.defs g.ts).store) parts g.plan (reading program final columns) (table_name ∷ []) ≡ true
  plain_obeys e none empty =
      let l = lies IsNone (λ c l after above can s. subst (λ (b : Bool). Leaves store (stands_on g.plan.select texts g.p b c) l after Anything (HasBehind g.plan.select columns IsNone)) (sym e) (tell_leaves store c l after Anything (HasBehind g.plan.select columns IsNone) tt (λ final. record { middle = []; behind = []; is = refl; mid = refl; calm = All-nil (Calm g.plan.select columns final) }))) in
      let fine = none_fine g.plan.select columns final program l in
      points g.plan g.plain (tables (database_of g.defs g.ts).store) parts (reading program final columns) (table_name ∷ []) (selects fine)
      (ap (λ (xs : List Aggregate). aggregates_pass (reading program final columns) parts [] (map (λ a. a.kind) xs)) empty ∙ ungrouped e)
      (ap (λ (cs : List ColumnRef). brought_by (reading program final columns) (tables (database_of g.defs g.ts).store) (table_name ∷ []) (map (group_of g.defs g.p.sources) cs) Sort) none)
    where
      ungrouped : g.p.grouped ≡ false → aggregates_pass (reading program final columns) parts [] [] ≡ true
      ungrouped e = rw e refl

  -- ---- as one group

  one_obeys : (a : Aggregate) (rest : List Aggregate) → g.p.grouped ≡ true → g.p.groups ≡ [] → g.p.aggregates ≡ a ∷ rest → obeys_as (tables (database_of g.defs g.ts).store) parts g.plan (reading program final columns) (table_name ∷ []) ≡ true
  one_obeys a rest e none some =
      let M = Folded g.plan.select columns g.p.aggregates in
      let nothing : columns ≡ [] = columns_are ∙ ap (map place) none in
      let l = lies M (λ c l after above can s.
      subst (λ (b : Bool). Leaves store (stands_on g.plan.select texts g.p b c) l after Anything (HasBehind g.plan.select columns M)) (sym e)
      (grouped_leaves store g.plan.select columns 1 place texts g.p c l after M above columns_below
      (subst (λ (cs : List ColumnRef). Leaves store (grouped texts c cs g.p.aggregates) l after Anything M) (sym none)
      (subst (λ (os : List Origin). Leaves store (grouped texts c [] g.p.aggregates) l after Anything (Folded g.plan.select os g.p.aggregates)) (sym nothing) (as_one_leaves store g.plan.select 1 place texts c g.p.aggregates l after s))))) in
      let fine = folded_fine g.plan.select columns g.p.aggregates final program l in
      points g.plan g.plain (tables (database_of g.defs g.ts).store) parts (reading program final columns) (table_name ∷ []) (selects fine)
      (aggregates_pass_so a rest some (chains l.before l.middle l.behind l.is l.mid) fine)
      (ap (λ (cs : List ColumnRef). brought_by (reading program final columns) (tables (database_of g.defs g.ts).store) (table_name ∷ []) (map (group_of g.defs g.p.sources) cs) Sort) none)

  -- ---- by columns

  sorted_obeys : (c : ColumnRef) (cs : List ColumnRef) → g.p.grouped ≡ true → g.p.groups ≡ c ∷ cs → obeys_as (tables (database_of g.defs g.ts).store) parts g.plan (reading program final columns) (table_name ∷ []) ≡ true
  sorted_obeys c cs e some =
      let select = g.plan.select in
      let M = IsSorted select columns g.p.aggregates in
      let are : columns ≡ map place (c ∷ cs) = columns_are ∙ ap (map place) some in
      let there : 0 < length columns = let n = ap length are in omega (arith, n) in
      let l = lies M (λ b l after above can s.
      subst (λ (t : Bool). Leaves store (stands_on select texts g.p t b) l after Anything (HasBehind select columns M)) (sym e)
      (grouped_leaves store select columns 1 place texts g.p b l after M above columns_below
      (subst (λ (ds : List ColumnRef). Leaves store (grouped texts b ds g.p.aggregates) l after Anything M) (sym some)
      (by_columns_leave store select columns 1 place texts b c cs g.p.aggregates l after above columns_below are (subst (λ (ds : List ColumnRef). length ds ≤ 4) some g.few) (subst (All (HasPlace b)) some can) s)))) in
      let fine = sorted_fine select columns g.p.aggregates final program l in
      let is = sorted_is select columns g.p.aggregates final program l in
      let begins = l.mid in
      let apart : program ≡ (l.before ++ begins.order ∷ []) ++ (begins.rest ++ l.behind) = order_before program l.before begins.rest l.behind begins.order is in
      let none : finds final columns begins.order ≡ false = fold_none final columns (fold_by final (family begins.order.op)) (begins.sorts.settled.groupless there) in
      let found : length g.p.aggregates ≡ 0 → is_one (finds final columns) (filter (finds final columns) program) ≡ true = λ n.
      ap (λ (x : List Statement). is_one (finds final columns) (filter (finds final columns) x)) is ∙ found_law select columns final l.before begins.rest l.behind begins.order there l.calm none l.settled (begins.behind.found n) in
      let sorted : each_behind (λ s. folds_over final columns (family s.op)) (are_sorted final columns) program ≡ true =
      ap (each_behind (λ s. folds_over final columns (family s.op)) (are_sorted final columns)) is ∙ brought_law select columns final there l.before begins.order begins.rest l.behind l.calm begins.sorts begins.behind.folded.each l.settled in
      points g.plan g.plain (tables (database_of g.defs g.ts).store) parts (reading program final columns) (table_name ∷ []) (selects fine)
      (by g.p.aggregates refl (chains (l.before ++ begins.order ∷ []) begins.rest l.behind apart begins.behind.folded) fine found)
      (ap (λ (ds : List ColumnRef). brought_by (reading program final columns) (tables (database_of g.defs g.ts).store) (table_name ∷ []) (map (group_of g.defs g.p.sources) ds) Sort) some ∙ sorted)
    where
      by : (xs : List Aggregate) → g.p.aggregates ≡ xs → list_all (passes_levels (reading program final columns) []) (map (λ x. x.kind) g.p.aggregates) ≡ true → All (Fine g.plan.select columns final) program
          → (length g.p.aggregates ≡ 0 → is_one (finds final columns) (filter (finds final columns) program) ≡ true) → aggregates_pass (reading program final columns) parts [] parts.aggregates ≡ true
      by (a ∷ rest) same pass fine found = aggregates_pass_so a rest same pass fine
      by [] same pass fine found = ap (λ (xs : List Aggregate). aggregates_pass (reading program final columns) parts [] (map (λ a. a.kind) xs)) same ∙ or_right (not g.p.grouped) (is_one (finds final columns) (filter (finds final columns) program)) (found (ap length same))

  -- ---- each of them

  obeys_so : obeys_as (tables (database_of g.defs g.ts).store) parts g.plan (reading program final columns) (table_name ∷ []) ≡ true
  obeys_so = by g.p.grouped refl g.p.groups refl g.p.aggregates refl
    where
      by : (t : Bool) → g.p.grouped ≡ t → (cs : List ColumnRef) → g.p.groups ≡ cs → (xs : List Aggregate) → g.p.aggregates ≡ xs → obeys_as (tables (database_of g.defs g.ts).store) parts g.plan (reading program final columns) (table_name ∷ []) ≡ true
      by true e (c ∷ cs) some xs same = sorted_obeys c cs e some
      by true e [] none (a ∷ rest) same = one_obeys a rest e none same
      by true e [] none [] same = absurd (false≢true (sym (ap (λ (ds : List ColumnRef). has_groups ds g.p.aggregates) none ∙ ap (has_groups []) same) ∙ sym g.can.well_formed.grouped ∙ e))
      by false e [] none [] same = plain_obeys e none same
      by false e (c ∷ cs) some xs same = absurd (false≢true (sym e ∙ g.can.well_formed.grouped ∙ ap (λ (ds : List ColumnRef). has_groups ds g.p.aggregates) some ∙ some_columns c cs g.p.aggregates))
      by false e [] none (a ∷ rest) same = absurd (false≢true (sym e ∙ g.can.well_formed.grouped ∙ ap (λ (ds : List ColumnRef). has_groups ds g.p.aggregates) none ∙ ap (has_groups []) same ∙ some_aggregates a rest))

  -- the table of FROM
  tables_are : parts.tables ≡ g.def.name ∷ []
  tables_are = ap (map (λ (s : PlanSource). name_of (slice_get g.defs s.table))) g.over.only ∙ ap (λ (d : Option TableDef). name_of d ∷ []) g.over.defined

  pub obeys_plan : ObeysPlan (tables (database_of g.defs g.ts).store) g.defs g.p g.plan (lowered g.plan.select (database_of g.defs g.ts) g.p)
  obeys_plan =
      let data_of = tables (database_of g.defs g.ts).store in
      let test : List Label → Bool = λ loads. obeys_as data_of parts g.plan (obeyed.reading data_of parts program loads) loads in
      ap (obeys data_of parts g.plan) (lowered_is g.plan.select g.defs g.ts g.p g.source g.def g.table g.over)
      ∙ ap (λ (names : List Label). list_any test (choices program names)) tables_are
      ∙ first_choice g.plan.select texts g.p g.source g.def test obeys_so

-- ---- the law

pub obey_law : SourceLaw → ColumnLaw → PlacesLaw → ObeyLaw
obey_law source column places plan defs ts p plain can =
    let x = source defs ts p can in
    let its = column defs ts p x.0 x.1 x.2 can x.3 in
    let few = All-head (λ (s : PlanSource). length s.columns ≤ 64) x.0 [] (subst (All (λ (s : PlanSource). length s.columns ≤ 64)) x.3.only can.few_columns) in
    let made = rows_runs defs ts x.0.table 0 x.1 x.2 x.0.columns 0 nothing can.database x.3.defined x.3.stored its.within few in
    let values = places defs ts p x.0 x.1 x.2 (rows_of x.1 0 x.0.columns 0).told can x.3 made.holds.1.1.0 in
    obeys_plan (record { plan = plan; defs = defs; ts = ts; p = p; source = x.0; def = x.1; table = x.2; plain = plain; can = can; over = x.3; its = its; places = values.grouping.places; few = values.grouping.few })
