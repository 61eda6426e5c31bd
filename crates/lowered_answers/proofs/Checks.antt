-- A plan's program passes its check, and makes no vector of more than 2^22 places: its parts one behind another, and the result at its end.
use Rattle.std.proofs.lemmas.Bool.{le-ltb}
use Rattle.std.proofs.Common.{◌≡◌, ℕ, ◌≤◌, ◌^◌, Bool, true, false, ◌||◌, List, [], ◌∷◌, ◌++◌, length, refl, sym, ap, ◌∙◌, subst, option_to_list, if◌then◌else◌, Option, None, Ok, Err, ◌==◌, arith}
use Rattle.std.specs.Prelude.{codes}
use Rattle.std.specs.List.{All, list_any}
use Rattle.lowered_answers.proofs.Lists.{all_none, all_more, all_head, all_tail}
use Rattle.programs.specs.declared.op.Op.TheVariants as op
use Rattle.programs.specs.declared.op.Statement.{Statement}
use Rattle.programs.specs.Check.{Known, Checked, then_check, check_from, check, at_start, names_result, shape_of, limit_of, fault, with_result as known_with}
use Rattle.programs.specs.declared.op.ProgramKind.TheVariants.{TooManyStatements}
use Rattle.programs.specs.Mentions.{Label, is_persist}
use Rattle.programs.specs.Outlines.{Outline, Shapes, no_outline, outlines}
use Rattle.programs.specs.Vectors.{tables}
use Rattle.programs.proofs.CheckLemmas.{check_from-append}
use Rattle.sql_read.specs.declared.definition.TableDef.{TableDef}
use Rattle.table_load.specs.Databases.{database_of}
use Rattle.typed_trees.specs.declared.typed.PlanSource.{PlanSource}
use Rattle.typed_trees.specs.declared.typed.TypedExpr.{TypedExpr}
use Rattle.typed_trees.specs.Names.{same_column}
use Rattle.typed_trees.specs.Types.{no_aggregate, types_of}
use Rattle.expr_lower.specs.declared.places.ColumnPlace.{ColumnPlace}
use Rattle.expr_lower.specs.declared.places.AggregatePlace.{AggregatePlace}
use Rattle.plan_laws.specs.PlanAnswers.{clauses_of_plan}
use Rattle.lowered_group_checks.specs.Laws.{GroupsPass}
use Rattle.lowered_premises.specs.Laws.{HaveValues}
use Rattle.program_writers.specs.Statements.{mark}
use Rattle.program_writers.specs.Writers.{Writer, statement}
use Rattle.writer_checks.specs.Checks.{AreSmall, IsFresh, Passes}
use Rattle.writer_checks.proofs.Composing.{tell_passes, behind_passes}
use Rattle.writer_checks.proofs.Going.{shown, weaker}
use Rattle.writer_runs.specs.Laws.{with_result}
use Rattle.plan_programs.specs.Sites.{Base}
use Rattle.plan_programs.specs.Rows.{kept}
use Rattle.plan_programs.specs.Groups.{grouped}
use Rattle.plan_programs.specs.Lowered.{defined_rows, table_rows, from_rows, stands_on}
use Rattle.lowered_stages.specs.Stages.{IsShaped}
use Rattle.lowered_stages.specs.Parts.{CanValue, RowsPasses, KeptPasses, GroupedPlaces, HasColumnsOf, IsKeyOf, SamePlaces}
use Rattle.lowered_items.specs.Items.{IsAlone, ItemsAlone}
use Rattle.lowered_premises.specs.Sources.{HasGroupPlaces}
use Rattle.lowered_answers.proofs.Bodies.{items_on, behind_where, behind_rows, body}
use Rattle.lowered_answers.proofs.Outlined.{no_limit}
use Rattle.lowered_answers.proofs.Runs.{RunLaws, Given, Premises, texts, few_columns, few_rows, has_same, table_made}

pub record PassLaws : Type 0 where
  pub rows_pass : RowsPasses
  pub kept_pass : KeptPasses
  pub grouped_pass : GroupsPass
  pub items_pass : ItemsAlone

abbrev pub PlacesLaws : Type 0
PlacesLaws = GroupedPlaces

abbrev stored : Given → Shapes
stored g = outlines (tables (database_of g.defs g.ts).store)

-- what a part tells is what it tells
told_passes : {A : Type 0} (tables : Shapes) (m : Writer A) (k : ℕ) (known : Known) (P : A → Shapes → Type 0) → Passes tables m k known P → Passes tables m k known (λ a shapes. P a shapes × (a ≡ (m k).told))
told_passes tables m k known P g = record { after = g.after; passes = g.passes; holds = (g.holds, refl); fresh = g.fresh; kept = g.kept; results = g.results; small = g.small; ascends = g.ascends }

-- groups keep their places
still_places : (g : Given) (c d : Base) → SamePlaces c d → HasGroupPlaces (clauses_of_plan g.plan) c → HasGroupPlaces (clauses_of_plan g.plan) d
still_places g c d s p = record {
  columns = subst (λ (l : List ColumnPlace). All (λ u. list_any (λ p. same_column p.column u) l ≡ true) g.plan.groups) (sym s.columns) p.columns;
  aggregates = λ n less. ap (λ (l : List AggregatePlace). list_any (λ p. p.aggregate == n) l) s.aggregates ∙ p.aggregates n less;
}

-- ---- the rows of FROM

table_few : (g : Given) → length g.table.rows ≤ 2 ^ 22
table_few g = omega (arith, few_rows g)

nothing_known : IsFresh 0 at_start.vectors
nothing_known name some = absurd (some refl)

abbrev pub RowsShaped : Given → Base → Shapes → Type 0
RowsShaped g b shapes = IsShaped (length g.table.rows) b shapes × HasColumnsOf 0 g.source.columns b

table_passes : RunLaws → Premises → PassLaws → (g : Given) → Passes (stored g) (table_rows g.defs g.source.table g.source.columns) 0 at_start (RowsShaped g)
table_passes runs h laws g =
    weaker (stored g) (table_rows g.defs g.source.table g.source.columns) 0 at_start (λ b shapes. IsShaped (length g.table.rows) b shapes × (b ≡ (table_rows g.defs g.source.table g.source.columns 0).told)) (RowsShaped g)
    (λ b shapes still t. (t.0, subst (HasColumnsOf 0 g.source.columns) (sym t.1) (table_made runs h g).holds.1.1.0))
    (told_passes (stored g) (table_rows g.defs g.source.table g.source.columns) 0 at_start (λ b shapes. IsShaped (length g.table.rows) b shapes)
    (subst (λ (d : Option TableDef). Passes (stored g) (defined_rows d g.source.columns) 0 at_start (λ b shapes. IsShaped (length g.table.rows) b shapes)) (sym g.over.defined)
    (laws.rows_pass g.defs g.ts g.source.table 0 g.def g.table g.source.columns g.can.database g.over.defined g.over.stored (h.columns g.defs g.ts g.plan g.source g.def g.table g.can g.over).within (few_columns g) 0 at_start nothing_known (record {}))))

-- rows that are kept have the same places
pub kept_passes : Premises → PassLaws → (g : Given) (b : Base) (es : List TypedExpr) (k : ℕ) (known : Known) → IsFresh k known.vectors → All (CanValue no_aggregate b) es → RowsShaped g b known.vectors → Passes (stored g) (kept g.select (texts g) b es) k known (RowsShaped g)
kept_passes h laws g b es k known fresh values (shaped, places) =
    weaker (stored g) (kept g.select (texts g) b es) k known (λ c shapes. IsShaped (length g.table.rows) c shapes × SamePlaces b c) (RowsShaped g) (λ c shapes still t. (t.0, has_same 0 g.source.columns b c t.1 places))
    (laws.kept_pass (stored g) g.select (texts g) no_aggregate (length g.table.rows) b es (table_few g) values k known fresh shaped)

pub values_over : Premises → (g : Given) (b : Base) → HasColumnsOf 0 g.source.columns b → HaveValues g.plan g.source b
values_over h g b places = h.places g.defs g.ts g.plan g.source g.def g.table b g.can g.over places

pub from_passes : RunLaws → Premises → PassLaws → (g : Given) → Passes (stored g) (from_rows g.select (texts g) g.defs g.plan.sources) 0 at_start (RowsShaped g)
from_passes runs h laws g =
    let m = table_rows g.defs g.source.table g.source.columns in
    let first = table_passes runs h laws g in
    subst (λ (l : List PlanSource). Passes (stored g) (from_rows g.select (texts g) g.defs l) 0 at_start (RowsShaped g)) (sym g.over.only)
    (behind_passes Base Base (stored g) m (λ b. kept g.select (texts g) b g.source.filter) 0 at_start (RowsShaped g) (RowsShaped g) first
    (kept_passes h laws g (m 0).told g.source.filter (m 0).next first.after first.fresh (values_over h g (m 0).told first.holds.1).source first.holds))

-- ---- what items are evaluated on

-- a vector of so many places, over which items and keys can be had
abbrev StandsShaped : Given → Base → Shapes → Type 0
StandsShaped g c shapes = (count : ℕ) × ((count ≤ 2 ^ 22) × (IsShaped count c shapes × (All (CanValue (types_of g.plan.aggregates) c) g.plan.items × All (λ k. IsKeyOf (length g.plan.items) c k.key) g.plan.order)))

group_places : PlacesLaws → (g : Given) (b : Base) (k : ℕ) → HasGroupPlaces (clauses_of_plan g.plan) (grouped (texts g) b g.plan.groups g.plan.aggregates k).told
group_places laws g b k = let p = laws (texts g) b g.plan.groups g.plan.aggregates k in record { columns = p.0; aggregates = p.1 }

groups_pass : Premises → PassLaws → PlacesLaws → (g : Given) → g.plan.grouped ≡ true → (b : Base) (k : ℕ) (known : Known) → IsFresh k known.vectors → RowsShaped g b known.vectors → Passes (stored g) (stands_on g.select (texts g) g.plan true b) k known (StandsShaped g)
groups_pass h laws static g is b k known fresh (shaped, places) =
    let m = grouped (texts g) b g.plan.groups g.plan.aggregates in
    let first = laws.grouped_pass (stored g) (texts g) (length g.table.rows) b g.plan.groups g.plan.aggregates (table_few g) (values_over h g b places).grouping g.can.small.aggregates k known fresh shaped in
    let c = (m k).told in
    let over = h.group_places g.defs g.ts g.plan g.source g.def g.table c g.can g.over is (group_places static g b k) in
    behind_passes Base Base (stored g) m (λ d. kept g.select (texts g) d (option_to_list g.plan.having)) k known (λ d shapes. (count : ℕ) × ((count ≤ 2 ^ 22) × IsShaped count d shapes)) (StandsShaped g) first
    (weaker (stored g) (kept g.select (texts g) c (option_to_list g.plan.having)) (m k).next first.after (λ d shapes. IsShaped first.holds.0 d shapes × SamePlaces c d) (StandsShaped g)
    (λ d shapes still t.
    let there = h.group_places g.defs g.ts g.plan g.source g.def g.table d g.can g.over is (still_places g c d t.1 (group_places static g b k)) in
    (first.holds.0, (first.holds.1.0, (t.0, (there.items, there.keys)))))
    (laws.kept_pass (stored g) g.select (texts g) (types_of g.plan.aggregates) first.holds.0 c (option_to_list g.plan.having) first.holds.1.0 over.having (m k).next first.after first.fresh first.holds.1.1))

rows_pass : Premises → (g : Given) → g.plan.grouped ≡ false → (b : Base) (k : ℕ) (known : Known) → IsFresh k known.vectors → RowsShaped g b known.vectors → Passes (stored g) (stands_on g.select (texts g) g.plan false b) k known (StandsShaped g)
rows_pass h g is b k known fresh (shaped, places) =
    let values = values_over h g b places in
    tell_passes Base (stored g) b k known (StandsShaped g) fresh (length g.table.rows, (table_few g, (shaped, (values.items is, values.keys))))

stands_pass : Premises → PassLaws → PlacesLaws → (g : Given) (q : Bool) → g.plan.grouped ≡ q → (b : Base) (k : ℕ) (known : Known) → IsFresh k known.vectors → RowsShaped g b known.vectors → Passes (stored g) (stands_on g.select (texts g) g.plan q b) k known (StandsShaped g)
stands_pass h laws static g true is b k known fresh shaped = groups_pass h laws static g is b k known fresh shaped
stands_pass h laws static g false is b k known fresh shaped = rows_pass h g is b k known fresh shaped

-- ---- the whole

-- the vector that the result shows has the items and the mark alone
abbrev pub ShownShaped : Given → Label → Shapes → Type 0
ShownShaped g name shapes = (count : ℕ) × IsAlone shapes name count (length g.plan.items)

items_pass : PassLaws → (g : Given) (c : Base) (k : ℕ) (known : Known) → IsFresh k known.vectors → StandsShaped g c known.vectors → Passes (stored g) (items_on (texts g) g.plan c) k known (ShownShaped g)
items_pass laws g c k known fresh (count, (few, (shaped, (items, keys)))) =
    weaker (stored g) (items_on (texts g) g.plan c) k known (λ name shapes. IsAlone shapes name count (length g.plan.items)) (ShownShaped g) (λ name shapes still t. (count, t))
    (laws.items_pass (stored g) (texts g) (types_of g.plan.aggregates) count c g.plan.items g.plan.order few items g.can.well_formed.few_items g.can.well_formed.few_keys keys k known fresh shaped)

pub body_passes : RunLaws → Premises → PassLaws → PlacesLaws → (g : Given) → Passes (stored g) (body g.select (texts g) g.defs g.plan) 0 at_start (ShownShaped g)
body_passes runs h laws static g =
    let m = from_rows g.select (texts g) g.defs g.plan.sources in
    let first = from_passes runs h laws g in
    let b = (m 0).told in
    let n = kept g.select (texts g) b g.plan.filter in
    let k = (m 0).next in
    let second = kept_passes h laws g b g.plan.filter k first.after first.fresh (values_over h g b first.holds.1).filter first.holds in
    let c = (n k).told in
    let l = (n k).next in
    let o = stands_on g.select (texts g) g.plan g.plan.grouped c in
    let third = stands_pass h laws static g g.plan.grouped refl c l second.after second.fresh second.holds in
    behind_passes Base Label (stored g) m (behind_rows g.select (texts g) g.plan) 0 at_start (RowsShaped g) (ShownShaped g) first
    (behind_passes Base Label (stored g) n (behind_where g.select (texts g) g.plan) k first.after (RowsShaped g) (ShownShaped g) second
    (behind_passes Base Label (stored g) o (items_on (texts g) g.plan) l second.after (StandsShaped g) (ShownShaped g) third
    (items_pass laws g (o l).told (o l).next third.after third.fresh third.holds)))

-- ---- with its result

one_more_small : (shape : List Outline) → AreSmall shape → AreSmall (shape ++ no_outline ∷ [])
one_more_small [] h = all_more (λ o. o.len ≤ 2 ^ 22) no_outline [] (omega arith) h
one_more_small (o ∷ shape) h = all_more (λ o. o.len ≤ 2 ^ 22) o (shape ++ no_outline ∷ []) (all_head (λ o. o.len ≤ 2 ^ 22) o shape h) (one_more_small shape (all_tail (λ o. o.len ≤ 2 ^ 22) o shape h))

names_one : (a : List Statement) (name p : Label) → names_result (with_result a name p) ≡ true
names_one [] name p = refl
names_one (s ∷ a) name p = ap (λ (b : Bool). is_persist s.op || b) (names_one a name p) ∙ or_true (is_persist s.op)
  where
    or_true : (b : Bool) → (b || true) ≡ true
    or_true true = refl
    or_true false = refl

-- a program of no more statements than a program may have
short_check : (tables : Shapes) (program : List Statement) → length program ≤ 65536 → check tables program ≡ shape_of (names_result program) (check_from tables program at_start)
short_check tables program few = ap (λ (b : Bool). if b then Err (fault 65537 TooManyStatements) else shape_of (names_result program) (check_from tables program at_start)) (le-ltb 65536 (length program) few)

pub passes_check : RunLaws → Premises → PassLaws → PlacesLaws → (g : Given) → length (with_result (body g.select (texts g) g.defs g.plan 0).statements (codes "answer") (body g.select (texts g) g.defs g.plan 0).told) ≤ 65536
    → (shape : List Outline) × ((check (stored g) (with_result (body g.select (texts g) g.defs g.plan 0).statements (codes "answer") (body g.select (texts g) g.defs g.plan 0).told) ≡ Ok shape) × (limit_of shape ≡ None))
passes_check runs h laws static g few =
    let w = body g.select (texts g) g.defs g.plan 0 in
    let all = with_result w.statements (codes "answer") w.told in
    let p = body_passes runs h laws static g in
    let last = known_with p.after (codes "answer") in
    let ran : check_from (stored g) all at_start ≡ Ok last =
    check_from-append (stored g) w.statements (statement (codes "answer") (op.Persist w.told) ∷ []) at_start ∙ ap (λ (r : Checked). then_check r (check_from (stored g) (statement (codes "answer") (op.Persist w.told) ∷ []))) p.passes
    ∙ shown (stored g) p.after (codes "answer") w.told p.holds.0 (mark ∷ []) p.holds.1.shape (ap (λ (f : Label → Bool). f (codes "answer")) p.results) in
    (last.shape, (short_check (stored g) all few ∙ ap (shape_of (names_result all)) ran ∙ ap (λ (b : Bool). shape_of b (Ok last)) (names_one w.statements (codes "answer") w.told), no_limit 1 last.shape (one_more_small p.after.shape (p.small (all_none (λ o. o.len ≤ 2 ^ 22))))))
