-- The plan of a typed query is well formed, and over the tables of its definitions a well-formed plan is pushed as it may be.
use Rattle.std.proofs.Common.{◌≡◌, ◌∙◌, ℕ, zero, suc, not, ◌||◌, ◌+◌, ◌<◌, ◌==◌, Bool, true, false, if◌then◌else◌, List, [], length, get_or, Some, Ok, refl, sym, ap, subst, arith}
use Rattle.std.specs.Prelude.{All, slice_get}
use Rattle.std.specs.List.{list_any, range_with_len}
use Rattle.std.proofs.lemmas.Bool.{eq-eqb, eqb-true}
use Rattle.std.proofs.lemmas.List.Elements.{All-nil}
use Rattle.std.proofs.lemmas.List.Folds.{list_any_at}
use Rattle.std.proofs.lemmas.List.FromFn.{get_or-range_with_len, length-range_with_len}
use Rattle.std.proofs.lemmas.List.Sums.{list_all-from_AllPass}
use Rattle.sql_read.specs.declared.definition.TableDef.{TableDef}
use Rattle.sql_values.specs.Values.{null}
use Rattle.table_load.specs.Values.{Table, value_at}
use Rattle.query_trees.specs.declared.query.Query.{Query}
use Rattle.typed_trees.specs.declared.typed.ColumnRef.{ColumnRef}
use Rattle.typed_trees.specs.declared.typed.ColumnType.{ColumnType}
use Rattle.typed_trees.specs.declared.typed.PlanSource.{PlanSource}
use Rattle.typed_trees.specs.declared.typed.TypedExpr.{TypedExpr}
use Rattle.typed_trees.specs.declared.typed.TypedQuery.{TypedQuery}
use Rattle.typed_trees.specs.Columns.{columns_in}
use Rattle.typed_values.specs.Bounds.{cannot_overflow}
use Rattle.typed_values.specs.Intervals.{of_type}
use Rattle.value_bounds.specs.Laws.{holds}
use Rattle.value_laws.specs.Laws.{NamesLaw}
use Rattle.query_answers.specs.Answers.{Row}
use Rattle.query_types.specs.Names.{columns_of}
use Rattle.query_types.specs.Typing.{typed_query}
use Rattle.query_shapes.specs.Laws.{HasGroups, ShapeLaw}
use Rattle.typing_laws.specs.Laws.{AreDeclared, IsDeclared, IsOfCatalog, TypedLaw, ColumnLaw, GroupLaw}
use Rattle.rel_plan.specs.declared.plans.RelPlan.{RelPlan}
use Rattle.rel_plan.specs.Plans.{plan_of}
use Rattle.rel_plan.specs.Pushes.{pushed}
use Rattle.plan_laws.specs.Laws.{asks, row_at, table_rows, RowsFit}
use Rattle.plan_laws.specs.PlanAnswers.{plan_answer}
use Rattle.plan_laws.specs.WellFormed.{places, NamesThese, IsPlanSource, IsWellFormed, TablesFit}
use Rattle.plan_laws.proofs.Declared.{definition_of, is_within, named_is_column}
use Rattle.plan_laws.proofs.KeptForm.{over_sources}
use Rattle.plan_laws.proofs.Pushed.{push_law}
use Rattle.plan_laws.proofs.Sources.{at_place, by_places}

-- ---- the plan of a typed query

in_range : (k m : ℕ) → k < m → list_any (λ j. j == k) (range_with_len 0 m) ≡ true
in_range k m l =
    let inside : k < length (range_with_len 0 m) = omega (arith, length-range_with_len 0 m) in
    let there : get_or (range_with_len 0 m) k 0 ≡ k = get_or-range_with_len 0 m k 0 l ∙ omega arith in
    list_any_at (λ (j : ℕ). j == k) (range_with_len 0 m) k 0 inside (eq-eqb (get_or (range_with_len 0 m) k 0) k there)

all_in_range : (m : ℕ) → All (λ k. k < m) (range_with_len 0 m)
all_in_range m = λ k d l. let inside : k < m = omega (arith, length-range_with_len 0 m) in omega (arith, get_or-range_with_len 0 m k d inside)

module _ (defs : List TableDef) (t : TypedQuery) where
  abbrev p : RelPlan
  p = plan_of t

  names_these : IsOfCatalog defs t → NamesThese defs p
  names_these h = record { filter = h.filter; aggregates = h.aggregates; having = h.having; items = h.items; groups = h.groups; order = h.order }

  -- nothing stands among the conditions of a source without one
  none_there : (P : TypedExpr → Type 0) (s : PlanSource) → s.filter ≡ [] → All P s.filter
  none_there P s e = subst (All P) (sym e) (All-nil P)

  a_source : IsOfCatalog defs t → All (λ s. s.filter ≡ []) t.sources → (n : ℕ) (s : PlanSource) → slice_get t.sources n ≡ Some s → IsPlanSource defs p n s
  a_source h plain n s e =
      let table = h.sources n s e in
      let none = at_place (λ (u : PlanSource). u.filter ≡ []) t.sources n s plain e in
      let conditions : All (λ u. All (AreDeclared defs (places p)) u.filter) t.sources =
      by_places (λ u. All (AreDeclared defs (places p)) u.filter) t.sources (λ m u f. none_there (AreDeclared defs (places p)) u (at_place (λ (v : PlanSource). v.filter ≡ []) t.sources m u plain f)) in
      let columns = length (columns_of defs s.table) in
      record {
        known = table.known;
        columns = subst (All (λ k. k < columns)) (sym table.columns) (all_in_range columns);
        join = table.join;
        declared = none_there (AreDeclared defs (places p)) s none;
        alone = none_there (λ x. asks n x ≡ true) s none;
        narrow = none_there (λ x. cannot_overflow x ≡ true) s none;
        named = λ k is.
            let inside = is_within defs t.sources n k s e (named_is_column defs p conditions (names_these h) (λ m u f. (h.sources m u f).join) n k is) in
            subst (λ (l : List ℕ). list_any (λ j. j == k) l ≡ true) (sym table.columns) (in_range k columns inside);
      }

-- where there are group columns or aggregates
some_grouped : (n m : ℕ) → (not (n == 0) || not (m == 0)) ≡ true → 0 < n + m
some_grouped zero zero h = absurd (cc)
some_grouped zero (suc m) h = omega arith
some_grouped (suc n) m h = omega arith

pub planned : TypedLaw → ColumnLaw → GroupLaw → ShapeLaw → (q : Query) (defs : List TableDef) (t : TypedQuery) → HasGroups q → typed_query q defs ≡ Ok t → IsWellFormed defs (plan_of t)
planned typed_law column_law group_law shape_law q defs t groups e =
    let h = typed_law q defs t e in
    let columns = column_law q defs t e in
    let shape = shape_law q defs t groups e in
    record {
      some_source = shape.some_source;
      few_sources = shape.few_sources;
      few_items = shape.few_items;
      few_groups = shape.few_groups;
      few_keys = shape.few_keys;
      typed = record { sources = h.sources; filter = h.filter; aggregates = h.aggregates; having = h.having; items = h.items };
      names = names_these defs t columns;
      sources = a_source defs t columns shape.plain;
      grouped = refl;
      on_groups = λ is. let on = group_law q defs t e (some_grouped (length t.groups) (length t.aggregates) is) in record { having = on.having; items = on.items; order = on.order };
      having = shape.having;
    }

-- ---- over tables that fit

module _ (defs : List TableDef) (tables : List Table) (p : RelPlan) (fit : TablesFit defs tables) (h : IsWellFormed defs p) where
  rows_fit : RowsFit tables p.sources p.filter
  rows_fit n s e = λ i r l j x m.
      let row = get_or (table_rows tables s) i r in
      let part = get_or p.filter j x in
      list_all-from_AllPass (λ c. holds (of_type c.1) (row_at n row c.0)) (columns_in part) (λ k d o. at i r l (get_or (columns_in part) k d) (h.names.filter j x m k d o))
    where
      at : (i : ℕ) (r : Row) → i < length (table_rows tables s) → (c : ColumnRef × ColumnType) → IsDeclared defs (places p) c → holds (of_type c.1) (row_at n (get_or (table_rows tables s) i r) c.0) ≡ true
      at i r l c declared = by (c.0.source == n) refl
        where
          by : (b : Bool) → (c.0.source == n) ≡ b → holds (of_type c.1) (if b then value_at c.0.column (get_or (table_rows tables s) i r) else null) ≡ true
          by false other = refl
          by true same =
              let here : slice_get p.sources c.0.source ≡ Some s = ap (slice_get p.sources) (eqb-true c.0.source n same) ∙ e in
              let d = definition_of defs p.sources c.0 s c.1 here declared in
              subst (λ (type : ColumnType). holds (of_type type) (value_at c.0.column (get_or (table_rows tables s) i r)) ≡ true) d.2 (fit s.table c.0.column d.0 d.1 i r l)

  pub answered : NamesLaw → plan_answer tables (pushed p) ≡ plan_answer tables p
  answered names_law = push_law names_law tables p (over_sources defs p h) rows_fit
