-- A well-formed plan stays so when its conditions move to their sources, and when columns that nothing names go.
use Rattle.std.proofs.Common.{◌≡◌, ◌∙◌, ℕ, ◌+◌, ◌<◌, ◌≤◌, ◌==◌, Bool, true, false, cond, not, ◌||◌, if◌then◌else◌, List, [], ◌∷◌, ◌++◌, length, map, get_or, Option, Some, None, refl, sym, ap, subst, arith, ⊎_elim}
use Rattle.std.specs.Prelude.{All, count_by, filter, nat_lt, slice_get}
use Rattle.std.specs.List.{list_all, list_any}
use Rattle.std.specs.Option.{ForSome, option_and_then, option_map}
use Rattle.std.proofs.lemmas.Bool.{eqb-true, false≢true, lt-ltb, ne_eqb, or_cases, or_left, or_right}
use Rattle.std.proofs.lemmas.List.{length-map}
use Rattle.std.proofs.lemmas.List.Elements.{All-append, All-filter, filter_passes}
use Rattle.std.proofs.lemmas.List.Sums.{AllPass-from_list_all, list_all-from_AllPass, sum_by-cons}
use Rattle.std.proofs.lemmas.Option.{slice_get_within}
use Rattle.sql_read.specs.declared.definition.TableDef.{TableDef}
use Rattle.typed_trees.specs.declared.typed.ColumnRef.{ColumnRef}
use Rattle.typed_trees.specs.declared.typed.ColumnType.{ColumnType}
use Rattle.typed_trees.specs.declared.typed.PlanSource.{PlanSource}
use Rattle.typed_trees.specs.declared.typed.TypedExpr.{TypedExpr}
use Rattle.typed_trees.specs.declared.naming.Wanted.TheVariants as wanted
use Rattle.typed_trees.specs.Columns.{columns_in}
use Rattle.typed_trees.specs.Names.{names}
use Rattle.typed_trees.specs.Typed.{IsCondition, IsSource}
use Rattle.typed_trees.specs.Types.{no_aggregate}
use Rattle.typed_values.specs.Bounds.{cannot_overflow}
use Rattle.query_types.specs.Names.{columns_of, type_of_column}
use Rattle.typing_laws.specs.Laws.{AreDeclared, IsDeclared, IsColumn, IsJoin, IsKey}
use Rattle.rel_plan.specs.declared.plans.RelPlan.{RelPlan}
use Rattle.rel_plan.specs.Plans.{expressions}
use Rattle.rel_plan.specs.Prunes.{same_column, columns_named, columns_of_keys, is_named_at, pruned_source, pruned_sources, pruned}
use Rattle.rel_plan.specs.Pushes.{moves_to, stays, with_moved, pushed_sources, moved, pushed}
use Rattle.plan_laws.specs.Laws.{asks, is_over}
use Rattle.plan_laws.specs.WellFormed.{places, NamesThese, IsPlanSource, IsWellFormed}
use Rattle.plan_laws.proofs.Moves.{asks_there}
use Rattle.plan_laws.proofs.Sources.{at_place, by_places, source_before, as_many, as_tables, as_joins}
use Rattle.plan_laws.proofs.Weights.{moved_weighs, size_laws}

-- ---- what a plan names

-- whether some pass, by how many do
some_pass : {X : Type 0} (test : X → Bool) (xs : List X) → list_any test xs ≡ not (count_by test xs == 0)
some_pass test [] = refl
some_pass test (x ∷ xs) = by (test x) (some_pass test xs) ∙ ap (λ (n : ℕ). not (n == 0)) (sym (sum_by-cons (λ y. cond (test y) 1 0) x xs))
  where
    by : (b : Bool) → list_any test xs ≡ not (count_by test xs == 0) → (b || list_any test xs) ≡ not (cond b 1 0 + count_by test xs == 0)
    by true h = sym (ap not (ne_eqb (1 + count_by test xs) 0 (λ e. omega arith)))
    by false h = let none : count_by test xs ≡ 0 + count_by test xs = omega arith in h ∙ ap (λ (n : ℕ). not (n == 0)) none

-- of two plans with the same names, each column is named by both or by neither
same_names : (p q : RelPlan) → ((test : TypedExpr → Bool) → list_any test (expressions q) ≡ list_any test (expressions p)) → columns_named q ≡ columns_named p → (n k : ℕ) → is_named_at q n k ≡ is_named_at p n k
same_names p q expressions_ columns n k = let c : ColumnRef = record { source = n; column = k } in (λ i. expressions_ (names (wanted.Column c)) i || list_any (same_column c) (columns i))

-- ---- a plan, over other sources

-- where others stand in the place of a plan's sources, of the same tables
module _ (defs : List TableDef) (p : RelPlan) (sources : List PlanSource) (parts : List TypedExpr) (same : map (λ s. s.table) sources ≡ places p) where
  abbrev other : RelPlan
  other = record p { sources = sources; filter = parts }

  there : (P : List ℕ → Type 0) → P (places p) → P (map (λ s. s.table) sources)
  there P h = subst P (sym same) h

  names_kept : All (AreDeclared defs (places p)) parts → NamesThese defs p → NamesThese defs other
  names_kept of_parts h = record {
    filter = there (λ ps. All (AreDeclared defs ps) parts) of_parts;
    aggregates = there (λ ps. All (λ a. ForSome a.argument (AreDeclared defs ps)) p.aggregates) h.aggregates;
    having = there (λ ps. ForSome p.having (AreDeclared defs ps)) h.having;
    items = there (λ ps. All (AreDeclared defs ps) p.items) h.items;
    groups = there (λ ps. All (IsColumn defs ps) p.groups) h.groups;
    order = there (λ ps. All (λ k. IsKey defs ps (length p.items) k.key) p.order) h.order;
  }

  form_kept : length sources ≡ length p.sources → All IsSource sources → All (IsCondition no_aggregate) parts → All (AreDeclared defs (places p)) parts
      → ((n : ℕ) (s : PlanSource) → slice_get sources n ≡ Some s → IsPlanSource defs other n s) → IsWellFormed defs p → IsWellFormed defs other
  form_kept many of_sources of_parts declared each h = record {
    some_source = subst (λ (n : ℕ). 1 ≤ n) (sym many) h.some_source;
    few_sources = subst (λ (n : ℕ). n ≤ 8) (sym many) h.few_sources;
    few_items = h.few_items;
    few_groups = h.few_groups;
    few_keys = h.few_keys;
    typed = record { sources = of_sources; filter = of_parts; aggregates = h.typed.aggregates; having = h.typed.having; items = h.typed.items };
    names = names_kept declared h.names;
    sources = each;
    grouped = h.grouped;
    on_groups = λ is. let on = h.on_groups is in record { having = on.having; items = on.items; order = on.order };
    having = h.having;
  }

-- a declared expression is over the sources
declared_over : (defs : List TableDef) (sources : List PlanSource) (e : TypedExpr) → AreDeclared defs (map (λ s. s.table) sources) e → is_over (length sources) e ≡ true
declared_over defs sources e h = list_all-from_AllPass (λ c. nat_lt c.0.source (length sources)) (columns_in e) (λ k d l. at (get_or (columns_in e) k d) (h k d l))
  where
    within : (c : ColumnRef × ColumnType) (o : Option ℕ) → slice_get (map (λ s. s.table) sources) c.0.source ≡ o → option_map type_of_column (option_and_then (λ table. slice_get (columns_of defs table) c.0.column) o) ≡ Some c.1 → nat_lt c.0.source (length sources) ≡ true
    within c None is e = absurd (cc)
    within c (Some table) is e =
        let many : length (map (λ (s : PlanSource). s.table) sources) ≡ length sources = length-map sources (λ (s : PlanSource). s.table) in
        let inside = slice_get_within (map (λ (s : PlanSource). s.table) sources) c.0.source table is in
        lt-ltb c.0.source (length sources) (omega arith)

    at : (c : ColumnRef × ColumnType) → IsDeclared defs (map (λ s. s.table) sources) c → nat_lt c.0.source (length sources) ≡ true
    at c e = within c (slice_get (map (λ s. s.table) sources) c.0.source) refl e

pub over_sources : (defs : List TableDef) (p : RelPlan) → IsWellFormed defs p → All (λ e. is_over (length p.sources) e ≡ true) p.filter
over_sources defs p h = λ k d l. declared_over defs p.sources (get_or p.filter k d) (h.names.filter k d l)

-- ---- pushed conditions

module _ (defs : List TableDef) (p : RelPlan) (h : IsWellFormed defs p) where
  abbrev many : ℕ
  many = length p.sources

  abbrev place : ℕ × PlanSource → PlanSource
  place = with_moved many p.filter

  moved_tables : map (λ s. s.table) (pushed_sources p.filter p.sources) ≡ places p
  moved_tables = as_tables place (λ n s. refl) 0 p.sources

  moved_names : (n k : ℕ) → is_named_at (moved p) n k ≡ is_named_at p n k
  moved_names = same_names p (moved p)
      (λ test. some_pass test (expressions (moved p)) ∙ (ap (λ (n : ℕ). not (n == 0)) (moved_weighs (λ x. cond (test x) 1 0) p) ∙ sym (some_pass test (expressions p))))
      (ap (λ (l : List ColumnRef). l ++ (p.groups ++ columns_of_keys p.order)) (as_joins place (λ n s. refl) 0 p.sources))

  moved_typed : (n : ℕ) (t : PlanSource) → slice_get (pushed_sources p.filter p.sources) n ≡ Some t → IsSource t
  moved_typed n t e =
      let s = source_before place p.sources n t e in
      subst IsSource s.2 (All-append (IsCondition no_aggregate) s.0.filter (filter (moves_to many n) p.filter) (at_place IsSource p.sources n s.0 h.typed.sources s.1) (All-filter (moves_to many n) (IsCondition no_aggregate) p.filter h.typed.filter))

  moved_source : list_all cannot_overflow p.filter ≡ true → (n : ℕ) (t : PlanSource) → slice_get (pushed_sources p.filter p.sources) n ≡ Some t → IsPlanSource defs (moved p) n t
  moved_source narrow n t e =
      let s = source_before place p.sources n t e in
      let was = h.sources n s.0 s.1 in
      let come = filter (moves_to many n) p.filter in
      let inside : n < many = slice_get_within p.sources n s.0 s.1 in
      let over = over_sources defs p h in
      subst (IsPlanSource defs (moved p) n) s.2 (record {
        known = was.known;
        columns = was.columns;
        join = subst (λ (ps : List ℕ). ForSome s.0.join (IsJoin defs ps n s.0.table)) (sym moved_tables) was.join;
        declared = subst (λ (ps : List ℕ). All (AreDeclared defs ps) (s.0.filter ++ come)) (sym moved_tables) (All-append (AreDeclared defs (places p)) s.0.filter come was.declared (All-filter (moves_to many n) (AreDeclared defs (places p)) p.filter h.names.filter));
        alone = All-append (λ x. asks n x ≡ true) s.0.filter come was.alone (passing (moves_to many n) (λ x. is_over many x ≡ true) (λ x. asks n x ≡ true) (λ x o m. asks_there many x o n inside m) p.filter over);
        narrow = All-append (λ x. cannot_overflow x ≡ true) s.0.filter come was.narrow (All-filter (moves_to many n) (λ x. cannot_overflow x ≡ true) p.filter (AllPass-from_list_all cannot_overflow p.filter narrow));
        named = λ k is. was.named k (sym (moved_names n k) ∙ is);
      })
    where
      passing : (test : TypedExpr → Bool) (P Q : TypedExpr → Type 0) → ((x : TypedExpr) → P x → test x ≡ true → Q x) → (xs : List TypedExpr) → All P xs → All Q (filter test xs)
      passing test P Q each xs all = λ k d l. each (get_or (filter test xs) k d) (All-filter test P xs all k d l) (filter_passes test xs k d l)

  moved_is : list_all cannot_overflow p.filter ≡ true → IsWellFormed defs (moved p)
  moved_is narrow = form_kept defs p (pushed_sources p.filter p.sources) (filter (stays many) p.filter) moved_tables (as_many place 0 p.sources)
      (by_places IsSource (pushed_sources p.filter p.sources) moved_typed)
      (All-filter (stays many) (IsCondition no_aggregate) p.filter h.typed.filter)
      (All-filter (stays many) (AreDeclared defs (places p)) p.filter h.names.filter)
      (moved_source narrow) h

pub pushed_is : (defs : List TableDef) (p : RelPlan) → IsWellFormed defs p → IsWellFormed defs (pushed p)
unfolding pushed
pushed_is defs p h = by (list_all cannot_overflow p.filter) refl
  where
    by : (b : Bool) → list_all cannot_overflow p.filter ≡ b → IsWellFormed defs (if b then moved p else p)
    by true narrow = moved_is defs p h narrow
    by false e = h

-- ---- pruned columns

-- what passes a test stays where all that pass it pass another
any_kept : {X : Type 0} (test kept : X → Bool) (each : (x : X) → test x ≡ true → kept x ≡ true) (xs : List X) → list_any test xs ≡ true → list_any test (filter kept xs) ≡ true
any_kept test kept each [] h = h
any_kept test kept each (x ∷ xs) h = by (kept x) refl (any_kept test kept each xs)
  where
    by : (b : Bool) → kept x ≡ b → (list_any test xs ≡ true → list_any test (filter kept xs) ≡ true) → list_any test (cond b (x ∷ filter kept xs) (filter kept xs)) ≡ true
    by true is further = ⊎_elim (λ here. or_left (test x) (list_any test (filter kept xs)) here) (λ later. or_right (test x) (list_any test (filter kept xs)) (further later)) (or_cases (test x) (list_any test xs) h)
    by false is further = ⊎_elim (λ here. absurd (false≢true (sym is ∙ each x here))) further (or_cases (test x) (list_any test xs) h)

module _ (defs : List TableDef) (p : RelPlan) (h : IsWellFormed defs p) where
  abbrev narrowed : ℕ × PlanSource → PlanSource
  narrowed = pruned_source p

  abbrev fewer : RelPlan
  fewer = record p { sources = pruned_sources p }

  pruned_tables : map (λ s. s.table) (pruned_sources p) ≡ places p
  pruned_tables = as_tables narrowed (λ n s. refl) 0 p.sources

  pruned_names : expressions fewer ≡ expressions p → (n k : ℕ) → is_named_at fewer n k ≡ is_named_at p n k
  pruned_names same = same_names p fewer (λ test. ap (list_any test) same) (ap (λ (l : List ColumnRef). l ++ (p.groups ++ columns_of_keys p.order)) (as_joins narrowed (λ n s. refl) 0 p.sources))

  pruned_typed : (n : ℕ) (t : PlanSource) → slice_get (pruned_sources p) n ≡ Some t → IsSource t
  pruned_typed n t e = let s = source_before narrowed p.sources n t e in subst IsSource s.2 (at_place IsSource p.sources n s.0 h.typed.sources s.1)

  pruned_source_is : expressions fewer ≡ expressions p → (n : ℕ) (t : PlanSource) → slice_get (pruned_sources p) n ≡ Some t → IsPlanSource defs fewer n t
  pruned_source_is same n t e =
      let s = source_before narrowed p.sources n t e in
      let was = h.sources n s.0 s.1 in
      subst (IsPlanSource defs fewer n) s.2 (record {
        known = was.known;
        columns = All-filter (is_named_at p n) (λ k. k < length (columns_of defs s.0.table)) s.0.columns was.columns;
        join = subst (λ (ps : List ℕ). ForSome s.0.join (IsJoin defs ps n s.0.table)) (sym pruned_tables) was.join;
        declared = subst (λ (ps : List ℕ). All (AreDeclared defs ps) s.0.filter) (sym pruned_tables) was.declared;
        alone = was.alone;
        narrow = was.narrow;
        named = λ k is.
            let before : is_named_at p n k ≡ true = sym (pruned_names same n k) ∙ is in
            any_kept (λ j. j == k) (is_named_at p n) (λ j e. subst (λ (i : ℕ). is_named_at p n i ≡ true) (sym (eqb-true j k e)) before) s.0.columns (was.named k before);
      })

  fewer_is : expressions fewer ≡ expressions p → IsWellFormed defs fewer
  fewer_is same = form_kept defs p (pruned_sources p) p.filter pruned_tables (as_many narrowed 0 p.sources) (by_places IsSource (pruned_sources p) pruned_typed) h.typed.filter h.names.filter (pruned_source_is same) h

pub pruned_is : (defs : List TableDef) (p : RelPlan) → IsWellFormed defs p → IsWellFormed defs (pruned p)
unfolding pruned
pruned_is defs p h = fewer_is defs p h (size_laws.pruned_expressions p)
