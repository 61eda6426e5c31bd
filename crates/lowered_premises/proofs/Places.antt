-- Over a base that has a place for each column of the source, or for each group column and each aggregate, expressions have values.
use Rattle.std.proofs.Common.{◌≡◌, ◌∙◌, ℕ, ◌==◌, Bool, true, false, not, ◌||◌, List, [], ◌∷◌, length, get_or, Option, Some, refl, sym, ap, subst, arith}
use Rattle.std.specs.Prelude.{All, slice_get}
use Rattle.std.specs.List.{Contains, list_any}
use Rattle.std.proofs.lemmas.Bool.{eqb-true, false≢true, ne_eqb}
use Rattle.std.proofs.lemmas.List.Elements.{All-contains, All-head, Contains-get_or}
use Rattle.std.proofs.lemmas.List.Folds.{Any-from_list_any}
use Rattle.std.proofs.lemmas.Option.{slice_get_within}
use Rattle.sql_read.specs.declared.definition.TableDef.{TableDef}
use Rattle.table_load.specs.Values.{Table}
use Rattle.typed_trees.specs.declared.typed.Aggregate.{Aggregate}
use Rattle.typed_trees.specs.declared.typed.ColumnRef.{ColumnRef}
use Rattle.typed_trees.specs.declared.typed.ColumnType.{ColumnType}
use Rattle.typed_trees.specs.declared.typed.KeyRef.{KeyRef}
use Rattle.typed_trees.specs.declared.typed.KeyRef.TheVariants.{Item, Column}
use Rattle.typed_trees.specs.declared.typed.PlanSource.{PlanSource}
use Rattle.typed_trees.specs.declared.typed.TypedExpr.{TypedExpr}
use Rattle.typed_trees.specs.Columns.{columns_in}
use Rattle.typed_trees.specs.Names.{same_column}
use Rattle.typed_trees.specs.Types.{DataType, aggregate_type, no_aggregate, types_of}
use Rattle.typed_trees.proofs.Inversions.{chosen}
use Rattle.query_types.specs.Names.{is_group_column}
use Rattle.typing_laws.specs.Laws.{AreGroupColumns, IsGroupKey, IsKey}
use Rattle.expr_values.specs.Laws.{IsLowerable}
use Rattle.rel_plan.specs.declared.plans.RelPlan.{RelPlan}
use Rattle.rel_plan.specs.Plans.{conditions_of_sources, expressions, is_grouped}
use Rattle.rel_plan.specs.Prunes.{sorted_by, is_named}
use Rattle.plan_laws.specs.PlanAnswers.{clauses_of_plan}
use Rattle.plan_laws.specs.WellFormed.{places, query_of}
use Rattle.plan_programs.specs.Sites.{Base}
use Rattle.lowered_stages.specs.Parts.{CanGroup, CanValue, HasColumnsOf, IsKeyOf}
use Rattle.lowered_stages.specs.Plans.{CanLower}
use Rattle.lowered_premises.specs.Sources.{OverTable, HasGroupPlaces}
use Rattle.lowered_premises.specs.Laws.{HaveValues, HaveGroupValues, PlacesLaw, GroupPlacesLaw}
use Rattle.lowered_premises.proofs.Columns.{all_optional, named_is}
use Rattle.lowered_premises.proofs.Names.{aggregate_found, column_found, same_is}
use Rattle.lowered_premises.proofs.Sizes.{few_arguments, few_filter, few_having, few_items, few_sources, front_of, IsFew}
use Rattle.lowered_premises.proofs.PlaceNames.{named_in, in_filter, in_sources, in_arguments, in_items, group_named, key_named}

no_type : (n : ℕ) (u : DataType) → no_aggregate n ≡ Some u → ⊥
no_type n u e = cc

-- a plan without groups has no aggregate
no_length : {X : Type 0} (xs : List X) → not (length xs == 0) ≡ false → xs ≡ []
no_length [] h = refl
no_length (x ∷ xs) h = absurd (false≢true (sym h ∙ ap not (ne_eqb (length (x ∷ xs)) 0 (λ e. omega (arith, e)))))

no_or : (a b : Bool) → (a || b) ≡ false → b ≡ false
no_or true b h = absurd (false≢true (sym h))
no_or false b h = h

no_aggregates : (defs : List TableDef) (ts : List Table) (p : RelPlan) → CanLower defs ts p → p.grouped ≡ false → p.aggregates ≡ []
no_aggregates defs ts p h e =
    let plain : is_grouped (query_of p) ≡ false = sym h.well_formed.grouped ∙ e in
    no_length p.aggregates (no_or (not (length p.groups == 0)) (not (length p.aggregates == 0)) plain)

untyped : (aggregates : List Aggregate) → aggregates ≡ [] → (n : ℕ) (u : DataType) → types_of aggregates n ≡ Some u → ⊥
untyped aggregates none n u e = let empty : types_of [] n ≡ Some u = sym (ap (λ (l : List Aggregate). types_of l n) none) ∙ e in cc

module _ (defs : List TableDef) (ts : List Table) (p : RelPlan) (s : PlanSource) (def : TableDef) (t : Table) (h : CanLower defs ts p) (o : OverTable defs ts p s def t) where
  module _ (b : Base) (has : HasColumnsOf 0 s.columns b) where
    -- a named column has a place
    placed : (c : ColumnRef) → is_named p c ≡ true → list_any (λ x. same_column x.column c) b.columns ≡ true
    placed c named =
        let is = named_is defs ts p s def t h o c named in
        let a = Any-from_list_any (λ (j : ℕ). j == c.column) s.columns is.1 in
        let there : list_any (λ x. same_column x.column (record { source = 0; column = a.1 })) b.columns ≡ true =
        subst (λ (k : ℕ). list_any (λ x. same_column x.column (record { source = 0; column = k })) b.columns ≡ true) a.3 (has a.0 a.1 a.2)
        in
        let same : ◌≡◌ {A = ColumnRef} (record { source = 0; column = a.1 }) c = λ i. record { source = sym is.0 i; column = eqb-true a.1 c.column a.4 i } in
        subst (λ (d : ColumnRef). list_any (λ x. same_column x.column d) b.columns ≡ true) same there

    valued : (at : ℕ → Option DataType) → ((n : ℕ) (u : DataType) → at n ≡ Some u → ⊥) → (e : TypedExpr) → IsLowerable at e → Contains (expressions p) e → IsFew e → CanValue at b e
    valued at none e l is few = record {
      lowerable = l;
      covers = record {
        columns = λ c n. placed c (named_in p e c is n);
        aggregates = λ n m. let u = aggregate_found at e l.type n l.is m in absurd (none n u.0 u.1);
      };
      few = few;
    }

    key_is : (k : KeyRef) → IsKey defs (places p) (length p.items) k → ((c : ColumnRef) → Contains (sorted_by k) c → is_named p c ≡ true) → IsKeyOf (length p.items) b k
    key_is (Item n) is named = is
    key_is (Column c) is named = placed c (named c (0, omega arith, refl))

    source_lowerable : All (IsLowerable no_aggregate) s.filter
    source_lowerable = All-head (λ (x : PlanSource). All (IsLowerable no_aggregate) x.filter) s [] (subst (All (λ (x : PlanSource). All (IsLowerable no_aggregate) x.filter)) o.only h.lowerable.sources)

    source_few : All IsFew s.filter
    source_few = front_of IsFew s.filter [] (subst (λ (l : List PlanSource). All IsFew (conditions_of_sources l)) o.only (few_sources defs ts p h))

    grouping : CanGroup b p.groups p.aggregates
    grouping = record {
      places = λ k d l. placed (get_or p.groups k d) (group_named p (get_or p.groups k d) (Contains-get_or p.groups k d l));
      few = h.well_formed.few_groups;
      arguments = λ k d l. λ e is. valued no_aggregate no_type e (h.lowerable.arguments k d l e is) (in_arguments p (get_or p.aggregates k d) e (Contains-get_or p.aggregates k d l) is) (few_arguments defs ts p h k d l e is);
      typed = λ k d l. (h.well_formed.typed.aggregates k d l).type;
    }

    pub have_values : HaveValues p s b
    have_values = record {
      source = λ k d l. valued no_aggregate no_type (get_or s.filter k d) (source_lowerable k d l) (in_sources p s (get_or s.filter k d) o.only (Contains-get_or s.filter k d l)) (source_few k d l);
      filter = λ k d l. valued no_aggregate no_type (get_or p.filter k d) (h.lowerable.filter k d l) (in_filter p (get_or p.filter k d) (Contains-get_or p.filter k d l)) (few_filter defs ts p h k d l);
      grouping = grouping;
      items = λ plain. λ k d l. valued (types_of p.aggregates) (untyped p.aggregates (no_aggregates defs ts p h plain)) (get_or p.items k d) (h.lowerable.items k d l) (in_items p (get_or p.items k d) (Contains-get_or p.items k d l)) (few_items defs ts p h k d l);
      keys = λ k d l. key_is (get_or p.order k d).key (h.well_formed.names.order k d l) (λ c m. key_named p (get_or p.order k d) c (Contains-get_or p.order k d l) m);
    }

  -- ---- over the group columns and the aggregates

  module _ (b : Base) (grouped : p.grouped ≡ true) (has : HasGroupPlaces (clauses_of_plan p) b) where
    group_placed : (c : ColumnRef) → is_group_column p.groups c ≡ true → list_any (λ x. same_column x.column c) b.columns ≡ true
    group_placed c is =
        let a = Any-from_list_any (λ (g : ColumnRef). same_column g c) p.groups is in
        let there : list_any (λ x. same_column x.column a.1) b.columns ≡ true = subst (λ (g : ColumnRef). list_any (λ x. same_column x.column g) b.columns ≡ true) a.3 (has.columns a.0 a.1 a.2) in
        subst (λ (g : ColumnRef). list_any (λ x. same_column x.column g) b.columns ≡ true) (sym (same_is a.1 c a.4)) there

    aggregate_placed : (n : ℕ) (u : DataType) → types_of p.aggregates n ≡ Some u → list_any (λ x. x.aggregate == n) b.aggregates ≡ true
    aggregate_placed n u e = let x = chosen (slice_get p.aggregates n) aggregate_type u e in has.aggregates n (slice_get_within p.aggregates n x.0 x.1)

    group_valued : (e : TypedExpr) → IsLowerable (types_of p.aggregates) e → AreGroupColumns p.groups e → IsFew e → CanValue (types_of p.aggregates) b e
    group_valued e l on few = record {
      lowerable = l;
      covers = record {
        columns = λ c n.
            let x = column_found (types_of p.aggregates) e l.type c l.is n in
            group_placed c (subst (λ (d : ColumnRef). is_group_column p.groups d ≡ true) x.2 (All-contains (λ (d : ColumnRef × ColumnType). is_group_column p.groups d.0 ≡ true) (columns_in e) x.0 on x.1));
        aggregates = λ n m. let u = aggregate_found (types_of p.aggregates) e l.type n l.is m in aggregate_placed n u.0 u.1;
      };
      few = few;
    }

    group_key_is : (k : KeyRef) → IsKey defs (places p) (length p.items) k → IsGroupKey p.groups k → IsKeyOf (length p.items) b k
    group_key_is (Item n) is on = is
    group_key_is (Column c) is on = group_placed c on

    pub have_group_values : HaveGroupValues p b
    have_group_values =
        let on = h.well_formed.on_groups grouped in
        record {
          having = all_optional (CanValue (types_of p.aggregates) b) p.having (λ e is. group_valued e (h.lowerable.having e is) (on.having e is) (few_having defs ts p h e is));
          items = λ k d l. group_valued (get_or p.items k d) (h.lowerable.items k d l) (on.items k d l) (few_items defs ts p h k d l);
          keys = λ k d l. group_key_is (get_or p.order k d).key (h.well_formed.names.order k d l) (on.order k d l);
        }

pub places_law : PlacesLaw
places_law defs ts p s def t b h o has = have_values defs ts p s def t h o b has

pub group_places_law : GroupPlacesLaw
group_places_law defs ts p s def t b h o grouped has = have_group_values defs ts p s def t h o b grouped has
