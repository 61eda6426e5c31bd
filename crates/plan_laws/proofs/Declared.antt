-- Each column that a plan names is a column of its sources.
use Rattle.std.proofs.Common.{◌≡◌, ◌∙◌, ℕ, suc, ◌+◌, ◌<◌, ◌==◌, true, List, [], ◌∷◌, ◌++◌, length, map, get_or, Option, Some, None, is_some, option_to_list, refl, sym, ap, subst, arith, ⊎_elim}
use Rattle.std.specs.Prelude.{All, flat_map, slice_get}
use Rattle.std.specs.List.{enumerate_from, list_any}
use Rattle.std.specs.Option.{ForSome, option_and_then, option_map}
use Rattle.std.proofs.lemmas.Bool.{and_parts, eqb-true, or_cases}
use Rattle.std.proofs.lemmas.List.Elements.{All-nil, All-cons, All-head, All-tail, All-append}
use Rattle.std.proofs.lemmas.List.Folds.{Any-from_list_any}
use Rattle.std.proofs.lemmas.Option.{slice_get_within, slice_get-map}
use Rattle.sql_read.specs.declared.definition.ColumnDef.{ColumnDef}
use Rattle.sql_read.specs.declared.definition.TableDef.{TableDef}
use Rattle.typed_trees.specs.declared.naming.Wanted.TheVariants as wanted
use Rattle.typed_trees.specs.declared.typed.ColumnRef.{ColumnRef}
use Rattle.typed_trees.specs.declared.typed.ColumnType.{ColumnType}
use Rattle.typed_trees.specs.declared.typed.KeyRef.{KeyRef}
use Rattle.typed_trees.specs.declared.typed.KeyRef.TheVariants as key
use Rattle.typed_trees.specs.declared.typed.PlanSource.{PlanSource}
use Rattle.typed_trees.specs.declared.typed.TypedExpr.{TypedExpr}
use Rattle.typed_trees.specs.Columns.{columns_in}
use Rattle.typed_trees.specs.Names.{names, same_column}
use Rattle.query_types.specs.Names.{columns_of, column_ref, type_of_column}
use Rattle.typing_laws.specs.Laws.{AreDeclared, IsDeclared, IsColumn, IsJoin, IsKey, column_at}
use Rattle.rel_plan.specs.declared.plans.RelPlan.{RelPlan}
use Rattle.rel_plan.specs.Plans.{conditions_of_sources, arguments_of, expressions}
use Rattle.rel_plan.specs.Prunes.{pair_columns, join_columns, columns_of_joins, sorted_by, key_columns, columns_of_keys, columns_named, is_named_at}
use Rattle.plan_laws.specs.WellFormed.{places, NamesThese}
use Rattle.plan_laws.proofs.NamedColumns.{is_named}

-- ---- lists

all_joined : {X Y : Type 0} (P : Y → Type 0) (g : X → List Y) (xs : List X) → All (λ x. All P (g x)) xs → All P (flat_map g xs)
all_joined P g [] h = All-nil P
all_joined P g (x ∷ xs) h = All-append P (g x) (flat_map g xs) (All-head (λ y. All P (g y)) x xs h) (all_joined P g xs (All-tail (λ y. All P (g y)) x xs h))

all_optional : {X : Type 0} (P : X → Type 0) (o : Option X) → ForSome o P → All P (option_to_list o)
all_optional P None h = All-nil P
all_optional P (Some x) h = All-cons P x [] (h x refl) (All-nil P)

-- ---- columns in their places

place_of : (sources : List PlanSource) (n : ℕ) (s : PlanSource) → slice_get sources n ≡ Some s → slice_get (map (λ s. s.table) sources) n ≡ Some s.table
place_of sources n s e = slice_get-map (λ (t : PlanSource). t.table) sources n ∙ ap (option_map (λ (t : PlanSource). t.table)) e

-- a column of a source has a definition
pub definition_of : (defs : List TableDef) (sources : List PlanSource) (c : ColumnRef) (s : PlanSource) (type : ColumnType) → slice_get sources c.source ≡ Some s → column_at defs (map (λ s. s.table) sources) c ≡ Some type
    → (d : ColumnDef) × (slice_get (columns_of defs s.table) c.column ≡ Some d) × (type_of_column d ≡ type)
definition_of defs sources c s type e is = by (slice_get (columns_of defs s.table) c.column) refl (sym (ap (λ (o : Option ℕ). option_map type_of_column (option_and_then (λ table. slice_get (columns_of defs table) c.column) o)) (place_of sources c.source s e)) ∙ is)
  where
    by : (o : Option ColumnDef) → slice_get (columns_of defs s.table) c.column ≡ o → option_map type_of_column o ≡ Some type → (d : ColumnDef) × (slice_get (columns_of defs s.table) c.column ≡ Some d) × (type_of_column d ≡ type)
    by None found e = absurd (cc)
    by (Some d) found e = (d, found, cc)

has_type : (defs : List TableDef) (places : List ℕ) (c : ColumnRef) → IsColumn defs places c → (type : ColumnType) × (column_at defs places c ≡ Some type)
has_type defs places c h = by (column_at defs places c) refl h
  where
    by : (o : Option ColumnType) → column_at defs places c ≡ o → is_some o ≡ true → (type : ColumnType) × (column_at defs places c ≡ Some type)
    by None e h = absurd (cc)
    by (Some type) e h = (type, e)

-- a column of a source is one of its table's
pub is_within : (defs : List TableDef) (sources : List PlanSource) (n k : ℕ) (s : PlanSource) → slice_get sources n ≡ Some s → IsColumn defs (map (λ s. s.table) sources) (column_ref n k) → k < length (columns_of defs s.table)
is_within defs sources n k s e h =
    let type = has_type defs (map (λ (t : PlanSource). t.table) sources) (column_ref n k) h in
    let d = definition_of defs sources (column_ref n k) s type.0 e type.1 in
    slice_get_within (columns_of defs s.table) k d.0 d.1

-- ---- what a plan names

same_is : (c d : ColumnRef) → same_column c d ≡ true → d ≡ c
same_is c d h =
    let both = and_parts (c.source == d.source) (c.column == d.column) h in
    (λ i. record { source = sym (eqb-true c.source d.source both.0) i; column = sym (eqb-true c.column d.column both.1) i })

named_in : (defs : List TableDef) (places : List ℕ) (c : ColumnRef) (e : TypedExpr) → AreDeclared defs places e → names (wanted.Column c) e ≡ true → IsColumn defs places c
named_in defs places c e h n =
    let found = Any-from_list_any (λ (x : ColumnRef × ColumnType). same_column c x.0) (columns_in e) (sym (is_named (same_column c) e) ∙ n) in
    let declared : IsDeclared defs places found.1 = subst (IsDeclared defs places) found.3 (h found.0 found.1 found.2) in
    subst (IsColumn defs places) (same_is c found.1.0 found.4) (ap is_some declared)

module _ (defs : List TableDef) (p : RelPlan) (of_sources : All (λ s. All (AreDeclared defs (places p)) s.filter) p.sources) (columns : NamesThese defs p) (joins : (n : ℕ) (s : PlanSource) → slice_get p.sources n ≡ Some s → ForSome s.join (IsJoin defs (places p) n s.table)) where
  abbrev here : List ℕ
  here = places p

  all_declared : All (AreDeclared defs here) (expressions p)
  all_declared =
      let D = AreDeclared defs here in
      let having = option_to_list p.having in
      let last = All-append D having p.items (all_optional D p.having columns.having) columns.items in
      let arguments = all_joined D (λ a. option_to_list a.argument) p.aggregates (λ k d l. all_optional D (get_or p.aggregates k d).argument (columns.aggregates k d l)) in
      let conditions = all_joined D (λ s. s.filter) p.sources of_sources in
      All-append D p.filter (conditions_of_sources p.sources ++ (arguments_of p.aggregates ++ (having ++ p.items))) columns.filter
      (All-append D (conditions_of_sources p.sources) (arguments_of p.aggregates ++ (having ++ p.items)) conditions
      (All-append D (arguments_of p.aggregates) (having ++ p.items) arguments last))

  -- a source in its place, with its join
  record Placed (n : ℕ) (s : PlanSource) : Type 0 where
    at : slice_get here n ≡ Some s.table
    join : ForSome s.join (IsJoin defs here n s.table)

  pair_declared : (n table : ℕ) (o : Option (ColumnRef × ℕ)) → slice_get here n ≡ Some table → ForSome o (IsJoin defs here n table) → All (IsColumn defs here) (pair_columns n o)
  pair_declared n table None at h = All-nil (IsColumn defs here)
  pair_declared n table (Some j) at h =
      let on = h j refl in
      let own = column_ref n j.1 in
      let of_own : column_at defs here own ≡ Some (type_of_column on.own) = ap (λ (o : Option ℕ). option_map type_of_column (option_and_then (λ t. slice_get (columns_of defs t) j.1) o)) at ∙ ap (option_map type_of_column) on.own_column in
      All-cons (IsColumn defs here) j.0 (own ∷ []) (ap is_some on.left_type) (All-cons (IsColumn defs here) own [] (ap is_some of_own) (All-nil (IsColumn defs here)))

  joins_declared : (k : ℕ) (sources : List PlanSource) → ((n : ℕ) (s : PlanSource) → slice_get sources n ≡ Some s → Placed (k + n) s) → All (IsColumn defs here) (flat_map join_columns (enumerate_from k sources))
  joins_declared k [] h = All-nil (IsColumn defs here)
  joins_declared k (s ∷ sources) h =
      let now : k + 0 ≡ k = omega arith in
      let first = subst (λ (m : ℕ). Placed m s) now (h 0 s refl) in
      All-append (IsColumn defs here) (pair_columns k s.join) (flat_map join_columns (enumerate_from (k + 1) sources)) (pair_declared k s.table s.join first.at first.join) (joins_declared (k + 1) sources (λ n t e. next n t (h (suc n) t e)))
    where
      next : (n : ℕ) (t : PlanSource) → Placed (k + suc n) t → Placed (k + 1 + n) t
      next n t g = let e : k + suc n ≡ k + 1 + n = omega arith in subst (λ (m : ℕ). Placed m t) e g

  key_declared : (k : KeyRef) → IsKey defs here (length p.items) k → All (IsColumn defs here) (sorted_by k)
  key_declared (key.Item n) h = All-nil (IsColumn defs here)
  key_declared (key.Column c) h = All-cons (IsColumn defs here) c [] h (All-nil (IsColumn defs here))

  columns_declared : All (IsColumn defs here) (columns_named p)
  columns_declared =
      let P = IsColumn defs here in
      let keys = all_joined P key_columns p.order (λ k d l. key_declared (get_or p.order k d).key (columns.order k d l)) in
      All-append P (columns_of_joins p.sources) (p.groups ++ columns_of_keys p.order)
      (joins_declared 0 p.sources (λ n s e. at n s (record { at = place_of p.sources n s e; join = joins n s e })))
      (All-append P p.groups (columns_of_keys p.order) columns.groups keys)
    where
      at : (n : ℕ) (s : PlanSource) → Placed n s → Placed (0 + n) s
      at n s g = let e : n ≡ 0 + n = omega arith in subst (λ (m : ℕ). Placed m s) e g

  pub named_is_column : (n k : ℕ) → is_named_at p n k ≡ true → IsColumn defs here (column_ref n k)
  named_is_column n k h = ⊎_elim in_expression apart (or_cases (list_any (names (wanted.Column (column_ref n k))) (expressions p)) (list_any (same_column (column_ref n k)) (columns_named p)) h)
    where
      in_expression : list_any (names (wanted.Column (column_ref n k))) (expressions p) ≡ true → IsColumn defs here (column_ref n k)
      in_expression e =
          let found = Any-from_list_any (names (wanted.Column (column_ref n k))) (expressions p) e in
          named_in defs here (column_ref n k) found.1 (subst (AreDeclared defs here) found.3 (all_declared found.0 found.1 found.2)) found.4

      apart : list_any (same_column (column_ref n k)) (columns_named p) ≡ true → IsColumn defs here (column_ref n k)
      apart e =
          let found = Any-from_list_any (same_column (column_ref n k)) (columns_named p) e in
          subst (IsColumn defs here) (same_is (column_ref n k) found.1 found.4) (subst (IsColumn defs here) found.3 (columns_declared found.0 found.1 found.2))
