-- The group columns and the keys of ORDER BY are columns of FROM, or items.
use Rattle.std.proofs.Common.{◌≡◌, ℕ, suc, ◌+◌, ◌-◌, ◌<◌, nat_le, nat_lt, ◌&&◌, Bool, true, false, not, List, [], ◌∷◌, ◌++◌, length, Option, Some, None, Ok, is_some, if◌then◌else◌, ◌||◌, sym, ap, subst, arith}
use Rattle.std.specs.Prelude.{All}
use Rattle.std.specs.List.{list_all}
use Rattle.std.specs.Str.{bytes_eq}
use Rattle.std.proofs.lemmas.Bool.Decides.{nat_tests}
use Rattle.std.proofs.lemmas.List.Elements.{All-nil, All-cons, All-head, All-weaker, All-map, All-push}
use Rattle.sql_read.specs.declared.definition.TableDef.{TableDef}
use Rattle.query_trees.specs.declared.clauses.SelectItem.{SelectItem}
use Rattle.query_trees.specs.declared.clauses.SelectList.{SelectList}
use Rattle.query_trees.specs.declared.clauses.SelectList.TheVariants as select
use Rattle.query_trees.specs.declared.clauses.SortBy.{SortBy}
use Rattle.query_trees.specs.declared.clauses.SortBy.TheVariants as by
use Rattle.query_trees.specs.declared.clauses.SortKey.{SortKey}
use Rattle.query_trees.specs.declared.expr.ColumnName.{ColumnName}
use Rattle.query_trees.specs.declared.query.Query.{Query}
use Rattle.typed_trees.specs.declared.typed.ColumnRef.{ColumnRef}
use Rattle.typed_trees.specs.declared.typed.KeyRef.{KeyRef}
use Rattle.typed_trees.specs.declared.typed.KeyRef.TheVariants.{Item, Column}
use Rattle.typed_trees.specs.declared.typed.OrderKey.{OrderKey}
use Rattle.query_types.specs.declared.refusal.TypeKind.TheVariants.{UnknownColumn, NotColumns, TooManyKeys}
use Rattle.query_types.specs.declared.scope.Called.{Called}
use Rattle.query_types.specs.declared.scope.Found.{Found}
use Rattle.query_types.specs.declared.stars.Starred.{Starred}
use Rattle.query_types.specs.Expressions.{column_alone}
use Rattle.query_types.specs.Grouping.{every_column, grouped_by, is_column_item, column_of_item, selected, columns_starred, distinct, is_written, groups_by, groups_of, aggregates, is_grouped}
use Rattle.query_types.specs.Names.{Scope, may_stand, resolved, column}
use Rattle.query_types.specs.Ordering.{places_named, by_place, by_column, by_item, by_bare, by_name, key_ref, order_key, keys}
use Rattle.query_types.proofs.OutcomeLaws.{ok_same, then_ok, not_refused}
use Rattle.typing_laws.specs.Laws.{IsColumn, IsKey}
use Rattle.typing_laws.proofs.Columns.{places, IsFound, IsStarred, resolved_found, column_stands, starred_found}
use Rattle.typing_laws.proofs.Lists.{not_false}

is_column : (defs : List TableDef) (tables : List Called) (f : Found) → IsFound defs tables f → IsColumn defs (places tables) f.column
is_column defs tables f h = ap is_some h

-- ---- GROUP BY and DISTINCT

module _ (defs : List TableDef) (tables : List Called) where
  abbrev AreColumns : List ColumnRef → Type 0
  AreColumns cs = All (IsColumn defs (places tables)) cs

  written : (cs : List ColumnName) (before after : List ColumnRef) → AreColumns before → grouped_by defs tables before cs ≡ Ok after → AreColumns after
  written [] before after h is = subst (λ z. AreColumns z) (ok_same before after is) h
  written (c ∷ cs) before after h is =
      let free = not_refused (nat_le 4 (length before)) TooManyKeys c.at _ after is in
      let x = then_ok (resolved defs tables c) (λ f. grouped_by defs tables (before ++ f.column ∷ []) cs) after free.1 in
      written cs (before ++ x.0.column ∷ []) after (All-push (IsColumn defs (places tables)) before x.0.column h (is_column defs tables x.0 (resolved_found defs tables c x.0 x.1))) x.2

  item_column : (x : SelectItem) (o : Option ColumnName) (c : ColumnRef) → column_of_item defs tables x o ≡ Ok c → IsColumn defs (places tables) c
  item_column x None c is = absurd (cc)
  item_column x (Some name) c is =
      let y = then_ok (resolved defs tables name) (λ f. Ok f.column) c is in
      subst (λ z. IsColumn defs (places tables) z) (ok_same y.0.column c y.2) (is_column defs tables y.0 (resolved_found defs tables name y.0 y.1))

  item_columns : (xs : List SelectItem) (before after : List ColumnRef) → AreColumns before → selected defs tables before xs ≡ Ok after → AreColumns after
  item_columns [] before after h is = subst (λ z. AreColumns z) (ok_same before after is) h
  item_columns (x ∷ xs) before after h is =
      let free = not_refused (nat_le 4 (length before)) TooManyKeys x.value.at _ after is in
      let y = then_ok (column_of_item defs tables x (column_alone x.value)) (λ c. selected defs tables (before ++ c ∷ []) xs) after free.1 in
      item_columns xs (before ++ y.0 ∷ []) after (All-push (IsColumn defs (places tables)) before y.0 h (item_column x (column_alone x.value) y.0 y.1)) y.2

  stars : All (IsColumn defs (places tables)) (columns_starred (every_column defs 0 tables))
  stars =
      All-map (IsColumn defs (places tables)) (λ (f : Starred). f.column) (every_column defs 0 tables)
      (All-weaker (IsStarred defs tables) (λ (f : Starred). IsColumn defs (places tables) f.column) (λ f h. ap is_some h) (every_column defs 0 tables) (starred_found defs tables))

  distinct_columns : (at : ℕ) (list : SelectList) (cs : List ColumnRef) → distinct defs tables at list ≡ Ok cs → AreColumns cs
  distinct_columns at (select.All star) cs is =
      let free = not_refused (nat_lt 4 (length (every_column defs 0 tables))) TooManyKeys star (Ok (columns_starred (every_column defs 0 tables))) cs is in
      subst (λ z. AreColumns z) (ok_same (columns_starred (every_column defs 0 tables)) cs free.1) stars
  distinct_columns at (select.Items xs) cs is =
      item_columns xs [] cs (All-nil (IsColumn defs (places tables))) (not_refused (not (list_all is_column_item xs)) NotColumns at (selected defs tables [] xs) cs is).1

  by_columns : (columns : List ColumnName) (list : SelectList) (o : Option ℕ) (cs : List ColumnRef) → groups_by defs tables columns list o ≡ Ok cs → AreColumns cs
  by_columns columns list None cs is = written columns [] cs (All-nil (IsColumn defs (places tables))) is
  by_columns columns list (Some at) cs is = distinct_columns at list cs (not_refused (is_written columns) NotColumns at (distinct defs tables at list) cs is).1

  pub group_columns : (q : Query) (cs : List ColumnRef) → groups_of defs tables q ≡ Ok cs → AreColumns cs
  unfolding groups_of
  group_columns q cs is = by_columns q.groups q.list q.distinct cs is

-- without GROUP BY and DISTINCT there are none
pub no_groups : (defs : List TableDef) (tables : List Called) (q : Query) (cs : List ColumnRef) → is_grouped q ≡ false → groups_of defs tables q ≡ Ok cs → cs ≡ []
unfolding groups_of is_grouped
no_groups defs tables q cs e is = by q.groups q.distinct e is
  where
    by : (columns : List ColumnName) (o : Option ℕ) → (is_written columns || (is_some o || aggregates q.list)) ≡ false → groups_by defs tables columns q.list o ≡ Ok cs → cs ≡ []
    by [] None e is = sym (ok_same [] cs is)
    by [] (Some at) e is = absurd (cc)
    by (c ∷ more) o e is = absurd (cc)

-- ---- ORDER BY

named_within : (name : List ℕ) (k : ℕ) (ns : List (List ℕ)) → All (λ i. i < k + length ns) (places_named name k ns)
named_within name k [] = All-nil (λ i. i < k + 0)
named_within name k (n ∷ ns) =
    let later = All-weaker (λ i. i < suc k + length ns) (λ i. i < k + suc (length ns)) (λ i h. omega (arith, h)) (places_named name (suc k) ns) (named_within name (suc k) ns) in
    by_match (bytes_eq n name) later
  where
    by_match : (b : Bool) → All (λ i. i < k + suc (length ns)) (places_named name (suc k) ns) → All (λ i. i < k + suc (length ns)) (if b then k ∷ places_named name (suc k) ns else places_named name (suc k) ns)
    by_match true h = All-cons (λ i. i < k + suc (length ns)) k (places_named name (suc k) ns) (omega arith) h
    by_match false h = h

module _ (s : Scope) where
  abbrev pub IsStandingKey : KeyRef → Type 0
  IsStandingKey (Item k) = Unit {0}
  IsStandingKey (Column c) = may_stand s.level s.groups c ≡ true

  -- an item, or a column that may stand
  pub record Key (n : ℕ) (k : KeyRef) : Type 0 where
    pub is : IsKey s.defs (places s.tables) n k
    pub may : IsStandingKey k

  placed : (at n p : ℕ) (k : KeyRef) → by_place at n p ≡ Ok k → Key n k
  placed at n p k is =
      let y = not_refused (not (nat_lt 0 p && nat_le p n)) UnknownColumn at (Ok (Item (p - 1))) k is in
      let within : p - 1 < n = inside p n (not_false (nat_lt 0 p && nat_le p n) y.0) in
      subst (λ z. Key n z) (ok_same (Item (p - 1)) k y.1) (record { is = within; may = tt })
    where
      inside : (p n : ℕ) → (nat_lt 0 p && nat_le p n) ≡ true → p - 1 < n
      inside p n h = grind (arith, nat_tests)

  of_column : (n : ℕ) (c : ColumnName) (k : KeyRef) → by_column s c ≡ Ok k → Key n k
  unfolding by_column
  of_column n c k is =
      let y = then_ok (column s c) (λ f. Ok (Column f.column)) k is in
      subst (λ z. Key n z) (ok_same (Column y.0.column) k y.2) (let h = column_stands s c y.0 y.1 in record { is = ap is_some h.declared; may = h.may })

  of_item : (n : ℕ) (c : ColumnName) (ks : List ℕ) (k : KeyRef) → All (λ i. i < n) ks → by_item s c ks ≡ Ok k → Key n k
  of_item n c [] k h is = of_column n c k is
  of_item n c (i ∷ []) k h is = subst (λ z. Key n z) (ok_same (Item i) k is) (record { is = All-head (λ i. i < n) i [] h; may = tt })
  of_item n c (i ∷ j ∷ more) k h is = absurd (cc)

  bare_key : (names : List (List ℕ)) (c : ColumnName) (k : KeyRef) → by_bare s names c ≡ Ok k → Key (length names) k
  unfolding by_bare
  bare_key names c k is =
      of_item (length names) c (places_named c.name 0 names) k
      (All-weaker (λ i. i < 0 + length names) (λ i. i < length names) (λ i h. omega (arith, h)) (places_named c.name 0 names) (named_within c.name 0 names)) is

  named_key : (names : List (List ℕ)) (c : ColumnName) (o : Option (List ℕ)) (k : KeyRef) → by_name s names c o ≡ Ok k → Key (length names) k
  named_key names c None k is = bare_key names c k is
  named_key names c (Some table) k is = of_column (length names) c k is

  one_key : (names : List (List ℕ)) (at : ℕ) (sort : SortBy) (k : KeyRef) → key_ref s names at sort ≡ Ok k → Key (length names) k
  one_key names at (by.Place p) k is = placed at (length names) p k is
  one_key names at (by.Column c) k is = named_key names c c.table k is

  abbrev pub AreKeys : ℕ → List OrderKey → Type 0
  AreKeys n ks = All (λ k. Key n k.key) ks

  pub order_keys : (names : List (List ℕ)) (ks : List SortKey) (before after : List OrderKey) → AreKeys (length names) before → keys s names before ks ≡ Ok after → AreKeys (length names) after
  order_keys names [] before after h is = subst (λ z. AreKeys (length names) z) (ok_same before after is) h
  order_keys names (k ∷ ks) before after h is =
      let free = not_refused (nat_le 8 (length before)) TooManyKeys k.at _ after is in
      let x = then_ok (key_ref s names k.at k.by) (λ r. keys s names (before ++ order_key k.direction r ∷ []) ks) after free.1 in
      order_keys names ks (before ++ order_key k.direction x.0 ∷ []) after
      (All-push (λ (o : OrderKey). Key (length names) o.key) before (order_key k.direction x.0) h (one_key names k.at k.by x.0 x.1)) x.2
