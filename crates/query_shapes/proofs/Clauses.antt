-- Items, HAVING, groups and keys: how many there are, and that HAVING is where it is written.
use Rattle.std.proofs.Common.{◌≡◌, ℕ, ◌≤◌, nat_le, nat_lt, true, false, not, List, [], ◌∷◌, ◌++◌, length, Option, Some, None, Ok, ap, subst, arith}
use Rattle.std.specs.List.{list_all}
use Rattle.std.proofs.lemmas.Bool.{leb-false, ltb-false}
use Rattle.std.proofs.lemmas.List.{length_push, length-map}
use Rattle.sql_read.specs.declared.definition.TableDef.{TableDef}
use Rattle.query_trees.specs.declared.clauses.SelectItem.{SelectItem}
use Rattle.query_trees.specs.declared.clauses.SelectList.{SelectList}
use Rattle.query_trees.specs.declared.clauses.SelectList.TheVariants as select
use Rattle.query_trees.specs.declared.clauses.SortKey.{SortKey}
use Rattle.query_trees.specs.declared.expr.ColumnName.{ColumnName}
use Rattle.query_trees.specs.declared.query.Query.{Query}
use Rattle.typed_trees.specs.declared.kinds.Role.TheVariants.{Alone}
use Rattle.typed_trees.specs.declared.typed.Aggregate.{Aggregate}
use Rattle.typed_trees.specs.declared.typed.ColumnRef.{ColumnRef}
use Rattle.typed_trees.specs.declared.typed.OrderKey.{OrderKey}
use Rattle.typed_trees.specs.declared.typed.TypedExpr.{TypedExpr}
use Rattle.typed_trees.specs.declared.typed.TypedExpr.TheVariants as tree
use Rattle.typed_trees.specs.Kinds.{is_truth}
use Rattle.query_types.specs.declared.items.Shown.{Shown}
use Rattle.query_types.specs.declared.refusal.TypeKind.TheVariants.{TypesDiffer, TooManyItems, TooManyKeys, NotColumns}
use Rattle.query_types.specs.declared.scope.Called.{Called}
use Rattle.query_types.specs.declared.scope.Found.{Found}
use Rattle.query_types.specs.declared.stars.Starred.{Starred}
use Rattle.query_types.specs.Expressions.{typer, column_alone}
use Rattle.query_types.specs.Grouping.{every_column, grouped_by, is_column_item, column_of_item, selected, columns_starred, distinct, is_written, groups_by, groups_of}
use Rattle.query_types.specs.Items as i
use Rattle.query_types.specs.Items.{is_full, with_item, nothing_shown, star_item, star_items, with_value, item, items, shown_of}
use Rattle.query_types.specs.Names.{Scope, standing, resolved}
use Rattle.query_types.specs.Ordering.{key_ref, order_key, keys}
use Rattle.query_types.specs.Outcomes.{Outcome, lift}
use Rattle.query_types.specs.Typing.{having}
use Rattle.query_types.proofs.OutcomeLaws.{ok_same, then_ok, not_refused, both_same}

-- ---- HAVING

pub none_written : (s : Scope) (l m : List Aggregate) (h : Option TypedExpr) → having s None l ≡ Ok (h, m) → h ≡ None
none_written s l m h e = let same : None ≡ h = (both_same None h l m e).0 in cc

-- ---- the select list

abbrev AreFew : Shown → Type 0
AreFew shown = length shown.items ≤ 64

unlifted : {A : Type 0} (o : Outcome A) (l m : List Aggregate) (a : A) → lift o l ≡ Ok (a, m) → o ≡ Ok a
unlifted o l m a e = let x = then_ok o (λ b. Ok (b, l)) (a, m) e in subst (λ b. o ≡ Ok b) (both_same x.0 a l m x.2).0 x.1

one_more : (shown more : Shown) (x : TypedExpr) (name : List ℕ) → is_full shown ≡ false → with_item shown x name ≡ more → AreFew more
one_more shown more x name room is = let space = leb-false 64 (length shown.items) room in subst AreFew is (omega (arith, space, length_push shown.items x))

star_few : (s : Scope) (at : ℕ) (shown more : Shown) (f : Starred) → star_item s at shown f ≡ Ok more → AreFew more
unfolding star_item
star_few s at shown more f e =
    let room = not_refused (is_full shown) TooManyItems at _ more e in
    let x = then_ok (standing s at (i.found_starred f)) (λ (g : Found). Ok (with_item shown (tree.Column f.column f.type_) f.name)) more room.1 in
    one_more shown more (tree.Column f.column f.type_) f.name room.0 (ok_same (with_item shown (tree.Column f.column f.type_) f.name) more x.2)

stars_few : (s : Scope) (at : ℕ) (fs : List Starred) (shown more : Shown) → AreFew shown → star_items s at shown fs ≡ Ok more → AreFew more
stars_few s at [] shown more h e = subst AreFew (ok_same shown more e) h
stars_few s at (f ∷ fs) shown more h e =
    let x = then_ok (star_item s at shown f) (λ z. star_items s at z fs) more e in
    stars_few s at fs x.0 more (star_few s at shown x.0 f x.1) x.2

item_few : (s : Scope) (l m : List Aggregate) (shown more : Shown) (x : SelectItem) → item s shown x l ≡ Ok (more, m) → AreFew more
unfolding item with_value
item_few s l m shown more x e =
    let room = not_refused (is_full shown) TooManyItems x.value.at _ (more, m) e in
    let y = then_ok (typer x.value s Alone l) (λ p. lift (with_value shown x p.0) p.1) (more, m) room.1 in
    let u = unlifted (with_value shown x y.0.0) y.0.1 m more y.2 in
    let z = not_refused (is_truth y.0.0.kind) TypesDiffer x.value.at (Ok (with_item shown y.0.0.value (i.name_of shown x))) more u in
    one_more shown more y.0.0.value (i.name_of shown x) room.0 (ok_same (with_item shown y.0.0.value (i.name_of shown x)) more z.1)

items_few : (s : Scope) (xs : List SelectItem) (l m : List Aggregate) (shown more : Shown) → AreFew shown → items s shown xs l ≡ Ok (more, m) → AreFew more
items_few s [] l m shown more h e = subst AreFew (both_same shown more l m e).0 h
items_few s (x ∷ xs) l m shown more h e =
    let y = then_ok (item s shown x l) (λ p. items s p.0 xs p.1) (more, m) e in
    items_few s xs y.0.1 m y.0.0 more (item_few s l y.0.1 shown y.0.0 x y.1) y.2

pub few_shown : (s : Scope) (list : SelectList) (l m : List Aggregate) (shown : Shown) → shown_of s list l ≡ Ok (shown, m) → length shown.items ≤ 64
few_shown s (select.All star) l m shown e = stars_few s star (every_column s.defs 0 s.tables) nothing_shown shown (omega arith) (unlifted (star_items s star nothing_shown (every_column s.defs 0 s.tables)) l m shown e)
few_shown s (select.Items xs) l m shown e = items_few s xs l m nothing_shown shown (omega arith) e

-- ---- GROUP BY and DISTINCT

module _ (defs : List TableDef) (tables : List Called) where
  written : (cs : List ColumnName) (before after : List ColumnRef) → length before ≤ 4 → grouped_by defs tables before cs ≡ Ok after → (length after ≤ 4) × (length before ≤ length after)
  written [] before after few e = let is : length before ≡ length after = ap length (ok_same before after e) in (omega arith, omega arith)
  written (c ∷ cs) before after few e =
      let room = not_refused (nat_le 4 (length before)) TooManyKeys c.at _ after e in
      let x = then_ok (resolved defs tables c) (λ f. grouped_by defs tables (before ++ f.column ∷ []) cs) after room.1 in
      let space = leb-false 4 (length before) room.0 in
      let longer = length_push before x.0.column in
      let rest = written cs (before ++ x.0.column ∷ []) after (omega (arith, space, longer)) x.2 in
      (rest.0, omega (arith, longer, rest.1))

  -- a column that is written is there
  some_written : (c : ColumnName) (cs : List ColumnName) (after : List ColumnRef) → grouped_by defs tables [] (c ∷ cs) ≡ Ok after → 1 ≤ length after
  some_written c cs after e =
      let room = not_refused (nat_le 4 0) TooManyKeys c.at _ after e in
      let x = then_ok (resolved defs tables c) (λ f. grouped_by defs tables (f.column ∷ []) cs) after room.1 in
      let rest = written cs (x.0.column ∷ []) after (omega arith) x.2 in
      omega (arith, rest.1)

  few_selected : (xs : List SelectItem) (before after : List ColumnRef) → length before ≤ 4 → selected defs tables before xs ≡ Ok after → length after ≤ 4
  few_selected [] before after few e = let is : length before ≡ length after = ap length (ok_same before after e) in omega arith
  few_selected (x ∷ xs) before after few e =
      let room = not_refused (nat_le 4 (length before)) TooManyKeys x.value.at _ after e in
      let y = then_ok (column_of_item defs tables x (column_alone x.value)) (λ c. selected defs tables (before ++ c ∷ []) xs) after room.1 in
      let space = leb-false 4 (length before) room.0 in
      few_selected xs (before ++ y.0 ∷ []) after (omega (arith, space, length_push before y.0)) y.2

  few_distinct : (at : ℕ) (list : SelectList) (cs : List ColumnRef) → distinct defs tables at list ≡ Ok cs → length cs ≤ 4
  few_distinct at (select.All star) cs e =
      let room = not_refused (nat_lt 4 (length (every_column defs 0 tables))) TooManyKeys star (Ok (columns_starred (every_column defs 0 tables))) cs e in
      let few = ltb-false 4 (length (every_column defs 0 tables)) room.0 in
      let is : length (columns_starred (every_column defs 0 tables)) ≡ length cs = ap length (ok_same (columns_starred (every_column defs 0 tables)) cs room.1) in
      omega (arith, few, is, length-map (every_column defs 0 tables) (λ (f : Starred). f.column))
  few_distinct at (select.Items xs) cs e = few_selected xs [] cs (omega arith) (not_refused (not (list_all is_column_item xs)) NotColumns at (selected defs tables [] xs) cs e).1

  few_by : (columns : List ColumnName) (list : SelectList) (o : Option ℕ) (cs : List ColumnRef) → groups_by defs tables columns list o ≡ Ok cs → length cs ≤ 4
  few_by columns list None cs e = (written columns [] cs (omega arith) e).0
  few_by columns list (Some at) cs e = few_distinct at list cs (not_refused (is_written columns) NotColumns at (distinct defs tables at list) cs e).1

  pub few_groups : (q : Query) (cs : List ColumnRef) → groups_of defs tables q ≡ Ok cs → length cs ≤ 4
  unfolding groups_of
  few_groups q cs e = few_by q.groups q.list q.distinct cs e

  -- GROUP BY has group columns
  some_by : (columns : List ColumnName) (list : SelectList) (o : Option ℕ) (cs : List ColumnRef) → is_written columns ≡ true → groups_by defs tables columns list o ≡ Ok cs → 1 ≤ length cs
  some_by [] list o cs w e = absurd (cc)
  some_by (c ∷ columns) list None cs w e = some_written c columns cs e
  some_by (c ∷ columns) list (Some at) cs w e = absurd (cc (not_refused true NotColumns at (distinct defs tables at list) cs e).0)

  pub some_groups : (q : Query) (cs : List ColumnRef) → is_written q.groups ≡ true → groups_of defs tables q ≡ Ok cs → 1 ≤ length cs
  unfolding groups_of
  some_groups q cs w e = some_by q.groups q.list q.distinct cs w e

-- ---- ORDER BY

pub few_keys : (s : Scope) (names : List (List ℕ)) (ks : List SortKey) (before after : List OrderKey) → length before ≤ 8 → keys s names before ks ≡ Ok after → length after ≤ 8
few_keys s names [] before after few e = subst (λ (l : List OrderKey). length l ≤ 8) (ok_same before after e) few
few_keys s names (k ∷ ks) before after few e =
    let room = not_refused (nat_le 8 (length before)) TooManyKeys k.at _ after e in
    let x = then_ok (key_ref s names k.at k.by) (λ r. keys s names (before ++ order_key k.direction r ∷ []) ks) after room.1 in
    let space = leb-false 8 (length before) room.0 in
    few_keys s names ks (before ++ order_key k.direction x.0 ∷ []) after (omega (arith, space, length_push before (order_key k.direction x.0))) x.2
