-- Each row of a query's answer has a value for each item, one that can be shown.
use Rattle.std.proofs.Common.{◌≡◌, ◌∙◌, ℕ, Bool, true, false, cond, List, [], ◌∷◌, length, map, get_or, Option, Some, Ok, refl, sym, subst, ⊎_elim}
use Rattle.std.specs.Prelude.{All, filter, slice_get}
use Rattle.std.specs.List.{Contains}
use Rattle.std.specs.Option.{ForSome}
use Rattle.std.proofs.lemmas.Option.{get_or_from_slice_get, slice_get_within}
use Rattle.dict_codes.specs.Dictionaries.{dictionary_of}
use Rattle.dict_codes.proofs.Members.{first_or_later, here, there}
use Rattle.sort_order.specs.Orders.{inserted, sorted_by}
use Rattle.sql_read.specs.declared.definition.TableDef.{TableDef}
use Rattle.sql_values.specs.Values.{Value, null}
use Rattle.table_load.specs.ColumnTypes.{ColumnsFit}
use Rattle.table_load.specs.Databases.{tables_texts}
use Rattle.table_load.specs.Values.{Table, value_at}
use Rattle.typed_trees.specs.declared.typed.Aggregate.{Aggregate}
use Rattle.typed_trees.specs.declared.typed.ColumnRef.{ColumnRef}
use Rattle.typed_trees.specs.declared.typed.TypedExpr.{TypedExpr}
use Rattle.typed_trees.specs.declared.typed.TypedQuery.{TypedQuery}
use Rattle.typed_trees.specs.Kinds.{kind_of}
use Rattle.typed_trees.specs.Typed.{IsAggregate, IsItem, IsTyped}
use Rattle.typed_trees.specs.Types.{DataType, aggregate_type, type_of, types_of}
use Rattle.typed_trees.proofs.Inversions.{chosen, some_same}
use Rattle.typed_values.specs.Aggregates.{aggregate_value}
use Rattle.typed_values.specs.Values.{Valued, On, value}
use Rattle.value_laws.specs.Laws.{KindLaw}
use Rattle.query_answers.specs.Answers.{Row, FromRow, Group, OutputRow, answer, column_value, comes_before, condition, from_rows, group_value, groups_of, in_order, kept_rows, on_group, on_row, output_row, query_answer, selected}
use Rattle.query_answers.specs.Clauses.{clauses_of, is_grouped}
use Rattle.query_answers.specs.Overs.{each, is_met, kept}
use Rattle.query_answers.proofs.Lists.{kept_within}
use Rattle.typing_laws.specs.Laws.{AreDeclared, IsOfCatalog, places_of}
use Rattle.loaded_plans.specs.Laws.{AreLoaded}
use Rattle.written_queries.specs.Laws.{IsAsWritten, IsWritten}
use Rattle.held_answers.specs.Shown.{is_shown}
use Rattle.held_answers.proofs.Aggregated.{ok_same}
use Rattle.held_answers.proofs.FromRows.{column_shown, mapped_from}
use Rattle.held_answers.proofs.Grouped.{group_holds, group_is}
use Rattle.held_answers.proofs.Items.{AggregatesShown, ColumnsShown, IsArgument, IsSound, aggregate_shown, both_ok, made_at, made_many, made_of, value_shown}
use Rattle.held_answers.proofs.Taken.{Shows}

-- ---- lists

inserted_within : {X : Type 0} (before : X → X → Bool) (x y : X) (ys : List X) → Contains (inserted before x ys) y → Contains (x ∷ ys) y
inserted_within before x y [] h = h
inserted_within {X} before x y (z ∷ zs) h = by (before z x) (λ m. inserted_within before x y zs m) h
  where
    by : (b : Bool) → (Contains (inserted before x zs) y → Contains (x ∷ zs) y) → Contains (cond b (z ∷ inserted before x zs) (x ∷ z ∷ zs)) y → Contains (x ∷ z ∷ zs) y
    by true later g =
        ⊎_elim (λ e. there x y (z ∷ zs) (subst (Contains (z ∷ zs)) e (here z zs)))
        (λ m. ⊎_elim (λ e. subst (Contains (x ∷ z ∷ zs)) e (here x (z ∷ zs))) (λ l. there x y (z ∷ zs) (there z y zs l)) (first_or_later x y zs (later m))) (first_or_later z y (inserted before x zs) g)
    by false later g = g

sorted_within : {X : Type 0} (before : X → X → Bool) (y : X) (xs : List X) → Contains (sorted_by before xs) y → Contains xs y
sorted_within before y [] h = h
sorted_within before y (x ∷ xs) h =
    ⊎_elim (λ e. subst (Contains (x ∷ xs)) e (here x xs)) (λ m. there x y xs (sorted_within before y xs m)) (first_or_later x y (sorted_by before xs) (inserted_within before x y (sorted_by before xs) h))

kept_from : {A : Type 0} (c : A → Valued) (xs left : List A) → kept c xs ≡ Ok left → (x : A) → Contains left x → Contains xs x
kept_from {A} c xs left e x m =
    let made = both_ok (each c xs) (λ truths. Ok (filter (λ y. is_met (c y)) xs)) left e in
    kept_within (λ y. is_met (c y)) x xs (subst (λ (l : List A). Contains l x) (sym (ok_same (filter (λ y. is_met (c y)) xs) left made.2)) m)

at_place : {X : Type 0} (P : X → Type 0) (xs : List X) (n : ℕ) (x : X) → All P xs → slice_get xs n ≡ Some x → P x
at_place P xs n x h e = subst P (get_or_from_slice_get xs n x x e) (h n x (slice_get_within xs n x e))

module _ (fit : ColumnsFit) (kinds : KindLaw) (defs : List TableDef) (ts : List Table) (loaded : AreLoaded defs ts) (q : TypedQuery) (typed : IsTyped q) (names : IsOfCatalog defs q) (written : IsWritten q) where
  abbrev texts : List (List ℕ)
  texts = dictionary_of (tables_texts ts)

  abbrev at : ℕ → Option DataType
  at = types_of q.aggregates

  row_shown : (row : FromRow) → Contains (from_rows ts q.sources) row → ColumnsShown texts defs (places_of q) (column_value row)
  row_shown row m c type e = column_shown ts fit defs loaded q.sources row m c type e

  -- ---- what items are evaluated on

  record IsPlace (on : On) : Type 0 where
    column : ColumnRef → Value
    aggregate : ℕ → Value
    is : record { column = column; aggregate = λ n. Ok (aggregate n) } ≡ on
    columns : ColumnsShown texts defs (places_of q) column
    aggregates : AggregatesShown texts at aggregate

  -- a query that is not grouped has no aggregates
  none : (n : ℕ) (u : DataType) → is_grouped q.groups q.aggregates ≡ false → at n ≡ Some u → ⊥
  none n u e h = by q.groups q.aggregates e h
    where
      by : (groups : List ColumnRef) (aggregates : List Aggregate) → is_grouped groups aggregates ≡ false → types_of aggregates n ≡ Some u → ⊥
      by [] [] e h = absurd cc
      by [] (a ∷ more) e h = absurd cc
      by (g ∷ gs) more e h = absurd cc

  row_place : (row : FromRow) → Contains (from_rows ts q.sources) row → is_grouped q.groups q.aggregates ≡ false → IsPlace (on_row row)
  row_place row m e = record {
    column = column_value row;
    aggregate = λ n. null;
    is = refl;
    columns = row_shown row m;
    aggregates = λ n u h. absurd (none n u e h);
  }

  -- ---- groups

  argument : (n : ℕ) (a : Aggregate) → slice_get q.aggregates n ≡ Some a → ForSome a.argument (IsArgument texts defs (places_of q))
  argument n a at = λ e is. record {
    sides = (at_place IsAggregate q.aggregates n a typed.aggregates at).sides e is;
    written = at_place (λ (x : Aggregate). ForSome x.argument IsAsWritten) q.aggregates n a written.aggregates at e is;
    declared = at_place (λ (x : Aggregate). ForSome x.argument (AreDeclared defs (places_of q))) q.aggregates n a names.aggregates at e is;
  }

  group_place : (rows : List FromRow) → ((row : FromRow) → Contains rows row → Contains (from_rows ts q.sources) row) → (g : Group) → Contains (groups_of q.groups rows) g → (on : On) → on_group (clauses_of q) g ≡ Ok on → IsPlace on
  group_place rows within g m on e =
      let group = group_is q.groups rows g m in
      let made = both_ok (each (λ a. aggregate_value a (map column_value g.rows)) q.aggregates) (λ values. Ok (record { column = group_value q.groups g.key; aggregate = λ n. Ok (get_or values n null) })) on e in
      record {
        column = group_value q.groups g.key;
        aggregate = λ n. get_or made.0 n null;
        is = ok_same (record { column = group_value q.groups g.key; aggregate = λ n. Ok (get_or made.0 n null) }) on made.2;
        columns = λ c type declared. group_holds (λ (v : Value). is_shown texts (kind_of type.kind) v ≡ true) q.groups rows g.key c refl (λ row r. row_shown row (within row r) c type declared) group.key;
        aggregates = λ n u is.
            let x = chosen (slice_get q.aggregates n) aggregate_type u is in
            aggregate_shown texts kinds defs (places_of q) g.rows (λ row r. row_shown row (within row (group.within row r))) x.0 u (get_or made.0 n null) x.2 (argument n x.0 x.1) (made_at (λ a. aggregate_value a (map column_value g.rows)) q.aggregates made.0 n x.0 null made.1 x.1);
      }

  selected_place : (b : Bool) (rows : List FromRow) (ps : List On) → is_grouped q.groups q.aggregates ≡ b → ((row : FromRow) → Contains rows row → Contains (from_rows ts q.sources) row) → selected (clauses_of q) b rows ≡ Ok ps → (on : On) → Contains ps on → IsPlace on
  selected_place false rows ps is within e on m =
      let x = mapped_from on_row rows on (subst (λ (l : List On). Contains l on) (sym (ok_same (map on_row rows) ps e)) m) in
      subst IsPlace x.2 (row_place x.0 (within x.0 x.1) is)
  selected_place true rows ps is within e on m =
      let groups = both_ok (each (on_group (clauses_of q)) (groups_of q.groups rows)) _ ps e in
      let x = made_of (on_group (clauses_of q)) (groups_of q.groups rows) groups.0 groups.1 on (kept_from _ groups.0 ps groups.2 on m) in
      group_place rows within x.0 x.1 on x.2

  -- ---- rows

  -- a value for each item, one that can be shown
  pub record IsRow (row : Row) : Type 0 where
    pub many : length row ≡ length q.items
    pub shown : (k : ℕ) (e : TypedExpr) (t : DataType) → slice_get q.items k ≡ Some e → type_of at e ≡ Some t → is_shown texts t.kind (value_at k row) ≡ true

  item_sound : (k : ℕ) (e : TypedExpr) → slice_get q.items k ≡ Some e → IsSound texts at defs (places_of q) e
  item_sound k e is =
      let item = at_place (IsItem at) q.items k e typed.items is in
      record {
        type = item.type;
        is = item.is;
        sides = item.sides;
        written = at_place IsAsWritten q.items k e written.items is;
        declared = at_place (AreDeclared defs (places_of q)) q.items k e names.items is;
      }

  item_shown : (on : On) → IsPlace on → (e : TypedExpr) (s : IsSound texts at defs (places_of q) e) → Shows texts s.type.kind (value on e)
  item_shown on p e s = subst (λ (x : On). Shows texts s.type.kind (value x e)) p.is (value_shown texts kinds defs (places_of q) at p.column p.aggregate p.columns p.aggregates e s)

  items_row : (on : On) (items : List Value) → IsPlace on → each (value on) q.items ≡ Ok items → IsRow items
  items_row on items p e = record {
    many = made_many (value on) q.items items e;
    shown = λ k x t is type.
        let s = item_sound k x is in
        let one = subst (Shows texts s.type.kind) (made_at (value on) q.items items k x null e is) (item_shown on p x s) in
        subst (λ (u : DataType). is_shown texts u.kind (value_at k items) ≡ true) (some_same s.type t (sym s.is ∙ type)) one;
  }

  -- the items of an output row
  output_is : (on : On) (o : OutputRow) → IsPlace on → output_row (clauses_of q) on ≡ Ok o → IsRow o.items
  output_is on o place e =
      let x = both_ok (each (value on) q.items) (λ items. Ok (record { on = on; items = items })) o e in
      subst (λ (r : OutputRow). IsRow r.items) (ok_same (record { on = on; items = x.0 }) o x.2) (items_row on x.0 place x.1)

  -- those of output rows in order
  ordered_are : (ps : List On) (outputs : List OutputRow) → ((on : On) → Contains ps on → IsPlace on) → each (output_row (clauses_of q)) ps ≡ Ok outputs → (row : Row) → Contains (map (λ (o : OutputRow). o.items) (in_order q.order outputs)) row → IsRow row
  ordered_are ps outputs places e row m =
      let o = mapped_from (λ (o : OutputRow). o.items) (in_order q.order outputs) row m in
      let made = made_of (output_row (clauses_of q)) ps outputs e o.0 (sorted_within (comes_before q.order) o.0 outputs o.1) in
      subst IsRow o.2 (output_is made.0 o.0 (places made.0 made.1) made.2)

  pub rows_are : (rows : List Row) → query_answer ts q ≡ Ok rows → (row : Row) → Contains rows row → IsRow row
  unfolding answer
  rows_are rows e row m =
      let c = clauses_of q in
      let x = both_ok (kept_rows ts c) _ rows e in
      let y = both_ok (selected c c.grouped x.0) _ rows x.2 in
      let z = both_ok (each (output_row c) y.0) (λ outputs. Ok (map (λ (o : OutputRow). o.items) (in_order c.order outputs))) rows y.2 in
      let places = selected_place c.grouped x.0 y.0 refl (kept_from (λ r. condition q.filter (on_row r)) (from_rows ts q.sources) x.0 x.1) y.1 in
      ordered_are y.0 z.0 places z.1 row (subst (λ (l : List Row). Contains l row) (sym (ok_same (map (λ (o : OutputRow). o.items) (in_order c.order z.0)) rows z.2)) m)
