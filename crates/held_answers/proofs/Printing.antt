-- Results that hold the rows of a query's answer can be printed, and what is printed is the answer's text.
use Rattle.std.proofs.Common.{◌≡◌, ◌∙◌, ℕ, suc, ◌+◌, ◌-◌, ◌<◌, ◌≤◌, ℤ, true, List, [], ◌∷◌, length, map, get_or, Option, Some, None, Ok, refl, sym, ap, subst, arith}
use Rattle.std.specs.Prelude.{All, slice_get}
use Rattle.std.specs.List.{range_with_len}
use Rattle.std.proofs.lemmas.Bool.{leb-true}
use Rattle.std.proofs.lemmas.List.Elements.{All-nil, All-cons, All-head, All-tail, Contains-get_or}
use Rattle.std.proofs.lemmas.List.FromFn.{get_or-map-range_with_len, length-map-range_with_len, length-range_with_len}
use Rattle.std.proofs.lemmas.Option.{get_or_from_slice_get, slice_get_within}
use Rattle.civil_days.specs.Dates.{in_range}
use Rattle.control_vectors.specs.Slots.{Slot}
use Rattle.dict_codes.specs.Dictionaries.{dictionary_of}
use Rattle.sql_read.specs.declared.definition.TableDef.{TableDef}
use Rattle.sql_values.specs.Values.{Value, number, text, truth, null}
use Rattle.table_load.specs.ColumnTypes.{ColumnsFit}
use Rattle.table_load.specs.Databases.{coded, database_of, tables_texts}
use Rattle.table_load.specs.Values.{Table, value_at}
use Rattle.programs.specs.Vectors.{Vector, Named, slots_of}
use Rattle.typed_trees.specs.declared.kinds.Kind.{Kind}
use Rattle.typed_trees.specs.declared.kinds.Kind.TheVariants.{Number, Date, Text, Truth}
use Rattle.typed_trees.specs.declared.typed.Aggregate.{Aggregate}
use Rattle.typed_trees.specs.declared.typed.TypedExpr.{TypedExpr}
use Rattle.typed_trees.specs.declared.typed.TypedQuery.{TypedQuery}
use Rattle.typed_trees.specs.Scales.{scale_of}
use Rattle.typed_trees.specs.Typed.{IsItem, IsTyped}
use Rattle.typed_trees.specs.Types.{DataType, type_of, types_of}
use Rattle.typed_trees.proofs.Inversions.{some_same}
use Rattle.typed_trees.proofs.Scaled.{scale_law}
use Rattle.value_laws.specs.Laws.{KindLaw}
use Rattle.query_answers.specs.Answers.{Row, query_answer}
use Rattle.typing_laws.specs.Laws.{ColumnLaw, IsOfCatalog, TypedLaw}
use Rattle.loaded_plans.specs.Laws.{AreLoaded}
use Rattle.expr_values.proofs.AggregateScales.{aggregates_scaled}
use Rattle.expr_values.proofs.Scales.{scale_small, scaled_types}
use Rattle.written_queries.specs.Laws.{IsAsWritten, IsWritten, WrittenLaw}
use Rattle.written_queries.proofs.Ranges.{within_ranges}
use Rattle.held_rows.specs.Held.{Holds, Told, column, one, packed}
use Rattle.program_writers.specs.Statements.{mark}
use Rattle.lowered_answers.specs.Holding.{HoldsRows, answer_attributes, item_slot}
use Rattle.answer_texts.specs.Texts.{text_of}
use Rattle.answer_print.specs.Conditions.{AreItems, HasPath, HoldsValues, IsOfKind, IsOfType}
use Rattle.answer_print.specs.Held.{answer_in, columns_in, held_as, held_row, held_rows, held_text, item_column, item_columns, item_path, marked_in, marked_places, mark_path}
use Rattle.held_answers.specs.Laws.{PrintLaw, Prints}
use Rattle.held_answers.specs.Shown.{is_shown}
use Rattle.held_answers.proofs.Answers.{IsRow, rows_are}
use Rattle.held_answers.proofs.Decoded.{decoded}
use Rattle.held_answers.proofs.Packed.{by_places, first_marked, from_none, packed_slots, padded, slot_in}

-- ---- a slot of a value that can be shown

-- a date's is a day of the years 1 to 9999
dated : (texts : List (List ℕ)) (k : Kind) (v : Value) (z : ℤ) → is_shown texts k v ≡ true → coded texts v ≡ Some z → IsOfKind k z
dated texts Date (number y) z h e = subst (λ (x : ℤ). in_range x ≡ true) (some_same y z e) h
dated texts Date (text t) z h e = absurd cc
dated texts Date (truth b) z h e = absurd cc
dated texts Date null z h e = absurd cc
dated texts Number v z h e = tt
dated texts Text v z h e = tt
dated texts Truth v z h e = tt

module _ (fit : ColumnsFit) (kinds : KindLaw) (defs : List TableDef) (ts : List Table) (loaded : AreLoaded defs ts) (q : TypedQuery) (typed : IsTyped q) (names : IsOfCatalog defs q) (written : IsWritten q) (rows : List Row) (answered : query_answer ts q ≡ Ok rows) where
  abbrev texts : List (List ℕ)
  texts = dictionary_of (tables_texts ts)

  abbrev at : ℕ → Option DataType
  at = types_of q.aggregates

  -- ---- the items' scales

  small : (k : ℕ) (d : TypedExpr) → k < length q.items → scale_of (get_or q.items k d) ≤ 36
  small k d l =
      let e = get_or q.items k d in
      let item = typed.items k d l in
      let scaled = aggregates_scaled q.aggregates (λ n a x is argument. within_ranges x (written_argument n a x is argument)) in
      let most = leb-true item.type.scale 36 (scale_small item.type.kind item.type.scale (scaled_types at scaled e item.type item.is (within_ranges e (written.items k d l)))) in
      omega (arith, scale_law at e item.type item.is, most)
    where
      written_argument : (n : ℕ) (a : Aggregate) (x : TypedExpr) → slice_get q.aggregates n ≡ Some a → a.argument ≡ Some x → IsAsWritten x
      written_argument n a x is argument = subst (λ (b : Aggregate). b.argument ≡ Some x → IsAsWritten x) (get_or_from_slice_get q.aggregates n a a is) (written.aggregates n a (slice_get_within q.aggregates n a is) x) argument

  items_are : AreItems q
  items_are = record { typed = typed.items; scales = small }

  row_is : (i : ℕ) (d : Row) → i < length rows → IsRow fit kinds defs ts loaded q typed names written (get_or rows i d)
  row_is i d l = rows_are fit kinds defs ts loaded q typed names written rows answered (get_or rows i d) (Contains-get_or rows i d l)

  module _ (v : Vector) (few : length rows ≤ v.len) (holds : Holds v (packed v.len rows) (answer_attributes texts (length q.items))) where
    abbrev rest : ℕ
    rest = v.len - length rows

    -- ---- the mark

    marks : slots_of v.attributes mark_path ≡ padded rest (map one rows)
    marks = All-head (λ (t : Told Row). slots_of v.attributes t.0 ≡ column t.1 (packed v.len rows)) (mark, one) (map (λ n. (item_path n, item_slot texts n)) (range_with_len 1 (length q.items))) holds.each ∙ packed_slots one v.len rows

    marked : marked_in v ≡ range_with_len 0 (length rows)
    marked = ap marked_places marks ∙ first_marked rest rows

    many_marked : length (marked_in v) ≡ length rows
    many_marked = ap length marked ∙ length-range_with_len 0 (length rows)

    -- ---- the items

    item_slots : (j : ℕ) → j < length q.items → slots_of v.attributes (item_path (1 + j)) ≡ padded rest (map (item_slot texts (1 + j)) rows)
    item_slots j l =
        let told : ℕ → Told Row = λ n. (item_path n, item_slot texts n) in
        let all = All-tail (λ (t : Told Row). slots_of v.attributes t.0 ≡ column t.1 (packed v.len rows)) (mark, one) (map told (range_with_len 1 (length q.items))) holds.each in
        let inside : j < length (map told (range_with_len 1 (length q.items))) = omega (arith, l, length-map-range_with_len told 1 (length q.items)) in
        let is = get_or-map-range_with_len told 1 (length q.items) j (1 + j) (told 0) l refl in
        subst (λ (t : Told Row). slots_of v.attributes t.0 ≡ column t.1 (packed v.len rows)) is (all j (told 0) inside) ∙ packed_slots (item_slot texts (1 + j)) v.len rows

    -- an item's slot at a row's place
    cell : (j i : ℕ) (d : Row) → j < length q.items → i < length rows → get_or (slots_of v.attributes (item_path (1 + j))) i None ≡ coded texts (value_at j (get_or rows i d))
    cell j i d l m =
        let same : 1 + j - 1 ≡ j = omega arith in
        ap (λ (s : List Slot). get_or s i None) (item_slots j l) ∙ (slot_in (item_slot texts (1 + j)) rest rows i d m ∙ ap (λ n. coded texts (value_at n (get_or rows i d))) same)

    -- what is printed of it
    shown_cell : (j i : ℕ) (d : Row) (e : TypedExpr) → slice_get q.items j ≡ Some e → i < length rows → held_as texts (type_of at e) (get_or (slots_of v.attributes (item_path (1 + j))) i None) ≡ value_at j (get_or rows i d)
    shown_cell j i d e is m =
        let l = slice_get_within q.items j e is in
        let item : IsItem at e = subst (IsItem at) (get_or_from_slice_get q.items j e e is) (typed.items j e l) in
        let shown = (row_is i d m).shown j e item.type is item.is in
        ap (λ (t : Option DataType). held_as texts t (get_or (slots_of v.attributes (item_path (1 + j))) i None)) item.is
        ∙ (ap (held_as texts (Some item.type)) (cell j i d l m) ∙ decoded (tables_texts ts) item.type.kind (value_at j (get_or rows i d)) item.kind shown)

    -- a row of such cells
    row_of : (i k : ℕ) (es : List TypedExpr) (vs : List Value) → length vs ≡ length es → ((j : ℕ) (e : TypedExpr) → slice_get es j ≡ Some e → held_as texts (type_of at e) (get_or (slots_of v.attributes (item_path (k + j))) i None) ≡ get_or vs j null)
        → held_row texts (item_columns v k (map (type_of at) es)) i ≡ vs
    row_of i k [] [] n h = refl
    row_of i k [] (w ∷ vs) n h = absurd (omega (arith, n))
    row_of i k (e ∷ es) [] n h = absurd (omega (arith, n))
    row_of i k (e ∷ es) (w ∷ vs) n h =
        let here : k + 0 ≡ k = omega arith in
        let first = ap (λ m. held_as texts (type_of at e) (get_or (slots_of v.attributes (item_path m)) i None)) (sym here) ∙ h 0 e refl in
        let others = row_of i (k + 1) es vs (omega (arith, n)) (λ j x is. let next : k + 1 + j ≡ k + suc j = omega arith in ap (λ m. held_as texts (type_of at x) (get_or (slots_of v.attributes (item_path m)) i None)) next ∙ h (suc j) x is) in
        ap (λ (x : Value). x ∷ held_row texts (item_columns v (k + 1) (map (type_of at) es)) i) first ∙ ap (λ (l : List Value). w ∷ l) others

    pub rows_held : held_rows texts q v ≡ rows
    rows_held =
        ap (map (held_row texts (columns_in q v))) marked
        ∙ by_places (held_row texts (columns_in q v)) 0 rows (λ i d m. ap (held_row texts (columns_in q v)) (from_none i) ∙ row_of i 1 q.items (get_or rows i d) (row_is i d m).many (λ j e is. shown_cell j i d e is m))

    -- ---- dates

    columns_hold : (k : ℕ) (es : List TypedExpr) → ((j : ℕ) (e : TypedExpr) → slice_get es j ≡ Some e → HoldsValues (length (marked_in v)) (item_column v (k + j) (type_of at e))) → All (HoldsValues (length (marked_in v))) (item_columns v k (map (type_of at) es))
    columns_hold k [] h = All-nil (HoldsValues (length (marked_in v)))
    columns_hold k (e ∷ es) h =
        let same : k + 0 ≡ k = omega arith in
        let here = subst (λ m. HoldsValues (length (marked_in v)) (item_column v m (type_of at e))) same (h 0 e refl) in
        let others = columns_hold (k + 1) es (λ j x is. let next : k + suc j ≡ k + 1 + j = omega arith in subst (λ m. HoldsValues (length (marked_in v)) (item_column v m (type_of at x))) next (h (suc j) x is)) in
        All-cons (HoldsValues (length (marked_in v))) (item_column v k (type_of at e)) (item_columns v (k + 1) (map (type_of at) es)) here others

    item_holds : (j : ℕ) (e : TypedExpr) → slice_get q.items j ≡ Some e → HoldsValues (length (marked_in v)) (item_column v (1 + j) (type_of at e))
    item_holds j e is = λ i m z slot.
        let l = slice_get_within q.items j e is in
        let item : IsItem at e = subst (IsItem at) (get_or_from_slice_get q.items j e e is) (typed.items j e l) in
        let inside : i < length rows = omega (arith, m, many_marked) in
        let shown = (row_is i [] inside).shown j e item.type is item.is in
        let there = sym (cell j i [] l inside) ∙ get_or_from_slice_get (slots_of v.attributes (item_path (1 + j))) i (Some z) None slot in
        subst (λ (t : Option DataType). IsOfType t z) (sym item.is) (dated texts item.type.kind (value_at j (get_or rows i [])) z shown there)

    pub values_hold : All (HoldsValues (length (marked_in v))) (columns_in q v)
    values_hold = columns_hold 1 q.items item_holds

    pub first : marked_in v ≡ range_with_len 0 (length (marked_in v))
    first = marked ∙ ap (range_with_len 0) (sym many_marked)

  -- ---- the results

  pub printed : (named : Named) → HoldsRows texts (length q.items) rows named → Prints texts q rows named
  unfolding held_text
  printed named h =
      let is : answer_in named ≡ h.vector = ap answer_in h.one in
      record {
        printable = record {
          one = ap (map (λ e. e.0)) h.one;
          items = items_are;
          held = record {
            items = subst (λ (v : Vector). (k : ℕ) → k < length q.items → HasPath v (item_path (k + 1))) (sym is) h.paths;
            mark = subst (λ (v : Vector). HasPath v mark_path) (sym is) h.mark_is;
            first = subst (λ (v : Vector). marked_in v ≡ range_with_len 0 (length (marked_in v))) (sym is) (first h.vector h.fit h.holds);
            values = subst (λ (v : Vector). All (HoldsValues (length (marked_in v))) (columns_in q v)) (sym is) (values_hold h.vector h.fit h.holds);
          };
        };
        text = ap (text_of q) (ap (held_rows texts q) is ∙ rows_held h.vector h.fit h.holds);
      }

dictionary_is : (defs : List TableDef) (ts : List Table) → dictionary_of (tables_texts ts) ≡ (database_of defs ts).dictionary
unfolding database_of
dictionary_is defs ts = refl

pub print_law : ColumnsFit → TypedLaw → ColumnLaw → KindLaw → WrittenLaw → PrintLaw
print_law fit typing columns kinds writes bytes defs ts query q rows named read scales typed loaded answered =
    subst (λ (d : List (List ℕ)). HoldsRows d (length q.items) rows named → Prints d q rows named) (dictionary_is defs ts)
    (printed fit kinds defs ts loaded q (typing query defs q typed) (columns query defs q typed) (writes bytes defs query q read scales typed) rows answered named)
