-- Rows that grow by a field, texts that grow by some rows, and the text of an answer in its parts.
use Rattle.std.proofs.Common.{◌≡◌, ◌∙◌, ℕ, zero, suc, ◌+◌, ◌-◌, ◌<◌, ◌≤◌, append_assoc, if◌then◌else◌, true, false, subst, List, [], ◌∷◌, ◌++◌, length, get_or, take, map, refl, ap, sym, arith}
use Rattle.std.specs.Prelude.{All, Option, Some, None, is_some, slice_get}
use Rattle.std.specs.List.{filter, range_with_len}
use Rattle.std.proofs.lemmas.List.{map_more, map-append, map-id, append-nil, length-append, length-map, length-take, take_more, get_or-map}
use Rattle.std.proofs.lemmas.List.FromFn.{map-range_with_len_more, length-range_with_len}
use Rattle.std.proofs.lemmas.List.Sums.{length-filter, count_by-le-length}
use Rattle.std.proofs.lemmas.List.Elements.{filter-append, All-append, All-cons}
use Rattle.std.proofs.lemmas.Grind.{flat_map-append}
use Rattle.std.proofs.lemmas.Option.{get_or_from_slice_get}
use Rattle.csv.specs.Writing.{default_writer, row_text}
use Rattle.control_vectors.specs.Slots.{Slot}
use Rattle.programs.specs.Vectors.{Vector, Named, slots_of}
use Rattle.row_print.specs.Results.{Row as Fields, rows_text}
use Rattle.typed_trees.specs.declared.typed.TypedQuery.{TypedQuery}
use Rattle.typed_trees.specs.declared.typed.TypedExpr.{TypedExpr}
use Rattle.typed_trees.specs.Scales.{scale_of}
use Rattle.typed_trees.specs.Typed.{IsItem}
use Rattle.typed_trees.specs.Types.{DataType, typed_as, type_of, types_of}
use Rattle.typed_values.specs.Narrow.{counted}
use Rattle.answer_texts.specs.Texts.{fields_of, item_types, text_of}
use Rattle.answer_print.specs.declared.items.Item.{Item}
use Rattle.answer_print.specs.Held.{ItemColumn, answer_in, columns_in, item_column, item_columns, item_path, held_row, held_rows, held_text, is_marked, marked_in, marked_places}
use Rattle.answer_print.specs.Conditions.{AreItems, HoldsValues}
use Rattle.answer_print.specs.Kinds.{kind_in, aggregate_kinds}
use Rattle.answer_print.proofs.KindLaw.{typed_item}
use Rattle.answer_print.specs.Shown.{seen_item, seen_items, shown_field, shown_row, shown_text}

-- ---- a row

pub row_more : (dictionary : List (List ℕ)) (items : List Item) (i k : ℕ) (it : Item) (old new : Fields) → k < length items → it ≡ get_or items k it
    → old ≡ shown_row dictionary (seen_items (take k items)) i → new ≡ old ++ shown_field dictionary i (seen_item it) ∷ [] → new ≡ shown_row dictionary (seen_items (take (k + 1) items)) i
row_more dictionary items i k it old new within at before after =
    let one : seen_items (take (k + 1) items) ≡ seen_items (take k items) ++ seen_item (get_or items k it) ∷ [] = map_more seen_item items k it within in
    let more : shown_row dictionary (seen_items (take (k + 1) items)) i ≡ shown_row dictionary (seen_items (take k items)) i ++ shown_field dictionary i (seen_item it) ∷ [] =
    ap (λ l. shown_row dictionary l i) one ∙ map-append (shown_field dictionary i) (seen_items (take k items)) (seen_item (get_or items k it) ∷ [])
    ∙ ap (λ x. shown_row dictionary (seen_items (take k items)) i ++ shown_field dictionary i (seen_item x) ∷ []) (sym at) in
    after ∙ ap (λ l. l ++ shown_field dictionary i (seen_item it) ∷ []) before ∙ sym more

-- ---- the text of some rows

abbrev pub text : (ℕ → Fields) → ℕ → ℕ → List ℕ
text row from count = rows_text (map row (range_with_len from count))

rows_text-append : (a b : List Fields) → rows_text (a ++ b) ≡ rows_text a ++ rows_text b
rows_text-append a b = flat_map-append (row_text default_writer) a b

one_row : (row : Fields) → rows_text (row ∷ []) ≡ row_text default_writer row
one_row row = append-nil (row_text default_writer row)

-- one more
more_text : (row : ℕ → Fields) (from n : ℕ) → text row from (n + 1) ≡ text row from n ++ row_text default_writer (row (from + n))
more_text row from n =
    ap rows_text (map-range_with_len_more row from n (from + n) refl) ∙ rows_text-append (map row (range_with_len from n)) (row (from + n) ∷ []) ∙ ap (λ l. text row from n ++ l) (one_row (row (from + n)))

pub rows_more : (row : ℕ → Fields) (from i : ℕ) (fields : Fields) (old new : List ℕ) → from ≤ i → fields ≡ row i
    → old ≡ text row from (i - from) → new ≡ old ++ row_text default_writer fields → new ≡ text row from (i + 1 - from)
rows_more row from i fields old new h is before after =
    let count : i + 1 - from ≡ i - from + 1 = omega (arith, h) in
    let place : from + (i - from) ≡ i = omega (arith, h) in
    after ∙ ap (λ l. l ++ row_text default_writer fields) before ∙ ap (λ f. text row from (i - from) ++ row_text default_writer f) (is ∙ ap row (sym place)) ∙ sym (more_text row from (i - from)) ∙ ap (text row from) (sym count)

-- so many, then so many more
text-split : (row : ℕ → Fields) (from a b : ℕ) → text row from (a + b) ≡ text row from a ++ text row (from + a) b
text-split row from a zero =
    let none : a + 0 ≡ a = omega arith in
    ap (text row from) none ∙ sym (append-nil (text row from a))
text-split row from a (suc b) =
    let on : a + suc b ≡ a + b + 1 = omega arith in
    let last : suc b ≡ b + 1 = omega arith in
    let place : from + (a + b) ≡ from + a + b = omega arith in
    ap (text row from) on ∙ more_text row from (a + b)
    ∙ (λ i. text-split row from a b i ++ row_text default_writer (row (place i)))
    ∙ append_assoc (text row from a) (text row (from + a) b) (row_text default_writer (row (from + a + b)))
    ∙ ap (λ l. text row from a ++ l) (sym (more_text row (from + a) b) ∙ ap (text row (from + a)) (sym last))

-- the first rows, and the others
pub places_split : (row : ℕ → Fields) (from len : ℕ) → from ≤ len → text row 0 len ≡ text row 0 from ++ text row from (len - from)
places_split row from len h =
    let sum : len ≡ from + (len - from) = omega (arith, h) in
    let start : 0 + from ≡ from = omega arith in
    ap (text row 0) sum ∙ text-split row 0 from (len - from) ∙ ap (λ n. text row 0 from ++ text row n (len - from)) start

pub places_more : (row : ℕ → Fields) (from count : ℕ) → text row 0 from ++ text row from count ≡ text row 0 (from + count)
places_more row from count =
    let start : from ≡ 0 + from = omega arith in
    ap (λ n. text row 0 from ++ text row n count) start ∙ sym (text-split row 0 from count)

-- the first rows, the next, and the others
pub places_next : (row : ℕ → Fields) (from count len : ℕ) → from + count ≤ len → text row 0 len ≡ text row 0 from ++ (text row from count ++ text row (from + count) (len - (from + count)))
places_next row from count len h =
    let sum : len - from ≡ count + (len - (from + count)) = omega (arith, h) in
    places_split row from len (omega (arith, h)) ∙ ap (λ (l : List ℕ). text row 0 from ++ l) (ap (text row from) sum ∙ text-split row from count (len - (from + count)))

-- ---- marked places

counting : (i : ℕ) → range_with_len 0 (i + 1) ≡ range_with_len 0 i ++ i ∷ []
counting i = sym (map-id (range_with_len 0 (i + 1))) ∙ map-range_with_len_more (λ (n : ℕ). n) 0 i i (omega arith) ∙ ap (λ l. l ++ i ∷ []) (map-id (range_with_len 0 i))

marked_more : (marks : List Slot) (i : ℕ) → filter (is_marked marks) (range_with_len 0 (i + 1)) ≡ filter (is_marked marks) (range_with_len 0 i) ++ filter (is_marked marks) (i ∷ [])
marked_more marks i = ap (filter (is_marked marks)) (counting i) ∙ filter-append (is_marked marks) (range_with_len 0 i) (i ∷ [])

pub next_marked : (marks : List Slot) (i count n : ℕ) (slot : Slot) → slice_get marks i ≡ Some slot → count ≡ length (filter (is_marked marks) (range_with_len 0 i)) → is_some slot ≡ true → n ≡ count + 1
    → n ≡ length (filter (is_marked marks) (range_with_len 0 (i + 1)))
next_marked marks i count n slot at before some more =
    let here : is_marked marks i ≡ true = ap is_some (get_or_from_slice_get marks i slot None at) ∙ some in
    let one : length (filter (is_marked marks) (i ∷ [])) ≡ 1 = ap (λ t. length (if t then i ∷ [] else [])) here in
    omega (arith, more, before, one, ap length (marked_more marks i), length-append (filter (is_marked marks) (range_with_len 0 i)) (filter (is_marked marks) (i ∷ [])))

pub next_other : (marks : List Slot) (i count n : ℕ) (slot : Slot) → slice_get marks i ≡ Some slot → count ≡ length (filter (is_marked marks) (range_with_len 0 i)) → is_some slot ≡ false → n ≡ count
    → n ≡ length (filter (is_marked marks) (range_with_len 0 (i + 1)))
next_other marks i count n slot at before none same =
    let here : is_marked marks i ≡ false = ap is_some (get_or_from_slice_get marks i slot None at) ∙ none in
    let zero : length (filter (is_marked marks) (i ∷ [])) ≡ 0 = ap (λ t. length (if t then i ∷ [] else [])) here in
    omega (arith, same, before, zero, ap length (marked_more marks i), length-append (filter (is_marked marks) (range_with_len 0 i)) (filter (is_marked marks) (i ∷ [])))

-- ---- one item more

columns-append : (v : Vector) (k : ℕ) (types : List (Option DataType)) (type : Option DataType) → item_columns v k (types ++ type ∷ []) ≡ item_columns v k types ++ item_column v (k + length types) type ∷ []
columns-append v k [] type = let same : k ≡ k + 0 = omega arith in ap (λ n. item_column v n type ∷ []) same
columns-append v k (x ∷ types) type =
    let same : k + 1 + length types ≡ k + suc (length types) = omega arith in
    ap (λ l. item_column v k x ∷ l) (columns-append v (k + 1) types type ∙ ap (λ n. item_columns v (k + 1) types ++ item_column v n type ∷ []) same)

pub item_next : (q : TypedQuery) (v : Vector) (k : ℕ) (items more : List Item) (it : Item) (e : TypedExpr) → AreItems q → k < length q.items → e ≡ get_or q.items k e
    → it.column.now.slots ≡ slots_of v.attributes (item_path (k + 1)) → it.kind ≡ kind_in (aggregate_kinds q.aggregates) e → it.scale ≡ counted (scale_of e)
    → seen_items items ≡ item_columns v 1 (take k (item_types q)) → more ≡ items ++ it ∷ [] → seen_items more ≡ item_columns v 1 (take (k + 1) (item_types q))
item_next q v k items more it e are within at slots kind scale before after =
    let types = item_types q in
    let at_types = type_of (types_of q.aggregates) in
    let item : IsItem (types_of q.aggregates) e = subst (IsItem (types_of q.aggregates)) (sym at) (are.typed k e within) in
    let few : scale_of e ≤ 36 = subst (λ (x : TypedExpr). scale_of x ≤ 36) (sym at) (are.scales k e within) in
    let type : Some (typed_as it.kind it.scale) ≡ at_types e = typed_item q.aggregates e it.kind it.scale item few kind scale in
    let column : seen_item it ≡ item_column v (k + 1) (at_types e) = λ i. record { type = type i; slots = slots i } in
    let long : k < length types = omega (arith, within, length-map q.items at_types) in
    let taken : take (k + 1) types ≡ take k types ++ at_types e ∷ [] =
    take_more types k (at_types e) long ∙ ap (λ t. take k types ++ t ∷ []) (get_or-map at_types q.items k e (at_types e) within ∙ ap at_types (sym at)) in
    let place : 1 + length (take k types) ≡ k + 1 = omega (arith, long, length-take k types) in
    ap seen_items after ∙ map-append seen_item items (it ∷ [])
    ∙ (λ i. before i ++ column i ∷ [])
    ∙ ap (λ n. item_columns v 1 (take k types) ++ item_column v n (at_types e) ∷ []) (sym place)
    ∙ sym (columns-append v 1 (take k types) (at_types e)) ∙ ap (item_columns v 1) (sym taken)

-- ---- the text of an answer

fields_shown : (dictionary : List (List ℕ)) (types : List (Option DataType)) (v : Vector) (k i : ℕ) → fields_of types (held_row dictionary (item_columns v k types) i) ≡ shown_row dictionary (item_columns v k types) i
fields_shown dictionary [] v k i = refl
fields_shown dictionary (type ∷ types) v k i = ap (λ (l : Fields). shown_row dictionary (item_columns v k (type ∷ [])) i ++ l) (fields_shown dictionary types v (k + 1) i)

rows_shown : (dictionary : List (List ℕ)) (types : List (Option DataType)) (v : Vector) (k : ℕ) (places : List ℕ)
    → map (fields_of types) (map (held_row dictionary (item_columns v k types)) places) ≡ map (shown_row dictionary (item_columns v k types)) places
rows_shown dictionary types v k [] = refl
rows_shown dictionary types v k (i ∷ places) = λ j. fields_shown dictionary types v k i j ∷ rows_shown dictionary types v k places j

pub answer_parts : (dictionary : List (List ℕ)) (q : TypedQuery) (named : Named) (v : Vector) (columns : List ItemColumn) (n : ℕ) → v ≡ answer_in named → columns ≡ columns_in q v → marked_in v ≡ range_with_len 0 n
    → held_text dictionary q named ≡ rows_text (q.names ∷ []) ++ shown_text dictionary columns 0 n
unfolding held_text
answer_parts dictionary q named v columns n is same first =
    let rows : map (fields_of (item_types q)) (held_rows dictionary q v) ≡ map (shown_row dictionary columns) (range_with_len 0 n) =
    rows_shown dictionary (item_types q) v 1 (marked_in v) ∙ (λ i. map (shown_row dictionary (sym same i)) (first i)) in
    ap (λ w. text_of q (held_rows dictionary q w)) (sym is) ∙ ap (λ (l : List Fields). rows_text (q.names ∷ l)) rows ∙ rows_text-append (q.names ∷ []) (map (shown_row dictionary columns) (range_with_len 0 n))

-- ---- the places and the items of an answer

pub marked_few : (marks : List Slot) → length (marked_places marks) ≤ length marks
marked_few marks =
    omega (arith, length-filter (is_marked marks) (range_with_len 0 (length marks)), count_by-le-length (is_marked marks) (range_with_len 0 (length marks)), length-range_with_len 0 (length marks))

pub first_places : (v w : Vector) (n : ℕ) → v ≡ w → n ≡ length (marked_in v) → marked_in w ≡ range_with_len 0 (length (marked_in w)) → marked_in v ≡ range_with_len 0 n
first_places v w n is count first = ap marked_in is ∙ first ∙ ap (range_with_len 0) (ap (λ u. length (marked_in u)) (sym is) ∙ sym count)

pub values_held : (q : TypedQuery) (v w : Vector) (items : List Item) (n : ℕ) → v ≡ w → seen_items items ≡ columns_in q v → n ≡ length (marked_in v)
    → All (HoldsValues (length (marked_in w))) (columns_in q w) → All (λ it. HoldsValues n (seen_item it)) items
values_held q v w items n is same count held k d l =
    let whole : All (HoldsValues n) (seen_items items) = subst (λ c. All (HoldsValues n) c) (ap (columns_in q) (sym is) ∙ sym same) (subst (λ m. All (HoldsValues m) (columns_in q w)) (ap (λ u. length (marked_in u)) (sym is) ∙ sym count) held) in
    subst (HoldsValues n) (get_or-map seen_item items k d (seen_item d) l) (whole k (seen_item d) (omega (arith, l, length-map items seen_item)))

pub all_next : {A : Type 0} (P : A → Type 0) (xs more : List A) (x : A) → All P xs → P x → more ≡ xs ++ x ∷ [] → All P more
all_next P xs more x h p e = subst (All P) (sym e) (All-append P xs (x ∷ []) h (All-cons P x [] p (λ k d l. absurd (omega (arith, l)))))
