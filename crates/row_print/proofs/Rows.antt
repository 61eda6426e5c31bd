-- Rows that grow by a field, and texts that grow by some rows.
use Rattle.std.proofs.Common.{◌≡◌, ℕ, zero, suc, ◌+◌, ◌-◌, ◌<◌, ◌≤◌, append_assoc, List, [], ◌∷◌, ◌++◌, length, get_or, take, drop, map, refl, ap, sym, ◌∙◌, arith}
use Rattle.std.specs.Prelude.{Some, None, slice_get}
use Rattle.std.specs.Fmt.{decimal}
use Rattle.std.proofs.lemmas.List.{map_more, map-append, length-map, get_or-map, append-nil, take_more, drop_more, take-append-drop}
use Rattle.std.proofs.lemmas.List.FromFn.{map-range_with_len_more}
use Rattle.std.proofs.lemmas.Grind.{flat_map-append}
use Rattle.csv.specs.Writing.{default_writer, row_text}
use Rattle.std.proofs.lemmas.Option.{get_or_from_slice_get}
use Rattle.struct_vectors.specs.Columns.{ColumnValue}
use Rattle.control_vectors.specs.Slots.{Slot}
use Rattle.struct_vectors.specs.Vectors.{VectorValue, columns_of, paths_of}
use Rattle.programs.specs.Mentions.{Label}
use Rattle.programs.specs.Vectors.{Vector, Named, seen, seen_all, seen_attributes}
use Rattle.row_print.specs.Results.{Row, rows_text, head_rows, result_rows, results_text, place_row, place_rows, slot_field, field_at, slots_in}

-- one column more
pub row_more : (columns : List ColumnValue) (i k : ℕ) (column : ColumnValue) (slot : Slot) (old new : Row) → k < length columns → column ≡ get_or columns k column → slice_get column.slots i ≡ Some slot
    → old ≡ place_row (slots_in (take k columns)) i → new ≡ old ++ slot_field slot ∷ [] → new ≡ place_row (slots_in (take (k + 1) columns)) i
row_more columns i k column slot old new within at here before after =
    let field : field_at i (get_or columns k column).slots ≡ slot_field slot = ap (λ c. field_at i c.slots) (sym at) ∙ ap slot_field (get_or_from_slice_get column.slots i slot None here) in
    let one : slots_in (take (k + 1) columns) ≡ slots_in (take k columns) ++ (get_or columns k column).slots ∷ [] = map_more (λ c. c.slots) columns k column within in
    let more : place_row (slots_in (take (k + 1) columns)) i ≡ place_row (slots_in (take k columns)) i ++ slot_field slot ∷ [] =
    ap (λ l. place_row l i) one ∙ ap (λ l. decimal i ∷ l) (map-append (field_at i) (slots_in (take k columns)) ((get_or columns k column).slots ∷ [])) ∙ ap (λ f. place_row (slots_in (take k columns)) i ++ f ∷ []) field in
    after ∙ ap (λ l. l ++ slot_field slot ∷ []) before ∙ sym more

-- ---- the text of some rows
rows_text-append : (a b : List Row) → rows_text (a ++ b) ≡ rows_text a ++ rows_text b
rows_text-append a b = flat_map-append (row_text default_writer) a b

-- one row more
pub rows_more : (columns : List (List Slot)) (from i : ℕ) (row : Row) (old new : List ℕ) → from ≤ i → row ≡ place_row columns i
    → old ≡ rows_text (place_rows columns from (i - from)) → new ≡ old ++ row_text default_writer row → new ≡ rows_text (place_rows columns from (i + 1 - from))
rows_more columns from i row old new h is before after =
    let count : i + 1 - from ≡ i - from + 1 = omega (arith, h) in
    let more : place_rows columns from (i + 1 - from) ≡ place_rows columns from (i - from) ++ place_row columns i ∷ [] =
    ap (place_rows columns from) count ∙ map-range_with_len_more (place_row columns) from (i - from) i (omega (arith, h)) in
    let one : rows_text (place_row columns i ∷ []) ≡ row_text default_writer row = append-nil (row_text default_writer (place_row columns i)) ∙ ap (row_text default_writer) (sym is) in
    after ∙ ap (λ l. l ++ row_text default_writer row) before ∙ ap (λ l. rows_text (place_rows columns from (i - from)) ++ l) (sym one) ∙ sym (rows_text-append (place_rows columns from (i - from)) (place_row columns i ∷ [])) ∙ ap rows_text (sym more)

-- so many rows, then so many more
pub place_rows-split : (columns : List (List Slot)) (from a b : ℕ) → rows_text (place_rows columns from (a + b)) ≡ rows_text (place_rows columns from a) ++ rows_text (place_rows columns (from + a) b)
place_rows-split columns from a zero =
    let none : a + 0 ≡ a = omega arith in
    ap (λ n. rows_text (place_rows columns from n)) none ∙ sym (append-nil (rows_text (place_rows columns from a)))
place_rows-split columns from a (suc b) =
    let on : a + suc b ≡ a + b + 1 = omega arith in
    let last : suc b ≡ b + 1 = omega arith in
    let here : place_rows columns from (a + b + 1) ≡ place_rows columns from (a + b) ++ place_row columns (from + (a + b)) ∷ [] = map-range_with_len_more (place_row columns) from (a + b) (from + (a + b)) refl in
    let there : place_rows columns (from + a) (b + 1) ≡ place_rows columns (from + a) b ++ place_row columns (from + (a + b)) ∷ [] = map-range_with_len_more (place_row columns) (from + a) b (from + (a + b)) (omega arith) in
    let row = rows_text (place_row columns (from + (a + b)) ∷ []) in
    let left = rows_text (place_rows columns from a) in
    let right = rows_text (place_rows columns (from + a) b) in
    ap (λ n. rows_text (place_rows columns from n)) on ∙ ap rows_text here ∙ rows_text-append (place_rows columns from (a + b)) (place_row columns (from + (a + b)) ∷ []) ∙ ap (λ (l : List ℕ). l ++ row) (place_rows-split columns from a b)
    ∙ append_assoc left right row ∙ ap (λ (l : List ℕ). left ++ l) (sym (rows_text-append (place_rows columns (from + a) b) (place_row columns (from + (a + b)) ∷ [])) ∙ ap rows_text (sym there) ∙ ap (λ n. rows_text (place_rows columns (from + a) n)) (sym last))

-- the first rows of a text, and the others
pub places_split : (columns : List (List Slot)) (from len : ℕ) → from ≤ len → rows_text (place_rows columns 0 len) ≡ rows_text (place_rows columns 0 from) ++ rows_text (place_rows columns from (len - from))
places_split columns from len h =
    let sum : len ≡ from + (len - from) = omega (arith, h) in
    let start : 0 + from ≡ from = omega arith in
    ap (λ n. rows_text (place_rows columns 0 n)) sum ∙ place_rows-split columns 0 from (len - from) ∙ ap (λ n. rows_text (place_rows columns 0 from) ++ rows_text (place_rows columns n (len - from))) start

-- some rows from the first on, then more
pub places_more : (columns : List (List Slot)) (from count : ℕ) → rows_text (place_rows columns 0 from) ++ rows_text (place_rows columns from count) ≡ rows_text (place_rows columns 0 (from + count))
places_more columns from count =
    let start : from ≡ 0 + from = omega arith in
    ap (λ n. rows_text (place_rows columns 0 from) ++ rows_text (place_rows columns n count)) start ∙ sym (place_rows-split columns 0 from count)

-- the first rows, the next, and the others
pub places_next : (columns : List (List Slot)) (from count len : ℕ) → from + count ≤ len
    → rows_text (place_rows columns 0 len) ≡ rows_text (place_rows columns 0 from) ++ (rows_text (place_rows columns from count) ++ rows_text (place_rows columns (from + count) (len - (from + count))))
places_next columns from count len h =
    let sum : len - from ≡ count + (len - (from + count)) = omega (arith, h) in
    places_split columns from len (omega (arith, h)) ∙ ap (λ (l : List ℕ). rows_text (place_rows columns 0 from) ++ l) (ap (λ n. rows_text (place_rows columns from n)) sum ∙ place_rows-split columns from count (len - (from + count)))

-- ---- the rows of a vector
pub result_parts : (r : Label × Vector) → rows_text (result_rows r) ≡ rows_text (head_rows r.0 r.1.len (map (λ a. a.0) r.1.attributes)) ++ rows_text (place_rows (map (λ a. a.1) r.1.attributes) 0 r.1.len)
result_parts r = rows_text-append (head_rows r.0 r.1.len (map (λ a. a.0) r.1.attributes)) (place_rows (map (λ a. a.1) r.1.attributes) 0 r.1.len)

-- a vector's slots and paths are those of its columns
pub seen_slots : (attributes : List (Label × ColumnValue)) → map (λ a. a.1) (seen_attributes attributes) ≡ slots_in (columns_of attributes)
seen_slots [] = refl
seen_slots (a ∷ attributes) = ap (λ l. a.1.slots ∷ l) (seen_slots attributes)

pub seen_paths : (attributes : List (Label × ColumnValue)) → map (λ a. a.0) (seen_attributes attributes) ≡ paths_of attributes
seen_paths [] = refl
seen_paths (a ∷ attributes) = ap (λ l. a.0 ∷ l) (seen_paths attributes)

-- the text of some results, and of one more
pub results_more : (named : Named) (k : ℕ) (r : Label × Vector) → k < length named → r ≡ get_or named k r → results_text (take k named) ++ rows_text (result_rows r) ≡ results_text (take (k + 1) named)
results_more named k r within at =
    let one : results_text (r ∷ []) ≡ rows_text (result_rows r) = append-nil (rows_text (result_rows r)) in
    let more : take (k + 1) named ≡ take k named ++ r ∷ [] = take_more named k r within ∙ ap (λ x. take k named ++ x ∷ []) (sym at) in
    ap (λ (l : List ℕ). results_text (take k named) ++ l) (sym one) ∙ sym (flat_map-append (λ x. rows_text (result_rows x)) (take k named) (r ∷ [])) ∙ ap results_text (sym more)

-- the first results, the next, and the others
pub results_split : (named : Named) (k : ℕ) (r : Label × Vector) → k < length named → r ≡ get_or named k r → results_text named ≡ results_text (take k named) ++ (rows_text (result_rows r) ++ results_text (drop (k + 1) named))
results_split named k r within at =
    let parts : take k named ++ drop k named ≡ named = take-append-drop k named in
    let rest : drop k named ≡ r ∷ drop (k + 1) named = drop_more named k r within ∙ ap (λ x. x ∷ drop (k + 1) named) (sym at) in
    ap results_text (sym parts) ∙ flat_map-append (λ x. rows_text (result_rows x)) (take k named) (drop k named) ∙ ap (λ l. results_text (take k named) ++ results_text l) rest

-- a vector's text, from its length, its paths and its columns
pub result_is : (name : Label) (v : VectorValue) (len : ℕ) (paths : List Label) → len ≡ v.length → paths ≡ paths_of v.attributes
    → rows_text (result_rows (name, seen v)) ≡ rows_text (head_rows name len paths) ++ rows_text (place_rows (slots_in (columns_of v.attributes)) 0 v.length)
result_is name v len paths length_is paths_are =
    result_parts (name, seen v) ∙ rw (length_is, paths_are, seen_paths v.attributes, seen_slots v.attributes) refl

-- ---- a slice of results, seen as their slots
pub seen_at : (results : List (Label × VectorValue)) (items : List (Label × VectorValue)) (k : ℕ) (e : Label × VectorValue) → items ≡ results → k < length items → e ≡ get_or items k e
    → ◌≡◌ {A = Label × Vector} (e.0, seen e.1) (get_or (seen_all results) k (e.0, seen e.1))
seen_at results items k e same within at =
    let here : e ≡ get_or results k e = at ∙ ap (λ l. get_or l k e) same in
    ap (λ x. (x.0, seen x.1)) here ∙ sym (get_or-map (λ (x : Label × VectorValue). (x.0, seen x.1)) results k e (e.0, seen e.1) (omega (arith, within, ap length same)))

pub seen_length : (results : List (Label × VectorValue)) → length (seen_all results) ≡ length results
seen_length results = length-map results (λ (x : Label × VectorValue). (x.0, seen x.1))
