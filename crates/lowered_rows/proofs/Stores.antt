-- In the database of some tables a table and each of its columns are found by their names.
use Rattle.std.proofs.Common.{Ordering, ◌≡◌, ◌≢◌, ◌∙◌, ℕ, zero, suc, ◌+◌, ◌≤◌, ◌^◌, Bool, true, false, ◌&&◌, if◌then◌else◌, List, [], ◌∷◌, length, map, Option, Some, None, unwrap_or, refl, sym, ap, arith, lt-ltb}
use Rattle.std.specs.Prelude.{slice_get, nat_lt, nat_le}
use Rattle.std.specs.declared.cmp.Ordering.TheVariants.{Less, Equal, Greater}
use Rattle.std.specs.List.{AllPairs}
use Rattle.std.specs.Map.{lookup}
use Rattle.std.specs.Option.{option_map}
use Rattle.std.specs.Ordering.{is_eq}
use Rattle.std.specs.Str.{bytes_eq}
use Rattle.std.proofs.lemmas.Bool.{false≢true}
use Rattle.std.proofs.lemmas.Bool.Decides.{nat_tests}
use Rattle.std.proofs.lemmas.Map.Text.{is_eq-slice_cmp}
use Rattle.std.proofs.lemmas.Option.{get_or_from_slice_get, slice_get_within}
use Rattle.std.proofs.lemmas.Slice.Eq.{bytes_eq-Decides}
use Rattle.control_vectors.specs.Slots.{Slot}
use Rattle.dict_codes.specs.Ascending.{ascending, ascending_from, placed, with_item}
use Rattle.dict_codes.specs.Dictionaries.{dictionary_of}
use Rattle.key_paths.specs.Paths.{is_path}
use Rattle.key_paths.proofs.Forms.{test_from_path}
use Rattle.programs.specs.Vectors.{seen, seen_attributes, slots_of, tables}
use Rattle.sql_read.specs.declared.definition.ColumnDef.{ColumnDef}
use Rattle.sql_read.specs.declared.definition.TableDef.{TableDef}
use Rattle.sql_read.specs.Forms.{is_name}
use Rattle.sql_types.specs.Catalog.{findings}
use Rattle.sql_values.specs.Texts.{by_bytes}
use Rattle.sql_values.specs.Values.{Value}
use Rattle.struct_vectors.specs.Columns.{ColumnValue}
use Rattle.table_load.specs.Databases.{attributes_from, coded, column_of, database_of, path_of, store_of, tables_texts, vector_of_table}
use Rattle.table_load.specs.Values.{Table, value_at}
use Rattle.table_load.proofs.ColumnNames.{path_of_name}
use Rattle.table_load.proofs.StoreFacts.{names_differ}
use Rattle.program_writers.specs.Statements.{out}
use Rattle.plan_programs.specs.Rows.{loaded_path, named_path, path_at}

-- ---- texts

pub same_text : (a : List ℕ) → bytes_eq a a ≡ true
same_text a = (bytes_eq-Decides a a).1 refl

other_text : (a b : List ℕ) → a ≢ b → bytes_eq a b ≡ false
other_text a b h = by (bytes_eq a b) refl
  where
    by : (t : Bool) → bytes_eq a b ≡ t → t ≡ false
    by false e = refl
    by true e = absurd (h ((bytes_eq-Decides a b).0 e))

equal_text : (a b : List ℕ) → by_bytes a b ≡ Equal → a ≡ b
equal_text a b e = (bytes_eq-Decides a b).0 (sym (is_eq-slice_cmp a b) ∙ ap is_eq e)

-- ---- look-ups in ascending lists

abbrev pub Entry : Type 0
Entry = List ℕ × ColumnValue

abbrev pub by_path : Entry → Entry → Ordering
by_path a b = by_bytes a.0 b.0

abbrev pub found : List ℕ → List Entry → Option ColumnValue
found p es = lookup (bytes_eq p) es

-- an entry more whose path is another
passes_by : (p : List ℕ) (x : Entry) (ys : List Entry) → p ≢ x.0 → found p (with_item by_path x ys) ≡ found p ys
passes_by p x [] h = ap (λ (b : Bool). if b then Some x.1 else None) (other_text p x.0 h)
passes_by p x (y ∷ ys) h = by (by_path x y) (passes_by p x ys h)
  where
    by : (o : Ordering) → found p (with_item by_path x ys) ≡ found p ys → found p (placed o x y ys (with_item by_path x ys)) ≡ found p (y ∷ ys)
    by Less later = ap (λ (b : Bool). if b then Some x.1 else found p (y ∷ ys)) (other_text p x.0 h)
    by Equal later = refl
    by Greater later = ap (λ (o : Option ColumnValue). if bytes_eq p y.0 then Some y.1 else o) later

-- and one of a path that no entry has
finds_it : (x : Entry) (ys : List Entry) → found x.0 ys ≡ None → found x.0 (with_item by_path x ys) ≡ Some x.1
finds_it x [] h = ap (λ (b : Bool). if b then Some x.1 else None) (same_text x.0)
finds_it x (y ∷ ys) h = by_head (bytes_eq x.0 y.0) refl h (λ g. finds_it x ys g)
  where
    placed_found : (o : Ordering) → by_path x y ≡ o → bytes_eq x.0 y.0 ≡ false → found x.0 (with_item by_path x ys) ≡ Some x.1 → found x.0 (placed o x y ys (with_item by_path x ys)) ≡ Some x.1
    placed_found Less is other later = ap (λ (b : Bool). if b then Some x.1 else found x.0 (y ∷ ys)) (same_text x.0)
    placed_found Equal is other later = absurd (false≢true (sym other ∙ (bytes_eq-Decides x.0 y.0).1 (equal_text x.0 y.0 is)))
    placed_found Greater is other later = ap (λ (b : Bool). if b then Some y.1 else found x.0 (with_item by_path x ys)) other ∙ later

    by_head : (b : Bool) → bytes_eq x.0 y.0 ≡ b → (if b then Some y.1 else found x.0 ys) ≡ None → (found x.0 ys ≡ None → found x.0 (with_item by_path x ys) ≡ Some x.1) → found x.0 (with_item by_path x (y ∷ ys)) ≡ Some x.1
    by_head true other h later = absurd cc
    by_head false other h later = placed_found (by_path x y) refl other (later h)

-- ---- the columns of a table

apart_rest : (c : ColumnDef) (cs : List ColumnDef) → AllPairs (λ a b. a.name ≢ b.name) (c ∷ cs) → AllPairs (λ a b. a.name ≢ b.name) cs
apart_rest c cs h i j d l m = h (suc i) (suc j) d (omega (arith, l)) (omega (arith, m))

-- the first is apart from one behind it
apart_first : (c : ColumnDef) (cs : List ColumnDef) (k : ℕ) (x : ColumnDef) → AllPairs (λ a b. a.name ≢ b.name) (c ∷ cs) → slice_get cs k ≡ Some x → c.name ≢ x.name
apart_first c cs k x h e same =
    h zero (suc k) x (omega arith) (omega (arith, slice_get_within cs k x e)) (same ∙ ap (λ (y : ColumnDef). y.name) (sym (get_or_from_slice_get cs k x x e)))

other_path : (a b : ColumnDef) → a.name ≢ b.name → path_of a ≢ path_of b
other_path a b h e = h (ap tail e)
  where
    tail : List ℕ → List ℕ
    tail [] = []
    tail (x ∷ xs) = xs

module _ (dictionary : List (List ℕ)) (rows : List (List Value)) where
  -- columns of other names
  none_found : (c : ColumnDef) (cs : List ColumnDef) (j : ℕ) (done : List Entry) → ((k : ℕ) (x : ColumnDef) → slice_get cs k ≡ Some x → c.name ≢ x.name)
      → found (path_of c) (ascending_from by_path done (attributes_from j dictionary rows cs)) ≡ found (path_of c) done
  none_found c [] j done h = refl
  none_found c (x ∷ xs) j done h =
      none_found c xs (j + 1) (with_item by_path (path_of x, column_of dictionary rows j) done) (λ k y e. h (suc k) y e)
      ∙ passes_by (path_of c) (path_of x, column_of dictionary rows j) done (other_path c x (h zero x refl))

  column_found : (cs : List ColumnDef) (k : ℕ) (c : ColumnDef) (j : ℕ) (done : List Entry) → AllPairs (λ a b. a.name ≢ b.name) cs → slice_get cs k ≡ Some c → found (path_of c) done ≡ None
      → found (path_of c) (ascending_from by_path done (attributes_from j dictionary rows cs)) ≡ Some (column_of dictionary rows (j + k))
  column_found [] k c j done h e none = absurd (missing k e)
    where
      missing : (k : ℕ) → slice_get {X = ColumnDef} [] k ≡ Some c → ⊥
      missing k e = cc
  column_found (x ∷ xs) zero c j done h e none =
      let same : x ≡ c = cc in
      let here : Entry = (path_of x, column_of dictionary rows j) in
      let first : found (path_of x) (with_item by_path here done) ≡ Some (column_of dictionary rows j) = finds_it here done (ap (λ (y : ColumnDef). found (path_of y) done) same ∙ none) in
      ap (λ (y : ColumnDef). found (path_of y) (ascending_from by_path (with_item by_path here done) (attributes_from (j + 1) dictionary rows xs))) (sym same)
      ∙ none_found x xs (j + 1) (with_item by_path here done) (λ k y e. apart_first x xs k y h e)
      ∙ first
      ∙ ap (λ (i : ℕ). Some (column_of dictionary rows i)) (omega arith)
  column_found (x ∷ xs) (suc k) c j done h e none =
      let here : Entry = (path_of x, column_of dictionary rows j) in
      let apart : c.name ≢ x.name = λ s. apart_first x xs k c h e (sym s) in
      column_found xs k c (j + 1) (with_item by_path here done) (apart_rest x xs h) e (passes_by (path_of c) here done (other_path c x apart) ∙ none)
      ∙ ap (λ (i : ℕ). Some (column_of dictionary rows i)) (omega arith)

  pub attribute_found : (cs : List ColumnDef) (k : ℕ) (c : ColumnDef) → AllPairs (λ a b. a.name ≢ b.name) cs → slice_get cs k ≡ Some c
      → found (path_of c) (ascending by_path (attributes_from 0 dictionary rows cs)) ≡ Some (column_of dictionary rows k)
  unfolding ascending
  attribute_found cs k c h e = column_found cs k c 0 [] h e refl ∙ ap (λ (i : ℕ). Some (column_of dictionary rows i)) (omega arith)

-- ---- the tables of a database

table_found : (dictionary : List (List ℕ)) (defs : List TableDef) (ts : List Table) (k : ℕ) (def : TableDef) (t : Table) → AllPairs (λ a b. a.name ≢ b.name) defs → slice_get defs k ≡ Some def → slice_get ts k ≡ Some t
    → lookup (bytes_eq def.name) (store_of dictionary defs ts) ≡ Some (vector_of_table dictionary def t)
table_found dictionary [] ts k def t h e f = absurd (missing k e)
  where
    missing : (k : ℕ) → slice_get {X = TableDef} [] k ≡ Some def → ⊥
    missing k e = cc
table_found dictionary (d ∷ ds) [] k def t h e f = absurd (missing k f)
  where
    missing : (k : ℕ) → slice_get {X = Table} [] k ≡ Some t → ⊥
    missing k e = cc
table_found dictionary (d ∷ ds) (u ∷ us) zero def t h e f =
    let same : d ≡ def = cc in
    let one : u ≡ t = cc in
    ap (λ (x : TableDef). lookup (bytes_eq x.name) (store_of dictionary (d ∷ ds) (u ∷ us))) (sym same)
    ∙ ap (λ (b : Bool). if b then Some (vector_of_table dictionary d u) else lookup (bytes_eq d.name) (store_of dictionary ds us)) (same_text d.name)
    ∙ (λ i. Some (vector_of_table dictionary (same i) (one i)))
table_found dictionary (d ∷ ds) (u ∷ us) (suc k) def t h e f =
    let apart : def.name ≢ d.name = λ s.
    h zero (suc k) def (omega arith) (omega (arith, slice_get_within ds k def e)) (sym s ∙ ap (λ (x : TableDef). x.name) (sym (get_or_from_slice_get ds k def def e)))
    in
    ap (λ (b : Bool). if b then Some (vector_of_table dictionary d u) else lookup (bytes_eq def.name) (store_of dictionary ds us)) (other_text def.name d.name apart)
    ∙ table_found dictionary ds us k def t (λ i j x l m. h (suc i) (suc j) x (omega (arith, l)) (omega (arith, m))) e f

lookup_seen : (test : List ℕ → Bool) (es : List Entry) → lookup test (seen_attributes es) ≡ option_map (λ (c : ColumnValue). c.slots) (lookup test es)
lookup_seen test [] = refl
lookup_seen test (x ∷ es) = by (test x.0) (lookup_seen test es)
  where
    by : (b : Bool) → lookup test (seen_attributes es) ≡ option_map (λ (c : ColumnValue). c.slots) (lookup test es)
        → (if b then Some x.1.slots else lookup test (seen_attributes es)) ≡ option_map (λ (c : ColumnValue). c.slots) (if b then Some x.1 else lookup test es)
    by true h = refl
    by false h = h

-- the table of a definition
pub table_is : (defs : List TableDef) (ts : List Table) (n : ℕ) (def : TableDef) (t : Table) → findings defs ≡ [] → slice_get defs n ≡ Some def → slice_get ts n ≡ Some t
    → tables (database_of defs ts).store def.name ≡ Some (seen (vector_of_table (database_of defs ts).dictionary def t))
unfolding database_of
table_is defs ts n def t clean e f = ap (option_map seen) (table_found (dictionary_of (tables_texts ts)) defs ts n def t (names_differ defs clean) e f)

-- the slots of one of its columns
pub column_is : (dictionary : List (List ℕ)) (def : TableDef) (t : Table) (k : ℕ) (c : ColumnDef) → AllPairs (λ a b. a.name ≢ b.name) def.columns → slice_get def.columns k ≡ Some c
    → slots_of (seen (vector_of_table dictionary def t)).attributes (path_of c) ≡ map (λ row. coded dictionary (value_at k row)) t.rows
column_is dictionary def t k c apart e =
    ap (λ (o : Option (List Slot)). unwrap_or o [])
    (lookup_seen (bytes_eq (path_of c)) (ascending by_path (attributes_from 0 dictionary t.rows def.columns))
    ∙ ap (option_map (λ (x : ColumnValue). x.slots)) (attribute_found dictionary t.rows def.columns k c apart e))

-- ---- the path of a column

and_parts : (a b : Bool) → (a && b) ≡ true → (a ≡ true) × (b ≡ true)
and_parts true b h = (refl, h)
and_parts false b h = absurd cc

short_name : (name : List ℕ) → is_name name ≡ true → nat_lt (length (46 ∷ name)) (2 ^ 32) ≡ true
short_name [] h = absurd (false≢true h)
short_name (b ∷ z) h =
    let rest = and_parts _ (nat_le (length z) 63) (and_parts _ _ h).1 in
    let few : length z ≤ 63 = grind (arith, nat_tests, rest.1) in
    lt-ltb (length (46 ∷ b ∷ z)) (2 ^ 32) (omega (arith, few))

path_named : (c : ColumnDef) → is_name c.name ≡ true → named_path (path_of c) ≡ path_of c
path_named c h =
    ap (λ (b : Bool). if b && is_path (path_of c) then path_of c else out) (short_name c.name h)
    ∙ ap (λ (b : Bool). if b then path_of c else out) (test_from_path (path_of c) (path_of_name c.name h))

pub loaded_is : (def : TableDef) (k : ℕ) (c : ColumnDef) → is_name c.name ≡ true → slice_get def.columns k ≡ Some c → loaded_path def k ≡ path_of c
loaded_is def k c h e = ap path_at e ∙ path_named c h
