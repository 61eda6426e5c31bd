-- The vector of a table, from its columns.
use Rattle.std.proofs.Common.{◌≡◌, ◌∙◌, ℕ, suc, ◌+◌, ◌<◌, ◌≤◌, ℤ, pos, negsuc, Bool, true, false, List, [], ◌∷◌, length, map, drop, get_or, Option, Some, None, refl, sym, ap, subst, inl, inr, ◌⊎◌, arith}
use Rattle.std.specs.List.{All, AllPairs}
use Rattle.std.specs.List.Sorted.{IsStrictlySortedBy}
use Rattle.std.specs.Ordering.{is_lt}
use Rattle.std.proofs.lemmas.Cmp.{nat_list_cmp_total, on_total}
use Rattle.std.proofs.lemmas.Bool.{cases_lt}
use Rattle.std.proofs.lemmas.List.{drop-drop, drop_all, drop_more, get_or-drop, get_or-map, length-drop, length-map}
use Rattle.std.proofs.lemmas.List.Sorted.{Contains-permutation, IsPermutation-sym}
use Rattle.std.proofs.lemmas.Map.Keys.{sorted_from_all_adjacent}
use Rattle.dict_codes.specs.Ascending.{ascending}
use Rattle.dict_codes.specs.Dictionaries.{rank_in}
use Rattle.dict_codes.proofs.AscendingLaws.{ascending-is}
use Rattle.dict_codes.proofs.DictionaryLaws.{lt_less}
use Rattle.control_vectors.specs.Slots.{Slot}
use Rattle.sql_read.specs.declared.definition.ColumnDef.{ColumnDef}
use Rattle.sql_read.specs.declared.definition.TableDef.{TableDef}
use Rattle.sql_values.specs.Texts.{by_bytes}
use Rattle.sql_values.specs.Values.{Value}
use Rattle.struct_vectors.specs.Columns.{ColumnValue, narrow}
use Rattle.struct_vectors.specs.Vectors.{IsArranged, paths_of, vector_of, VectorValue}
use Rattle.table_load.specs.Databases.{attributes_from, coded, column_of, in_64_bits, vector_of_table}
use Rattle.table_load.specs.HeldColumns.{AreColumns, IsCell, IsCode, row_at, rows_held, value_in, value_of}
use Rattle.table_load.specs.Values.{value_at}
use Rattle.table_load.specs.Vectors.{attribute_in, attributes_in, cell_slot, code_at, recoded}
use Rattle.table_load.proofs.KeyLaws.{column_held, column_whole}
use Rattle.table_load.proofs.Rowwise.{length-rows_to}

-- ---- the order of attributes

sorted_attributes : (xs : List (List ℕ × ColumnValue)) → AllPairs (λ p q. is_lt (by_bytes p q) ≡ true) (paths_of xs) → IsStrictlySortedBy (λ a b. by_bytes a.0 b.0) xs
sorted_attributes [] h = sorted_from_all_adjacent (on_total (λ a. a.0) nat_list_cmp_total) [] ([], record { slots = []; form = narrow }) (λ k l. absurd (omega arith))
sorted_attributes (x ∷ xs) h =
    let all : List (List ℕ × ColumnValue) = x ∷ xs in
    sorted_from_all_adjacent (on_total (λ a. a.0) nat_list_cmp_total) all x (λ k l.
    let long = length-map all (λ a. a.0) in
    let pair = h k (k + 1) [] (omega arith) (omega (arith, l, long)) in
    let first = get_or-map (λ (a : List ℕ × ColumnValue). a.0) all k x [] (omega (arith, l)) in
    let second = get_or-map (λ (a : List ℕ × ColumnValue). a.0) all (k + 1) x [] l in
    lt_less _ (rw (first, second) at pair))

-- attributes that are arranged are those in ascending order
pub arranged_is : (given : List (List ℕ × ColumnValue)) (n : ℕ) (v : VectorValue) → v.length ≡ n → IsArranged given v.attributes → v ≡ vector_of n (ascending (λ a b. by_bytes a.0 b.0) given)
arranged_is given n v e a =
    let same = ascending-is (on_total (λ a. a.0) nat_list_cmp_total) given v.attributes (sorted_attributes v.attributes a.ascending)
    (λ z h. Contains-permutation given v.attributes z a.same h)
    (λ z h. Contains-permutation v.attributes given z (IsPermutation-sym given v.attributes a.same) h)
    in
    rw (same, ← e) refl

-- ---- columns with codes

pub recoded_plain : (codes : List ℤ) (cells : List Slot) → cells ≡ recoded codes false cells
recoded_plain codes [] = refl
recoded_plain codes (z ∷ zs) = ap (λ l. z ∷ l) (recoded_plain codes zs)

code_same : (dictionary texts : List (List ℕ)) (z : ℤ) → IsCode (length texts) z → coded dictionary (value_in texts true z) ≡ Some (code_at (map (λ t. pos (rank_in dictionary t)) texts) z)
code_same dictionary texts (pos c) h = ap Some (sym (get_or-map (λ t. pos (rank_in dictionary t)) texts c [] (pos 0) h))
code_same dictionary texts (negsuc c) h = absurd h

cell_same : (dictionary texts : List (List ℕ)) (k : Bool) (z : Slot) → IsCell (length texts) k z → coded dictionary (value_of texts k z) ≡ cell_slot (map (λ t. pos (rank_in dictionary t)) texts) k z
cell_same dictionary texts true None h = refl
cell_same dictionary texts true (Some z) h = code_same dictionary texts z h
cell_same dictionary texts false None h = refl
cell_same dictionary texts false (Some z) h = refl

slots_same : (dictionary texts : List (List ℕ)) (k : Bool) (cells : List Slot) → All (IsCell (length texts) k) cells
    → map (coded dictionary) (map (value_of texts k) cells) ≡ recoded (map (λ t. pos (rank_in dictionary t)) texts) k cells
slots_same dictionary texts k [] h = refl
slots_same dictionary texts k (z ∷ zs) h = rw (cell_same dictionary texts k z (h 0 z (omega arith)), slots_same dictionary texts k zs (λ i d l. h (suc i) d (omega arith))) refl

map_map : (f : Value → Option ℤ) (g : List Value → Value) (rows : List (List Value)) → map f (map g rows) ≡ map (λ r. f (g r)) rows
map_map f g [] = refl
map_map f g (r ∷ rows) = ap (λ l. f (g r) ∷ l) (map_map f g rows)

column_same : (dictionary texts : List (List ℕ)) (n j : ℕ) (ks : List Bool) (cs : List (List Slot)) → AreColumns (length texts) n ks cs → j < length ks
    → column_of dictionary (rows_held texts ks cs n) j ≡ in_64_bits (recoded (map (λ t. pos (rank_in dictionary t)) texts) (get_or ks j false) (get_or cs j []))
column_same dictionary texts n j ks cs w h =
    let rows = rows_held texts ks cs n in
    let slots : map (λ row. coded dictionary (value_at j row)) rows ≡ recoded (map (λ t. pos (rank_in dictionary t)) texts) (get_or ks j false) (get_or cs j []) =
    sym (map_map (coded dictionary) (value_at j) rows)
    ∙ ap (map (coded dictionary)) (column_held texts (length texts) n j ks cs w h)
    ∙ slots_same dictionary texts (get_or ks j false) (get_or cs j []) (column_whole (length texts) n j ks cs w h).1
    in
    rw slots refl

pub attributes_same : (dictionary texts : List (List ℕ)) (n : ℕ) (ks : List Bool) (cs : List (List Slot)) (j : ℕ) (some_ks : List Bool) (some_cs : List (List Slot)) (defs : List ColumnDef) → AreColumns (length texts) n ks cs
    → some_ks ≡ drop j ks → some_cs ≡ drop j cs → AreColumns (length texts) n some_ks some_cs → length some_ks ≡ length defs
    → attributes_from j dictionary (rows_held texts ks cs n) defs ≡ attributes_in (map (λ t. pos (rank_in dictionary t)) texts) some_ks some_cs defs
attributes_same dictionary texts n ks cs j [] [] [] w a b v l = refl
attributes_same dictionary texts n ks cs j [] [] (d ∷ ds) w a b v l = absurd (omega (arith, l))
attributes_same dictionary texts n ks cs j [] (x ∷ xs) ds w a b v l = absurd v
attributes_same dictionary texts n ks cs j (k ∷ more) [] ds w a b v l = absurd v
attributes_same dictionary texts n ks cs j (k ∷ more) (x ∷ xs) [] w a b v l = absurd (omega (arith, l))
attributes_same dictionary texts n ks cs j (k ∷ more) (x ∷ xs) (d ∷ ds) w a b v l =
    let long : j < length ks = omega (arith, ap length a, length-drop j ks) in
    let kind : k ≡ get_or ks j false = ap (λ l. get_or l 0 false) a ∙ get_or-drop j ks 0 false ∙ ap (λ i. get_or ks i false) (omega arith) in
    let cells : x ≡ get_or cs j [] = ap (λ l. get_or l 0 []) b ∙ get_or-drop j cs 0 [] ∙ ap (λ i. get_or cs i []) (omega arith) in
    let rest = attributes_same dictionary texts n ks cs (j + 1) more xs ds w (ap (drop 1) a ∙ drop-drop 1 j ks) (ap (drop 1) b ∙ drop-drop 1 j cs) v.2 (omega (arith, l)) in
    rw (column_same dictionary texts n j ks cs w long, ← kind, ← cells, rest) refl

-- ---- one attribute more

pub record NextAttribute (codes : List ℤ) (m n i : ℕ) (ks : List Bool) (defs : List ColumnDef) (x : List Slot) (cs : List (List Slot)) (d : ColumnDef) : Type 0 where
  pub within : i < length ks
  pub as_many : length x ≡ n
  pub cells : All (IsCell m (get_or ks i false)) x
  pub whole : AreColumns m n (drop (i + 1) ks) cs
  pub is : attributes_in codes (drop i ks) (x ∷ cs) (drop i defs) ≡ attribute_in codes (get_or defs i d) (get_or ks i false) x ∷ attributes_in codes (drop (i + 1) ks) cs (drop (i + 1) defs)

pub next_attribute : (codes : List ℤ) (m n i : ℕ) (ks : List Bool) (defs : List ColumnDef) (x : List Slot) (cs : List (List Slot)) (d : ColumnDef) → AreColumns m n (drop i ks) (x ∷ cs) → length ks ≡ length defs → NextAttribute codes m n i ks defs x cs d
next_attribute codes m n i ks defs x cs d w l = by_place (cases_lt i (length ks))
  where
    by_place : (i < length ks) ⊎ (length ks ≤ i) → NextAttribute codes m n i ks defs x cs d
    by_place (inl h) =
        let more = drop_more ks i false h in
        let v : AreColumns m n (get_or ks i false ∷ drop (i + 1) ks) (x ∷ cs) = subst (λ l. AreColumns m n l (x ∷ cs)) more w in
        record {
          within = h;
          as_many = v.0;
          cells = v.1;
          whole = v.2;
          is = rw (more, drop_more defs i d (omega (arith, h, l))) refl;
        }
    by_place (inr past) = absurd (subst (λ l. AreColumns m n l (x ∷ cs)) (drop_all i ks past) w)

pub attributes_end : (codes : List ℤ) (m n : ℕ) (ks : List Bool) (defs : List ColumnDef) → AreColumns m n ks [] → attributes_in codes ks [] defs ≡ []
attributes_end codes m n [] [] w = refl
attributes_end codes m n [] (d ∷ ds) w = refl
attributes_end codes m n (k ∷ ks) defs w = absurd w

-- the vector of a table's attributes is the table's
pub vector_same : (dictionary texts : List (List ℕ)) (ks : List Bool) (cs : List (List Slot)) (n : ℕ) (def : TableDef) (codes : List ℤ) (attributes : List (List ℕ × ColumnValue)) → AreColumns (length texts) n ks cs → length ks ≡ length def.columns
    → codes ≡ map (λ t. pos (rank_in dictionary t)) texts → attributes ≡ attributes_in codes ks cs def.columns
    → vector_of n (ascending (λ a b. by_bytes a.0 b.0) attributes) ≡ vector_of_table dictionary def (record { degree = length ks; rows = rows_held texts ks cs n })
vector_same dictionary texts ks cs n def codes attributes w l c a =
    let same = a ∙ ap (λ codes. attributes_in codes ks cs def.columns) c ∙ sym (attributes_same dictionary texts n ks cs 0 ks cs def.columns w refl refl w l) in
    rw (same, length-rows_to (row_at texts ks cs) n) refl
