-- What a catalog of definitions of a schema says of the columns of each table, and that such columns make a vector.
use Rattle.std.proofs.Common.{◌≡◌, ◌≢◌, ◌∙◌, ℕ, zero, suc, ◌+◌, ◌≤◌, ℤ, Bool, true, false, not, ◌&&◌, List, [], ◌∷◌, ◌++◌, length, map, take, drop, get_or, refl, sym, ap, subst, arith, append-nil}
use Rattle.std.specs.Prelude.{Some, slice_get, nat_eq}
use Rattle.std.specs.List.{All, AllPairs, filter, list_all, list_any}
use Rattle.std.specs.List.Sorted.{IsPermutation}
use Rattle.std.specs.Str.{bytes_eq}
use Rattle.std.specs.Char.{is_ascii_alphabetic}
use Rattle.std.proofs.lemmas.Bool.{and_from, and_parts, or_left, false≢true, true≢false}
use Rattle.std.proofs.lemmas.Bool.Decides.{nat_tests}
use Rattle.std.proofs.lemmas.List.{get_or-map, length-map, take-append-drop}
use Rattle.std.proofs.lemmas.List.Folds.{list_all-append}
use Rattle.std.proofs.lemmas.List.Sorted.{Contains-permutation, IsPermutation-sym}
use Rattle.std.proofs.lemmas.Map.Keys.{IsDistinct-IsPermutation}
use Rattle.std.proofs.lemmas.Map.Made.{AllPairs-from_IsDistinct, IsDistinct-from_AllPairs}
use Rattle.std.proofs.lemmas.List.Elements.{All-map}
use Rattle.std.proofs.lemmas.Option.{get_or_from_slice_get, slice_get_within}
use Rattle.std.proofs.lemmas.Slice.Eq.{bytes_eq-Decides}
use Rattle.key_paths.specs.Paths.{is_dot, begins_segment, is_in_segment, is_segment, IsPath}
use Rattle.key_paths.specs.Substructures.{begins_segment_or_ends, is_at_or_below, is_root}
use Rattle.key_paths.proofs.Bools.{all_weaker}
use Rattle.key_paths.proofs.Forms.{segment_inside}
use Rattle.control_vectors.specs.Slots.{Slot}
use Rattle.sql_read.specs.Forms.{is_name, IsFormed}
use Rattle.sql_read.specs.declared.definition.ColumnDef.{ColumnDef}
use Rattle.sql_read.specs.declared.definition.KeyDef.{KeyDef}
use Rattle.sql_read.specs.declared.definition.TableDef.{TableDef}
use Rattle.sql_types.specs.Catalog as catalog
use Rattle.sql_types.specs.Catalog.{findings, table_findings, is_column_named, is_unknown, with_earlier}
use Rattle.struct_vectors.specs.Columns.{ColumnValue}
use Rattle.struct_vectors.specs.Refusals.{IsFirstClash}
use Rattle.struct_vectors.specs.Vectors.{HaveLength, IsFirstOther, paths_of}
use Rattle.table_load.specs.Databases.{path_of}
use Rattle.table_load.specs.HeldColumns.{AreColumns}
use Rattle.table_load.specs.Vectors.{AreColumnPaths, HasColumns, attribute_in, attributes_in, cell_slot, is_column_path}
use Rattle.table_load.proofs.Limits.{few_columns, findings_at}
use Rattle.table_load.proofs.StoreFacts.{all_differ, none_passes, no_findings, unmapped}

-- ---- the columns of a catalog's tables

columns_apart : (t : TableDef) → table_findings t ≡ [] → AllPairs (λ a b. a.name ≢ b.name) t.columns
unfolding table_findings
columns_apart t e =
    all_differ (λ c. c.name) t.columns (unmapped catalog.column_twice (filter catalog.is_later_column (with_earlier t.columns)) (no_findings (catalog.too_many_columns t) (catalog.columns_twice t) _ e))

-- a known key has a column
columns_some : (t : TableDef) → catalog.keys_unknown t ≡ [] → 1 ≤ length t.columns + length t.keys → 1 ≤ length t.columns
columns_some t known some = by_lists t.columns t.keys refl (unmapped catalog.key_unknown (filter (is_unknown t) t.keys) known) some
  where
    by_lists : (cs : List ColumnDef) (ks : List KeyDef) → t.columns ≡ cs → filter (is_unknown t) ks ≡ [] → 1 ≤ length cs + length ks → 1 ≤ length cs
    by_lists (c ∷ cs) ks e f h = omega arith
    by_lists [] [] e f h = absurd (omega arith)
    by_lists [] (k ∷ ks) e f h =
        let first : is_unknown t k ≡ false = none_passes (is_unknown t) (k ∷ ks) 0 k f (omega arith) in
        let missing : is_unknown t k ≡ true = ap (λ (l : List ColumnDef). not (list_any (is_column_named k.column) l)) e in
        absurd (true≢false (sym missing ∙ first))

keys_known : (t : TableDef) → table_findings t ≡ [] → catalog.keys_unknown t ≡ []
unfolding table_findings
keys_known t e = third (catalog.too_many_columns t) (catalog.columns_twice t) (catalog.two_keys t) (catalog.keys_unknown t) _ e
  where
    third : {X : Type 0} (a b c d rest : List X) → a ++ (b ++ (c ++ (d ++ rest))) ≡ [] → d ≡ []
    third [] [] [] [] rest h = refl
    third [] [] [] (x ∷ d) rest h = absurd (cc)
    third [] [] (x ∷ c) d rest h = absurd (cc)
    third [] (x ∷ b) c d rest h = absurd (cc)
    third (x ∷ a) b c d rest h = absurd (cc)

pub has_columns : (defs : List TableDef) → findings defs ≡ [] → All IsFormed defs → All HasColumns defs
has_columns defs e formed i d h =
    let t = get_or defs i d in
    let none : table_findings t ≡ [] = findings_at defs i d e h in
    let form = formed i d h in
    record {
      some = columns_some t (keys_known t none) form.some_part;
      few = few_columns defs i d e h;
      named = form.named;
      apart = columns_apart t none;
    }

-- ---- names as segments of paths

letter_begins : (b : ℕ) → is_ascii_alphabetic b ≡ true → begins_segment b ≡ true
letter_begins b h = or_left (is_ascii_alphabetic b) _ h

pub name_segment : (name : List ℕ) → is_name name ≡ true → is_segment name ≡ true
name_segment [] h = absurd (false≢true h)
name_segment (b ∷ z) h =
    let first = and_parts (is_ascii_alphabetic b) _ h in
    and_from _ _ (letter_begins b first.0) first.1

pub path_of_name : (name : List ℕ) → is_name name ≡ true → IsPath (46 ∷ name)
path_of_name name h = record { segments = name ∷ []; few = omega arith; each = and_from _ _ (name_segment name h) refl; is = ap (λ (l : List ℕ). 46 ∷ l) (sym (append-nil name)) }

no_dot : (b : ℕ) → is_in_segment b ≡ true → not (is_dot b) ≡ true
no_dot b h = grind (arith, nat_tests)

no_dots : (name : List ℕ) → is_name name ≡ true → list_all (λ b. not (is_dot b)) name ≡ true
no_dots name h = all_weaker is_in_segment (λ b. not (is_dot b)) no_dot name (segment_inside name (name_segment name h))

ended : (rest : List ℕ) → list_all (λ b. not (is_dot b)) rest ≡ true → begins_segment_or_ends rest ≡ true → rest ≡ []
ended [] h e = refl
ended (b ∷ rest) h e =
    let first = and_parts (not (is_dot b)) _ h in
    absurd (false≢true (ap not (sym e) ∙ first.0))

-- of the paths of two names none lies below the other
below_same : (p a : List ℕ) → is_name p ≡ true → is_name a ≡ true → is_at_or_below (46 ∷ p) (46 ∷ a) ≡ true → 46 ∷ p ≡ 46 ∷ a
below_same p [] hp ha h = absurd (false≢true ha)
below_same p (c ∷ z) hp ha h =
    let path : List ℕ = 46 ∷ p in
    let above : List ℕ = 46 ∷ c ∷ z in
    let parts = and_parts (bytes_eq above (take (length above) path)) (begins_segment_or_ends (drop (length above) path)) h in
    let front : above ≡ take (length above) path = (bytes_eq-Decides above (take (length above) path)).0 parts.0 in
    let whole = take-append-drop (length above) path in
    let n = length (c ∷ z) in
    let split : list_all (λ b. not (is_dot b)) (take n p ++ drop n p) ≡ true = subst (λ (l : List ℕ). list_all (λ b. not (is_dot b)) l ≡ true) (sym (take-append-drop n p)) (no_dots p hp) in
    let behind = (and_parts _ _ (sym (list_all-append (λ b. not (is_dot b)) (take n p) (drop n p)) ∙ split)).1 in
    let rest : drop (length above) path ≡ [] = ended (drop n p) behind parts.1 in
    sym whole ∙ ap (λ (l : List ℕ). take (length above) path ++ l) rest ∙ append-nil (take (length above) path) ∙ sym front

path_below : (path above : List ℕ) → is_column_path path ≡ true → is_column_path above ≡ true → is_at_or_below path above ≡ true → path ≡ above
path_below [] above hp ha h = absurd (false≢true hp)
path_below (b ∷ p) [] hp ha h = absurd (false≢true ha)
path_below (b ∷ p) (c ∷ a) hp ha h =
    let first = and_parts (nat_eq b 46) _ hp in
    let second = and_parts (nat_eq c 46) _ ha in
    let eb : b ≡ 46 = grind (arith, nat_tests, first.0) in
    let ec : c ≡ 46 = grind (arith, nat_tests, second.0) in
    let left : is_at_or_below (46 ∷ p) (c ∷ a) ≡ true = subst (λ x. is_at_or_below (x ∷ p) (c ∷ a) ≡ true) eb h in
    let both : is_at_or_below (46 ∷ p) (46 ∷ a) ≡ true = subst (λ x. is_at_or_below (46 ∷ p) (x ∷ a) ≡ true) ec left in
    ap (λ x. x ∷ p) eb ∙ below_same p a first.1 second.1 both ∙ ap (λ x. x ∷ a) (sym ec)

-- ---- such attributes are refused for no cause

flips : (x y : List ℕ) → bytes_eq x y ≡ bytes_eq y x
flips x y = by_tests (bytes_eq x y) (bytes_eq y x) refl refl
  where
    by_tests : (a b : Bool) → bytes_eq x y ≡ a → bytes_eq y x ≡ b → a ≡ b
    by_tests true true e f = refl
    by_tests false false e f = refl
    by_tests true false e f = sym ((bytes_eq-Decides y x).1 (sym ((bytes_eq-Decides x y).0 e))) ∙ f
    by_tests false true e f = sym e ∙ (bytes_eq-Decides x y).1 (sym ((bytes_eq-Decides y x).0 f))

held_at : (given paths : List (List ℕ)) (k : ℕ) (p : List ℕ) → IsPermutation given paths → slice_get paths k ≡ Some p → All (λ q. is_column_path q ≡ true) given → is_column_path p ≡ true
held_at given paths k p same at each =
    let (i, below, is) = Contains-permutation paths given p (IsPermutation-sym given paths same) (k, slice_get_within paths k p at, get_or_from_slice_get paths k p p at) in
    subst (λ q. is_column_path q ≡ true) is (each i p below)

pub no_clash : (given : List (List ℕ × ColumnValue)) (former latter : List ℕ) → AreColumnPaths (paths_of given) → IsFirstClash given former latter → ⊥
no_clash given former latter h c =
    let clash = c.first.clash in
    let ps = c.paths in
    let k = c.place in
    let distinct = IsDistinct-IsPermutation bytes_eq flips (paths_of given) ps c.same (IsDistinct-from_AllPairs bytes_eq-Decides (paths_of given) h.apart) in
    let apart = AllPairs-from_IsDistinct bytes_eq-Decides ps distinct in
    let within = slice_get_within ps (k + 1) clash.latter clash.latter_is in
    let first = held_at (paths_of given) ps k clash.former c.same clash.former_is h.each in
    let second = held_at (paths_of given) ps (k + 1) clash.latter c.same clash.latter_is h.each in
    let one = path_below clash.latter clash.former second first clash.below in
    let a = get_or_from_slice_get ps k clash.former [] clash.former_is in
    let b = get_or_from_slice_get ps (k + 1) clash.latter [] clash.latter_is in
    apart k (k + 1) [] (omega arith) within (a ∙ sym one ∙ sym b)

root_apart : (path : List ℕ) → is_column_path path ≡ true → is_root path ≡ false
root_apart [] h = refl
root_apart (b ∷ []) h = absurd (false≢true ((and_parts (nat_eq b 46) _ h).1))
root_apart (b ∷ c ∷ z) h = by_first (nat_eq b 46)
  where
    by_first : (t : Bool) → (t && false) ≡ false
    by_first true = refl
    by_first false = refl

pub below_root : (given : List (List ℕ × ColumnValue)) → AreColumnPaths (paths_of given) → All (λ a. is_root a.0 ≡ false) given
below_root given h i d l =
    root_apart (get_or given i d).0 (subst (λ p. is_column_path p ≡ true) (get_or-map (λ (a : List ℕ × ColumnValue). a.0) given i d [] l) (h.each i [] (omega (arith, l, length-map given (λ a. a.0)))))

pub no_other : (n : ℕ) (given : List (List ℕ × ColumnValue)) (place : ℕ) → HaveLength n given → IsFirstOther n given place → ⊥
no_other n given place lengths o =
    o.other (subst (λ (a : List ℕ × ColumnValue). length a.1.slots ≡ n) (get_or_from_slice_get given place o.attribute o.attribute o.at) (lengths place o.attribute (slice_get_within given place o.attribute o.at)))

-- ---- the attributes of a table's columns

all_first : {X : Type 0} (P : X → Type 0) (x : X) (xs : List X) → P x → All P xs → All P (x ∷ xs)
all_first P x xs p ps zero d l = p
all_first P x xs p ps (suc i) d l = ps i d (omega arith)

no_attributes : {X : Type 0} (P : X → Type 0) → All P []
no_attributes P i d l = absurd (omega arith)

pub attribute_lengths : (codes : List ℤ) (m n : ℕ) (ks : List Bool) (cs : List (List Slot)) (defs : List ColumnDef) → AreColumns m n ks cs → HaveLength n (attributes_in codes ks cs defs)
attribute_lengths codes m n ks cs [] w = no_attributes _
attribute_lengths codes m n [] cs (d ∷ ds) w = no_attributes _
attribute_lengths codes m n (k ∷ ks) [] (d ∷ ds) w = absurd w
attribute_lengths codes m n (k ∷ ks) (c ∷ cs) (d ∷ ds) w =
    all_first (λ a. length a.1.slots ≡ n) (attribute_in codes d k c) (attributes_in codes ks cs ds)
    (length-map c (cell_slot codes k) ∙ w.0)
    (attribute_lengths codes m n ks cs ds w.2)

pub attribute_paths : (codes : List ℤ) (m n : ℕ) (ks : List Bool) (cs : List (List Slot)) (defs : List ColumnDef) → AreColumns m n ks cs → length ks ≡ length defs → paths_of (attributes_in codes ks cs defs) ≡ map path_of defs
attribute_paths codes m n ks cs [] w l = refl
attribute_paths codes m n [] cs (d ∷ ds) w l = absurd (omega (arith, l))
attribute_paths codes m n (k ∷ ks) [] (d ∷ ds) w l = absurd w
attribute_paths codes m n (k ∷ ks) (c ∷ cs) (d ∷ ds) w l = ap (λ (ps : List (List ℕ)). path_of d ∷ ps) (attribute_paths codes m n ks cs ds w.2 (omega (arith, l)))

paths_apart : (cs : List ColumnDef) → AllPairs (λ a b. a.name ≢ b.name) cs → AllPairs (λ p q. p ≢ q) (map path_of cs)
paths_apart [] h i j d a l = absurd (omega arith)
paths_apart (c ∷ cs) h i j d a l =
    let all : List ColumnDef = c ∷ cs in
    let long = length-map all path_of in
    λ same. h i j c a (omega (arith, l, long))
    (ap (drop 1) (sym (get_or-map path_of all i c d (omega (arith, a, l, long))) ∙ same ∙ get_or-map path_of all j c d (omega (arith, l, long))))

column_paths : (def : TableDef) → HasColumns def → AreColumnPaths (map path_of def.columns)
column_paths def h = record { each = All-map (λ p. is_column_path p ≡ true) path_of def.columns h.named; apart = paths_apart def.columns h.apart }

-- what a vector asks of the attributes of a table's columns
pub record MakeVector (n : ℕ) (attributes : List (List ℕ × ColumnValue)) : Type 0 where
  pub some : 1 ≤ length attributes
  pub few : length attributes ≤ 64
  pub lengths : HaveLength n attributes
  pub paths : AreColumnPaths (paths_of attributes)

pub make_vector : (codes : List ℤ) (m n : ℕ) (ks : List Bool) (cs : List (List Slot)) (def : TableDef) → AreColumns m n ks cs → length ks ≡ length def.columns → HasColumns def → MakeVector n (attributes_in codes ks cs def.columns)
make_vector codes m n ks cs def w l h =
    let attributes = attributes_in codes ks cs def.columns in
    let paths = attribute_paths codes m n ks cs def.columns w l in
    let long : length attributes ≡ length def.columns = sym (length-map attributes (λ a. a.0)) ∙ ap length paths ∙ length-map def.columns path_of in
    record {
      some = omega (arith, long, h.some);
      few = omega (arith, long, h.few);
      lengths = attribute_lengths codes m n ks cs def.columns w;
      paths = subst AreColumnPaths (sym paths) (column_paths def h);
    }
