-- The vector of a table has the paths of its columns, and none is in another's way.
use Rattle.std.proofs.Common.{◌≡◌, ◌≢◌, ◌∙◌, ℕ, ◌+◌, ◌<◌, Bool, true, false, not, ◌||◌, ◌&&◌, List, [], ◌∷◌, length, map, get_or, refl, sym, ap, subst, arith, Some}
use Rattle.std.specs.Prelude.{slice_get, is_some, nat_le}
use Rattle.std.specs.declared.cmp.Ordering.TheVariants.{Less}
use Rattle.std.specs.List.{All, list_any, list_all}
use Rattle.std.specs.List.Sorted.{IsStrictlySortedBy}
use Rattle.std.specs.Str.{bytes_eq}
use Rattle.std.proofs.lemmas.Bool.{and_parts, false≢true}
use Rattle.std.proofs.lemmas.Bool.Decides.{nat_tests}
use Rattle.std.proofs.lemmas.Cmp.{nat_list_cmp_total, on_total}
use Rattle.std.proofs.lemmas.List.{get_or_default}
use Rattle.std.proofs.lemmas.List.Elements.{All-nil, All-cons, All-head, All-tail, All-map, All-contains}
use Rattle.std.proofs.lemmas.List.Folds.{list_any_at, list_any_none, list_all-map}
use Rattle.std.proofs.lemmas.List.Sums.{list_all-from_AllPass}
use Rattle.std.proofs.lemmas.Map.Made.{is_some-lookup}
use Rattle.std.proofs.lemmas.Map.Views.{All-after_first}
use Rattle.std.proofs.lemmas.Slice.Eq.{bytes_eq-Decides}
use Rattle.dict_codes.specs.Ascending.{ascending}
use Rattle.dict_codes.proofs.AscendingLaws.{ascending-sorted, ascending-within, not_itself}
use Rattle.key_paths.specs.Paths.{is_dot, begins_segment, is_in_segment}
use Rattle.key_paths.specs.Substructures.{is_root, is_at_or_below}
use Rattle.programs.specs.Faults.{apart, all_apart, path_clash, too_deep}
use Rattle.programs.specs.Mentions.{Label, has_name}
use Rattle.programs.specs.Moves.{is_deep}
use Rattle.programs.specs.Outlines.{Outline, outline_of, Shapes}
use Rattle.programs.specs.Vectors.{seen, seen_attributes}
use Rattle.sql_read.specs.declared.definition.ColumnDef.{ColumnDef}
use Rattle.sql_read.specs.declared.definition.TableDef.{TableDef}
use Rattle.sql_read.specs.Forms.{is_name, IsNamed}
use Rattle.sql_values.specs.Texts.{by_bytes}
use Rattle.sql_values.specs.Values.{Value}
use Rattle.table_load.specs.Databases.{attributes_from, column_of, path_of, vector_of_table}
use Rattle.table_load.specs.Values.{Table}
use Rattle.table_load.specs.Vectors.{HasColumns}
use Rattle.table_load.proofs.ColumnNames.{name_segment}
use Rattle.writer_checks.specs.Checks.{HasShape}
use Rattle.writer_checks.specs.Paths.{is_flat, one}
use Rattle.writer_checks.proofs.Attributes.{apart_from, all_member}
use Rattle.writer_checks.proofs.Segments.{attribute_one, one_no_root, ones_apart}
use Rattle.lowered_rows.proofs.Stores.{Entry, by_path, same_text, attribute_found}

-- ---- paths of columns

record IsColumnPath (p : Label) : Type 0 where
  word : Label
  is : p ≡ one word
  flat : is_flat word ≡ true
  some : 0 < length word

both : (a b : Bool) → a ≡ true → b ≡ true → (a && b) ≡ true
both a b e f = rw (e, f) refl

first_flat : (b : ℕ) → begins_segment b ≡ true → not (is_dot b) ≡ true
first_flat b h = grind (arith, nat_tests)

other_flat : (b : ℕ) → is_in_segment b ≡ true → not (is_dot b) ≡ true
other_flat b h = grind (arith, nat_tests)

all_flat : (z : Label) → list_all is_in_segment z ≡ true → is_flat z ≡ true
all_flat [] h = refl
all_flat (b ∷ z) h =
    let parts = and_parts (is_in_segment b) (list_all is_in_segment z) h in
    both (not (is_dot b)) (is_flat z) (other_flat b parts.0) (all_flat z parts.1)

named_path : (c : ColumnDef) (name : Label) → c.name ≡ name → is_name name ≡ true → IsColumnPath (path_of c)
named_path c [] e h = absurd (false≢true h)
named_path c (b ∷ z) e h =
    let first = and_parts (begins_segment b) (list_all is_in_segment z && nat_le (length z) 63) (name_segment (b ∷ z) h) in
    let rest = and_parts (list_all is_in_segment z) (nat_le (length z) 63) first.1 in
    record { word = b ∷ z; is = ap one e; flat = both (not (is_dot b)) (is_flat z) (first_flat b first.0) (all_flat z rest.0); some = omega arith }

apart_two : (p q : Label) → IsColumnPath p → IsColumnPath q → p ≢ q → apart p q ≡ true
apart_two p q a b ne = apart_from p q
    (subst (λ (x : Label). is_at_or_below x q ≡ false) (sym a.is) (subst (λ (y : Label). is_at_or_below (one a.word) y ≡ false) (sym b.is) (ones_apart a.word b.word a.flat b.some (λ e. ne (a.is ∙ ap one e ∙ sym b.is)))))
    (subst (λ (y : Label). is_at_or_below y p ≡ false) (sym b.is) (subst (λ (x : Label). is_at_or_below (one b.word) x ≡ false) (sym a.is) (ones_apart b.word a.word b.flat a.some (λ e. ne (a.is ∙ ap one (sym e) ∙ sym b.is)))))

-- ---- the entries of a table's vector

abbrev Named : Entry → Type 0
Named a = IsColumnPath a.0

entries_named : (dictionary : List (List ℕ)) (rows : List (List Value)) (j : ℕ) (cs : List ColumnDef) → All IsNamed cs → All Named (attributes_from j dictionary rows cs)
entries_named dictionary rows j [] h = All-nil Named
entries_named dictionary rows j (c ∷ cs) h =
    All-cons Named (path_of c, column_of dictionary rows j) (attributes_from (j + 1) dictionary rows cs) (named_path c c.name refl (All-head IsNamed c cs h)) (entries_named dictionary rows (j + 1) cs (All-tail IsNamed c cs h))

ascending_named : (xs : List Entry) → All Named xs → All Named (ascending by_path xs)
ascending_named xs h k d l =
    let asc = ascending by_path xs in
    All-contains Named xs (get_or asc k d) h (ascending-within (on_total (λ a. a.0) nat_list_cmp_total) (get_or asc k d) xs (k, l, get_or_default asc k (get_or asc k d) d l))

later_differs : (x : Entry) (es : List Entry) → IsStrictlySortedBy by_path (x ∷ es) → All (λ y. x.0 ≢ y.0) es
later_differs x es s k d l same =
    let less : by_path x (get_or es k d) ≡ Less = All-after_first by_path x es s k d l in
    not_itself (on_total (λ a. a.0) nat_list_cmp_total) x (ap (by_bytes x.0) same ∙ less)

sorted_tail : (x : Entry) (es : List Entry) → IsStrictlySortedBy by_path (x ∷ es) → IsStrictlySortedBy by_path es
unfolding IsStrictlySortedBy
sorted_tail x es s = s.1

abbrev paths : List Entry → List Label
paths es = map (λ a. a.0) es

paths_apart : (es : List Entry) → All Named es → IsStrictlySortedBy by_path es → all_apart (paths es) ≡ true
paths_apart [] h s = refl
paths_apart (x ∷ es) h s =
    both (list_all (apart x.0) (paths es)) (all_apart (paths es))
    (list_all-map (apart x.0) (λ (a : Entry). a.0) es
    ∙ list_all-from_AllPass (λ (y : Entry). apart x.0 y.0) es (λ k d l. apart_two x.0 (get_or es k d).0 (All-head Named x es h) (All-tail Named x es h k d l) (later_differs x es s k d l)))
    (paths_apart es (All-tail Named x es h) (sorted_tail x es s))

no_root : (es : List Entry) → All Named es → list_any is_root (paths es) ≡ false
no_root es h = list_any_none is_root (paths es) (All-map (λ p. is_root p ≡ false) (λ (a : Entry). a.0) es (λ k d l. let n = h k d l in subst (λ (p : Label). is_root p ≡ false) (sym n.is) (one_no_root n.word n.some)))

none_deep : (es : List Entry) → All Named es → list_any is_deep (paths es) ≡ false
none_deep es h = list_any_none is_deep (paths es) (All-map (λ p. is_deep p ≡ false) (λ (a : Entry). a.0) es (λ k d l. let n = h k d l in subst (λ (p : Label). is_deep p ≡ false) (sym n.is) (attribute_one n.word n.flat n.some).shallow))

seen_paths : (es : List Entry) → map (λ t. t.0) (seen_attributes es) ≡ paths es
seen_paths [] = refl
seen_paths (x ∷ es) = ap (λ (l : List Label). x.0 ∷ l) (seen_paths es)

names_here : (ps : List Label) → All (λ p. has_name ps p ≡ true) ps
names_here ps k d l = list_any_at (λ m. bytes_eq m (get_or ps k d)) ps k d l (same_text (get_or ps k d))

-- ---- the outline of a table's vector

abbrev pub table_outline : List (List ℕ) → TableDef → Table → Outline
table_outline dictionary def t = outline_of (seen (vector_of_table dictionary def t))

module _ (dictionary : List (List ℕ)) (def : TableDef) (t : Table) (good : HasColumns def) where
  all_named : All Named (ascending by_path (attributes_from 0 dictionary t.rows def.columns))
  all_named = ascending_named (attributes_from 0 dictionary t.rows def.columns) (entries_named dictionary t.rows 0 def.columns good.named)

  clear : path_clash (table_outline dictionary def t) ≡ false
  clear =
      let es = ascending by_path (attributes_from 0 dictionary t.rows def.columns) in
      let sorted = ascending-sorted (on_total (λ a. a.0) nat_list_cmp_total) (attributes_from 0 dictionary t.rows def.columns) in
      ap (λ (ps : List Label). list_any is_root ps || not (all_apart ps)) (seen_paths es)
      ∙ ap (λ (b : Bool). b || not (all_apart (paths es))) (no_root es all_named)
      ∙ ap not (paths_apart es all_named sorted)

  shallow : too_deep (table_outline dictionary def t) ≡ false
  shallow =
      let es = ascending by_path (attributes_from 0 dictionary t.rows def.columns) in
      ap (λ (ps : List Label). list_any is_deep ps) (seen_paths es) ∙ none_deep es all_named

  pub table_shape : (shapes : Shapes) → shapes def.name ≡ Some (table_outline dictionary def t) → HasShape shapes def.name (length t.rows) (table_outline dictionary def t).paths
  table_shape shapes e = record { outline = table_outline dictionary def t; known = e; len_is = refl; clear = clear; shallow = shallow; each = names_here (table_outline dictionary def t).paths }

  pub has_column : (k : ℕ) (c : ColumnDef) → slice_get def.columns k ≡ Some c → has_name (table_outline dictionary def t).paths (path_of c) ≡ true
  has_column k c e =
      let es = ascending by_path (attributes_from 0 dictionary t.rows def.columns) in
      ap (λ (ps : List Label). has_name ps (path_of c)) (seen_paths es)
      ∙ any_flips (path_of c) (paths es)
      ∙ sym (is_some-lookup (bytes_eq (path_of c)) es)
      ∙ ap is_some (attribute_found dictionary t.rows def.columns k c good.apart e)
    where
      flips : (x y : Label) → bytes_eq x y ≡ bytes_eq y x
      flips x y = by_tests (bytes_eq x y) (bytes_eq y x) refl refl
        where
          by_tests : (a b : Bool) → bytes_eq x y ≡ a → bytes_eq y x ≡ b → a ≡ b
          by_tests true true e f = refl
          by_tests false false e f = refl
          by_tests true false e f = sym ((bytes_eq-Decides y x).1 (sym ((bytes_eq-Decides x y).0 e))) ∙ f
          by_tests false true e f = sym e ∙ (bytes_eq-Decides x y).1 (sym ((bytes_eq-Decides y x).0 f))

      any_flips : (p : Label) (ps : List Label) → has_name ps p ≡ list_any (bytes_eq p) ps
      any_flips p [] = refl
      any_flips p (q ∷ ps) = λ i. flips q p i || any_flips p ps i

-- a path of a vector's by itself
pub one_of : (shapes : Shapes) (a : Label) (len : ℕ) (ps : List Label) (p : Label) → has_name ps p ≡ true → HasShape shapes a len ps → HasShape shapes a len (p ∷ [])
one_of shapes a len ps p h s = record {
  outline = s.outline;
  known = s.known;
  len_is = s.len_is;
  clear = s.clear;
  shallow = s.shallow;
  each = All-cons (λ q. has_name s.outline.paths q ≡ true) p [] (all_member (has_name s.outline.paths) ps p (list_all-from_AllPass (has_name s.outline.paths) ps s.each) h) (All-nil (λ q. has_name s.outline.paths q ≡ true));
}
