-- The values in the rows of loaded tables, and in from-rows, can be shown.
use Rattle.std.proofs.Common.{Ordering, ◌≡◌, ◌∙◌, ℕ, zero, suc, ℤ, Bool, true, false, ◌||◌, List, [], ◌∷◌, map, Some, refl, sym, ap, subst, ⊎_elim, arith}
use Rattle.std.specs.declared.cmp.Ordering.TheVariants.{Less, Equal, Greater}
use Rattle.std.specs.Ordering.{is_eq}
use Rattle.std.specs.Prelude.{flat_map, slice_get, slice_index_or}
use Rattle.std.specs.List.{Contains}
use Rattle.std.specs.Str.{bytes_eq}
use Rattle.std.proofs.lemmas.Bool.{false≢true}
use Rattle.std.proofs.lemmas.Cmp.{nat_list_cmp_total, tied_itself}
use Rattle.std.proofs.lemmas.Map.Text.{is_eq-slice_cmp}
use Rattle.std.proofs.lemmas.List.{get_or_past}
use Rattle.std.proofs.lemmas.List.Elements.{All-contains, Contains-append_left, Contains-append_right}
use Rattle.dict_codes.specs.Ascending.{ascending, ascending_from, placed, with_item}
use Rattle.dict_codes.specs.Dictionaries.{dictionary_of, is_among}
use Rattle.dict_codes.proofs.Members.{first_or_later, here, nothing_in, there}
use Rattle.sql_read.specs.declared.definition.ColumnDef.{ColumnDef}
use Rattle.sql_read.specs.declared.definition.ColumnKind.{ColumnKind}
use Rattle.sql_read.specs.declared.definition.ColumnKind.TheVariants as kind
use Rattle.sql_read.specs.declared.definition.TableDef.{TableDef}
use Rattle.sql_values.specs.Texts.{by_bytes}
use Rattle.sql_values.specs.Values.{Value, number, text, truth, null}
use Rattle.table_load.specs.ColumnTypes.{FitsKind, FitsColumn, FitsColumns, ColumnsFit}
use Rattle.table_load.specs.Databases.{row_texts, rows_texts, tables_texts}
use Rattle.table_load.specs.Values.{Table, value_at}
use Rattle.typed_trees.specs.Kinds.{kind_of}
use Rattle.query_types.specs.Names.{columns_of}
use Rattle.loaded_plans.specs.Laws.{AreLoaded}
use Rattle.written_queries.proofs.Days.{ranged}
use Rattle.held_answers.specs.Shown.{is_shown}

-- ---- texts among ascending ones

or_left : (a b : Bool) → a ≡ true → (a || b) ≡ true
or_left a b h = ap (λ x. x || b) h

or_right : (a b : Bool) → b ≡ true → (a || b) ≡ true
or_right true b h = refl
or_right false b h = h

or_else : (a b c : Bool) → (b ≡ true → c ≡ true) → (a || b) ≡ true → (a || c) ≡ true
or_else true b c f h = refl
or_else false b c f h = f h

itself : (x : List ℕ) → bytes_eq x x ≡ true
itself x = sym (is_eq-slice_cmp x x) ∙ ap is_eq (tied_itself nat_list_cmp_total x)

keeps : (x z : List ℕ) (ys : List (List ℕ)) → is_among ys z ≡ true → is_among (with_item by_bytes x ys) z ≡ true
keeps x z [] h = absurd (false≢true h)
keeps x z (y ∷ ys) h = by (by_bytes x y) (keeps x z ys)
  where
    by : (c : Ordering) → (is_among ys z ≡ true → is_among (with_item by_bytes x ys) z ≡ true) → is_among (placed c x y ys (with_item by_bytes x ys)) z ≡ true
    by Less f = or_right (bytes_eq z x) (is_among (y ∷ ys) z) h
    by Equal f = h
    by Greater f = or_else (bytes_eq z y) (is_among ys z) (is_among (with_item by_bytes x ys) z) f h

has : (x : List ℕ) (ys : List (List ℕ)) → is_among (with_item by_bytes x ys) x ≡ true
has x [] = or_left (bytes_eq x x) false (itself x)
has x (y ∷ ys) = by (by_bytes x y) refl (has x ys)
  where
    by : (c : Ordering) → by_bytes x y ≡ c → is_among (with_item by_bytes x ys) x ≡ true → is_among (placed c x y ys (with_item by_bytes x ys)) x ≡ true
    by Less e f = or_left (bytes_eq x x) (is_among (y ∷ ys) x) (itself x)
    by Equal e f = or_left (bytes_eq x y) (is_among ys x) (sym (is_eq-slice_cmp x y) ∙ ap is_eq e)
    by Greater e f = or_right (bytes_eq x y) (is_among (with_item by_bytes x ys) x) f

from_keeps : (z : List ℕ) (done xs : List (List ℕ)) → is_among done z ≡ true → is_among (ascending_from by_bytes done xs) z ≡ true
from_keeps z done [] h = h
from_keeps z done (x ∷ xs) h = from_keeps z (with_item by_bytes x done) xs (keeps x z done h)

from_has : (z : List ℕ) (done xs : List (List ℕ)) → Contains xs z → is_among (ascending_from by_bytes done xs) z ≡ true
from_has z done [] h = absurd (nothing_in z h)
from_has z done (x ∷ xs) h =
    ⊎_elim (λ e. subst (λ (w : List ℕ). is_among (ascending_from by_bytes done (x ∷ xs)) w ≡ true) e (from_keeps x (with_item by_bytes x done) xs (has x done)))
    (λ m. from_has z (with_item by_bytes x done) xs m) (first_or_later x z xs h)

among_texts : (texts : List (List ℕ)) (z : List ℕ) → Contains texts z → is_among (dictionary_of texts) z ≡ true
unfolding ascending
among_texts texts z h = from_has z [] texts h

-- ---- lists of lists

into_joined : {X Y : Type 0} (f : X → List Y) (xs : List X) (x : X) (y : Y) → Contains xs x → Contains (f x) y → Contains (flat_map f xs) y
into_joined f [] x y h g = absurd (nothing_in x h)
into_joined {X} {Y} f (w ∷ ws) x y h g =
    ⊎_elim (λ e. Contains-append_left (f w) (flat_map f ws) y (subst (λ (v : X). Contains (f v) y) (sym e) g))
    (λ m. Contains-append_right (f w) (flat_map f ws) y (into_joined f ws x y m g)) (first_or_later w x ws h)

-- ---- a value of a table's row

in_row : (r : List Value) (k : ℕ) (x : List ℕ) → value_at k r ≡ text x → Contains (row_texts r) x
in_row [] k x e = let none : value_at k [] ≡ null = get_or_past [] k null (omega arith) in absurd cc
in_row (number z ∷ r) zero x e = absurd cc
in_row (text t ∷ r) zero x e = let same : t ≡ x = cc in subst (Contains (t ∷ row_texts r)) same (here t (row_texts r))
in_row (truth b ∷ r) zero x e = absurd cc
in_row (null ∷ r) zero x e = absurd cc
in_row (number z ∷ r) (suc k) x e = in_row r k x e
in_row (text t ∷ r) (suc k) x e = there t x (row_texts r) (in_row r k x e)
in_row (truth b ∷ r) (suc k) x e = in_row r k x e
in_row (null ∷ r) (suc k) x e = in_row r k x e

module _ (texts : List (List ℕ)) where
  number_shown : (k : ColumnKind) (width : ℕ) (z : ℤ) → FitsKind k width (number z) → is_shown texts (kind_of k) (number z) ≡ true
  number_shown kind.Integer width z h = refl
  number_shown kind.Decimal width z h = refl
  number_shown kind.Date width z h = ranged z h
  number_shown kind.Text width z h = absurd h

  text_shown : (k : ColumnKind) (width : ℕ) (t : List ℕ) → FitsKind k width (text t) → is_among texts t ≡ true → is_shown texts (kind_of k) (text t) ≡ true
  text_shown kind.Integer width t h m = absurd h
  text_shown kind.Decimal width t h m = absurd h
  text_shown kind.Date width t h m = absurd h
  text_shown kind.Text width t h m = m

  truth_shown : (k : ColumnKind) (width : ℕ) (b : Bool) → FitsKind k width (truth b) → is_shown texts (kind_of k) (truth b) ≡ true
  truth_shown kind.Integer width b h = absurd h
  truth_shown kind.Decimal width b h = absurd h
  truth_shown kind.Date width b h = absurd h
  truth_shown kind.Text width b h = absurd h

  value_shown : (def : TableDef) (c : ColumnDef) (v : Value) → FitsColumn def c v → ((t : List ℕ) → v ≡ text t → is_among texts t ≡ true) → is_shown texts (kind_of c.kind) v ≡ true
  value_shown def c (number z) h m = number_shown c.kind c.width z h
  value_shown def c (text t) h m = text_shown c.kind c.width t h (m t refl)
  value_shown def c (truth b) h m = truth_shown c.kind c.width b h
  value_shown def c null h m = refl

-- in a column's place
fits_in : (def : TableDef) (cs : List ColumnDef) (row : List Value) (k : ℕ) (c : ColumnDef) → slice_get cs k ≡ Some c → FitsColumns def cs row → FitsColumn def c (value_at k row)
fits_in def [] row k c at h = absurd cc
fits_in def (d ∷ ds) [] k c at h = absurd h
fits_in def (d ∷ ds) (v ∷ vs) zero c at h = let same : d ≡ c = cc in subst (λ (x : ColumnDef). FitsColumn def x v) same h.0
fits_in def (d ∷ ds) (v ∷ vs) (suc k) c at h = fits_in def ds vs k c at h.1

-- ---- the rows of a table in its place

abbrev pub rows_at : List Table → ℕ → List (List Value)
rows_at ts n = slice_index_or (map (λ t. t.rows) ts) n []

-- a table with its definition
record IsRowIn (ts : List Table) (k : ℕ) (c : ColumnDef) (r : List Value) : Type 0 where
  def : TableDef
  table : Table
  stored : Contains ts table
  row : Contains table.rows r
  fits : FitsColumn def c (value_at k r)

row_in : ColumnsFit → (defs : List TableDef) (ts : List Table) (n k : ℕ) (c : ColumnDef) (r : List Value) → AreLoaded defs ts → slice_get (columns_of defs n) k ≡ Some c → Contains (rows_at ts n) r → IsRowIn ts k c r
row_in fit [] ts n k c r h at m = absurd cc
row_in fit (d ∷ defs) [] n k c r h at m = absurd h
row_in fit (d ∷ defs) (t ∷ ts) zero k c r h at m = record {
  def = d;
  table = t;
  stored = here t ts;
  row = m;
  fits = fits_in d d.columns r k c at (All-contains (FitsColumns d d.columns) t.rows r (fit d h.0.bytes t h.0.read) m);
}
row_in fit (d ∷ defs) (t ∷ ts) (suc n) k c r h at m =
    let x = row_in fit defs ts n k c r h.1 at m in
    record { def = x.def; table = x.table; stored = there t x.table ts x.stored; row = x.row; fits = x.fits }

-- a column's value can be shown
pub table_shown : ColumnsFit → (defs : List TableDef) (ts : List Table) (n k : ℕ) (c : ColumnDef) (r : List Value) → AreLoaded defs ts → slice_get (columns_of defs n) k ≡ Some c → Contains (rows_at ts n) r
    → is_shown (dictionary_of (tables_texts ts)) (kind_of c.kind) (value_at k r) ≡ true
table_shown fit defs ts n k c r h at m =
    let x = row_in fit defs ts n k c r h at m in
    value_shown (dictionary_of (tables_texts ts)) x.def c (value_at k r) x.fits (λ t e.
    among_texts (tables_texts ts) t (into_joined (λ (u : Table). rows_texts u.rows) ts x.table t x.stored (into_joined row_texts x.table.rows r t x.row (in_row r k t e))))
