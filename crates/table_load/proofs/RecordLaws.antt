-- The row of a record, by what its fields are and where its key stands before.
use Rattle.std.proofs.Common.{◌≡◌, ◌∙◌, ℕ, zero, suc, ◌+◌, ◌<◌, ◌≤◌, ℤ, Bool, false, List, [], ◌∷◌, ◌++◌, length, map, get_or, Option, Some, None, Result, Ok, Err, refl, sym, ap, subst, arith, append-nil}
use Rattle.std.specs.Prelude.{slice_get, unwrap_or}
use Rattle.std.specs.Option.{option_map}
use Rattle.sql_read.specs.declared.definition.TableDef.{TableDef}
use Rattle.std.proofs.lemmas.Bool.{eq-eqb, lt-leb}
use Rattle.std.specs.List.{position_from}
use Rattle.sql_values.specs.Values.{Value, null}
use Rattle.table_load.specs.declared.refusal.DataKind.{DataKind}
use Rattle.table_load.specs.declared.refusal.DataKind.TheVariants.{KeyTwice}
use Rattle.control_vectors.specs.Slots.{Slot}
use Rattle.table_load.specs.Values.{field_values, same_value, value_at}
use Rattle.table_load.specs.Tables.{key_place, record_row, keyed_at, row_from, row_with_key, with_key}
use Rattle.table_load.specs.HeldColumns.{AreCells, IsCell, value_in, value_of, values_of}
use Rattle.table_load.specs.Reading.{Agrees, key_cell, key_twice, ReadsFields, twice_at}

abbrev pub oks : List Value → List (Result Value DataKind)
oks vs = map (λ v. Ok v) vs

all_read : (j : ℕ) (vs : List Value) → row_from j (oks vs) ≡ Ok vs
all_read j [] = refl
all_read j (v ∷ vs) = rw (all_read (j + 1) vs) refl

one_refused : (j : ℕ) (vs : List Value) (kind : DataKind) (rest : List (Result Value DataKind)) → row_from j (oks vs ++ Err kind ∷ rest) ≡ Err (j + length vs, kind)
one_refused j [] kind rest = ap (λ n. Err (n, kind)) (omega arith)
one_refused j (v ∷ vs) kind rest = rw (one_refused (j + 1) vs kind rest) (ap (λ n. Err (n, kind)) (omega arith))

-- no value at the key's place stands in an earlier row
abbrev IsNew : ℕ → (Value → Option ℕ) → List Value → Type 0
IsNew key earlier vs = (v : Value) → slice_get vs key ≡ Some v → earlier v ≡ None

key_read : (j key row : ℕ) (earlier : Value → Option ℕ) (v : Value) (vs : List Value) (tail : List (Result Value DataKind)) → slice_get vs key ≡ Some v → earlier v ≡ Some row
    → row_from j (keyed_at key earlier (oks vs ++ tail)) ≡ Err (j + key, KeyTwice row)
key_read j key row earlier v [] tail s e = absurd (no_value key s)
  where
    no_value : (key : ℕ) → slice_get [] key ≡ Some v → ⊥
    no_value key e = cc
key_read j zero row earlier v (w ∷ vs) tail s e =
    let same : w ≡ v = cc in
    rw (same, e) (ap (λ n. Err (n, KeyTwice row)) (omega arith))
key_read j (suc key) row earlier v (w ∷ vs) tail s e = rw (key_read (j + 1) key row earlier v vs tail s e) (ap (λ n. Err (n, KeyTwice row)) (omega arith))

new_read : (j key : ℕ) (earlier : Value → Option ℕ) (vs : List Value) → IsNew key earlier vs → row_from j (keyed_at key earlier (oks vs)) ≡ Ok vs
new_read j key earlier [] n = refl
new_read j zero earlier (v ∷ vs) n = rw (n v refl, all_read (j + 1) vs) refl
new_read j (suc key) earlier (v ∷ vs) n = rw (new_read (j + 1) key earlier vs n) refl

new_refused : (j key : ℕ) (earlier : Value → Option ℕ) (vs : List Value) (kind : DataKind) (rest : List (Result Value DataKind)) → IsNew key earlier vs
    → row_from j (keyed_at key earlier (oks vs ++ Err kind ∷ rest)) ≡ Err (j + length vs, kind)
new_refused j zero earlier [] kind rest n = ap (λ n. Err (n, kind)) (omega arith)
new_refused j (suc key) earlier [] kind rest n = ap (λ n. Err (n, kind)) (omega arith)
new_refused j zero earlier (v ∷ vs) kind rest n = rw (n v refl, one_refused (j + 1) vs kind rest) (ap (λ n. Err (n, kind)) (omega arith))
new_refused j (suc key) earlier (v ∷ vs) kind rest n = rw (new_refused (j + 1) key earlier vs kind rest n) (ap (λ n. Err (n, kind)) (omega arith))

-- ---- by cells

value_at_key : (texts : List (List ℕ)) (ks : List Bool) (zs : List Slot) (key : ℕ) (z : ℤ) → length zs ≤ length ks → key_cell key zs ≡ Some z → slice_get (values_of texts ks zs) key ≡ Some (value_in texts (get_or ks key false) z)
value_at_key texts ks [] key z h s = absurd (no_cell key s)
  where
    no_cell : (key : ℕ) → key_cell key [] ≡ Some z → ⊥
    no_cell key e = cc
value_at_key texts [] (y ∷ zs) key z h s = absurd (omega arith)
value_at_key texts (k ∷ ks) (y ∷ zs) zero z h s = let same : y ≡ Some z = s in rw same refl
value_at_key texts (k ∷ ks) (y ∷ zs) (suc key) z h s = value_at_key texts ks zs key z (omega arith) s

cell_in : (m : ℕ) (ks : List Bool) (zs : List Slot) (key : ℕ) (z : ℤ) → AreCells m ks zs → key_cell key zs ≡ Some z → IsCell m (get_or ks key false) (Some z)
cell_in m ks [] key z w s = absurd (no_cell key s)
  where
    no_cell : (key : ℕ) → key_cell key [] ≡ Some z → ⊥
    no_cell key e = cc
cell_in m [] (y ∷ zs) key z w s = absurd w
cell_in m (k ∷ ks) (y ∷ zs) zero z w s = let same : y ≡ Some z = s in subst (IsCell m k) same w.0
cell_in m (k ∷ ks) (y ∷ zs) (suc key) z w s = cell_in m ks zs key z w.1 s

-- where no number stands, there is no value or a null
null_at_key : (texts : List (List ℕ)) (ks : List Bool) (zs : List Slot) (key : ℕ) (v : Value) → key_cell key zs ≡ None → slice_get (values_of texts ks zs) key ≡ Some v → v ≡ null
null_at_key texts [] zs key v s e = absurd (no_value key e)
  where
    no_value : (key : ℕ) → slice_get {X = Value} [] key ≡ Some v → ⊥
    no_value key e = cc
null_at_key texts (k ∷ ks) [] key v s e = absurd (no_value key e)
  where
    no_value : (key : ℕ) → slice_get {X = Value} [] key ≡ Some v → ⊥
    no_value key e = cc
null_at_key texts (k ∷ ks) (y ∷ zs) zero v s e =
    let gone : y ≡ None = s in
    let here : value_of texts k y ≡ v = cc in
    sym here ∙ ap (value_of texts k) gone
null_at_key texts (k ∷ ks) (y ∷ zs) (suc key) v s e = null_at_key texts ks zs key v s e

-- a null is equal to the value of no row
null_nowhere : (n key : ℕ) (rows : List (List Value)) → position_from (λ row. same_value null (value_at key row)) n rows ≡ None
null_nowhere n key [] = refl
null_nowhere n key (row ∷ rows) = null_nowhere (n + 1) key rows

-- a key whose cell is in no earlier row
is_new : (texts : List (List ℕ)) (ks : List Bool) (zs : List Slot) (key : ℕ) (seen : List (List Value)) (earlier : ℤ → Option ℕ) (o : Option ℤ) → key_cell key zs ≡ o → length zs ≤ length ks
    → AreCells (length texts) ks zs → Agrees (Some key) texts ks seen earlier → twice_at key earlier o ≡ None → IsNew key (row_with_key key seen) (values_of texts ks zs)
is_new texts ks zs key seen earlier None s h w a t = λ v e.
    let none = null_at_key texts ks zs key v s e in
    ap (row_with_key key seen) none ∙ null_nowhere 1 key seen
is_new texts ks zs key seen earlier (Some z) s h w a t = λ v e.
    let here = value_at_key texts ks zs key z h s in
    let same : value_in texts (get_or ks key false) z ≡ v = cc in
    subst (λ u. row_with_key key seen u ≡ None) same (a z (cell_in (length texts) ks zs key z w s) ∙ not_found (earlier z) t)
  where
    not_found : (o : Option ℕ) → option_map {U = ℕ × ℕ} (λ row. (key + 1, row)) o ≡ None → o ≡ None
    not_found None e = refl
    not_found (Some row) e = absurd (cc)

-- a record whose key stands in an earlier row
twice : (texts : List (List ℕ)) (ks : List Bool) (zs : List Slot) (key : ℕ) (seen : List (List Value)) (earlier : ℤ → Option ℕ) (column row : ℕ) (o : Option ℤ) (tail : List (Result Value DataKind)) → key_cell key zs ≡ o
    → length zs ≤ length ks → AreCells (length texts) ks zs → Agrees (Some key) texts ks seen earlier → twice_at key earlier o ≡ Some (column, row)
    → row_from 1 (keyed_at key (row_with_key key seen) (oks (values_of texts ks zs) ++ tail)) ≡ Err (column, KeyTwice row)
twice texts ks zs key seen earlier column row None tail s h w a t = absurd (cc)
twice texts ks zs key seen earlier column row (Some z) tail s h w a t =
    let found = place_of (earlier z) t in
    key_read 1 key row (row_with_key key seen) (value_in texts (get_or ks key false) z) (values_of texts ks zs) tail (value_at_key texts ks zs key z h s) (a z (cell_in (length texts) ks zs key z w s) ∙ found.0)
    ∙ ap (λ n. Err (n, KeyTwice row)) (omega (arith, found.1))
  where
    place_of : (o : Option ℕ) → option_map {U = ℕ × ℕ} (λ r. (key + 1, r)) o ≡ Some (column, row) → (o ≡ Some row) × (column ≡ key + 1)
    place_of None e = absurd (cc)
    place_of (Some r) e =
        let p = ap (λ (o : Option (ℕ × ℕ)). unwrap_or o (column, row)) e in
        (ap Some (ap (λ (q : ℕ × ℕ). q.1) p), sym (ap (λ (q : ℕ × ℕ). q.0) p))

pub read_twice : (texts : List (List ℕ)) (ks : List Bool) (zs : List Slot) (key : Option ℕ) (seen : List (List Value)) (earlier : ℤ → Option ℕ) (column row : ℕ) (stop : Option (ℕ × DataKind)) (values : List (Result Value DataKind))
    → ReadsFields texts ks zs stop values → length zs ≤ length ks → AreCells (length texts) ks zs → Agrees key texts ks seen earlier → key_twice key earlier zs ≡ Some (column, row)
    → row_from 1 (with_key key seen values) ≡ Err (column, KeyTwice row)
read_twice texts ks zs None seen earlier column row stop values r h w a t = absurd (cc)
read_twice texts ks zs (Some key) seen earlier column row None values r h w a t =
    rw r.0 (ap (λ l. row_from 1 (keyed_at key (row_with_key key seen) l)) (sym (append-nil (oks (values_of texts ks zs)))) ∙ twice texts ks zs key seen earlier column row (key_cell key zs) [] refl h w a t)
read_twice texts ks zs (Some key) seen earlier column row (Some p) values (rest, e, n) h w a t =
    rw e (twice texts ks zs key seen earlier column row (key_cell key zs) (Err p.1 ∷ rest) refl h w a t)

pub read_all : (texts : List (List ℕ)) (ks : List Bool) (zs : List Slot) (key : Option ℕ) (seen : List (List Value)) (earlier : ℤ → Option ℕ) (values : List (Result Value DataKind))
    → ReadsFields texts ks zs None values → AreCells (length texts) ks zs → Agrees key texts ks seen earlier → key_twice key earlier zs ≡ None
    → row_from 1 (with_key key seen values) ≡ Ok (values_of texts ks zs)
read_all texts ks zs None seen earlier values r w a t = rw r.0 (all_read 1 (values_of texts ks zs))
read_all texts ks zs (Some key) seen earlier values r w a t =
    rw r.0 (new_read 1 key (row_with_key key seen) (values_of texts ks zs) (is_new texts ks zs key seen earlier (key_cell key zs) refl (omega (arith, r.1)) w a t))

length-values : (texts : List (List ℕ)) (ks : List Bool) (zs : List Slot) → length zs ≤ length ks → length (values_of texts ks zs) ≡ length zs
length-values texts [] [] h = refl
length-values texts [] (z ∷ zs) h = absurd (omega arith)
length-values texts (k ∷ ks) [] h = refl
length-values texts (k ∷ ks) (z ∷ zs) h = omega (arith, length-values texts ks zs (omega arith))

pub read_stopped : (texts : List (List ℕ)) (ks : List Bool) (zs : List Slot) (key : Option ℕ) (seen : List (List Value)) (earlier : ℤ → Option ℕ) (column : ℕ) (kind : DataKind) (values : List (Result Value DataKind))
    → ReadsFields texts ks zs (Some (column, kind)) values → length zs ≤ length ks → AreCells (length texts) ks zs → Agrees key texts ks seen earlier → key_twice key earlier zs ≡ None
    → row_from 1 (with_key key seen values) ≡ Err (column, kind)
read_stopped texts ks zs None seen earlier column kind values (rest, e, n) h w a t =
    rw e (one_refused 1 (values_of texts ks zs) kind rest ∙ ap (λ j. Err (j, kind)) (omega (arith, n, length-values texts ks zs h)))
read_stopped texts ks zs (Some key) seen earlier column kind values (rest, e, n) h w a t =
    rw e (new_refused 1 key (row_with_key key seen) (values_of texts ks zs) kind rest (is_new texts ks zs key seen earlier (key_cell key zs) refl h w a t) ∙ ap (λ j. Err (j, kind)) (omega (arith, n, length-values texts ks zs h)))

-- a record that is within the limits
pub record_read : (t : TableDef) (seen : List (List Value)) (fields : List (List ℕ)) → length seen < 1_048_576 → length fields ≡ length t.columns
    → record_row t seen fields ≡ row_from 1 (with_key (key_place t) seen (field_values t t.columns fields))
record_read t seen fields h e = rw (lt-leb 1_048_576 (length seen) h, eq-eqb (length fields) (length t.columns) e) refl
