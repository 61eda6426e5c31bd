-- A record more of a table that is loaded.
use Rattle.std.proofs.Common.{◌≡◌, ◌∙◌, ℕ, ◌+◌, ◌<◌, ℤ, Bool, List, [], ◌∷◌, ◌++◌, length, Option, Some, None, Result, Ok, Err, refl, sym, ap, subst, arith}
use Rattle.std.specs.Prelude.{IfSome}
use Rattle.std.specs.List.{IsDistinct}
use Rattle.std.specs.Str.{bytes_eq}
use Rattle.sql_read.specs.declared.definition.TableDef.{TableDef}
use Rattle.control_vectors.specs.Slots.{Slot}
use Rattle.sql_values.specs.Values.{Value}
use Rattle.table_load.specs.declared.refusal.DataKind.{DataKind}
use Rattle.table_load.specs.declared.refusal.DataRefusal.{DataRefusal}
use Rattle.table_load.specs.declared.refusal.DataRefusal.TheVariants as refusal
use Rattle.table_load.specs.Databases.{row_texts, rows_texts}
use Rattle.table_load.specs.HeldColumns.{AreCells, AreColumns, noted, rows_held, values_of, with_cells}
use Rattle.table_load.specs.Reading.{Agrees, HasNoted, key_twice, noted_places, ReadsRecord}
use Rattle.table_load.specs.Tables.{as_table, record_row, RefusedBy, rows_after, then_rows}
use Rattle.table_load.proofs.KeyLaws.{agrees, KeysPlaced, noted_distinct, placed_more}
use Rattle.table_load.proofs.Rowwise.{Grows, grown_length, noted-append, noted_grows, rows_more, rows_texts-more, with_cells-whole}

pub rows_step : (t : TableDef) (seen : List (List Value)) (left rest : List (List (List ℕ))) (r : List (List ℕ)) (row : Result (List Value) (ℕ × DataKind)) → left ≡ r ∷ rest → record_row t seen r ≡ row
    → rows_after t seen left ≡ then_rows row (length seen + 1) (λ vs. rows_after t (seen ++ vs ∷ []) rest)
unfolding rows_after
rows_step t seen left rest r row e b = rw (e, b) refl

pub rows_done : (t : TableDef) (seen : List (List Value)) (left : List (List (List ℕ))) → left ≡ [] → rows_after t seen left ≡ Ok seen
unfolding rows_after
rows_done t seen left e = rw e refl

pub table_is : (t : TableDef) (seen : List (List Value)) (start : Result (List (List Value)) DataRefusal) (d : ℕ) → start ≡ Ok seen → d ≡ length t.columns → as_table t start ≡ Ok (record { degree = d; rows = seen })
table_is t seen start d e l = rw (e, l) refl

distinct_none : IsDistinct bytes_eq []
unfolding IsDistinct
distinct_none = tt

-- keys agree once a record's texts are noted
pub agree_more : (key : Option ℕ) (old new : List (List ℕ)) (ks : List Bool) (cs : List (List Slot)) (n : ℕ) (earlier : ℤ → Option ℕ) → IfSome key (λ k. k < length ks) → AreColumns (length old) n ks cs → KeysPlaced key cs earlier
    → old ≡ noted [] (rows_texts (rows_held old ks cs n)) → (more : List (List ℕ)) × (new ≡ noted old more) → Agrees key new ks (rows_held old ks cs n) earlier
agree_more key old new ks cs n earlier h w p o (more, e) =
    let grows : Grows old new = subst (Grows old) (sym e) (noted_grows old more) in
    let apart : IsDistinct bytes_eq old = subst (IsDistinct bytes_eq) (sym o) (noted_distinct [] (rows_texts (rows_held old ks cs n)) distinct_none) in
    let distinct : IsDistinct bytes_eq new = subst (IsDistinct bytes_eq) (sym e) (noted_distinct old more apart) in
    agrees key old new ks cs n earlier h grows distinct w p

-- a record that is refused
pub load_refused : (t : TableDef) (key : Option ℕ) (old new : List (List ℕ)) (ks : List Bool) (cs : List (List Slot)) (zs : List Slot) (n : ℕ) (earlier : ℤ → Option ℕ) (seen : List (List Value)) (left rest : List (List (List ℕ))) (r : List (List ℕ))
    (start : Result (List (List Value)) DataRefusal) (e : DataRefusal) → start ≡ rows_after t seen left → left ≡ r ∷ rest → length seen ≡ n → HasNoted old new (Err e)
    → ((more : List (List ℕ)) × (new ≡ noted old more) → Agrees key new ks seen earlier) → (length seen ≡ n → Agrees key new ks seen earlier → ReadsRecord new ks zs n (Err e) (record_row t seen r)) → RefusedBy (as_table t start) e
load_refused t key old new ks cs zs n earlier seen left rest r start refusal.NoMemory s l c g a reads = tt
load_refused t key old new ks cs zs n earlier seen left rest r start (refusal.Bad m j kind) s l c g a reads =
    let read = reads c (a g) in
    rw (s ∙ rows_step t seen left rest r (Err (j, kind)) l read.1, c, read.0) refl

-- what a row more leaves
pub record RowMore (t : TableDef) (key : Option ℕ) (new : List (List ℕ)) (ks : List Bool) (cs : List (List Slot)) (n : ℕ) (later : ℤ → Option ℕ) (start : Result (List (List Value)) DataRefusal) (rest : List (List (List ℕ))) : Type 0 where
  pub same : start ≡ rows_after t (rows_held new ks cs n) rest
  pub whole : AreColumns (length new) n ks cs
  pub texts_are : new ≡ noted [] (rows_texts (rows_held new ks cs n))
  pub keys : KeysPlaced key cs later

pub row_more : (t : TableDef) (key : Option ℕ) (old new : List (List ℕ)) (ks : List Bool) (cs : List (List Slot)) (zs : List Slot) (n : ℕ) (earlier later : ℤ → Option ℕ) (left rest : List (List (List ℕ))) (r : List (List ℕ)) (start : Result (List (List Value)) DataRefusal)
    → IfSome key (λ k. k < length ks) → start ≡ rows_after t (rows_held old ks cs n) left → AreColumns (length old) n ks cs → old ≡ noted [] (rows_texts (rows_held old ks cs n)) → KeysPlaced key cs earlier → left ≡ r ∷ rest
    → record_row t (rows_held old ks cs n) r ≡ Ok (values_of new ks zs) → AreCells (length new) ks zs → length zs ≡ length ks → new ≡ noted old (row_texts (values_of new ks zs)) → key_twice key earlier zs ≡ None
    → ((q : ℤ) → later q ≡ noted_places key zs (n + 1) earlier q) → RowMore t key new ks (with_cells cs zs) (n + 1) later start rest
row_more t key old new ks cs zs n earlier later left rest r start h s w o p l read cells len e once u =
    let vs = values_of new ks zs in
    let seen = rows_held old ks cs n in
    let grows : Grows old new = subst (Grows old) (sym e) (noted_grows old (row_texts vs)) in
    let rows : rows_held new ks (with_cells cs zs) (n + 1) ≡ seen ++ vs ∷ [] = rows_more old new ks cs zs n grows w len in
    record {
      same = s ∙ rows_step t seen left rest r (Ok vs) l read ∙ ap (λ rows. rows_after t rows rest) (sym rows);
      whole = with_cells-whole (length old) n (length new) ks cs zs (grown_length old new grows) len w cells;
      texts_are =
          e
          ∙ ap (λ texts. noted texts (row_texts vs)) o
          ∙ sym (noted-append [] (rows_texts seen) (row_texts vs))
          ∙ ap (noted []) (sym (rows_texts-more seen vs))
          ∙ ap (λ rows. noted [] (rows_texts rows)) (sym rows);
      keys = placed_more key (length old) n ks cs zs earlier later h w len p once u;
    }

pub within_map : (key : Option ℕ) (m n : ℕ) → IfSome key (λ k. k < m) → m ≡ n → IfSome key (λ k. k < n)
within_map None m n h e = tt
within_map (Some k) m n h e = omega (arith, h, e)
