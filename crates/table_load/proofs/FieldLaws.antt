-- One field of a record more.
use Rattle.std.proofs.Common.{◌≡◌, ◌∙◌, ℕ, zero, suc, ◌+◌, ◌<◌, ◌≤◌, Bool, true, false, cond, List, [], ◌∷◌, ◌++◌, length, drop, get_or, Some, None, Result, Ok, Err, refl, sym, ap, subst, arith, add-one, append_assoc}
use Rattle.std.specs.List.{position_from}
use Rattle.std.specs.Str.{is_utf8}
use Rattle.std.proofs.Math.Seq.{drop-cons}
use Rattle.std.proofs.lemmas.List.{drop_all, drop_more, map-append}
use Rattle.csv.specs.Records.{field_at}
use Rattle.sql_read.specs.declared.definition.ColumnDef.{ColumnDef}
use Rattle.sql_read.specs.declared.definition.TableDef.{TableDef}
use Rattle.sql_values.specs.Values.{Value, text}
use Rattle.control_vectors.specs.Slots.{Slot}
use Rattle.table_load.specs.Databases.{row_texts}
use Rattle.table_load.specs.HeldColumns.{AreCells, IsCell, noted, value_of, values_of}
use Rattle.table_load.specs.Tables.{first_other, is_same_name}
use Rattle.table_load.specs.Values.{field_value, field_values, text_field}
use Rattle.table_load.specs.declared.refusal.DataKind.{DataKind}
use Rattle.table_load.specs.declared.refusal.DataKind.TheVariants.{NotText, TextTooLong}
use Rattle.std.proofs.lemmas.Bool.{le-ltb, lt-ltb}
use Rattle.table_load.proofs.Rowwise.{cells_push, cells_within, Grows, grown_length, noted-append, noted_grows, row_texts-append, values_grown, values_push}
use Rattle.table_load.proofs.RecordLaws.{oks}

pub field_drop : (fields : List (List ℕ)) (i : ℕ) (f : List ℕ) → field_at fields i ≡ Some f → drop i fields ≡ f ∷ drop (suc i) fields
unfolding field_at
field_drop [] i f e = cc
field_drop (x ∷ xs) zero f e = cc
field_drop (x ∷ xs) (suc i) f e = field_drop xs i f e

pub field_missing : (fields : List (List ℕ)) (i : ℕ) → field_at fields i ≡ None → length fields ≤ i
unfolding field_at
field_missing [] i e = omega arith
field_missing (x ∷ xs) zero e = cc
field_missing (x ∷ xs) (suc i) e = let h = field_missing xs i e in omega arith

-- ---- headers

pub other_step : (columns : List ColumnDef) (fields : List (List ℕ)) (i : ℕ) (d : ColumnDef) (f : List ℕ) → i < length columns → field_at fields i ≡ Some f
    → first_other (i + 1) (drop i columns) (drop i fields) ≡ cond (is_same_name (get_or columns i d).name f) (first_other (i + 1 + 1) (drop (i + 1) columns) (drop (i + 1) fields)) (Some (i + 1))
other_step columns fields i d f h e = rw (drop-cons columns i d h, field_drop fields i f e, add-one i) refl

pub other_none : (columns : List ColumnDef) (fields : List (List ℕ)) (i : ℕ) → length columns ≤ i → first_other (i + 1) (drop i columns) (drop i fields) ≡ None
other_none columns fields i h = rw (drop_all i columns h) refl

-- ---- values

pub value_step : (t : TableDef) (columns : List ColumnDef) (fields : List (List ℕ)) (i : ℕ) (d : ColumnDef) (f : List ℕ) → i < length columns → field_at fields i ≡ Some f
    → field_values t (drop i columns) (drop i fields) ≡ field_value t (get_or columns i d) f ∷ field_values t (drop (i + 1) columns) (drop (i + 1) fields)
value_step t columns fields i d f h e = rw (drop-cons columns i d h, field_drop fields i f e, add-one i) refl

pub values_end : (t : TableDef) (columns : List ColumnDef) (fields : List (List ℕ)) (i : ℕ) → length columns ≤ i → field_values t (drop i columns) (drop i fields) ≡ []
values_end t columns fields i h = rw (drop_all i columns h) refl

pub oks-push : (vs : List Value) (v : Value) (rest : List (Result Value DataKind)) → oks vs ++ Ok v ∷ rest ≡ oks (vs ++ v ∷ []) ++ rest
oks-push vs v rest = sym (ap (λ l. l ++ rest) (map-append (λ x. Ok x) vs (v ∷ [])) ∙ append_assoc (oks vs) (Ok v ∷ []) rest)

-- what a cell more leaves
pub record CellMore (first old new : List (List ℕ)) (ks : List Bool) (zs : List Slot) (k : Bool) (z : Slot) : Type 0 where
  pub values : values_of new ks (zs ++ z ∷ []) ≡ values_of old ks zs ++ value_of new k z ∷ []
  pub cells : AreCells (length new) ks (zs ++ z ∷ [])
  pub noted_are : new ≡ noted first (row_texts (values_of new ks (zs ++ z ∷ [])))

pub cell_more : (first old new : List (List ℕ)) (ks : List Bool) (zs : List Slot) (k : Bool) (z : Slot) → length zs < length ks → get_or ks (length zs) false ≡ k → AreCells (length old) ks zs
    → new ≡ noted old (row_texts (value_of new k z ∷ [])) → IsCell (length new) k z → old ≡ noted first (row_texts (values_of old ks zs)) → CellMore first old new ks zs k z
cell_more first old new ks zs k z h e w n c o =
    let grows : Grows old new = subst (Grows old) (sym n) (noted_grows old (row_texts (value_of new k z ∷ []))) in
    let values : values_of new ks (zs ++ z ∷ []) ≡ values_of old ks zs ++ value_of new k z ∷ [] =
    values_push new ks zs z h ∙ rw (e, values_grown old new ks zs grows w) refl
    in
    record {
      values = values;
      cells = cells_push (length new) ks zs z h (cells_within (length old) (length new) ks zs (grown_length old new grows) w) (subst (λ b. IsCell (length new) b z) (sym e) c);
      noted_are =
          n
          ∙ ap (λ l. noted l (row_texts (value_of new k z ∷ []))) o
          ∙ sym (noted-append first (row_texts (values_of old ks zs)) (row_texts (value_of new k z ∷ [])))
          ∙ ap (noted first) (sym (row_texts-append (values_of old ks zs) (value_of new k z ∷ [])))
          ∙ ap (λ vs. noted first (row_texts vs)) (sym values);
    }

-- ---- places

pub position_step : {X : Type 0} (p : X → Bool) (xs : List X) (i : ℕ) (d : X) → i < length xs → position_from p i (drop i xs) ≡ cond (p (get_or xs i d)) (Some i) (position_from p (i + 1) (drop (i + 1) xs))
position_step p xs i d h = ap (position_from p i) (drop_more xs i d h)

pub position_end : {X : Type 0} (p : X → Bool) (xs : List X) (i : ℕ) → length xs ≤ i → position_from p i (drop i xs) ≡ None
position_end p xs i h = ap (position_from p i) (drop_all i xs h)

-- ---- texts

pub text_long : (width : ℕ) (f : List ℕ) → is_utf8 f ≡ true → width < length f → text_field width f ≡ Err TextTooLong
text_long width f u h = rw (u, lt-ltb width (length f) h) refl

pub text_fits : (width : ℕ) (f : List ℕ) → is_utf8 f ≡ true → length f ≤ width → text_field width f ≡ Ok (text f)
text_fits width f u h = rw (u, le-ltb width (length f) h) refl

pub text_not : (width : ℕ) (f : List ℕ) → is_utf8 f ≡ false → text_field width f ≡ Err NotText
text_not width f u = rw u refl

pub values_empty : (texts : List (List ℕ)) (ks : List Bool) → values_of texts ks [] ≡ []
values_empty texts [] = refl
values_empty texts (k ∷ ks) = refl

pub cells_empty : (count : ℕ) (ks : List Bool) → AreCells count ks []
cells_empty count [] = tt
cells_empty count (k ∷ ks) = tt
