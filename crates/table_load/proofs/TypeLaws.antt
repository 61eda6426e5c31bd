-- The rows of a table hold values of its columns.
use Rattle.std.proofs.Common.{◌≡◌, ◌∙◌, ℕ, zero, suc, ◌+◌, ℤ, List, [], ◌∷◌, ◌++◌, length, true, false, Option, Some, None, Result, Ok, Err, refl, ap, subst, arith, inl, inr, ◌⊎◌}
use Rattle.std.specs.Prelude.{nat_eq, nat_le, nat_lt}
use Rattle.std.specs.List.{All}
use Rattle.std.specs.Str.{is_utf8}
use Rattle.std.proofs.lemmas.Bool.{and_parts, cases_Bool}
use Rattle.std.proofs.lemmas.Bool.Decides.{nat_tests}
use Rattle.std.proofs.lemmas.List.Elements.{All-push}
use Rattle.civil_days.specs.Dates.{day_number}
use Rattle.number_fields.specs.Decimals.{decimal_value}
use Rattle.number_fields.specs.Integers.{integer_value}
use Rattle.number_fields.specs.declared.fault.NumberFault.{NumberFault}
use Rattle.number_fields.specs.declared.fault.NumberFault.TheVariants.{NoNumber, OutOfRange}
use Rattle.number_fields.proofs.RangeLaws.{decimal_range, integer_range}
use Rattle.sql_read.specs.declared.definition.ColumnDef.{ColumnDef}
use Rattle.sql_read.specs.declared.definition.ColumnKind.{ColumnKind}
use Rattle.sql_read.specs.declared.definition.ColumnKind.TheVariants as kind
use Rattle.sql_read.specs.declared.definition.TableDef.{TableDef}
use Rattle.sql_types.specs.Catalog.{may_be_null}
use Rattle.sql_values.specs.Values.{Value, number, text, truth, null}
use Rattle.table_load.specs.ColumnTypes.{ColumnsFit, FitsColumn, FitsColumns, FitsKind}
use Rattle.table_load.specs.Records.{records_of}
use Rattle.table_load.specs.Tables.{as_table, before_row, header_refusal, key_place, keyed, keyed_at, most_rows, new_key, record_row, row_from, row_with_key, rows_after, table_of, table_of_records, then_rows, under_header, with_key}
use Rattle.table_load.specs.Values.{Table, date_field, decimal_field, field_value, field_values, integer_field, is_null_field, text_field, typed_field}
use Rattle.table_load.specs.declared.refusal.DataKind.{DataKind}
use Rattle.table_load.specs.declared.refusal.DataRefusal.{DataRefusal}
use Rattle.table_load.proofs.DayLaws.{date_range}
use Rattle.table_load.proofs.RecordLaws.{oks}

-- ---- fields

integer_fits : (width : ℕ) (f : List ℕ) (v : Value) (r : Result ℤ NumberFault) → integer_value f ≡ r → integer_field r ≡ Ok v → FitsKind kind.Integer width v
integer_fits width f v (Ok z) e g = let same : number z ≡ v = cc in subst (FitsKind kind.Integer width) same (integer_range f z e)
integer_fits width f v (Err NoNumber) e g = absurd (cc)
integer_fits width f v (Err OutOfRange) e g = absurd (cc)

decimal_fits : (width scale : ℕ) (f : List ℕ) (v : Value) (r : Result ℤ NumberFault) → decimal_value width scale f ≡ r → decimal_field r ≡ Ok v → FitsKind kind.Decimal width v
decimal_fits width scale f v (Ok z) e g = let same : number z ≡ v = cc in subst (FitsKind kind.Decimal width) same (decimal_range width scale f z e)
decimal_fits width scale f v (Err NoNumber) e g = absurd (cc)
decimal_fits width scale f v (Err OutOfRange) e g = absurd (cc)

date_fits : (width : ℕ) (f : List ℕ) (v : Value) (r : Option ℤ) → day_number f ≡ r → date_field r ≡ Ok v → FitsKind kind.Date width v
date_fits width f v (Some z) e g = let same : number z ≡ v = cc in subst (FitsKind kind.Date width) same (date_range f z e)
date_fits width f v None e g = absurd (cc)

text_fits : (width : ℕ) (f : List ℕ) (v : Value) → text_field width f ≡ Ok v → FitsKind kind.Text width v
text_fits width f v e = by_form (cases_Bool (is_utf8 f)) (cases_Bool (nat_lt width (length f)))
  where
    by_form : (is_utf8 f ≡ true) ⊎ (is_utf8 f ≡ false) → (nat_lt width (length f) ≡ true) ⊎ (nat_lt width (length f) ≡ false) → FitsKind kind.Text width v
    by_form (inl is) (inr short) =
        let kept = rw (is, short) at e in
        let same : text f ≡ v = cc in
        subst (FitsKind kind.Text width) same (grind (arith, nat_tests, short))
    by_form (inl is) (inl long) = let none = rw (is, long) at e in absurd (cc)
    by_form (inr isnt) l = let none = rw isnt at e in absurd (cc)

typed_fits : (k : ColumnKind) (width scale : ℕ) (f : List ℕ) (v : Value) → typed_field k width scale f ≡ Ok v → FitsKind k width v
typed_fits kind.Integer width scale f v e = integer_fits width f v (integer_value f) refl e
typed_fits kind.Date width scale f v e = date_fits width f v (day_number f) refl e
typed_fits kind.Text width scale f v e = text_fits width f v e
typed_fits kind.Decimal width scale f v e = decimal_fits width scale f v (decimal_value width scale f) refl e

null_fits_none : (k : ColumnKind) (width : ℕ) → FitsKind k width null → ⊥
null_fits_none kind.Integer width h = h
null_fits_none kind.Date width h = h
null_fits_none kind.Text width h = h
null_fits_none kind.Decimal width h = h

kind_fits : (t : TableDef) (c : ColumnDef) (v : Value) → FitsKind c.kind c.width v → FitsColumn t c v
kind_fits t c (number z) h = h
kind_fits t c (text f) h = h
kind_fits t c (truth b) h = h
kind_fits t c null h = absurd (null_fits_none c.kind c.width h)

value_fits : (t : TableDef) (c : ColumnDef) (f : List ℕ) (v : Value) → field_value t c f ≡ Ok v → FitsColumn t c v
value_fits t c f v e = by_test (cases_Bool (is_null_field t c f))
  where
    by_test : (is_null_field t c f ≡ true) ⊎ (is_null_field t c f ≡ false) → FitsColumn t c v
    by_test (inl is) =
        let empty = rw is at e in
        let same : null ≡ v = cc in
        subst (FitsColumn t c) same (and_parts (nat_eq (length f) 0) (may_be_null t c) is).1
    by_test (inr isnt) = kind_fits t c v (typed_fits c.kind c.width c.scale f v (rw isnt at e))

-- ---- records

row_oks : (j : ℕ) (vs : List (Result Value DataKind)) (row : List Value) → row_from j vs ≡ Ok row → vs ≡ oks row
row_oks j [] [] e = refl
row_oks j [] (v ∷ row) e = absurd (cc)
row_oks j (Err k ∷ vs) row e = absurd (cc)
row_oks j (Ok v ∷ vs) row e = by_rest (row_from (j + 1) vs) refl e (λ us. row_oks (j + 1) vs us)
  where
    by_rest : (o : Result (List Value) (ℕ × DataKind)) → row_from (j + 1) vs ≡ o → before_row v o ≡ Ok row → ((us : List Value) → row_from (j + 1) vs ≡ Ok us → vs ≡ oks us) → Ok v ∷ vs ≡ oks row
    by_rest (Ok us) r b more =
        let same : v ∷ us ≡ row = cc in
        ap (λ l. Ok v ∷ l) (more us r) ∙ ap oks same
    by_rest (Err p) r b more = absurd (cc)

keyed_ok : (earlier : Value → Option ℕ) (r : Result Value DataKind) (v : Value) → keyed earlier r ≡ Ok v → r ≡ Ok v
keyed_ok earlier (Err k) v e = absurd (cc)
keyed_ok earlier (Ok w) v e = ap Ok (by_earlier (earlier w) e)
  where
    by_earlier : (o : Option ℕ) → new_key w o ≡ Ok v → w ≡ v
    by_earlier None g = cc
    by_earlier (Some row) g = absurd (cc)

keyed_oks : (key : ℕ) (earlier : Value → Option ℕ) (vs : List (Result Value DataKind)) (row : List Value) → keyed_at key earlier vs ≡ oks row → vs ≡ oks row
keyed_oks key earlier [] row e = e
keyed_oks zero earlier (r ∷ vs) [] e = absurd (cc)
keyed_oks zero earlier (r ∷ vs) (v ∷ row) e =
    let head : keyed earlier r ≡ Ok v = cc in
    let tail : vs ≡ oks row = cc in
    ap (λ x. x ∷ vs) (keyed_ok earlier r v head) ∙ ap (λ l. Ok v ∷ l) tail
keyed_oks (suc key) earlier (r ∷ vs) [] e = absurd (cc)
keyed_oks (suc key) earlier (r ∷ vs) (v ∷ row) e =
    let head : r ≡ Ok v = cc in
    let tail : keyed_at key earlier vs ≡ oks row = cc in
    ap (λ x. x ∷ vs) head ∙ ap (λ l. Ok v ∷ l) (keyed_oks key earlier vs row tail)

key_oks : (key : Option ℕ) (seen : List (List Value)) (vs : List (Result Value DataKind)) (row : List Value) → with_key key seen vs ≡ oks row → vs ≡ oks row
key_oks None seen vs row e = e
key_oks (Some key) seen vs row e = keyed_oks key (row_with_key key seen) vs row e

fields_fit : (t : TableDef) (cs : List ColumnDef) (fields : List (List ℕ)) (row : List Value) → length fields ≡ length cs → field_values t cs fields ≡ oks row → FitsColumns t cs row
fields_fit t [] [] [] l e = tt
fields_fit t [] [] (v ∷ row) l e = absurd (cc)
fields_fit t [] (f ∷ fields) row l e = absurd (omega (arith, l))
fields_fit t (c ∷ cs) [] row l e = absurd (omega (arith, l))
fields_fit t (c ∷ cs) (f ∷ fields) [] l e = absurd (cc)
fields_fit t (c ∷ cs) (f ∷ fields) (v ∷ row) l e =
    let head : field_value t c f ≡ Ok v = cc in
    let tail : field_values t cs fields ≡ oks row = cc in
    (value_fits t c f v head, fields_fit t cs fields row (omega (arith, l)) tail)

record_fits : (t : TableDef) (seen : List (List Value)) (fields : List (List ℕ)) (row : List Value) → record_row t seen fields ≡ Ok row → FitsColumns t t.columns row
record_fits t seen fields row e = by_limits (cases_Bool (nat_le most_rows (length seen))) (cases_Bool (nat_eq (length fields) (length t.columns)))
  where
    by_limits : (nat_le most_rows (length seen) ≡ true) ⊎ (nat_le most_rows (length seen) ≡ false) → (nat_eq (length fields) (length t.columns) ≡ true) ⊎ (nat_eq (length fields) (length t.columns) ≡ false) → FitsColumns t t.columns row
    by_limits (inl full) c = let none = rw full at e in absurd (cc)
    by_limits (inr room) (inr other) = let none = rw (room, other) at e in absurd (cc)
    by_limits (inr room) (inl same) =
        let read : row_from 1 (with_key (key_place t) seen (field_values t t.columns fields)) ≡ Ok row = rw (room, same) at e in
        let as_many : length fields ≡ length t.columns = grind (arith, nat_tests, same) in
        fields_fit t t.columns fields row as_many (key_oks (key_place t) seen (field_values t t.columns fields) row (row_oks 1 (with_key (key_place t) seen (field_values t t.columns fields)) row read))

-- ---- tables

rows_fit : (t : TableDef) (seen : List (List Value)) (records : List (List (List ℕ))) (rows : List (List Value)) → All (FitsColumns t t.columns) seen → rows_after t seen records ≡ Ok rows → All (FitsColumns t t.columns) rows
unfolding rows_after
rows_fit t seen [] rows h e = let same : seen ≡ rows = cc in subst (All (FitsColumns t t.columns)) same h
rows_fit t seen (r ∷ records) rows h e = by_row (record_row t seen r) refl e (λ row. rows_fit t (seen ++ row ∷ []) records rows)
  where
    by_row : (o : Result (List Value) (ℕ × DataKind)) → record_row t seen r ≡ o → then_rows o (length seen + 1) (λ row. rows_after t (seen ++ row ∷ []) records) ≡ Ok rows
        → ((row : List Value) → All (FitsColumns t t.columns) (seen ++ row ∷ []) → rows_after t (seen ++ row ∷ []) records ≡ Ok rows → All (FitsColumns t t.columns) rows) → All (FitsColumns t t.columns) rows
    by_row (Ok row) is g more = more row (All-push (FitsColumns t t.columns) seen row h (record_fits t seen r row is)) g
    by_row (Err p) is g more = absurd (cc)

no_rows : (t : TableDef) → All (FitsColumns t t.columns) []
no_rows t i d l = absurd (omega arith)

table_fits : (t : TableDef) (records : List (List (List ℕ))) (table : Table) → as_table t (rows_after t [] records) ≡ Ok table → All (FitsColumns t t.columns) table.rows
table_fits t records table e = by_rows (rows_after t [] records) refl e
  where
    by_rows : (o : Result (List (List Value)) DataRefusal) → rows_after t [] records ≡ o → as_table t o ≡ Ok table → All (FitsColumns t t.columns) table.rows
    by_rows (Ok rows) is g =
        let same : record { degree = length t.columns; rows = rows } ≡ table = cc in
        subst (λ (x : Table). All (FitsColumns t t.columns) x.rows) same (rows_fit t [] records rows (no_rows t) is)
    by_rows (Err p) is g = absurd (cc)

header_fits : (column : Option ℕ) (t : TableDef) (records : List (List (List ℕ))) (table : Table) → under_header column t records ≡ Ok table → All (FitsColumns t t.columns) table.rows
header_fits None t records table e = table_fits t records table e
header_fits (Some column) t records table e = absurd (cc)

records_fit : (t : TableDef) (records : List (List (List ℕ))) (table : Table) → table_of_records t records ≡ Ok table → All (FitsColumns t t.columns) table.rows
records_fit t [] table e = absurd (cc)
records_fit t (h ∷ records) table e = header_fits (header_refusal t.columns h) t records table e

pub columns_fit : ColumnsFit
unfolding table_of
columns_fit t bytes table e = records_fit t (records_of bytes) table e
