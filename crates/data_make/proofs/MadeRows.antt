-- Each record of a made table is loaded as its row.
use Rattle.std.proofs.Common.{◌≡◌, ◌∙◌, ℕ, zero, suc, ◌+◌, ◌%◌, ◌^◌, ◌<◌, ◌≤◌, true, false, pos, List, [], ◌∷◌, ◌++◌, length, map, Some, None, Ok, refl, sym, ap, arith}
use Rattle.std.specs.Prelude.{◌==◌, ◌<ℤ◌, nat_le, slice_index_or}
use Rattle.std.specs.Cmp.{int_cmp_is}
use Rattle.std.specs.Ordering.{is_eq}
use Rattle.std.specs.declared.cmp.Ordering.TheVariants.{Greater}
use Rattle.std.specs.Fmt.{decimal, signed_decimal}
use Rattle.std.specs.List.{position_from, range_with_len}
use Rattle.std.specs.Str.{is_utf8, chars}
use Rattle.std.specs.Str.Lossy.{utf8_valid_len}
use Rattle.std.proofs.Math.Bool.{and-false}
use Rattle.std.proofs.lemmas.Bool.{le-leb}
use Rattle.std.proofs.lemmas.Bool.Decides.{nat_tests}
use Rattle.std.proofs.lemmas.Int.{ints}
use Rattle.std.proofs.lemmas.List.FromFn.{length-map-range_with_len, map-range_with_len_more}
use Rattle.answer_texts.specs.Dates.{date_text}
use Rattle.answer_texts.specs.DateLaws.{EveryDay}
use Rattle.sql_read.specs.declared.definition.ColumnDef.{ColumnDef}
use Rattle.sql_read.specs.declared.definition.ColumnKind.TheVariants.{Integer}
use Rattle.civil_days.specs.Dates.{day_number}
use Rattle.sql_types.specs.Catalog.{may_be_null}
use Rattle.sql_values.specs.Values.{Value, number, text}
use Rattle.table_load.specs.Tables.{as_table, most_rows, record_row, row_from, row_with_key, rows_after, table_of, table_of_records, with_key}
use Rattle.table_load.specs.Values.{date_field, field_value, field_values, integer_field, same_value, text_field, typed_field, value_at}
use Rattle.data_make.specs.Job.{amount, drawn, kind_name, kinds, shipped_day}
use Rattle.data_make.specs.Loading.{TablesLoad, made_def, made_rows, made_values}
use Rattle.data_make.proofs.CsvText.{amount_small, drawn_small, made_fields, records_are}
use Rattle.data_make.proofs.FieldReads.{signed_read, whole_read}

-- ---- the key

other_key : (k a : ℕ) → a < k → same_value (number (pos k)) (number (pos a)) ≡ false
other_key k a h =
    let above : pos a <ℤ pos k = omega (arith, ints, h) in
    ap is_eq (sym (int_cmp_is (pos k) (pos a) Greater above))

new_key : (seed k p a n : ℕ) → a + n ≤ k → position_from (λ row. same_value (number (pos k)) (value_at 0 row)) p (map (made_values seed) (range_with_len a n)) ≡ None
new_key seed k p a zero h = refl
new_key seed k p a (suc n) h = rw (other_key k a (omega (arith, h))) (new_key seed k (p + 1) (a + 1) n (omega (arith, h)))

-- ---- the fields

kind_read : (n : ℕ) → n < 4 → text_field 5 (slice_index_or kinds n []) ≡ Ok (text (slice_index_or kinds n []))
unfolding is_utf8 chars utf8_valid_len lib.Utf8.encode
kind_read zero h = refl
kind_read (suc zero) h = refl
kind_read (suc (suc zero)) h = refl
kind_read (suc (suc (suc zero))) h = refl
kind_read (suc (suc (suc (suc n)))) h = absurd (omega (arith, h))

date_read : EveryDay → (n : ℕ) → date_field (day_number (date_text (shipped_day n))) ≡ Ok (number (shipped_day n))
date_read every n = ap date_field (every (shipped_day n) (le-leb (8035 + n % 2557) 2932896 (omega arith)))

-- no field is a null, since no column may hold one
value_read : (c : ColumnDef) (f : List ℕ) (v : Value) → may_be_null made_def c ≡ false → typed_field c.kind c.width c.scale f ≡ Ok v → field_value made_def c f ≡ Ok v
value_read c f v never is = rw (never, and-false (length f == 0)) is

-- the column at a place
abbrev pub column : ℕ → ColumnDef
column i = slice_index_or made_def.columns i (record { name = []; at = 0; kind = Integer; width = 0; width_at = 0; scale = 0; scale_at = 0; not_null = true })

typed : EveryDay → (seed i : ℕ) → i ≤ 2 ^ 20
    → field_values made_def made_def.columns (made_fields seed i) ≡ Ok (number (pos i)) ∷ Ok (text (kind_name (drawn seed i 1))) ∷ Ok (number (shipped_day (drawn seed i 2))) ∷ Ok (number (amount (drawn seed i 3))) ∷ []
typed every seed i h =
    let key = value_read (column 0) (decimal i) (number (pos i)) refl (ap integer_field (whole_read i (omega (arith, h)))) in
    let kind = value_read (column 1) (kind_name (drawn seed i 1)) (text (kind_name (drawn seed i 1))) refl (kind_read (drawn seed i 1 % 4) (omega arith)) in
    let shipped = value_read (column 2) (date_text (shipped_day (drawn seed i 2))) (number (shipped_day (drawn seed i 2))) refl (date_read every (drawn seed i 2)) in
    let last = value_read (column 3) (signed_decimal (amount (drawn seed i 3))) (number (amount (drawn seed i 3))) refl (ap integer_field (signed_read (amount (drawn seed i 3)) (amount_small (drawn seed i 3) (drawn_small seed i 3)))) in
    λ t. key t ∷ kind t ∷ shipped t ∷ last t ∷ []

-- ---- rows

row_loaded : EveryDay → (seed n : ℕ) → n < 2 ^ 20 → record_row made_def (map (made_values seed) (range_with_len 1 n)) (made_fields seed (n + 1)) ≡ Ok (made_values seed (n + 1))
row_loaded every seed n h =
    let seen = map (made_values seed) (range_with_len 1 n) in
    let room : nat_le most_rows (length seen) ≡ false = ap (nat_le most_rows) (length-map-range_with_len (made_values seed) 1 n) ∙ no_room n h in
    let new : row_with_key 0 seen (number (pos (n + 1))) ≡ None = new_key seed (n + 1) 1 1 n (omega arith) in
    rw room (ap (λ vs. row_from 1 (with_key (Some 0) seen vs)) (typed every seed (n + 1) (omega (arith, h))) ∙ rw new refl)
  where
    no_room : (n : ℕ) → n < 2 ^ 20 → nat_le most_rows n ≡ false
    no_room n h = grind (arith, nat_tests)

rows_loaded : EveryDay → (seed a n : ℕ) → a + n ≤ 2 ^ 20
    → rows_after made_def (map (made_values seed) (range_with_len 1 a)) (map (made_fields seed) (range_with_len (a + 1) n)) ≡ Ok (map (made_values seed) (range_with_len 1 (a + n)))
unfolding rows_after
rows_loaded every seed a zero h = ap (λ k. Ok (map (made_values seed) (range_with_len 1 k))) (omega arith)
rows_loaded every seed a (suc n) h =
    let more : map (made_values seed) (range_with_len 1 a) ++ made_values seed (a + 1) ∷ [] ≡ map (made_values seed) (range_with_len 1 (a + 1)) = sym (map-range_with_len_more (made_values seed) 1 a (a + 1) (omega arith)) in
    let count : a + 1 + n ≡ a + suc n = omega arith in
    rw (row_loaded every seed a (omega (arith, h)), more) (rows_loaded every seed (a + 1) n (omega (arith, h)) ∙ ap (λ k. Ok (map (made_values seed) (range_with_len 1 k))) count)

pub tables_load : EveryDay → TablesLoad
unfolding table_of
tables_load every seed rows h =
    let count : 0 + rows ≡ rows = omega arith in
    ap (table_of_records made_def) (records_are seed rows h) ∙ ap (as_table made_def) (rows_loaded every seed 0 rows (omega (arith, h))) ∙ ap (λ k. Ok (made_rows seed k)) count
