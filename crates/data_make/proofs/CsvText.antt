-- A made table is the text of its records, and is read as them.
use Rattle.std.proofs.Common.{◌≡◌, ◌∙◌, ℕ, zero, suc, ◌+◌, ◌/◌, ◌%◌, ◌^◌, ◌<◌, ◌≤◌, Bool, true, false, ◌&&◌, ℤ, pos, negsuc, List, [], ◌∷◌, ◌++◌, length, map, refl, sym, ap, arith, append_assoc}
use Rattle.std.specs.Prelude.{if◌then◌else◌, codes, unsigned_abs, slice_index_or}
use Rattle.std.specs.Fmt.{decimal, signed_decimal}
use Rattle.std.specs.List.{flat_map, list_all, list_any, range_with_len}
use Rattle.std.proofs.lemmas.Bool.{false≢true}
use Rattle.std.proofs.lemmas.Bool.Decides.{nat_tests}
use Rattle.std.proofs.lemmas.Int.{ints}
use Rattle.std.proofs.lemmas.List.{append-nil, length-append}
use Rattle.std.proofs.lemmas.List.Folds.{list_any-append}
use Rattle.csv.specs.Machine.{next_record}
use Rattle.csv.specs.Reading.{default_config, records_from, strip_bom}
use Rattle.csv.specs.Writing.{default_writer, escaped, fields_text, is_blank, needs_byte, read_back, row_body, row_text}
use Rattle.csv.specs.declared.parser.State.TheVariants as st
use Rattle.csv.proofs.RoundTrip.{read-write, rows_text}
use Rattle.table_load.specs.Records.{records_of}
use Rattle.number_fields.specs.Digits.{is_digit}
use Rattle.answer_texts.specs.Dates.{civil_text, date_text, month_of, place_of, year_of}
use Rattle.answer_texts.specs.Numbers.{last_digits}
use Rattle.data_make.specs.Job.{amount, drawn, header, kind_name, kinds, made_row, made_table, shipped_day}
use Rattle.data_make.proofs.FieldReads.{all_digits}

-- ---- fields that call for no quotes

and_first : (a b : Bool) → (a && b) ≡ true → a ≡ true
and_first true b h = refl
and_first false b h = h

and_second : (a b : Bool) → (a && b) ≡ true → b ≡ true
and_second true b h = h
and_second false b h = absurd (false≢true h)

plain_digits : (ds : List ℕ) → list_all is_digit ds ≡ true → list_any (needs_byte default_writer) ds ≡ false
plain_digits [] h = refl
plain_digits (c ∷ cs) h =
    let first : is_digit c ≡ true = and_first _ _ h in
    let rest : list_all is_digit cs ≡ true = and_second (is_digit c) _ h in
    let byte : needs_byte default_writer c ≡ false = grind (arith, nat_tests) in
    rw (byte, plain_digits cs rest) refl

plain_whole : (n : ℕ) → n < 2 ^ 64 → list_any (needs_byte default_writer) (decimal n) ≡ false
plain_whole n h = plain_digits (decimal n) (all_digits n h)

plain_signed : (z : ℤ) → unsigned_abs z < 2 ^ 63 → list_any (needs_byte default_writer) (signed_decimal z) ≡ false
plain_signed (pos n) h = plain_whole n (omega (arith, h))
plain_signed (negsuc n) h = plain_whole (suc n) (omega (arith, h))

pub plain_kind : (n : ℕ) → n < 4 → list_any (needs_byte default_writer) (slice_index_or kinds n []) ≡ false
plain_kind zero h = refl
plain_kind (suc zero) h = refl
plain_kind (suc (suc zero)) h = refl
plain_kind (suc (suc (suc zero))) h = refl
plain_kind (suc (suc (suc (suc n)))) h = absurd (omega (arith, h))

plain_last : (k n : ℕ) → list_any (needs_byte default_writer) (last_digits k n) ≡ false
plain_last zero n = refl
plain_last (suc k) n =
    let digit : needs_byte default_writer (48 + n % 10) ≡ false = grind (arith, nat_tests) in
    list_any-append (needs_byte default_writer) (last_digits k (n / 10)) ((48 + n % 10) ∷ []) ∙ rw (plain_last k (n / 10), digit) refl

plain_civil : (y m d : ℕ) → list_any (needs_byte default_writer) (civil_text y m d) ≡ false
plain_civil y m d =
    list_any-append (needs_byte default_writer) (last_digits 4 y) (45 ∷ last_digits 2 m ++ 45 ∷ last_digits 2 d)
    ∙ rw (plain_last 4 y) (list_any-append (needs_byte default_writer) (last_digits 2 m) (45 ∷ last_digits 2 d) ∙ rw (plain_last 2 m, plain_last 2 d) refl)

plain_date : (day : ℤ) → list_any (needs_byte default_writer) (date_text day) ≡ false
unfolding date_text
plain_date day = plain_civil (year_of day) (month_of (year_of day) day) (place_of (year_of day) (month_of (year_of day) day) day)

-- ---- a row

-- a record of four such fields
plain_row : (a b c d : List ℕ) → list_any (needs_byte default_writer) a ≡ false → list_any (needs_byte default_writer) b ≡ false → list_any (needs_byte default_writer) c ≡ false → list_any (needs_byte default_writer) d ≡ false
    → row_text default_writer (a ∷ b ∷ c ∷ d ∷ []) ≡ ((a ++ (44 ∷ b)) ++ (44 ∷ c)) ++ (44 ∷ (d ++ (10 ∷ [])))
unfolding fields_text is_blank
plain_row a b c d pa pb pc pd =
    rw (pa, pb, pc, pd) (append_assoc a (44 ∷ (b ++ (44 ∷ (c ++ (44 ∷ (d ++ [])))))) (10 ∷ [])
    ∙ ap (λ (l : List ℕ). a ++ (44 ∷ l)) (append_assoc b (44 ∷ (c ++ (44 ∷ (d ++ [])))) (10 ∷ [])
    ∙ ap (λ (l : List ℕ). b ++ (44 ∷ l)) (append_assoc c (44 ∷ (d ++ [])) (10 ∷ []) ∙ ap (λ (l : List ℕ). c ++ (44 ∷ (l ++ (10 ∷ [])))) (append-nil d)))
    ∙ sym (append_assoc (a ++ (44 ∷ b)) (44 ∷ c) (44 ∷ (d ++ (10 ∷ []))) ∙ append_assoc a (44 ∷ b) (44 ∷ (c ++ (44 ∷ (d ++ (10 ∷ [])))))))

-- the fields of row i
abbrev pub made_fields : ℕ → ℕ → List (List ℕ)
made_fields seed i = decimal i ∷ kind_name (drawn seed i 1) ∷ date_text (shipped_day (drawn seed i 2)) ∷ signed_decimal (amount (drawn seed i 3)) ∷ []

pub amount_small : (n : ℕ) → n < 1000003 → unsigned_abs (amount n) < 2 ^ 63
amount_small n h = omega (arith, ints, h)

pub drawn_small : (seed i k : ℕ) → drawn seed i k < 1000003
drawn_small seed i k = omega arith

row_is : (seed i : ℕ) → i ≤ 2 ^ 20 → row_text default_writer (made_fields seed i) ≡ made_row seed i
row_is seed i h =
    plain_row (decimal i) (kind_name (drawn seed i 1)) (date_text (shipped_day (drawn seed i 2))) (signed_decimal (amount (drawn seed i 3))) (plain_whole i (omega (arith, h)))
    (plain_kind (drawn seed i 1 % 4) (omega arith)) (plain_date (shipped_day (drawn seed i 2))) (plain_signed (amount (drawn seed i 3)) (amount_small (drawn seed i 3) (drawn_small seed i 3)))

rows_are : (seed a n : ℕ) → a + n ≤ 2 ^ 20 + 1 → rows_text (map (made_fields seed) (range_with_len a n)) ≡ flat_map (made_row seed) (range_with_len a n)
unfolding rows_text
rows_are seed a zero h = refl
rows_are seed a (suc n) h = rw (row_is seed a (omega (arith, h)), rows_are seed (a + 1) n (omega (arith, h))) refl

-- ---- records

-- with any number of turns that is enough
read_all : (n : ℕ) (rows : List (List (List ℕ))) → length rows ≤ n → records_from default_config n st.StartRecord (rows_text rows) ≡ map read_back rows
unfolding records_from rows_text next_record
read_all zero [] h = refl
read_all (suc n) [] h = refl
read_all zero (row ∷ rows) h = absurd (omega (arith, h))
read_all (suc n) (row ∷ rows) h = rw (read-write row (rows_text rows)) (ap (λ (t : List (List (List ℕ))). read_back row ∷ t) (read_all n rows (omega (arith, h))))

ends : (body mark : List ℕ) → 1 ≤ length (body ++ (mark ++ (10 ∷ [])))
ends body mark = omega (arith, length-append body (mark ++ (10 ∷ [])), length-append mark (10 ∷ []))

some_byte : (row : List (List ℕ)) → 1 ≤ length (row_text default_writer row)
some_byte row = ends (row_body default_writer row) (if is_blank default_writer row then 34 ∷ 34 ∷ [] else [])

-- a text has a byte for each record
few : (rows : List (List (List ℕ))) → length rows ≤ length (rows_text rows)
unfolding rows_text
few [] = omega arith
few (row ∷ rows) = omega (arith, some_byte row, few rows, length-append (row_text default_writer row) (rows_text rows))

whole : (seed a n : ℕ) → map read_back (map (made_fields seed) (range_with_len a n)) ≡ map (made_fields seed) (range_with_len a n)
whole seed a zero = refl
whole seed a (suc n) = ap (λ l. made_fields seed a ∷ l) (whole seed (a + 1) n)

-- the fields of the header
abbrev pub head : List (List ℕ)
head = codes "id" ∷ codes "kind" ∷ codes "shipped" ∷ codes "amount" ∷ []

text_is : (seed rows : ℕ) → rows ≤ 2 ^ 20 → rows_text (head ∷ map (made_fields seed) (range_with_len 1 rows)) ≡ made_table seed rows
unfolding rows_text fields_text is_blank escaped
text_is seed rows h = ap (λ (l : List ℕ). header ++ l) (rows_are seed 1 rows (omega (arith, h)))

-- a made table is read as its header and its rows
pub records_are : (seed rows : ℕ) → rows ≤ 2 ^ 20 → records_of (made_table seed rows) ≡ head ∷ map (made_fields seed) (range_with_len 1 rows)
unfolding strip_bom
records_are seed rows h =
    let all = head ∷ map (made_fields seed) (range_with_len 1 rows) in
    let is = text_is seed rows h in
    ap (λ (l : List ℕ). records_from default_config (length l + 1) st.StartRecord l) (sym is) ∙ read_all (length (rows_text all) + 1) all (omega (arith, few all)) ∙ ap (λ l. head ∷ l) (whole seed 1 rows)
