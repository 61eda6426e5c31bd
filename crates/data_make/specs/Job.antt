-- The generated job: the table that a seed and a number of rows make, as CSV text (RFC 4180), its schema and a query of it (SQL-92, ISO/IEC 9075:1992).
-- What is drawn for a row is a linear congruence of its number and the seed, modulo the prime 1000003.
use Rattle.std.specs.Prelude.{ℕ, ◌+◌, ◌*◌, ◌%◌, ℤ, pos, ◌-ℤ◌, List, [], ◌∷◌, ◌++◌, codes, slice_index_or}
use Rattle.std.specs.Fmt.{decimal, signed_decimal}
use Rattle.std.specs.List.{flat_map, range_with_len}
use Rattle.answer_texts.specs.Dates.{date_text}

abbrev pub made_schema : List ℕ
made_schema = codes "CREATE TABLE made (id INTEGER NOT NULL PRIMARY KEY, kind VARCHAR(5) NOT NULL, shipped DATE NOT NULL, amount INTEGER NOT NULL);"

abbrev pub made_query : List ℕ
made_query = codes "SELECT kind, COUNT(*) AS n, SUM(amount) AS total, AVG(amount) AS mean FROM made WHERE shipped >= DATE '1992-03-01' GROUP BY kind ORDER BY kind"

-- the number that is drawn for row i and one of its columns
abbrev pub drawn : ℕ → ℕ → ℕ → ℕ
drawn seed i k = ((seed % 1000003) * 7919 + i * (104729 + k)) % 1000003

abbrev pub kinds : List (List ℕ)
kinds = codes "AIR" ∷ codes "RAIL" ∷ codes "SHIP" ∷ codes "TRUCK" ∷ []

abbrev pub kind_name : ℕ → List ℕ
kind_name n = slice_index_or kinds (n % 4) []

-- 1992-01-01
abbrev pub first_day : ℕ
first_day = 8035

-- a day of the seven years from then on
abbrev pub shipped_day : ℕ → ℤ
shipped_day n = pos (first_day + n % 2557)

abbrev pub amount : ℕ → ℤ
amount n = pos n -ℤ pos 500000

-- the amount and the line feed
abbrev pub amount_end : ℕ → List ℕ
amount_end n = signed_decimal (amount n) ++ 10 ∷ []

-- row i: its number, its kind, its date and its amount, with commas between them
abbrev pub made_row : ℕ → ℕ → List ℕ
made_row seed i = decimal i ++ 44 ∷ kind_name (drawn seed i 1) ++ 44 ∷ date_text (shipped_day (drawn seed i 2)) ++ 44 ∷ amount_end (drawn seed i 3)

abbrev pub header : List ℕ
header = codes "id,kind,shipped,amount\n"

-- the header, and the rows from 1 on
abbrev pub made_table : ℕ → ℕ → List ℕ
made_table seed rows = header ++ flat_map (made_row seed) (range_with_len 1 rows)
