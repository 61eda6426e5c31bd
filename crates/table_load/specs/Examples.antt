-- Worked examples of tables, each a theorem: what fields give, what records give or where they are refused, and how values are kept.
use Rattle.std.specs.Prelude.{◌≡◌, ℕ, pos, neg_ℤ, Bool, true, false, List, [], ◌∷◌, map, codes, Some, None, Ok, Err}
use Rattle.control_vectors.specs.Slots.{Slot}
use Rattle.dict_codes.specs.Dictionaries.{dictionary_of}
use Rattle.sql_read.specs.declared.definition.ColumnDef.{ColumnDef}
use Rattle.sql_read.specs.declared.definition.ColumnKind.{ColumnKind}
use Rattle.sql_read.specs.declared.definition.ColumnKind.TheVariants as kind
use Rattle.sql_read.specs.declared.definition.KeyDef.{KeyDef}
use Rattle.sql_read.specs.declared.definition.TableDef.{TableDef}
use Rattle.sql_values.specs.Values.{Value, number, text, null}
use Rattle.table_load.specs.declared.refusal.DataKind.{DataKind}
use Rattle.table_load.specs.declared.refusal.DataKind.TheVariants.{Header, FieldCount, NotInteger, IntegerRange, NotDate, NotText, TextTooLong, NotDecimal, DecimalRange, KeyTwice}
use Rattle.table_load.specs.declared.refusal.DataRefusal.TheVariants.{Bad}
use Rattle.struct_vectors.specs.Columns.{KeptForm, narrow, narrow_with_empties}
use Rattle.table_load.specs.Databases.{column_of, tables_texts}
use Rattle.table_load.specs.Tables.{table_of_records}
use Rattle.table_load.specs.Values.{field_value}

-- a column of a name and a kind, of a width or a precision, a scale, and with or without NOT NULL
abbrev pub column : List ℕ → ColumnKind → ℕ → ℕ → Bool → ColumnDef
column name kind width scale not_null = record { name = name; at = 0; kind = kind; width = width; width_at = 0; scale = scale; scale_at = 0; not_null = not_null }

abbrev pub table : List ColumnDef → List KeyDef → TableDef
table columns keys = record { name = codes "t"; at = 0; columns = columns; keys = keys }

abbrev pub key : List ℕ → KeyDef
key name = record { column = name; at = 0; name_at = 0 }

-- id INTEGER NOT NULL, d DATE NOT NULL, w CHAR(4) NOT NULL, PRIMARY KEY (id)
abbrev pub example : TableDef
example = table (column (codes "id") kind.Integer 0 0 true ∷ column (codes "d") kind.Date 0 0 true ∷ column (codes "w") kind.Text 4 0 true ∷ []) (key (codes "id") ∷ [])

-- g VARCHAR(3), a INTEGER
abbrev pub with_nulls : TableDef
with_nulls = table (column (codes "g") kind.Text 3 0 false ∷ column (codes "a") kind.Integer 0 0 false ∷ []) []

-- amt DECIMAL(10, 2) NOT NULL, rate DECIMAL(4, 3) NOT NULL
abbrev pub with_decimals : TableDef
with_decimals = table (column (codes "amt") kind.Decimal 10 2 true ∷ column (codes "rate") kind.Decimal 4 3 true ∷ []) []

-- a INTEGER PRIMARY KEY, d DECIMAL(4, 2)
abbrev pub with_key_and_null : TableDef
with_key_and_null = table (column (codes "a") kind.Integer 0 0 false ∷ column (codes "d") kind.Decimal 4 2 false ∷ []) (key (codes "a") ∷ [])

-- ---- fields

-- a field of a NOT NULL column of this kind, of four bytes where it is a text and of four digits, two of them behind the point, where it is a
-- decimal, has this value
abbrev pub IsField : ColumnKind → List ℕ → Value → Type 0
IsField kind field v = field_value (table [] []) (column [] kind 4 2 true) field ≡ Ok v

-- or is refused for this cause
abbrev pub IsNoField : ColumnKind → List ℕ → DataKind → Type 0
IsNoField kind field why = field_value (table [] []) (column [] kind 4 2 true) field ≡ Err why

-- a field of a column that may hold nulls is null
abbrev pub IsNull : ColumnKind → List ℕ → Type 0
IsNull kind field = field_value (table [] []) (column [] kind 4 2 false) field ≡ Ok null

-- or is read as in any other column, to this value
abbrev pub IsNoNull : ColumnKind → List ℕ → Value → Type 0
IsNoNull kind field v = field_value (table [] []) (column [] kind 4 2 false) field ≡ Ok v

abbrev pub WorkedFields : Type 0
WorkedFields =
    IsField kind.Integer (codes "-7") (number (neg_ℤ (pos 7)))
    × IsField kind.Integer (codes "007") (number (pos 7))
    × IsNoField kind.Integer (codes "9223372036854775808") IntegerRange
    × IsNoField kind.Integer (codes "1.5") NotInteger
    × IsNoField kind.Integer [] NotInteger
    × IsField kind.Date (codes "1969-12-31") (number (neg_ℤ (pos 1)))
    × IsNoField kind.Date (codes "2001-02-29") NotDate
    × IsNoField kind.Date [] NotDate
    -- 195, 169 is one letter of two bytes, and 255 stands in no text
    × IsField kind.Text [] (text [])
    × IsField kind.Text (195 ∷ 169 ∷ 195 ∷ 169 ∷ []) (text (195 ∷ 169 ∷ 195 ∷ 169 ∷ []))
    × IsNoField kind.Text (195 ∷ 169 ∷ 195 ∷ 169 ∷ 97 ∷ []) TextTooLong
    × IsNoField kind.Text (97 ∷ 255 ∷ []) NotText
    -- a decimal as its units
    × IsField kind.Decimal (codes "-0.05") (number (neg_ℤ (pos 5)))
    × IsField kind.Decimal (codes "12.500") (number (pos 1250))
    × IsNoField kind.Decimal (codes "12.505") DecimalRange
    × IsNoField kind.Decimal (codes "100") DecimalRange
    × IsNoField kind.Decimal (codes "1e2") NotDecimal
    × IsNoField kind.Decimal [] NotDecimal
    -- an empty field alone is a null
    × IsNull kind.Integer []
    × IsNull kind.Date []
    × IsNull kind.Text []
    × IsNull kind.Decimal []
    × IsNoNull kind.Integer (codes "0") (number (pos 0))
    × IsNoNull kind.Text (32 ∷ []) (text (32 ∷ []))

-- ---- records

-- the fields of a record of three
abbrev pub fields : List ℕ → List ℕ → List ℕ → List (List ℕ)
fields a b c = a ∷ b ∷ c ∷ []

abbrev pub header : List (List ℕ)
header = fields (codes "id") (codes "d") (codes "w")

-- the records are those of a table with these rows
abbrev pub HasRows : List (List (List ℕ)) → List (List Value) → Type 0
HasRows records rows = table_of_records example records ≡ Ok (record { degree = 3; rows = rows })

-- or are refused at this record and column
abbrev pub IsRefusedAt : List (List (List ℕ)) → ℕ → ℕ → DataKind → Type 0
IsRefusedAt records n j why = table_of_records example records ≡ Err (Bad n j why)

-- the records of another table give these rows, or are refused
abbrev pub HasRowsIn : TableDef → List (List (List ℕ)) → List (List Value) → Type 0
HasRowsIn t records rows = table_of_records t records ≡ Ok (record { degree = 2; rows = rows })

abbrev pub IsRefusedIn : TableDef → List (List (List ℕ)) → ℕ → ℕ → DataKind → Type 0
IsRefusedIn t records n j why = table_of_records t records ≡ Err (Bad n j why)

-- the fields of a record of two
abbrev pub pair : List ℕ → List ℕ → List (List ℕ)
pair a b = a ∷ b ∷ []

abbrev pub WorkedTables : Type 0
WorkedTables =
    HasRows (header ∷ fields (codes "5") (codes "1970-01-02") (codes "ab") ∷ fields (codes "-7") (codes "1969-12-31") (codes "cd") ∷ [])
    ((number (pos 5) ∷ number (pos 1) ∷ text (codes "ab") ∷ []) ∷ (number (neg_ℤ (pos 7)) ∷ number (neg_ℤ (pos 1)) ∷ text (codes "cd") ∷ []) ∷ [])
    -- a header without regard to case
    × HasRows (fields (codes "ID") (codes "D") (codes "w") ∷ []) []
    × IsRefusedAt [] 0 0 Header
    × IsRefusedAt ((codes "id" ∷ codes "d" ∷ []) ∷ []) 0 0 Header
    × IsRefusedAt (fields (codes "id") (codes "e") (codes "v") ∷ []) 0 2 Header
    × IsRefusedAt (header ∷ (codes "1" ∷ codes "2000-01-01" ∷ []) ∷ []) 1 0 FieldCount
    -- the first record that is refused, and its first field that is
    × IsRefusedAt (header ∷ fields (codes "1") (codes "2000-01-01") (codes "a") ∷ fields (codes "2") (codes "x") (codes "abcde") ∷ fields (codes "x") [] [] ∷ []) 2 2 NotDate
    -- a key by its value, at its turn: after its own form, and before the fields to its right
    × IsRefusedAt (header ∷ fields (codes "7") (codes "2000-01-01") [] ∷ fields (codes "3") (codes "2000-01-01") [] ∷ fields (codes "007") (codes "x") [] ∷ []) 3 1 (KeyTwice 1)
    × IsRefusedAt (header ∷ fields (codes "0") (codes "2000-01-01") [] ∷ fields (codes "-0") (codes "2000-01-01") [] ∷ []) 2 1 (KeyTwice 1)
    -- nulls, and a text that is empty beside one that is null
    × HasRowsIn with_nulls (pair (codes "g") (codes "a") ∷ pair (codes "x") (codes "1") ∷ pair [] (codes "2") ∷ pair (codes "x") [] ∷ pair [] [] ∷ [])
    ((text (codes "x") ∷ number (pos 1) ∷ []) ∷ (null ∷ number (pos 2) ∷ []) ∷ (text (codes "x") ∷ null ∷ []) ∷ (null ∷ null ∷ []) ∷ [])
    × IsRefusedAt (header ∷ fields [] (codes "2000-01-01") [] ∷ []) 1 1 NotInteger
    -- decimals
    × HasRowsIn with_decimals (pair (codes "amt") (codes "rate") ∷ pair (codes "12.50") (codes "0.125") ∷ pair (codes "-0.05") (codes "1") ∷ [])
    ((number (pos 1250) ∷ number (pos 125) ∷ []) ∷ (number (neg_ℤ (pos 5)) ∷ number (pos 1000) ∷ []) ∷ [])
    × IsRefusedIn with_decimals (pair (codes "amt") (codes "rate") ∷ pair (codes "12.505") (codes "0.125") ∷ []) 1 1 DecimalRange
    × IsRefusedIn with_decimals (pair (codes "amt") (codes "rate") ∷ pair (codes "1") (codes "1e2") ∷ []) 1 2 NotDecimal
    -- a key is no null, though no NOT NULL is written; two nulls of another column are no key twice
    × IsRefusedIn with_key_and_null (pair (codes "a") (codes "d") ∷ pair [] [] ∷ []) 1 1 NotInteger
    × HasRowsIn with_key_and_null (pair (codes "a") (codes "d") ∷ pair (codes "1") [] ∷ pair (codes "2") [] ∷ [])
    ((number (pos 1) ∷ null ∷ []) ∷ (number (pos 2) ∷ null ∷ []) ∷ [])

-- ---- how values are kept

abbrev pub rail_air : List (List Value)
rail_air = (text (codes "RAIL") ∷ []) ∷ (text (codes "AIR") ∷ []) ∷ (text (codes "RAIL") ∷ []) ∷ []

abbrev pub truck_air : List (List Value)
truck_air = (text (codes "TRUCK") ∷ []) ∷ (text (codes "AIR") ∷ []) ∷ (text (codes "MAIL") ∷ []) ∷ []

-- the texts of both tables
abbrev pub modes : List (List ℕ)
modes = dictionary_of (tables_texts (map (λ rows. record { degree = 1; rows = rows }) (rail_air ∷ truck_air ∷ [])))

-- the only column of some rows has these slots
abbrev pub HasSlots : List (List Value) → List Slot → Type 0
HasSlots rows slots = (column_of modes rows 0).slots ≡ slots

-- and is kept in this form
abbrev pub IsKeptAs : List (List Value) → KeptForm → Type 0
IsKeptAs rows form = (column_of modes rows 0).form ≡ form

abbrev pub number_null : List (List Value)
number_null = (number (neg_ℤ (pos 5)) ∷ []) ∷ (null ∷ []) ∷ []

abbrev pub WorkedColumns : Type 0
WorkedColumns =
    (modes ≡ codes "AIR" ∷ codes "MAIL" ∷ codes "RAIL" ∷ codes "TRUCK" ∷ [])
    × HasSlots rail_air (Some (pos 2) ∷ Some (pos 0) ∷ Some (pos 2) ∷ [])
    × HasSlots truck_air (Some (pos 3) ∷ Some (pos 0) ∷ Some (pos 1) ∷ [])
    × IsKeptAs rail_air narrow
    -- a null leaves its slot empty
    × HasSlots number_null (Some (neg_ℤ (pos 5)) ∷ None ∷ [])
    × IsKeptAs number_null narrow_with_empties
    × IsKeptAs [] narrow
