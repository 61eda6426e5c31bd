-- Worked examples of catalogs: definitions with their first refusals, and columns that may hold nulls. Each is a theorem.
use Rattle.std.specs.Prelude.{◌≡◌, ℕ, Bool, true, false, List, [], ◌∷◌, map, codes, if◌then◌else◌, Option, Some, None, Ok, Err}
use Rattle.sql_read.specs.declared.definition.ColumnKind.{ColumnKind}
use Rattle.sql_read.specs.declared.definition.ColumnKind.TheVariants.{Integer, Date, Text, Decimal}
use Rattle.sql_read.specs.declared.definition.ColumnDef.{ColumnDef}
use Rattle.sql_read.specs.declared.definition.KeyDef.{KeyDef}
use Rattle.sql_read.specs.declared.definition.TableDef.{TableDef}
use Rattle.sql_types.specs.declared.refusal.SchemaKind.{SchemaKind}
use Rattle.sql_types.specs.declared.refusal.SchemaKind.TheVariants.{TableTwice, ColumnTwice, TwoKeys, KeyUnknown, BadWidth}
use Rattle.sql_types.specs.declared.refusal.SchemaRefusal.TheVariants.{Bad}
use Rattle.sql_types.specs.Widths.{is_bad_width, bad_width_at}
use Rattle.sql_types.specs.Catalog.{catalog_of, may_be_null}

-- a column whose name stands at a byte, with the numbers of its type and their bytes
abbrev pub column : List ℕ → ℕ → ColumnKind → ℕ × ℕ → ℕ × ℕ → ColumnDef
column name at kind (width, width_at) (scale, scale_at) = record { name = name; at = at; kind = kind; width = width; width_at = width_at; scale = scale; scale_at = scale_at; not_null = false }

abbrev pub not_null : ColumnDef → ColumnDef
not_null c = record c { not_null = true }

abbrev pub a : ColumnDef
a = column (codes "a") 16 Integer (0, 18) (0, 18)

abbrev pub key : List ℕ → ℕ → ℕ → KeyDef
key name at name_at = record { column = name; at = at; name_at = name_at }

-- CREATE TABLE t (..): the name stands at byte 13
abbrev pub table : List ColumnDef → List KeyDef → TableDef
table columns keys = record { name = codes "t"; at = 13; columns = columns; keys = keys }

abbrev pub IsCatalog : List TableDef → Type 0
IsCatalog defs = catalog_of defs ≡ Ok defs

abbrev pub IsRefusedFor : List TableDef → ℕ → SchemaKind → Type 0
IsRefusedFor defs at kind = catalog_of defs ≡ Err (Bad at kind)

abbrev pub WorkedCatalogs : Type 0
WorkedCatalogs =
    IsCatalog []
    -- CREATE TABLE t (a INTEGER)
    × IsCatalog (table (a ∷ []) [] ∷ [])
    -- CREATE TABLE t (a INTEGER NOT NULL, a DATE NOT NULL)
    × IsRefusedFor (table (not_null a ∷ not_null (column (codes "a") 36 Date (0, 38) (0, 38)) ∷ []) [] ∷ []) 36 ColumnTwice
    -- CREATE TABLE p (amt DECIMAL(19, 2) NOT NULL, rate DECIMAL(4, 3) NOT NULL)
    × IsRefusedFor (table (not_null (column (codes "amt") 16 Decimal (19, 28) (2, 32)) ∷ not_null (column (codes "rate") 45 Decimal (4, 58) (3, 61)) ∷ []) [] ∷ []) 28 BadWidth
    -- the same with DECIMAL(10, 2)
    × IsCatalog (table (not_null (column (codes "amt") 16 Decimal (10, 28) (2, 32)) ∷ not_null (column (codes "rate") 45 Decimal (4, 58) (3, 61)) ∷ []) [] ∷ [])
    -- CREATE TABLE t (a INTEGER); CREATE TABLE t (b INTEGER): each column may be null
    × IsRefusedFor (table (a ∷ []) [] ∷ record { name = codes "t"; at = 41; columns = column (codes "b") 44 Integer (0, 46) (0, 46) ∷ []; keys = [] } ∷ []) 41 TableTwice
    -- CREATE TABLE t (a INTEGER PRIMARY KEY, PRIMARY KEY (b)): the second key comes before its name
    × IsRefusedFor (table (a ∷ []) (key (codes "a") 26 16 ∷ key (codes "b") 39 52 ∷ []) ∷ []) 39 TwoKeys
    -- CREATE TABLE t (a INTEGER, PRIMARY KEY (b))
    × IsRefusedFor (table (a ∷ []) (key (codes "b") 27 40 ∷ []) ∷ []) 40 KeyUnknown

-- a kind with its two numbers at bytes 24 and 28, and the byte of the first that is out of range
abbrev pub sizes : List (ColumnKind × ℕ × ℕ × Option ℕ)
sizes =
    (Text, 0, 0, Some 24)
    ∷ (Text, 1, 0, None)
    ∷ (Text, 255, 0, None)
    ∷ (Text, 256, 0, Some 24)
    ∷ (Decimal, 0, 0, Some 24)
    ∷ (Decimal, 1, 0, None)
    ∷ (Decimal, 1, 1, None)
    ∷ (Decimal, 1, 2, Some 28)
    ∷ (Decimal, 18, 18, None)
    ∷ (Decimal, 18, 19, Some 28)
    ∷ (Decimal, 18, 4294967295, Some 28)
    ∷ (Decimal, 19, 0, Some 24)
    -- both are out of range: the precision stands first, also where the scale would not exceed it
    ∷ (Decimal, 0, 1, Some 24)
    ∷ (Decimal, 19, 20, Some 24)
    ∷ (Integer, 0, 0, None)
    ∷ (Date, 0, 0, None)
    ∷ []

abbrev pub refused_at : ColumnDef → Option ℕ
refused_at c = if is_bad_width c then Some (bad_width_at c) else None

abbrev pub WidthTable : Type 0
WidthTable = map (λ r. refused_at (column (codes "a") 16 r.0 (r.1, 24) (r.2, 28))) sizes ≡ map (λ r. r.3) sizes

-- the column a, the keys of its table, and whether a may hold nulls
abbrev pub nullables : List (ColumnDef × List KeyDef × Bool)
nullables =
    (a, [], true)
    ∷ (not_null a, [], false)
    ∷ (a, key (codes "a") 26 16 ∷ [], false)
    ∷ (a, key (codes "b") 26 16 ∷ [], true)
    -- CREATE TABLE t (b INTEGER PRIMARY KEY, a INTEGER, PRIMARY KEY (a)): the second key counts too
    ∷ (a, key (codes "b") 26 16 ∷ key (codes "a") 50 63 ∷ [], false)
    ∷ []

abbrev pub NullTable : Type 0
NullTable = map (λ r. may_be_null (table (r.0 ∷ []) r.1) r.0) nullables ≡ map (λ r. r.2) nullables
