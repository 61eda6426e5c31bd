-- What is wrong with the definitions of a schema: each rule with the byte at which it is broken.
use Rattle.std.specs.Prelude.{ℕ, ◌&&◌, Bool, true, false, not, List, [], ◌∷◌, ◌++◌, take, drop, map, filter, flat_map, Result, Ok, Err, Option, Some, None}
use Rattle.std.specs.List.{list_any}
use Rattle.std.specs.Str.{bytes_eq}
use Rattle.sql_read.specs.declared.definition.ColumnKind.{ColumnKind}
use Rattle.sql_read.specs.declared.definition.ColumnDef.{ColumnDef}
use Rattle.sql_read.specs.declared.definition.KeyDef.{KeyDef}
use Rattle.sql_read.specs.declared.definition.TableDef.{TableDef}
use Rattle.sql_read.specs.declared.definition.ColumnKind.TheVariants as kind
use Rattle.sql_types.specs.declared.refusal.SchemaKind.TheVariants.{TableTwice, ColumnTwice, TwoKeys, KeyUnknown, BadWidth, TooManyTables, TooManyColumns}
use Rattle.sql_types.specs.declared.refusal.SchemaRefusal.{SchemaRefusal}
use Rattle.sql_types.specs.declared.refusal.SchemaRefusal.TheVariants.{NoMemory, Bad}
use Rattle.sql_types.specs.declared.finding.Finding.{Finding}
use Rattle.sql_types.specs.Findings.{found, first_of, IsFirst}
use Rattle.sql_types.specs.Widths.{is_bad_width, bad_width_at}

-- each element with those before it
abbrev pub with_earlier : {X : Type 0} → List X → List (List X × X)
with_earlier [] = []
with_earlier (x ∷ xs) = ([], x) ∷ map (λ p. (x ∷ p.0, p.1)) (with_earlier xs)

abbrev pub is_table_named : List ℕ → TableDef → Bool
is_table_named name t = bytes_eq t.name name

abbrev pub is_column_named : List ℕ → ColumnDef → Bool
is_column_named name c = bytes_eq c.name name

abbrev pub is_key_of : List ℕ → KeyDef → Bool
is_key_of name k = bytes_eq k.column name

abbrev pub is_later_table : List TableDef × TableDef → Bool
is_later_table p = list_any (is_table_named p.1.name) p.0

abbrev pub is_later_column : List ColumnDef × ColumnDef → Bool
is_later_column p = list_any (is_column_named p.1.name) p.0

abbrev pub table_twice : List TableDef × TableDef → Finding
table_twice p = found TableTwice p.1.at

-- TableTwice: the name of a table that an earlier one has
abbrev pub tables_twice : List TableDef → List Finding
tables_twice defs = map table_twice (filter is_later_table (with_earlier defs))

abbrev pub column_twice : List ColumnDef × ColumnDef → Finding
column_twice p = found ColumnTwice p.1.at

-- ColumnTwice: the name of a column that an earlier one of its table has
abbrev pub columns_twice : TableDef → List Finding
columns_twice t = map column_twice (filter is_later_column (with_earlier t.columns))

-- TwoKeys: the second PRIMARY of a table
abbrev pub two_keys : TableDef → List Finding
two_keys t = map (λ k. found TwoKeys k.at) (take 1 (drop 1 t.keys))

abbrev pub is_unknown : TableDef → KeyDef → Bool
is_unknown t k = not (list_any (is_column_named k.column) t.columns)

abbrev pub key_unknown : KeyDef → Finding
key_unknown k = found KeyUnknown k.name_at

-- KeyUnknown: a key's name that is no column
abbrev pub keys_unknown : TableDef → List Finding
keys_unknown t = map key_unknown (filter (is_unknown t) t.keys)

abbrev pub is_text : ColumnKind → Bool
is_text kind.Text = true
is_text kind = false

abbrev pub bad_width : ColumnDef → Finding
bad_width c = found BadWidth (bad_width_at c)

-- BadWidth: the first number of a column's type that is out of range
abbrev pub bad_widths : TableDef → List Finding
bad_widths t = map bad_width (filter is_bad_width t.columns)

-- TooManyTables: the 17th table's name
abbrev pub too_many_tables : List TableDef → List Finding
too_many_tables defs = map (λ t. found TooManyTables t.at) (take 1 (drop 16 defs))

-- TooManyColumns: the 65th column's name
abbrev pub too_many_columns : TableDef → List Finding
too_many_columns t = map (λ c. found TooManyColumns c.at) (take 1 (drop 64 t.columns))

-- A column may hold nulls where neither NOT NULL nor a key names it. Each key of the table counts, wherever it stands.
abbrev pub may_be_null : TableDef → ColumnDef → Bool
may_be_null t c = not c.not_null && not (list_any (is_key_of c.name) t.keys)

-- what is wrong within a table
unfoldable pub table_findings : TableDef → List Finding
table_findings t = too_many_columns t ++ (columns_twice t ++ (two_keys t ++ (keys_unknown t ++ bad_widths t)))

-- all that is wrong
unfoldable pub findings : List TableDef → List Finding
findings defs = too_many_tables defs ++ (tables_twice defs ++ flat_map table_findings defs)

abbrev pub decided : List TableDef → Option Finding → Result (List TableDef) SchemaRefusal
decided defs None = Ok defs
decided defs (Some p) = Err (Bad p.at p.kind)

-- the definitions as a catalog, or the first that is wrong
unfoldable pub catalog_of : List TableDef → Result (List TableDef) SchemaRefusal
catalog_of defs = decided defs (first_of (findings defs))

-- A refusal is at the first of all that is wrong: the least byte, and at one byte the kind that is listed first.
abbrev pub IsFirstWrong : List TableDef → SchemaRefusal → Type 0
IsFirstWrong defs NoMemory = ⊥
IsFirstWrong defs (Bad at kind) = IsFirst (findings defs) (found kind at)
