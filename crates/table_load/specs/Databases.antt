-- The database of some tables: a vector for each table, and the dictionary of all their texts. In a vector a text is its code there.
use Rattle.std.specs.Prelude.{ℕ, ◌+◌, pos, true, false, List, [], ◌∷◌, length, map, flat_map, Some, None}
use Rattle.control_vectors.specs.Slots.{Slot}
use Rattle.dict_codes.specs.Ascending.{ascending}
use Rattle.dict_codes.specs.Dictionaries.{dictionary_of, rank_in}
use Rattle.sql_read.specs.declared.definition.ColumnDef.{ColumnDef}
use Rattle.sql_read.specs.declared.definition.TableDef.{TableDef}
use Rattle.sql_values.specs.Texts.{by_bytes}
use Rattle.sql_values.specs.Values.{Value, number, text, truth, null}
use Rattle.struct_vectors.specs.Columns.{ColumnValue, has_empty, listed_form}
use Rattle.struct_vectors.specs.Vectors.{VectorValue, vector_of}
use Rattle.table_load.specs.Values.{Table, value_at}

-- the texts of a row, of rows, and of tables, in order
abbrev pub row_texts : List Value → List (List ℕ)
row_texts [] = []
row_texts (number z ∷ vs) = row_texts vs
row_texts (text t ∷ vs) = t ∷ row_texts vs
row_texts (truth b ∷ vs) = row_texts vs
row_texts (null ∷ vs) = row_texts vs

abbrev pub rows_texts : List (List Value) → List (List ℕ)
rows_texts rows = flat_map row_texts rows

abbrev pub tables_texts : List Table → List (List ℕ)
tables_texts tables = flat_map (λ t. rows_texts t.rows) tables

-- a value as the slot that a vector has for it: a number itself, a text its code, false 0 and true 1; a null is an empty slot
abbrev pub coded : List (List ℕ) → Value → Slot
coded dictionary (number z) = Some z
coded dictionary (text t) = Some (pos (rank_in dictionary t))
coded dictionary (truth false) = Some (pos 0)
coded dictionary (truth true) = Some (pos 1)
coded dictionary null = None

-- slots that are kept in 64 bits, without empty ones exactly where none of them is empty
abbrev pub in_64_bits : List Slot → ColumnValue
in_64_bits slots = record { slots = slots; form = listed_form false (has_empty slots) }

-- a column of some rows, counted from 0
abbrev pub column_of : List (List ℕ) → List (List Value) → ℕ → ColumnValue
column_of dictionary rows j = in_64_bits (map (λ row. coded dictionary (value_at j row)) rows)

-- the path of a column: a dot and its name
abbrev pub path_of : ColumnDef → List ℕ
path_of c = 46 ∷ c.name

-- the attributes of columns, of which the first has this place
abbrev pub attributes_from : ℕ → List (List ℕ) → List (List Value) → List ColumnDef → List (List ℕ × ColumnValue)
attributes_from j dictionary rows [] = []
attributes_from j dictionary rows (c ∷ cs) = (path_of c, column_of dictionary rows j) ∷ attributes_from (j + 1) dictionary rows cs

-- the vector of a table: an attribute for each column, ascending by path
abbrev pub vector_of_table : List (List ℕ) → TableDef → Table → VectorValue
vector_of_table dictionary def t = vector_of (length t.rows) (ascending (λ a b. by_bytes a.0 b.0) (attributes_from 0 dictionary t.rows def.columns))

-- a vector for each table, by its name
abbrev pub store_of : List (List ℕ) → List TableDef → List Table → List (List ℕ × VectorValue)
store_of dictionary [] tables = []
store_of dictionary (def ∷ defs) [] = []
store_of dictionary (def ∷ defs) (t ∷ tables) = (def.name, vector_of_table dictionary def t) ∷ store_of dictionary defs tables

-- a database, as contracts see it
pub record DatabaseValue : Type 0 where
  pub defs : List TableDef
  pub dictionary : List (List ℕ)
  pub store : List (List ℕ × VectorValue)

-- the database of tables with their definitions
unfoldable pub database_of : List TableDef → List Table → DatabaseValue
database_of defs tables =
    let dictionary = dictionary_of (tables_texts tables) in
    record { defs = defs; dictionary = dictionary; store = store_of dictionary defs tables }
