-- What every schema's definitions are like, whatever its text: names are words, and each table has a part.
use Rattle.std.specs.Prelude.{◌≡◌, ◌+◌, ◌≤◌, ◌&&◌, Bool, true, false, nat_le, [], ◌∷◌, length}
use Rattle.std.specs.Char.{is_ascii_alphabetic}
use Rattle.std.specs.List.{All, list_all}
use Rattle.sql_read.specs.declared.definition.ColumnDef.{ColumnDef}
use Rattle.sql_read.specs.declared.definition.TableDef.{TableDef}
use Rattle.sql_read.specs.declared.lexis.Class.TheVariants as class
use Rattle.sql_read.specs.Lexis.{Bytes, is_in}

-- a name: a letter, then letters, digits and underscores, at most 64 bytes (SQL-92, 5.2 <regular identifier>)
abbrev pub is_name : Bytes → Bool
is_name [] = false
is_name (b ∷ z) = is_ascii_alphabetic b && (list_all (is_in class.Word) z && nat_le (length z) 63)

abbrev pub IsNamed : ColumnDef → Type 0
IsNamed c = is_name c.name ≡ true

-- a definition as a schema has it: its table and each column have names, and there is a column or a key
pub record IsFormed (t : TableDef) : Type 0 where
  pub called : is_name t.name ≡ true
  pub named : All IsNamed t.columns
  pub some_part : 1 ≤ length t.columns + length t.keys
