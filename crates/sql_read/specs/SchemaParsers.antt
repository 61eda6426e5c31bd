-- The grammar of schemas, rule by rule as parsers that decide by the next token.
use Rattle.std.specs.Prelude.{Bool, true, false, ◌||◌, List, [], ◌∷◌, ◌++◌}
use Rattle.phrases.specs.Parsers as p
use Rattle.phrases.specs.Parsers.{pure, refuse, either, repeat, ◌>>=◌, ◌>>◌}
use Rattle.sql_read.specs.declared.kind.Kind.{Kind}
use Rattle.sql_read.specs.declared.kind.Kind.TheVariants as k
use Rattle.sql_read.specs.declared.token_list.Token.{Token}
use Rattle.sql_read.specs.declared.fault.Fault.{Fault}
use Rattle.sql_read.specs.declared.fault.Fault.TheVariants.{Unexpected}
use Rattle.sql_read.specs.declared.definition.ColumnKind.TheVariants.{Integer, Date, Text, Decimal}
use Rattle.sql_read.specs.declared.definition.TableDef.{TableDef}
use Rattle.sql_read.specs.declared.schema.ColumnType.{ColumnType}
use Rattle.sql_read.specs.declared.schema.Draft.{Draft}
use Rattle.sql_read.specs.declared.schema.Parts.{Parts}
use Rattle.sql_read.specs.declared.schema.Run.{Run}
use Rattle.sql_read.specs.Lexis.{Bytes}
use Rattle.sql_read.specs.Schema.{is, is_integer_type, typed, sized, scaled, begun, marked_not_null, marked_key, with_column, with_key, no_parts, table}

abbrev pub Parser : Type 0 → Type 0
Parser A = p.Parser Token Fault A

abbrev pub expect : Kind → Parser Token
expect kind = p.expect Unexpected (is kind)

unfoldable pub width : Token → Parser ColumnType
width t = do
  expect k.OpenParen
  n ← expect k.Digits
  expect k.CloseParen
  pure (sized Text t n)

unfoldable pub scale : ColumnType → Parser ColumnType
scale p = either (is k.Comma) (do expect k.Comma; n ← expect k.Digits; pure (scaled p n)) (pure p)

unfoldable pub precision : Token → Parser ColumnType
precision t = do
  expect k.OpenParen
  n ← expect k.Digits
  p ← scale (sized Decimal t n)
  expect k.CloseParen
  pure p

unfoldable pub column_type : Parser ColumnType
column_type =
    either is_integer_type (do t ← p.expect Unexpected is_integer_type; pure (typed Integer 0 t.at))
    (either (is k.Date) (do t ← expect k.Date; pure (typed Date 0 t.at))
    (either (is k.Decimal) (do t ← expect k.Decimal; precision t)
    (either (is k.Varchar) (do t ← expect k.Varchar; width t)
    (do t ← expect k.Char; either (is k.OpenParen) (width t) (pure (typed Text 1 t.at))))))

abbrev pub begins_constraint : Token → Bool
begins_constraint t = is k.Not t || is k.Primary t

unfoldable pub constraint : Draft → Parser Draft
constraint d =
    either (is k.Not) (do expect k.Not; expect k.Null; pure (marked_not_null d))
    (do p ← expect k.Primary; expect k.Key; pure (marked_key d p))

abbrev pub constraints : Draft → Parser Draft
constraints = repeat begins_constraint constraint

unfoldable pub column : Bytes → Parts → Parser Parts
column text b = do
  n ← expect k.Name
  t ← column_type
  d ← constraints (begun text n t b.keys)
  pure (with_column b d)

unfoldable pub key : Bytes → Parts → Parser Parts
key text b = do
  p ← expect k.Primary
  expect k.Key
  expect k.OpenParen
  n ← expect k.Name
  expect k.CloseParen
  pure (with_key text b p n)

unfoldable pub part : Bytes → Parts → Parser Parts
part text b = either (is k.Name) (column text b) (key text b)

unfoldable pub next_part : Bytes → Parts → Parser Parts
next_part text b = expect k.Comma >> part text b

abbrev pub more_parts : Bytes → Parts → Parser Parts
more_parts text = repeat (is k.Comma) (next_part text)

unfoldable pub create : Bytes → Parser TableDef
create text = do
  expect k.Create
  expect k.Table
  n ← expect k.Name
  expect k.OpenParen
  b ← part text no_parts
  c ← more_parts text b
  expect k.CloseParen
  pure (table text n c)

abbrev pub run : List TableDef → Bool → Run
run ts closed = record { tables = ts; closed = closed }

-- behind the last semicolon nothing follows
unfoldable pub next_table : Bytes → Bool → List TableDef → Parser Run
next_table text true ts = refuse Unexpected
next_table text false ts = do
  expect k.Semicolon
  either (is k.Create) (do t ← create text; pure (run (ts ++ t ∷ []) false)) (pure (run ts true))

abbrev pub another : Bytes → Run → Parser Run
another text r = next_table text r.closed r.tables

abbrev pub more_tables : Bytes → Run → Parser Run
more_tables text = repeat (is k.Semicolon) (another text)

unfoldable pub tables : Bytes → Parser Run
tables text = do
  t ← create text
  more_tables text (run (t ∷ []) false)

unfoldable pub runs : Bytes → Parser Run
runs text = either (is k.Create) (tables text) (pure (run [] true))

abbrev pub schema : Bytes → Parser (List TableDef)
schema text = runs text >>= (λ r. pure r.tables)
