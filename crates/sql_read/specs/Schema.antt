-- The grammar of schemas, over the tokens of a text: which tokens are which definitions.
-- After SQL-92 (ISO/IEC 9075:1992), 11.3 <table definition>, 11.4 <column definition> and 6.1 <data type>.
use Rattle.std.specs.Prelude.{ℕ, Bool, true, false, if◌then◌else◌, nat_lt, List, [], ◌∷◌, ◌++◌, take, drop, flat_map, encode_utf8}
use Rattle.std.specs.Char.{to_ascii_lowercase}
use Rattle.phrases.specs.Phrases.{Phrase, token, nothing, ◌>>=◌, ◌>>◌, ◌<|>◌, Repeated}
use Rattle.sql_read.specs.declared.kind.Kind.{Kind}
use Rattle.sql_read.specs.declared.kind.Kind.TheVariants as k
use Rattle.sql_read.specs.declared.token_list.Token.{Token}
use Rattle.sql_read.specs.declared.definition.ColumnKind.{ColumnKind}
use Rattle.sql_read.specs.declared.definition.ColumnKind.TheVariants.{Integer, Date, Text, Decimal}
use Rattle.sql_read.specs.declared.definition.KeyDef.{KeyDef}
use Rattle.sql_read.specs.declared.definition.TableDef.{TableDef}
use Rattle.sql_read.specs.declared.schema.ColumnType.{ColumnType}
use Rattle.sql_read.specs.declared.schema.Draft.{Draft}
use Rattle.sql_read.specs.declared.schema.Parts.{Parts}
use Rattle.sql_read.specs.Kinds.{same_kind}
use Rattle.sql_read.specs.Lexis.{Bytes}

abbrev pub is : Kind → Token → Bool
is kind t = same_kind t.kind kind

-- one token of this kind
abbrev pub word : Kind → Phrase Token Token
word kind = token (is kind)

-- the bytes that a token takes
abbrev pub extent : Bytes → Token → Bytes
extent text t = take t.len (drop t.at text)

-- the name that stands at a token: its characters in lower case
abbrev pub name_at : Bytes → Token → Bytes
name_at text t = flat_map (λ b. encode_utf8 (to_ascii_lowercase b)) (extent text t)

abbrev pub names_integers : Kind → Bool
names_integers k.Integer = true
names_integers k.Int = true
names_integers k.Bigint = true
names_integers kind = false

-- INTEGER | INT | BIGINT
abbrev pub is_integer_type : Token → Bool
is_integer_type t = names_integers t.kind

-- a number that is kept as at most 2^32 - 1
abbrev pub capped : ℕ → ℕ
capped n = if nat_lt 4294967295 n then 4294967295 else n

-- a type that is a word alone
abbrev pub typed : ColumnKind → ℕ → ℕ → ColumnType
typed kind width at = record { kind = kind; width = width; width_at = at; scale = 0; scale_at = at }

-- the type of this word with this number in parentheses
abbrev pub sized : ColumnKind → Token → Token → ColumnType
sized kind t n = record { kind = kind; width = capped n.value; width_at = n.at; scale = 0; scale_at = t.at }

abbrev pub scaled : ColumnType → Token → ColumnType
scaled p n = record p { scale = capped n.value; scale_at = n.at }

-- "(" integer ")"
abbrev pub width : Token → Phrase Token ColumnType
width t = do
  word k.OpenParen
  n ← word k.Digits
  word k.CloseParen
  nothing (sized Text t n)

-- ["," integer]
abbrev pub scale : ColumnType → Phrase Token ColumnType
scale p = (do word k.Comma; n ← word k.Digits; nothing (scaled p n)) <|> nothing p

-- "(" integer ["," integer] ")"
abbrev pub precision : Token → Phrase Token ColumnType
precision t = do
  word k.OpenParen
  n ← word k.Digits
  p ← scale (sized Decimal t n)
  word k.CloseParen
  nothing p

-- type = INTEGER | INT | BIGINT | DATE | DECIMAL "(" integer ["," integer] ")" | VARCHAR "(" integer ")" | CHAR ["(" integer ")"]
abbrev pub column_type : Phrase Token ColumnType
column_type =
    (do t ← token is_integer_type; nothing (typed Integer 0 t.at))
    <|> ((do t ← word k.Date; nothing (typed Date 0 t.at))
    <|> ((do t ← word k.Decimal; precision t)
    <|> ((do t ← word k.Varchar; width t)
    <|> (do t ← word k.Char; width t <|> nothing (typed Text 1 t.at)))))

-- a column so far, and the keys so far
abbrev pub begun : Bytes → Token → ColumnType → List KeyDef → Draft
begun text n t keys = record {
  column = record { name = name_at text n; at = n.at; kind = t.kind; width = t.width; width_at = t.width_at; scale = t.scale; scale_at = t.scale_at; not_null = false };
  keys = keys;
}

abbrev pub marked_not_null : Draft → Draft
marked_not_null d = record d { column = record d.column { not_null = true } }

-- a key that stands behind its column
abbrev pub marked_key : Draft → Token → Draft
marked_key d p = record d { keys = d.keys ++ record { column = d.column.name; at = p.at; name_at = d.column.at } ∷ [] }

-- NOT NULL | PRIMARY KEY
abbrev pub constraint : Draft → Phrase Token Draft
constraint d =
    (do word k.Not; word k.Null; nothing (marked_not_null d))
    <|> (do p ← word k.Primary; word k.Key; nothing (marked_key d p))

abbrev pub with_column : Parts → Draft → Parts
with_column b d = record { columns = b.columns ++ d.column ∷ []; keys = d.keys }

-- name type {NOT NULL | PRIMARY KEY}
abbrev pub column : Bytes → Parts → Phrase Token Parts
column text b = do
  n ← word k.Name
  t ← column_type
  d ← Repeated constraint (begun text n t b.keys)
  nothing (with_column b d)

abbrev pub with_key : Bytes → Parts → Token → Token → Parts
with_key text b p n = record b { keys = b.keys ++ record { column = name_at text n; at = p.at; name_at = n.at } ∷ [] }

-- PRIMARY KEY "(" name ")"
abbrev pub key : Bytes → Parts → Phrase Token Parts
key text b = do
  p ← word k.Primary
  word k.Key
  word k.OpenParen
  n ← word k.Name
  word k.CloseParen
  nothing (with_key text b p n)

-- part = name type {NOT NULL | PRIMARY KEY} | PRIMARY KEY "(" name ")"
abbrev pub part : Bytes → Parts → Phrase Token Parts
part text b = column text b <|> key text b

abbrev pub no_parts : Parts
no_parts = record { columns = []; keys = [] }

abbrev pub table : Bytes → Token → Parts → TableDef
table text n b = record { name = name_at text n; at = n.at; columns = b.columns; keys = b.keys }

-- create = CREATE TABLE name "(" part {"," part} ")"
abbrev pub create : Bytes → Phrase Token TableDef
create text = do
  word k.Create
  word k.Table
  n ← word k.Name
  word k.OpenParen
  b ← part text no_parts
  c ← Repeated (λ b. word k.Comma >> part text b) b
  word k.CloseParen
  nothing (table text n c)

-- ";" create
abbrev pub another : Bytes → List TableDef → Phrase Token (List TableDef)
another text ts = do
  word k.Semicolon
  t ← create text
  nothing (ts ++ t ∷ [])

-- schema = [create {";" create} [";"]]
abbrev pub schema : Bytes → Phrase Token (List TableDef)
schema text = nothing [] <|> (do
  t ← create text
  ts ← Repeated (another text) (t ∷ [])
  (word k.Semicolon >> nothing ts) <|> nothing ts)
