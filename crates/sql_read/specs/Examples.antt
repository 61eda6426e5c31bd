-- Worked examples of reading: texts with their tokens, schemas with their definitions, and texts with their first refusals. Each is a theorem.
use Rattle.std.specs.Prelude.{◌≡◌, ℕ, true, false, List, [], ◌∷◌, ◌++◌, replicate, codes, Ok, Err}
use Rattle.sql_read.specs.declared.kind.Kind.{Kind}
use Rattle.sql_read.specs.declared.kind.Kind.TheVariants as k
use Rattle.sql_read.specs.declared.token_list.Token.{Token}
use Rattle.sql_read.specs.declared.definition.ColumnKind.TheVariants.{Integer, Date, Text, Decimal}
use Rattle.sql_read.specs.declared.definition.TableDef.{TableDef}
use Rattle.sql_read.specs.declared.refusal.SqlKind.{SqlKind}
use Rattle.sql_read.specs.declared.refusal.SqlKind.TheVariants.{NotText, BadToken, NumberTooWide, Unexpected}
use Rattle.sql_read.specs.declared.refusal.SqlRefusal.TheVariants.{Bad}
use Rattle.sql_read.specs.Lexis.{Bytes}
use Rattle.sql_read.specs.Tokens.{Tokens, tokens}
use Rattle.sql_read.specs.SchemaText.{schema_of}

-- a token that is no number, of so many bytes at this byte
abbrev pub token : Kind → ℕ → ℕ → Token
token kind at len = record { kind = kind; at = at; len = len; value = 0; scale = 0 }

-- a number without a point, and one with so many digits behind its point
abbrev pub integer : ℕ → ℕ → ℕ → Token
integer at len value = record { kind = k.Digits; at = at; len = len; value = value; scale = 0 }

abbrev pub fraction : ℕ → ℕ → ℕ → ℕ → Token
fraction at len value scale = record { kind = k.Fraction; at = at; len = len; value = value; scale = scale }

-- the text has these tokens, where it may have three
abbrev pub HasTokens : Bytes → Tokens → Type 0
HasTokens text ts = tokens 3 text ≡ ts

-- the text is read as these definitions
abbrev pub IsReadAs : Bytes → List TableDef → Type 0
IsReadAs text defs = schema_of text ≡ Ok defs

-- the text is refused at this byte, for this cause
abbrev pub IsRefusedFor : Bytes → ℕ → SqlKind → Type 0
IsRefusedFor text at kind = schema_of text ≡ Err (Bad at kind)

abbrev pub WorkedSchemas : Type 0
WorkedSchemas =
    -- the longest token is taken, and a comment is none
    HasTokens (codes "a<>'x''y'--c") (token k.Name 0 1 ∷ token k.Differs 1 2 ∷ token k.Quoted 3 6 ∷ [])
    × HasTokens (codes "012.\n5a") (integer 0 3 12 ∷ token k.Dot 3 1 ∷ integer 5 1 5 ∷ token k.Past 6 1 ∷ [])
    -- the case of a letter does not count
    × HasTokens (codes "min Max MAXIMUM") (token k.Min 0 3 ∷ token k.Max 4 3 ∷ token k.Name 8 7 ∷ [])
    -- 2^127 - 1 is a number
    × HasTokens (codes "170141183460469231731687303715884105727") (integer 0 39 170141183460469231731687303715884105727 ∷ [])
    × HasTokens (codes "170141183460469231731687303715884105728") (token k.TooWide 0 39 ∷ [])
    -- a point with digits on both sides is part of their number, whose value is that of all its digits
    × HasTokens (codes "1.5.2") (fraction 0 3 15 1 ∷ token k.Dot 3 1 ∷ integer 4 1 2 ∷ [])
    × HasTokens (codes ".5") (token k.Dot 0 1 ∷ integer 1 1 5 ∷ [])
    × HasTokens (codes "12.500") (fraction 0 6 12500 3 ∷ [])
    -- with at most 18 digits behind the point, and in all a value of at most 2^127 - 1
    × HasTokens (codes "0.000000000000000001") (fraction 0 20 1 18 ∷ [])
    × HasTokens (codes "0.0000000000000000001") (token k.TooWide 0 21 ∷ [])
    × HasTokens (codes "17014118346046923173168730371588410572.7") (fraction 0 40 170141183460469231731687303715884105727 1 ∷ [])
    × HasTokens (codes "17014118346046923173168730371588410572.8") (token k.TooWide 0 40 ∷ [])
    -- a word has at most 64 bytes, and a text literal ends
    × HasTokens (replicate 64 97) (token k.Name 0 64 ∷ [])
    × HasTokens (replicate 65 97) (token k.BadToken 0 65 ∷ [])
    × HasTokens (codes "'it''s TABLE") (token k.BadToken 0 12 ∷ [])
    -- ---- schemas
    × IsReadAs (codes "") []
    × IsReadAs (codes "CREATE TABLE k (id INTEGER PRIMARY KEY, v INTEGER NOT NULL);") (
    record {
      name = codes "k";
      at = 13;
      columns =
          record { name = codes "id"; at = 16; kind = Integer; width = 0; width_at = 19; scale = 0; scale_at = 19; not_null = false }
          ∷ record { name = codes "v"; at = 40; kind = Integer; width = 0; width_at = 42; scale = 0; scale_at = 42; not_null = true }
          ∷ [];
      keys = record { column = codes "id"; at = 27; name_at = 16 } ∷ [];
    }
    ∷ [])
    × IsReadAs (codes "create table B(primary key (Y), y int, d date, c char(3) not null)") (
    record {
      name = codes "b";
      at = 13;
      columns =
          record { name = codes "y"; at = 32; kind = Integer; width = 0; width_at = 34; scale = 0; scale_at = 34; not_null = false }
          ∷ record { name = codes "d"; at = 39; kind = Date; width = 0; width_at = 41; scale = 0; scale_at = 41; not_null = false }
          ∷ record { name = codes "c"; at = 47; kind = Text; width = 3; width_at = 54; scale = 0; scale_at = 49; not_null = true }
          ∷ [];
      keys = record { column = codes "y"; at = 15; name_at = 28 } ∷ [];
    }
    ∷ [])
    × IsReadAs (codes "CREATE TABLE p (a DECIMAL(10, 2), b decimal(5) NOT NULL, c VARCHAR(3))") (
    record {
      name = codes "p";
      at = 13;
      columns =
          record { name = codes "a"; at = 16; kind = Decimal; width = 10; width_at = 26; scale = 2; scale_at = 30; not_null = false }
          ∷ record { name = codes "b"; at = 34; kind = Decimal; width = 5; width_at = 44; scale = 0; scale_at = 36; not_null = true }
          ∷ record { name = codes "c"; at = 57; kind = Text; width = 3; width_at = 67; scale = 0; scale_at = 59; not_null = false }
          ∷ [];
      keys = [];
    }
    ∷ [])
    -- ---- first refusals
    × IsRefusedFor (codes "-- " ++ 255 ∷ codes "\nCREATE ?") 3 NotText
    × IsRefusedFor (codes "CREATE ? TABLE") 7 BadToken
    × IsRefusedFor (codes "CREATE TABLE t (a CHAR(170141183460469231731687303715884105728))") 23 NumberTooWide
    × IsRefusedFor (codes "CREATE CREATE ?") 7 Unexpected
    × IsRefusedFor (codes "CREATE TABLE select (a INT)") 13 Unexpected
    × IsRefusedFor (codes "CREATE TABLE t ()") 16 Unexpected
    × IsRefusedFor (codes "CREATE TABLE t (a INTEGER") 25 Unexpected
    × IsRefusedFor (codes "CREATE TABLE t (a DECIMAL)") 25 Unexpected
    × IsRefusedFor (codes "CREATE TABLE t (a DECIMAL(5.2))") 26 Unexpected
    × IsRefusedFor (codes "CREATE TABLE t (a DECIMAL(5, 2, 1))") 30 Unexpected
    × IsRefusedFor (codes "CREATE TABLE t (a DECIMAL(0.0000000000000000001))") 26 NumberTooWide
