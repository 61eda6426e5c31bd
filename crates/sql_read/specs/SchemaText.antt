-- Which texts are schemas, and the first refusal of any other.
use Rattle.std.specs.Prelude.{◌≡◌, ℕ, ◌-◌, Bool, true, if◌then◌else◌, List, [], ◌∷◌, ◌++◌, length, drop, Option, Some, None, is_none, unwrap_or, Result, Ok, Err}
use Rattle.std.specs.List.{list_all}
use Rattle.std.specs.Str.{IsUtf8, IsValidUpTo, is_utf8}
use Rattle.std.specs.Str.Lossy.{utf8_valid_len}
use Rattle.phrases.specs.declared.refusal.ReadError.{ReadError}
use Rattle.phrases.specs.declared.refusal.ReadError.TheVariants as read
use Rattle.phrases.specs.Promise.{Begins, EndsNone}
use Rattle.phrases.specs.Parsers.{ended}
use Rattle.sql_read.specs.declared.kind.Kind.{Kind}
use Rattle.sql_read.specs.declared.kind.Kind.TheVariants as k
use Rattle.sql_read.specs.declared.token_list.Token.{Token}
use Rattle.sql_read.specs.declared.fault.Fault.{Fault}
use Rattle.sql_read.specs.declared.fault.Fault.TheVariants as fault
use Rattle.sql_read.specs.declared.refusal.SqlKind.{SqlKind}
use Rattle.sql_read.specs.declared.refusal.SqlKind.TheVariants.{NotText, BadToken, NumberTooWide, TooLong, Unexpected}
use Rattle.sql_read.specs.declared.refusal.SqlRefusal.{SqlRefusal}
use Rattle.sql_read.specs.declared.refusal.SqlRefusal.TheVariants.{NoMemory, Bad}
use Rattle.sql_read.specs.declared.definition.TableDef.{TableDef}
use Rattle.sql_read.specs.Lexis.{Bytes}
use Rattle.sql_read.specs.Tokens.{Tokens, tokens}
use Rattle.sql_read.specs.Schema.{schema}
use Rattle.sql_read.specs.SchemaParsers as parsers

-- a schema has at most 16,384 tokens
abbrev pub schema_tokens : Bytes → Tokens
schema_tokens = tokens 16384

-- the text is a schema with these definitions
abbrev pub IsSchema : Bytes → List TableDef → Type 0
IsSchema text defs = IsUtf8 text × schema text (schema_tokens text) defs

-- why a token is refused for its own sake, wherever it stands
abbrev pub own_kind : Kind → Option SqlKind
own_kind k.BadToken = Some BadToken
own_kind k.TooWide = Some NumberTooWide
own_kind k.Past = Some TooLong
own_kind kind = None

abbrev pub is_sound : Token → Bool
is_sound t = is_none (own_kind t.kind)

-- the kind of a refusal at the next token, or at the end, where the grammar has a fault of the given kind
abbrev pub kind_at : Tokens → SqlKind → SqlKind
kind_at [] by_grammar = by_grammar
kind_at (t ∷ ts) by_grammar = unwrap_or (own_kind t.kind) by_grammar

-- the first byte of the next token, or the length of the text
abbrev pub place_of : Bytes → Tokens → ℕ
place_of text [] = length text
place_of text (t ∷ ts) = t.at

-- The first token, or the end, at which the text is refused. The tokens before it are sound and begin a schema; with it they begin none.
pub record IsFirstRefusal (text : Bytes) (at : ℕ) (kind : SqlKind) : Type 0 where
  pub before : Tokens
  pub rest : Tokens
  pub cut : schema_tokens text ≡ before ++ rest
  pub sound : list_all is_sound before ≡ true
  pub begins : Begins (schema text) before
  pub ends : EndsNone (schema text) before rest
  pub place : at ≡ place_of text rest
  pub refused : kind ≡ kind_at rest Unexpected

-- NotText first of all, at the first byte that is part of no character
abbrev pub IsRefusedAt : Bytes → ℕ → SqlKind → Type 0
IsRefusedAt text at NotText = IsValidUpTo text at
IsRefusedAt text at kind = IsUtf8 text × IsFirstRefusal text at kind

abbrev pub IsRefusal : Bytes → SqlRefusal → Type 0
IsRefusal text NoMemory = Unit {0}
IsRefusal text (Bad at kind) = IsRefusedAt text at kind

-- ---- the answer for each text, as a function

abbrev pub refusal_at : Bytes → Tokens → SqlRefusal
refusal_at text rest = Bad (place_of text rest) (kind_at rest Unexpected)

abbrev pub answered : Bytes → Tokens → Result (List TableDef) (ReadError Fault) → Result (List TableDef) SqlRefusal
answered text ts (Ok defs) = Ok defs
answered text ts (Err read.NoMemory) = Err NoMemory
answered text ts (Err (read.Refused fault left)) = Err (refusal_at text (drop (length ts - left) ts))

abbrev pub read_tokens : Bytes → Tokens → Result (List TableDef) SqlRefusal
read_tokens text ts = answered text ts (ended fault.Unexpected (parsers.schema text ts))

-- the definitions, or the first refusal
unfoldable pub schema_of : Bytes → Result (List TableDef) SqlRefusal
schema_of text = if is_utf8 text then read_tokens text (schema_tokens text) else Err (Bad (utf8_valid_len text) NotText)
