-- Which texts are queries, and the first refusal of any other.
use Rattle.std.specs.Prelude.{◌≡◌, ℕ, ◌+◌, ◌-◌, false, if◌then◌else◌, ◌++◌, length, drop, Result, Ok, Err}
use Rattle.std.specs.Str.{IsUtf8, IsValidUpTo, is_utf8}
use Rattle.std.specs.Str.Lossy.{utf8_valid_len}
use Rattle.phrases.specs.declared.refusal.ReadError.{ReadError}
use Rattle.phrases.specs.declared.refusal.ReadError.TheVariants as read
use Rattle.phrases.specs.Promise.{Begins, EndsNone, GoesOn}
use Rattle.phrases.specs.Parsers.{ended}
use Rattle.sql_read.specs.declared.refusal.SqlKind.{SqlKind}
use Rattle.sql_read.specs.declared.refusal.SqlKind.TheVariants as sql
use Rattle.sql_read.specs.declared.refusal.SqlRefusal.{SqlRefusal}
use Rattle.sql_read.specs.declared.refusal.SqlRefusal.TheVariants.{NoMemory, Bad}
use Rattle.sql_read.specs.Lexis.{Bytes}
use Rattle.sql_read.specs.Tokens.{Tokens, tokens}
use Rattle.sql_read.specs.SchemaText.{kind_at, place_of}
use Rattle.query_read.specs.declared.fault.Fault.{Fault}
use Rattle.query_read.specs.declared.fault.Fault.TheVariants.{Unexpected, TooDeep, NoDate, NoSpan, OutOfRange}
use Rattle.query_trees.specs.declared.query.Query.{Query}
use Rattle.query_read.specs.Asked.{all, order_alone}
use Rattle.query_read.specs.Marked.{marked}
use Rattle.query_read.specs.Clauses.{query}
use Rattle.query_read.specs.ClauseParsers as parsers

-- a query has at most 2,048 tokens
abbrev pub query_tokens : Bytes → Tokens
query_tokens text = marked (tokens 2048 text)

-- the text is this query, with at most 64 levels open
abbrev pub IsQuery : Bytes → Query → Type 0
IsQuery text q = IsUtf8 text × query all text 64 (query_tokens text) q

abbrev pub kind_of : Fault → SqlKind
kind_of Unexpected = sql.Unexpected
kind_of TooDeep = sql.TooDeep
kind_of NoDate = sql.DateRange
kind_of NoSpan = sql.BadToken
kind_of OutOfRange = sql.DateRange

-- The number of tokens before the place of a fault, where so many stand before the refused one: a step that leaves the range is
-- refused at its sign, three tokens before its DAY.
abbrev pub tokens_before : Fault → ℕ → ℕ
tokens_before OutOfRange n = n - 3
tokens_before fault n = n

-- Why the next token cannot stand where it does: by the order of tokens alone, at 64 levels and at any number more; or else what
-- would have to be asked no more for the text to go on with it.
abbrev pub Why : Bytes → Fault → Tokens → Tokens → Type 0
Why text Unexpected before rest = (more : ℕ) → EndsNone (query order_alone text (more + 64)) before rest
Why text TooDeep before rest = GoesOn (query all text 65) before rest
Why text NoDate before rest = GoesOn (query (record all { dates = false }) text 64) before rest
Why text NoSpan before rest = GoesOn (query (record all { spans = false }) text 64) before rest
Why text OutOfRange before rest = GoesOn (query (record all { ranges = false }) text 64) before rest

-- The first token, or the end, at which the text is refused. The tokens before it begin a query; with it they begin none.
pub record IsFirstRefusal (text : Bytes) (at : ℕ) (kind : SqlKind) : Type 0 where
  pub fault : Fault
  pub before : Tokens
  pub rest : Tokens
  pub cut : query_tokens text ≡ before ++ rest
  pub begins : Begins (query all text 64) before
  pub ends : EndsNone (query all text 64) before rest
  pub why : Why text fault before rest
  pub place : at ≡ place_of text (drop (tokens_before fault (length before)) (query_tokens text))
  pub refused : kind ≡ kind_at rest (kind_of fault)

-- NotText first of all, at the first byte that is part of no character
abbrev pub IsRefusedAt : Bytes → ℕ → SqlKind → Type 0
IsRefusedAt text at sql.NotText = IsValidUpTo text at
IsRefusedAt text at kind = IsUtf8 text × IsFirstRefusal text at kind

abbrev pub IsRefusal : Bytes → SqlRefusal → Type 0
IsRefusal text NoMemory = Unit {0}
IsRefusal text (Bad at kind) = IsRefusedAt text at kind

-- ---- the answer for each text, as a function

abbrev pub refusal_at : Bytes → Tokens → Fault → ℕ → SqlRefusal
refusal_at text ts fault n = Bad (place_of text (drop (tokens_before fault n) ts)) (kind_at (drop n ts) (kind_of fault))

abbrev pub answered : Bytes → Tokens → Result Query (ReadError Fault) → Result Query SqlRefusal
answered text ts (Ok q) = Ok q
answered text ts (Err read.NoMemory) = Err NoMemory
answered text ts (Err (read.Refused fault left)) = Err (refusal_at text ts fault (length ts - left))

abbrev pub read_tokens : Bytes → Tokens → Result Query SqlRefusal
read_tokens text ts = answered text ts (ended Unexpected (parsers.query all text 64 ts))

-- the query, or the first refusal
unfoldable pub query_of : Bytes → Result Query SqlRefusal
query_of text = if is_utf8 text then read_tokens text (query_tokens text) else Err (Bad (utf8_valid_len text) sql.NotText)
