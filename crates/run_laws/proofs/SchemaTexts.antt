-- A text is a schema, or it is refused at one of its bytes.
use Rattle.std.proofs.Common.{◌≡◌, Bool, true, false, List, Ok, Err, if◌then◌else◌, refl}
use Rattle.std.specs.Prelude.{Result}
use Rattle.std.specs.Str.{is_utf8}
use Rattle.std.specs.Str.Lossy.{utf8_valid_len}
use Rattle.phrases.specs.declared.refusal.ReadError.{ReadError}
use Rattle.phrases.specs.declared.refusal.ReadError.TheVariants as read
use Rattle.phrases.specs.Parsers.{ended}
use Rattle.phrases.proofs.Good.{free}
use Rattle.sql_read.specs.Lexis.{Bytes}
use Rattle.sql_read.specs.Tokens.{Tokens}
use Rattle.sql_read.specs.declared.definition.TableDef.{TableDef}
use Rattle.sql_read.specs.declared.fault.Fault.{Fault}
use Rattle.sql_read.specs.declared.fault.Fault.TheVariants.{Unexpected}
use Rattle.sql_read.specs.declared.refusal.SqlKind.TheVariants as sql
use Rattle.sql_read.specs.declared.refusal.SqlRefusal.{SqlRefusal}
use Rattle.sql_read.specs.declared.refusal.SqlRefusal.TheVariants.{NoMemory, Bad}
use Rattle.sql_read.specs.Schema.{schema}
use Rattle.sql_read.specs.SchemaParsers as parsers
use Rattle.sql_read.specs.SchemaText.{schema_of, schema_tokens, read_tokens, answered}
use Rattle.sql_read.proofs.Semicolons.{good_schema, stop_schema}
use Rattle.run_laws.specs.Laws.{SchemaLaw}
use Rattle.run_laws.proofs.ParserSteps.{parses_phrase, ended_never}

answered_never : (text : Bytes) (ts : Tokens) (r : Result (List TableDef) (ReadError Fault)) → (r ≡ Err read.NoMemory → ⊥) → answered text ts r ≡ Err NoMemory → ⊥
answered_never text ts (Ok q) h e = cc
answered_never text ts (Err read.NoMemory) h e = h refl
answered_never text ts (Err (read.Refused fault left)) h e = cc

read_never : (text : Bytes) (ts : Tokens) → read_tokens text ts ≡ Err NoMemory → ⊥
read_never text ts =
    let r = parsers.schema text ts in
    answered_never text ts (ended Unexpected r) (ended_never Unexpected r ((parses_phrase free (schema text) stop_schema (parsers.schema text) (good_schema text)).never ts))

by_text : (text : Bytes) (b : Bool) → ◌≡◌ {A = Result (List TableDef) SqlRefusal} (if b then read_tokens text (schema_tokens text) else Err (Bad (utf8_valid_len text) sql.NotText)) (Err NoMemory) → ⊥
by_text text true e = read_never text (schema_tokens text) e
by_text text false e = cc

pub schema_law : SchemaLaw
unfolding schema_of
schema_law text e = by_text text (is_utf8 text) e
