-- A text is a query, or it is refused at one of its bytes.
use Rattle.std.proofs.Common.{◌≡◌, Bool, true, false, Ok, Err, if◌then◌else◌, refl}
use Rattle.std.specs.Prelude.{Result}
use Rattle.std.specs.Str.{is_utf8}
use Rattle.std.specs.Str.Lossy.{utf8_valid_len}
use Rattle.phrases.specs.declared.refusal.ReadError.{ReadError}
use Rattle.phrases.specs.declared.refusal.ReadError.TheVariants as read
use Rattle.phrases.specs.Parsers.{ended}
use Rattle.sql_read.specs.Lexis.{Bytes}
use Rattle.sql_read.specs.Tokens.{Tokens}
use Rattle.sql_read.specs.declared.refusal.SqlKind.TheVariants as sql
use Rattle.sql_read.specs.declared.refusal.SqlRefusal.{SqlRefusal}
use Rattle.sql_read.specs.declared.refusal.SqlRefusal.TheVariants.{NoMemory, Bad}
use Rattle.query_trees.specs.declared.query.Query.{Query}
use Rattle.query_read.specs.declared.fault.Fault.{Fault}
use Rattle.query_read.specs.declared.fault.Fault.TheVariants.{Unexpected}
use Rattle.query_read.specs.Asked.{all}
use Rattle.query_read.specs.ClauseParsers as parsers
use Rattle.query_read.specs.QueryText.{query_of, query_tokens, read_tokens, answered}
use Rattle.run_laws.specs.Laws.{QueryLaw}
use Rattle.run_laws.proofs.ParserSteps.{ended_never}
use Rattle.run_laws.proofs.QueryParsers.{query}

answered_never : (text : Bytes) (ts : Tokens) (r : Result Query (ReadError Fault)) → (r ≡ Err read.NoMemory → ⊥) → answered text ts r ≡ Err NoMemory → ⊥
answered_never text ts (Ok q) h e = cc
answered_never text ts (Err read.NoMemory) h e = h refl
answered_never text ts (Err (read.Refused fault left)) h e = cc

read_never : (text : Bytes) (ts : Tokens) → read_tokens text ts ≡ Err NoMemory → ⊥
read_never text ts =
    let r = parsers.query all text 64 ts in
    answered_never text ts (ended Unexpected r) (ended_never Unexpected r ((query all text 64).never ts))

by_text : (text : Bytes) (b : Bool) → ◌≡◌ {A = Result Query SqlRefusal} (if b then read_tokens text (query_tokens text) else Err (Bad (utf8_valid_len text) sql.NotText)) (Err NoMemory) → ⊥
by_text text true e = read_never text (query_tokens text) e
by_text text false e = cc

pub query_law : QueryLaw
unfolding query_of
query_law text e = by_text text (is_utf8 text) e
