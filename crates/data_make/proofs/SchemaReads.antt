-- The schema is read, computed.
use Rattle.std.proofs.Common.{refl}
use Rattle.std.specs.Str.{is_utf8, chars}
use Rattle.std.specs.Str.Lossy.{utf8_valid_len}
use Rattle.phrases.specs.Parsers as p
use Rattle.sql_read.specs.Kinds as kinds
use Rattle.sql_read.specs.Lexis as lexis
use Rattle.sql_read.specs.Reserved as words
use Rattle.sql_read.specs.Tokens as tokens
use Rattle.sql_read.specs.SchemaParsers as s
use Rattle.sql_read.specs.SchemaText.{schema_of}
use Rattle.sql_types.specs.Catalog.{findings, table_findings}
use Rattle.data_make.specs.Loading.{SchemaIsACatalog, SchemaIsRead}

pub schema_read : SchemaIsRead
unfolding is_utf8 chars utf8_valid_len p.expect p.turns kinds.same_kind lexis.word_kind lexis.sign lexis.front words.reserved_words tokens.tokens s.width s.scale s.precision s.column_type s.constraint s.column s.key s.part s.next_part s.create s.next_table s.tables s.runs schema_of lib.Utf8.encode
schema_read = refl

pub catalog : SchemaIsACatalog
unfolding findings table_findings
catalog = refl
