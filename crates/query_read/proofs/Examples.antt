-- The worked examples, computed.
use Rattle.std.proofs.Common.{refl}
use Rattle.std.specs.Str.{is_utf8, chars}
use Rattle.std.specs.Str.Lossy.{utf8_lossy, utf8_valid_len}
use Rattle.civil_days.proofs.Computing as civil
use Rattle.phrases.specs.Parsers as p
use Rattle.sql_read.specs.Kinds as kinds
use Rattle.sql_read.specs.Lexis as lexis
use Rattle.sql_read.specs.Reserved as words
use Rattle.sql_read.specs.Tokens as tokens
use Rattle.query_read.specs.Literals as literals
use Rattle.query_read.specs.ExpressionParsers as e
use Rattle.query_read.specs.ClauseParsers as c
use Rattle.query_read.specs.QueryText.{query_of}
use Rattle.query_read.specs.Examples.{WorkedQueries}

pub worked_queries : WorkedQueries
unfolding is_utf8 chars utf8_lossy utf8_valid_len literals.single_quoted p.expect p.turns kinds.same_kind lexis.word_kind lexis.sign lexis.front words.reserved_words tokens.tokens e.sound e.another e.series e.column e.date_text e.span_text e.last_day e.step e.date e.number e.literal e.reference e.count e.aggregate e.coalesce e.enclosed e.divisor e.over e.polarity e.nullity e.operation e.atom e.factor e.times e.multiplied e.term e.added e.sum e.compared e.between e.contained e.ranged e.negated e.predicate_tail e.pred e.neg e.conj e.expr e.parens e.listed e.star_or_expr e.counted e.alternatives e.choices e.nots e.signed e.under c.named c.alias c.item c.list c.table c.by_comma c.by_cross c.on c.by_key c.added_table c.join c.source c.condition c.by_groups c.groups c.direction c.sort_by c.key c.order c.distinct c.closed c.query_over query_of civil.days_from_civil civil.day_count civil.days_of_years civil.days_of_months lib.Utf8.encode
worked_queries = (refl, refl, refl, refl, refl, refl, refl, refl, refl, refl, refl, refl, refl, refl, refl, refl, refl, refl, refl, refl, refl, refl, refl, refl, refl, refl, refl, refl, refl, refl, refl, refl)
