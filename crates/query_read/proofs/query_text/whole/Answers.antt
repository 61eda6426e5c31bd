use Rattle.std.proofs.Common.{rules, arith}
use Rattle.std.proofs.lemmas.Grind.{common_steps}
use Rattle.query_read.specs.Asked.{all}
use Rattle.query_read.specs.ClauseParsers as parsers
use Rattle.query_read.proofs.Levels.{left_over}
use Rattle.query_read.proofs.query_text.whole.Goals as goal

pub returns-else-left-eq0 : goal.returns-else-left-eq0
returns-else-left-eq0 c =
    let e = left_over (parsers.query all c.args.text.now 64 c.args.tokens.now) c.in_ok-q.q c.query.new.tokens in
    first_of (search rules, grind (arith, common_steps))
