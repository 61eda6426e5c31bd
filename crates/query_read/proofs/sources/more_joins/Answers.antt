use Rattle.std.proofs.Common.{rules, arith}
use Rattle.std.proofs.lemmas.Grind.{common_steps}
use Rattle.phrases.specs.Parsers.{turns}
use Rattle.phrases.proofs.Shapes.{one_more, no_more}
use Rattle.query_read.specs.Classes.{joins}
use Rattle.query_read.specs.Nodes.{of}
use Rattle.query_read.specs.ClauseParsers as spec
use Rattle.query_read.proofs.sources.more_joins.Goals as goal

pub returns-then-not-is_next_of : goal.returns-then-not-is_next_of
unfolding turns
returns-then-not-is_next_of c =
    let e = one_more (λ n. turns (of joins) (spec.join c.args.text.now) n c.loop-turn.joins c.loop-turn.tokens) _ c.loop-turn._turn c.loop-turn-test.true c.loop-turn.invariant in
    first_of (search rules, grind (arith, common_steps))

pub returns-in_err-joins : goal.returns-in_err-joins
unfolding turns
returns-in_err-joins c =
    let e = one_more (λ n. turns (of joins) (spec.join c.args.text.now) n c.loop-turn.joins c.loop-turn.tokens) _ c.loop-turn._turn c.loop-turn-test.true c.loop-turn.invariant in
    first_of (search rules, grind (arith, common_steps))

pub loop-turn-preserved : goal.loop-turn-preserved
unfolding turns
loop-turn-preserved c =
    let e = one_more (λ n. turns (of joins) (spec.join c.args.text.now) n c.loop-turn.joins c.loop-turn.tokens) _ c.loop-turn._turn c.loop-turn-test.true c.loop-turn.invariant in
    first_of (search rules, grind (arith, common_steps))

pub returns : goal.returns
unfolding turns
returns c =
    let e = no_more (λ n. turns (of joins) (spec.join c.args.text.now) n c.loop-turn.joins c.loop-turn.tokens) _ c.loop-turn._turn c.loop-turn-test.false c.loop-turn.invariant in
    first_of (search rules, grind (arith, common_steps))
