use Rattle.std.proofs.Common.{rules, arith}
use Rattle.std.proofs.lemmas.Grind.{common_steps}
use Rattle.phrases.specs.Parsers.{turns}
use Rattle.phrases.proofs.Shapes.{one_more, no_more}
use Rattle.sql_read.specs.declared.kind.Kind.TheVariants as k
use Rattle.sql_read.specs.Schema.{is}
use Rattle.query_read.specs.ExpressionParsers as rules_of
use Rattle.query_read.specs.ClauseParsers as spec
use Rattle.query_read.proofs.clauses.more_keys.Goals as goal

pub returns-then-not-is_next : goal.returns-then-not-is_next
unfolding turns rules_of.another
returns-then-not-is_next c =
    let e = one_more (λ n. turns (is k.Comma) (rules_of.another (spec.key c.args.text.now)) n c.loop-turn.keys c.loop-turn.tokens) _ c.loop-turn._turn c.loop-turn-test.true c.loop-turn.invariant in
    first_of (search rules, grind (arith, common_steps))

pub returns-in_err-expect : goal.returns-in_err-expect
unfolding turns rules_of.another
returns-in_err-expect c =
    let e = one_more (λ n. turns (is k.Comma) (rules_of.another (spec.key c.args.text.now)) n c.loop-turn.keys c.loop-turn.tokens) _ c.loop-turn._turn c.loop-turn-test.true c.loop-turn.invariant in
    first_of (search rules, grind (arith, common_steps))

pub returns-in_err-key : goal.returns-in_err-key
unfolding turns rules_of.another
returns-in_err-key c =
    let e = one_more (λ n. turns (is k.Comma) (rules_of.another (spec.key c.args.text.now)) n c.loop-turn.keys c.loop-turn.tokens) _ c.loop-turn._turn c.loop-turn-test.true c.loop-turn.invariant in
    first_of (search rules, grind (arith, common_steps))

pub loop-turn-preserved : goal.loop-turn-preserved
unfolding turns rules_of.another
loop-turn-preserved c =
    let e = one_more (λ n. turns (is k.Comma) (rules_of.another (spec.key c.args.text.now)) n c.loop-turn.keys c.loop-turn.tokens) _ c.loop-turn._turn c.loop-turn-test.true c.loop-turn.invariant in
    first_of (search rules, grind (arith, common_steps))

pub returns : goal.returns
unfolding turns rules_of.another
returns c =
    let e = no_more (λ n. turns (is k.Comma) (rules_of.another (spec.key c.args.text.now)) n c.loop-turn.keys c.loop-turn.tokens) _ c.loop-turn._turn c.loop-turn-test.false c.loop-turn.invariant in
    first_of (search rules, grind (arith, common_steps))
