use Rattle.std.proofs.Common.{rules, arith}
use Rattle.std.proofs.lemmas.Grind.{common_steps}
use Rattle.phrases.specs.Parsers.{turns}
use Rattle.phrases.proofs.Shapes.{one_more, no_more}
use Rattle.sql_read.specs.declared.kind.Kind.TheVariants as k
use Rattle.sql_read.specs.Schema.{is}
use Rattle.sql_read.specs.SchemaParsers.{another}
use Rattle.sql_read.proofs.schema.more_tables.Goals as goal

pub returns-then-not-is_next : goal.returns-then-not-is_next
unfolding turns
returns-then-not-is_next c =
    let e = one_more (λ n. turns (is k.Semicolon) (another c.args.text.now) n c.loop-turn.run c.loop-turn.tokens) _ c.loop-turn._turn c.loop-turn-test.true c.loop-turn.invariant in
    first_of (search rules, grind (arith, common_steps))

pub returns-in_err-run : goal.returns-in_err-run
unfolding turns
returns-in_err-run c =
    let e = one_more (λ n. turns (is k.Semicolon) (another c.args.text.now) n c.loop-turn.run c.loop-turn.tokens) _ c.loop-turn._turn c.loop-turn-test.true c.loop-turn.invariant in
    first_of (search rules, grind (arith, common_steps))

pub loop-turn-preserved : goal.loop-turn-preserved
unfolding turns
loop-turn-preserved c =
    let e = one_more (λ n. turns (is k.Semicolon) (another c.args.text.now) n c.loop-turn.run c.loop-turn.tokens) _ c.loop-turn._turn c.loop-turn-test.true c.loop-turn.invariant in
    first_of (search rules, grind (arith, common_steps))

pub returns : goal.returns
unfolding turns
returns c =
    let e = no_more (λ n. turns (is k.Semicolon) (another c.args.text.now) n c.loop-turn.run c.loop-turn.tokens) _ c.loop-turn._turn c.loop-turn-test.false c.loop-turn.invariant in
    first_of (search rules, grind (arith, common_steps))
