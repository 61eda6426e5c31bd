use Rattle.std.proofs.Common.{rules, arith}
use Rattle.std.proofs.lemmas.Grind.{common_steps}
use Rattle.phrases.specs.Parsers.{turns}
use Rattle.phrases.proofs.Shapes.{one_more, no_more}
use Rattle.sql_read.specs.SchemaParsers.{constraint, begins_constraint}
use Rattle.sql_read.proofs.schema.constraints.Goals as goal

pub returns-then-not-begins_constraint : goal.returns-then-not-begins_constraint
unfolding turns
returns-then-not-begins_constraint c =
    let e = one_more (λ n. turns begins_constraint constraint n c.loop-turn.draft c.loop-turn.tokens) _ c.loop-turn._turn c.loop-turn-test.true c.loop-turn.invariant in
    first_of (search rules, grind (arith, common_steps))

pub returns-in_err-draft : goal.returns-in_err-draft
unfolding turns
returns-in_err-draft c =
    let e = one_more (λ n. turns begins_constraint constraint n c.loop-turn.draft c.loop-turn.tokens) _ c.loop-turn._turn c.loop-turn-test.true c.loop-turn.invariant in
    first_of (search rules, grind (arith, common_steps))

pub loop-turn-preserved : goal.loop-turn-preserved
unfolding turns
loop-turn-preserved c =
    let e = one_more (λ n. turns begins_constraint constraint n c.loop-turn.draft c.loop-turn.tokens) _ c.loop-turn._turn c.loop-turn-test.true c.loop-turn.invariant in
    first_of (search rules, grind (arith, common_steps))

pub returns : goal.returns
unfolding turns
returns c =
    let e = no_more (λ n. turns begins_constraint constraint n c.loop-turn.draft c.loop-turn.tokens) _ c.loop-turn._turn c.loop-turn-test.false c.loop-turn.invariant in
    first_of (search rules, grind (arith, common_steps))
