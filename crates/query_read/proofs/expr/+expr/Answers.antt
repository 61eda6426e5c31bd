use Rattle.std.proofs.Common.{rules, arith}
use Rattle.std.proofs.lemmas.Grind.{common_steps}
use Rattle.phrases.specs.Parsers.{turns}
use Rattle.phrases.proofs.Shapes.{one_more, no_more}
use Rattle.sql_read.specs.declared.kind.Kind.TheVariants as k
use Rattle.sql_read.specs.Schema.{is}
use Rattle.query_trees.specs.declared.expr.BinaryOp.TheVariants as op
use Rattle.query_read.specs.Asked.{all}
use Rattle.query_read.specs.Classes.{multiplies}
use Rattle.query_read.specs.Nodes.{of, signs}
use Rattle.query_read.specs.ExpressionParsers as spec
use Rattle.query_read.proofs.Levels.{under_none, under_more, shut_is}
use Rattle.query_read.proofs.expr.+expr.Goals as goal

pub term-returns-in_err-left : goal.term-returns-in_err-left
unfolding spec.term
term-returns-in_err-left t c = first_of (search rules, grind (arith, common_steps))

pub term-loop-turn-init : goal.term-loop-turn-init
unfolding spec.term
term-loop-turn-init t c = first_of (search rules, grind (arith, common_steps))

pub term-returns-then-not-is_next_of : goal.term-returns-then-not-is_next_of
unfolding turns
term-returns-then-not-is_next_of t c =
    let e = one_more (λ n. turns (of multiplies) (spec.multiplied all c.args.text.now (spec.under all c.args.text.now c.args.levels)) n c.loop-turn.left c.loop-turn.tokens) _ c.loop-turn._turn c.loop-turn-test.true c.loop-turn.invariant in
    first_of (search rules, grind (arith, common_steps))

pub term-returns-in_err-left-2 : goal.term-returns-in_err-left-2
unfolding turns
term-returns-in_err-left-2 t c =
    let e = one_more (λ n. turns (of multiplies) (spec.multiplied all c.args.text.now (spec.under all c.args.text.now c.args.levels)) n c.loop-turn.left c.loop-turn.tokens) _ c.loop-turn._turn c.loop-turn-test.true c.loop-turn.invariant in
    first_of (search rules, grind (arith, common_steps))

pub term-loop-turn-preserved : goal.term-loop-turn-preserved
unfolding turns
term-loop-turn-preserved t c =
    let e = one_more (λ n. turns (of multiplies) (spec.multiplied all c.args.text.now (spec.under all c.args.text.now c.args.levels)) n c.loop-turn.left c.loop-turn.tokens) _ c.loop-turn._turn c.loop-turn-test.true c.loop-turn.invariant in
    first_of (search rules, grind (arith, common_steps))

pub term-returns : goal.term-returns
unfolding turns
term-returns t c =
    let e = no_more (λ n. turns (of multiplies) (spec.multiplied all c.args.text.now (spec.under all c.args.text.now c.args.levels)) n c.loop-turn.left c.loop-turn.tokens) _ c.loop-turn._turn c.loop-turn-test.false c.loop-turn.invariant in
    first_of (search rules, grind (arith, common_steps))

pub sum-returns-in_err-left : goal.sum-returns-in_err-left
unfolding spec.sum
sum-returns-in_err-left t c = first_of (search rules, grind (arith, common_steps))

pub sum-loop-turn-init : goal.sum-loop-turn-init
unfolding spec.sum
sum-loop-turn-init t c = first_of (search rules, grind (arith, common_steps))

pub sum-returns-then-not-is_next_of : goal.sum-returns-then-not-is_next_of
unfolding turns
sum-returns-then-not-is_next_of t c =
    let e = one_more (λ n. turns (of signs) (spec.added all c.args.text.now (spec.under all c.args.text.now c.args.levels)) n c.loop-turn.left c.loop-turn.tokens) _ c.loop-turn._turn c.loop-turn-test.true c.loop-turn.invariant in
    first_of (search rules, grind (arith, common_steps))

pub sum-returns-in_err-left-2 : goal.sum-returns-in_err-left-2
unfolding turns
sum-returns-in_err-left-2 t c =
    let e = one_more (λ n. turns (of signs) (spec.added all c.args.text.now (spec.under all c.args.text.now c.args.levels)) n c.loop-turn.left c.loop-turn.tokens) _ c.loop-turn._turn c.loop-turn-test.true c.loop-turn.invariant in
    first_of (search rules, grind (arith, common_steps))

pub sum-loop-turn-preserved : goal.sum-loop-turn-preserved
unfolding turns
sum-loop-turn-preserved t c =
    let e = one_more (λ n. turns (of signs) (spec.added all c.args.text.now (spec.under all c.args.text.now c.args.levels)) n c.loop-turn.left c.loop-turn.tokens) _ c.loop-turn._turn c.loop-turn-test.true c.loop-turn.invariant in
    first_of (search rules, grind (arith, common_steps))

pub sum-returns : goal.sum-returns
unfolding turns
sum-returns t c =
    let e = no_more (λ n. turns (of signs) (spec.added all c.args.text.now (spec.under all c.args.text.now c.args.levels)) n c.loop-turn.left c.loop-turn.tokens) _ c.loop-turn._turn c.loop-turn-test.false c.loop-turn.invariant in
    first_of (search rules, grind (arith, common_steps))

pub more_sums-returns-then-not-is_next : goal.more_sums-returns-then-not-is_next
unfolding turns spec.another
more_sums-returns-then-not-is_next t c =
    let e = one_more (λ n. turns (is k.Comma) (spec.another (spec.sum all c.args.text.now (spec.under all c.args.text.now c.args.levels))) n c.loop-turn.sums c.loop-turn.tokens) _ c.loop-turn._turn c.loop-turn-test.true c.loop-turn.invariant in
    first_of (search rules, grind (arith, common_steps))

pub more_sums-returns-in_err-expect : goal.more_sums-returns-in_err-expect
unfolding turns spec.another
more_sums-returns-in_err-expect t c =
    let e = one_more (λ n. turns (is k.Comma) (spec.another (spec.sum all c.args.text.now (spec.under all c.args.text.now c.args.levels))) n c.loop-turn.sums c.loop-turn.tokens) _ c.loop-turn._turn c.loop-turn-test.true c.loop-turn.invariant in
    first_of (search rules, grind (arith, common_steps))

pub more_sums-returns-in_err-sum : goal.more_sums-returns-in_err-sum
unfolding turns spec.another
more_sums-returns-in_err-sum t c =
    let e = one_more (λ n. turns (is k.Comma) (spec.another (spec.sum all c.args.text.now (spec.under all c.args.text.now c.args.levels))) n c.loop-turn.sums c.loop-turn.tokens) _ c.loop-turn._turn c.loop-turn-test.true c.loop-turn.invariant in
    first_of (search rules, grind (arith, common_steps))

pub more_sums-loop-turn-preserved : goal.more_sums-loop-turn-preserved
unfolding turns spec.another
more_sums-loop-turn-preserved t c =
    let e = one_more (λ n. turns (is k.Comma) (spec.another (spec.sum all c.args.text.now (spec.under all c.args.text.now c.args.levels))) n c.loop-turn.sums c.loop-turn.tokens) _ c.loop-turn._turn c.loop-turn-test.true c.loop-turn.invariant in
    first_of (search rules, grind (arith, common_steps))

pub more_sums-returns : goal.more_sums-returns
unfolding turns spec.another
more_sums-returns t c =
    let e = no_more (λ n. turns (is k.Comma) (spec.another (spec.sum all c.args.text.now (spec.under all c.args.text.now c.args.levels))) n c.loop-turn.sums c.loop-turn.tokens) _ c.loop-turn._turn c.loop-turn-test.false c.loop-turn.invariant in
    first_of (search rules, grind (arith, common_steps))

pub more_exprs-returns-then-not-is_next : goal.more_exprs-returns-then-not-is_next
unfolding turns spec.another
more_exprs-returns-then-not-is_next t c =
    let e = one_more (λ n. turns (is k.Comma) (spec.another (spec.expr all c.args.text.now (spec.under all c.args.text.now c.args.levels))) n c.loop-turn.exprs c.loop-turn.tokens) _ c.loop-turn._turn c.loop-turn-test.true c.loop-turn.invariant in
    first_of (search rules, grind (arith, common_steps))

pub more_exprs-returns-in_err-expect : goal.more_exprs-returns-in_err-expect
unfolding turns spec.another
more_exprs-returns-in_err-expect t c =
    let e = one_more (λ n. turns (is k.Comma) (spec.another (spec.expr all c.args.text.now (spec.under all c.args.text.now c.args.levels))) n c.loop-turn.exprs c.loop-turn.tokens) _ c.loop-turn._turn c.loop-turn-test.true c.loop-turn.invariant in
    first_of (search rules, grind (arith, common_steps))

pub more_exprs-returns-in_err-expr : goal.more_exprs-returns-in_err-expr
unfolding turns spec.another
more_exprs-returns-in_err-expr t c =
    let e = one_more (λ n. turns (is k.Comma) (spec.another (spec.expr all c.args.text.now (spec.under all c.args.text.now c.args.levels))) n c.loop-turn.exprs c.loop-turn.tokens) _ c.loop-turn._turn c.loop-turn-test.true c.loop-turn.invariant in
    first_of (search rules, grind (arith, common_steps))

pub more_exprs-loop-turn-preserved : goal.more_exprs-loop-turn-preserved
unfolding turns spec.another
more_exprs-loop-turn-preserved t c =
    let e = one_more (λ n. turns (is k.Comma) (spec.another (spec.expr all c.args.text.now (spec.under all c.args.text.now c.args.levels))) n c.loop-turn.exprs c.loop-turn.tokens) _ c.loop-turn._turn c.loop-turn-test.true c.loop-turn.invariant in
    first_of (search rules, grind (arith, common_steps))

pub more_exprs-returns : goal.more_exprs-returns
unfolding turns spec.another
more_exprs-returns t c =
    let e = no_more (λ n. turns (is k.Comma) (spec.another (spec.expr all c.args.text.now (spec.under all c.args.text.now c.args.levels))) n c.loop-turn.exprs c.loop-turn.tokens) _ c.loop-turn._turn c.loop-turn-test.false c.loop-turn.invariant in
    first_of (search rules, grind (arith, common_steps))

pub conj-returns-in_err-left : goal.conj-returns-in_err-left
unfolding spec.conj
conj-returns-in_err-left t c = first_of (search rules, grind (arith, common_steps))

pub conj-loop-turn-init : goal.conj-loop-turn-init
unfolding spec.conj
conj-loop-turn-init t c = first_of (search rules, grind (arith, common_steps))

pub conj-returns-then-not-is_next : goal.conj-returns-then-not-is_next
unfolding turns spec.operation
conj-returns-then-not-is_next t c =
    let e = one_more (λ n. turns (is k.And) (spec.operation k.And op.And (spec.neg all c.args.text.now (spec.under all c.args.text.now c.args.levels))) n c.loop-turn.left c.loop-turn.tokens) _ c.loop-turn._turn c.loop-turn-test.true c.loop-turn.invariant in
    first_of (search rules, grind (arith, common_steps))

pub conj-returns-in_err-at : goal.conj-returns-in_err-at
unfolding turns spec.operation
conj-returns-in_err-at t c =
    let e = one_more (λ n. turns (is k.And) (spec.operation k.And op.And (spec.neg all c.args.text.now (spec.under all c.args.text.now c.args.levels))) n c.loop-turn.left c.loop-turn.tokens) _ c.loop-turn._turn c.loop-turn-test.true c.loop-turn.invariant in
    first_of (search rules, grind (arith, common_steps))

pub conj-returns-in_err-right : goal.conj-returns-in_err-right
unfolding turns spec.operation
conj-returns-in_err-right t c =
    let e = one_more (λ n. turns (is k.And) (spec.operation k.And op.And (spec.neg all c.args.text.now (spec.under all c.args.text.now c.args.levels))) n c.loop-turn.left c.loop-turn.tokens) _ c.loop-turn._turn c.loop-turn-test.true c.loop-turn.invariant in
    first_of (search rules, grind (arith, common_steps))

pub conj-loop-turn-preserved : goal.conj-loop-turn-preserved
unfolding turns spec.operation
conj-loop-turn-preserved t c =
    let e = one_more (λ n. turns (is k.And) (spec.operation k.And op.And (spec.neg all c.args.text.now (spec.under all c.args.text.now c.args.levels))) n c.loop-turn.left c.loop-turn.tokens) _ c.loop-turn._turn c.loop-turn-test.true c.loop-turn.invariant in
    first_of (search rules, grind (arith, common_steps))

pub conj-returns : goal.conj-returns
unfolding turns spec.operation
conj-returns t c =
    let e = no_more (λ n. turns (is k.And) (spec.operation k.And op.And (spec.neg all c.args.text.now (spec.under all c.args.text.now c.args.levels))) n c.loop-turn.left c.loop-turn.tokens) _ c.loop-turn._turn c.loop-turn-test.false c.loop-turn.invariant in
    first_of (search rules, grind (arith, common_steps))

pub expr-returns-in_err-left : goal.expr-returns-in_err-left
unfolding spec.expr
expr-returns-in_err-left t c = first_of (search rules, grind (arith, common_steps))

pub expr-loop-turn-init : goal.expr-loop-turn-init
unfolding spec.expr
expr-loop-turn-init t c = first_of (search rules, grind (arith, common_steps))

pub expr-returns-then-not-is_next : goal.expr-returns-then-not-is_next
unfolding turns spec.operation
expr-returns-then-not-is_next t c =
    let e = one_more (λ n. turns (is k.Or) (spec.operation k.Or op.Or (spec.conj all c.args.text.now (spec.under all c.args.text.now c.args.levels))) n c.loop-turn.left c.loop-turn.tokens) _ c.loop-turn._turn c.loop-turn-test.true c.loop-turn.invariant in
    first_of (search rules, grind (arith, common_steps))

pub expr-returns-in_err-at : goal.expr-returns-in_err-at
unfolding turns spec.operation
expr-returns-in_err-at t c =
    let e = one_more (λ n. turns (is k.Or) (spec.operation k.Or op.Or (spec.conj all c.args.text.now (spec.under all c.args.text.now c.args.levels))) n c.loop-turn.left c.loop-turn.tokens) _ c.loop-turn._turn c.loop-turn-test.true c.loop-turn.invariant in
    first_of (search rules, grind (arith, common_steps))

pub expr-returns-in_err-right : goal.expr-returns-in_err-right
unfolding turns spec.operation
expr-returns-in_err-right t c =
    let e = one_more (λ n. turns (is k.Or) (spec.operation k.Or op.Or (spec.conj all c.args.text.now (spec.under all c.args.text.now c.args.levels))) n c.loop-turn.left c.loop-turn.tokens) _ c.loop-turn._turn c.loop-turn-test.true c.loop-turn.invariant in
    first_of (search rules, grind (arith, common_steps))

pub expr-loop-turn-preserved : goal.expr-loop-turn-preserved
unfolding turns spec.operation
expr-loop-turn-preserved t c =
    let e = one_more (λ n. turns (is k.Or) (spec.operation k.Or op.Or (spec.conj all c.args.text.now (spec.under all c.args.text.now c.args.levels))) n c.loop-turn.left c.loop-turn.tokens) _ c.loop-turn._turn c.loop-turn-test.true c.loop-turn.invariant in
    first_of (search rules, grind (arith, common_steps))

pub expr-returns : goal.expr-returns
unfolding turns spec.operation
expr-returns t c =
    let e = no_more (λ n. turns (is k.Or) (spec.operation k.Or op.Or (spec.conj all c.args.text.now (spec.under all c.args.text.now c.args.levels))) n c.loop-turn.left c.loop-turn.tokens) _ c.loop-turn._turn c.loop-turn-test.false c.loop-turn.invariant in
    first_of (search rules, grind (arith, common_steps))

pub parens-returns-then-levels-eq0 : goal.parens-returns-then-levels-eq0
parens-returns-then-levels-eq0 t c =
    let e = under_none all c.args.text.now c.args.levels (omega arith) in
    rw (e, c.shut.ensures) (λ _. shut_is c.args.tokens.now)

pub parens-returns-then-not-is_next : goal.parens-returns-then-not-is_next
unfolding spec.parens
parens-returns-then-not-is_next t c =
    let e = under_more all c.args.text.now c.args.levels (omega arith) in
    rw e first_of (search rules, grind (arith, common_steps))

pub parens-returns-in_err-at : goal.parens-returns-in_err-at
unfolding spec.parens
parens-returns-in_err-at t c =
    let e = under_more all c.args.text.now c.args.levels (omega arith) in
    rw e first_of (search rules, grind (arith, common_steps))

pub parens-returns-in_err-value : goal.parens-returns-in_err-value
unfolding spec.parens
parens-returns-in_err-value t c =
    let e = under_more all c.args.text.now c.args.levels (omega arith) in
    rw e first_of (search rules, grind (arith, common_steps))

pub parens-returns-in_err-expect : goal.parens-returns-in_err-expect
unfolding spec.parens
parens-returns-in_err-expect t c =
    let e = under_more all c.args.text.now c.args.levels (omega arith) in
    rw e first_of (search rules, grind (arith, common_steps))

pub parens-returns : goal.parens-returns
unfolding spec.parens
parens-returns t c =
    let e = under_more all c.args.text.now c.args.levels (omega arith) in
    rw e first_of (search rules, grind (arith, common_steps))

pub listed-returns-then-levels-eq0 : goal.listed-returns-then-levels-eq0
listed-returns-then-levels-eq0 t c =
    let e = under_none all c.args.text.now c.args.levels (omega arith) in
    rw (e, c.shut.ensures) (λ _. shut_is c.args.tokens.now)

pub listed-returns-then-not-is_next : goal.listed-returns-then-not-is_next
unfolding spec.listed
listed-returns-then-not-is_next t c =
    let e = under_more all c.args.text.now c.args.levels (omega arith) in
    rw e first_of (search rules, grind (arith, common_steps))

pub listed-returns-in_err-expect : goal.listed-returns-in_err-expect
unfolding spec.listed
listed-returns-in_err-expect t c =
    let e = under_more all c.args.text.now c.args.levels (omega arith) in
    rw e first_of (search rules, grind (arith, common_steps))

pub listed-returns-in_err-found : goal.listed-returns-in_err-found
unfolding spec.listed
listed-returns-in_err-found t c =
    let e = under_more all c.args.text.now c.args.levels (omega arith) in
    rw e first_of (search rules, grind (arith, common_steps))

pub listed-returns-in_err-expect-2 : goal.listed-returns-in_err-expect-2
unfolding spec.listed
listed-returns-in_err-expect-2 t c =
    let e = under_more all c.args.text.now c.args.levels (omega arith) in
    rw e first_of (search rules, grind (arith, common_steps))

pub listed-returns : goal.listed-returns
unfolding spec.listed
listed-returns t c =
    let e = under_more all c.args.text.now c.args.levels (omega arith) in
    rw e first_of (search rules, grind (arith, common_steps))

pub counted-returns-then-levels-eq0 : goal.counted-returns-then-levels-eq0
counted-returns-then-levels-eq0 t c =
    let e = under_none all c.args.text.now c.args.levels (omega arith) in
    rw (e, c.shut.ensures) (λ _. shut_is c.args.tokens.now)

pub counted-returns-then-not-is_next : goal.counted-returns-then-not-is_next
unfolding spec.counted
counted-returns-then-not-is_next t c =
    let e = under_more all c.args.text.now c.args.levels (omega arith) in
    rw e first_of (search rules, grind (arith, common_steps))

pub counted-returns-in_err-expect : goal.counted-returns-in_err-expect
unfolding spec.counted
counted-returns-in_err-expect t c =
    let e = under_more all c.args.text.now c.args.levels (omega arith) in
    rw e first_of (search rules, grind (arith, common_steps))

pub counted-returns-in_err-of : goal.counted-returns-in_err-of
unfolding spec.counted
counted-returns-in_err-of t c =
    let e = under_more all c.args.text.now c.args.levels (omega arith) in
    rw e first_of (search rules, grind (arith, common_steps))

pub counted-returns-in_err-expect-2 : goal.counted-returns-in_err-expect-2
unfolding spec.counted
counted-returns-in_err-expect-2 t c =
    let e = under_more all c.args.text.now c.args.levels (omega arith) in
    rw e first_of (search rules, grind (arith, common_steps))

pub counted-returns : goal.counted-returns
unfolding spec.counted
counted-returns t c =
    let e = under_more all c.args.text.now c.args.levels (omega arith) in
    rw e first_of (search rules, grind (arith, common_steps))

pub choices-returns-then-levels-eq0 : goal.choices-returns-then-levels-eq0
choices-returns-then-levels-eq0 t c =
    let e = under_none all c.args.text.now c.args.levels (omega arith) in
    rw (e, c.shut.ensures) (λ _. shut_is c.args.tokens.now)

pub choices-returns-then-not-is_next : goal.choices-returns-then-not-is_next
unfolding spec.choices
choices-returns-then-not-is_next t c =
    let e = under_more all c.args.text.now c.args.levels (omega arith) in
    rw e first_of (search rules, grind (arith, common_steps))

pub choices-returns-in_err-expect : goal.choices-returns-in_err-expect
unfolding spec.choices
choices-returns-in_err-expect t c =
    let e = under_more all c.args.text.now c.args.levels (omega arith) in
    rw e first_of (search rules, grind (arith, common_steps))

pub choices-returns-in_err-found : goal.choices-returns-in_err-found
unfolding spec.choices
choices-returns-in_err-found t c =
    let e = under_more all c.args.text.now c.args.levels (omega arith) in
    rw e first_of (search rules, grind (arith, common_steps))

pub choices-returns-in_err-expect-2 : goal.choices-returns-in_err-expect-2
unfolding spec.choices
choices-returns-in_err-expect-2 t c =
    let e = under_more all c.args.text.now c.args.levels (omega arith) in
    rw e first_of (search rules, grind (arith, common_steps))

pub choices-returns : goal.choices-returns
unfolding spec.choices
choices-returns t c =
    let e = under_more all c.args.text.now c.args.levels (omega arith) in
    rw e first_of (search rules, grind (arith, common_steps))

pub nots-returns-then-levels-eq0 : goal.nots-returns-then-levels-eq0
unfolding spec.nots
nots-returns-then-levels-eq0 t c =
    let e = under_none all c.args.text.now c.args.levels (omega arith) in
    rw e first_of (search rules, grind (arith, common_steps))

pub nots-returns-in_err-at : goal.nots-returns-in_err-at
unfolding spec.nots
nots-returns-in_err-at t c =
    let e = under_more all c.args.text.now c.args.levels (omega arith) in
    rw e first_of (search rules, grind (arith, common_steps))

pub nots-returns-in_err-of : goal.nots-returns-in_err-of
unfolding spec.nots
nots-returns-in_err-of t c =
    let e = under_more all c.args.text.now c.args.levels (omega arith) in
    rw e first_of (search rules, grind (arith, common_steps))

pub nots-returns : goal.nots-returns
unfolding spec.nots
nots-returns t c =
    let e = under_more all c.args.text.now c.args.levels (omega arith) in
    rw e first_of (search rules, grind (arith, common_steps))

pub signed-returns-then-levels-eq0 : goal.signed-returns-then-levels-eq0
unfolding spec.signed
signed-returns-then-levels-eq0 t c =
    let e = under_none all c.args.text.now c.args.levels (omega arith) in
    rw e first_of (search rules, grind (arith, common_steps))

pub signed-returns-in_err-s : goal.signed-returns-in_err-s
unfolding spec.signed
signed-returns-in_err-s t c =
    let e = under_more all c.args.text.now c.args.levels (omega arith) in
    rw e first_of (search rules, grind (arith, common_steps))

pub signed-returns-in_err-of : goal.signed-returns-in_err-of
unfolding spec.signed
signed-returns-in_err-of t c =
    let e = under_more all c.args.text.now c.args.levels (omega arith) in
    rw e first_of (search rules, grind (arith, common_steps))

pub signed-returns : goal.signed-returns
unfolding spec.signed
signed-returns t c =
    let e = under_more all c.args.text.now c.args.levels (omega arith) in
    rw e first_of (search rules, grind (arith, common_steps))
