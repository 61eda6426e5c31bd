use Rattle.std.proofs.Common.{◌≡◌, ◌+◌, ◌-◌, ◌*◌}
use Rattle.phrases.specs.Parsers.{turns}
use Rattle.sql_read.specs.declared.kind.Kind.TheVariants as k
use Rattle.sql_read.specs.Schema.{is}
use Rattle.query_trees.specs.declared.expr.BinaryOp.TheVariants as op
use Rattle.query_read.specs.Asked.{all}
use Rattle.query_read.specs.Classes.{multiplies}
use Rattle.query_read.specs.Nodes.{of, signs}
use Rattle.query_read.specs.ExpressionParsers as spec
use Rattle.query_read.proofs.expr.+expr.Given as goal

abbrev pub decreases-added : goal.decreases-added
decreases-added l = l.levels * 32 + 13

abbrev pub decreases-aggregate : goal.decreases-aggregate
decreases-aggregate l = l.levels * 32 + 6

abbrev pub decreases-atom : goal.decreases-atom
decreases-atom l = l.levels * 32 + 7

abbrev pub decreases-between : goal.decreases-between
decreases-between l = l.levels * 32 + 17

abbrev pub decreases-compared : goal.decreases-compared
decreases-compared l = l.levels * 32 + 17

abbrev pub decreases-conj : goal.decreases-conj
decreases-conj l = l.levels * 32 + 23

abbrev pub decreases-contained : goal.decreases-contained
decreases-contained l = l.levels * 32 + 17

abbrev pub decreases-enclosed : goal.decreases-enclosed
decreases-enclosed l = l.levels * 32 + 6

abbrev pub decreases-expr : goal.decreases-expr
decreases-expr l = l.levels * 32 + 24

abbrev pub decreases-count : goal.decreases-count
decreases-count l = l.levels * 32 + 6

abbrev pub decreases-counted : goal.decreases-counted
decreases-counted l = l.levels * 32 + 5

abbrev pub decreases-star_or_expr : goal.decreases-star_or_expr
decreases-star_or_expr l = l.levels * 32 + 25

abbrev pub decreases-coalesce : goal.decreases-coalesce
decreases-coalesce l = l.levels * 32 + 6

abbrev pub decreases-choices : goal.decreases-choices
decreases-choices l = l.levels * 32 + 5

abbrev pub decreases-alternatives : goal.decreases-alternatives
decreases-alternatives l = l.levels * 32 + 27

abbrev pub decreases-exprs : goal.decreases-exprs
decreases-exprs l = l.levels * 32 + 26

abbrev pub decreases-more_exprs : goal.decreases-more_exprs
decreases-more_exprs l = l.levels * 32 + 25

abbrev pub decreases-factor : goal.decreases-factor
decreases-factor l = l.levels * 32 + 9

abbrev pub decreases-listed : goal.decreases-listed
decreases-listed l = l.levels * 32 + 16

abbrev pub decreases-more_sums : goal.decreases-more_sums
decreases-more_sums l = l.levels * 32 + 15

abbrev pub decreases-multiplied : goal.decreases-multiplied
decreases-multiplied l = l.levels * 32 + 11

abbrev pub decreases-neg : goal.decreases-neg
decreases-neg l = l.levels * 32 + 22

abbrev pub decreases-negated : goal.decreases-negated
decreases-negated l = l.levels * 32 + 19

abbrev pub decreases-nots : goal.decreases-nots
decreases-nots l = l.levels * 32 + 21

abbrev pub decreases-parens : goal.decreases-parens
decreases-parens l = l.levels * 32 + 5

abbrev pub decreases-pred : goal.decreases-pred
decreases-pred l = l.levels * 32 + 21

abbrev pub decreases-ranged : goal.decreases-ranged
decreases-ranged l = l.levels * 32 + 18

abbrev pub decreases-signed : goal.decreases-signed
decreases-signed l = l.levels * 32 + 8

abbrev pub decreases-sum : goal.decreases-sum
decreases-sum l = l.levels * 32 + 14

abbrev pub decreases-sums : goal.decreases-sums
decreases-sums l = l.levels * 32 + 16

abbrev pub decreases-term : goal.decreases-term
decreases-term l = l.levels * 32 + 12

abbrev pub decreases-test : goal.decreases-test
decreases-test l = l.levels * 32 + 20

abbrev pub decreases-times : goal.decreases-times
decreases-times l = l.levels * 32 + 10

abbrev pub invariant-term-loop-turn : goal.invariant-term-loop-turn
invariant-term-loop-turn l = spec.term all l.text (spec.under all l.text l.levels) l.fn.tokens ≡ turns (of multiplies) (spec.multiplied all l.text (spec.under all l.text l.levels)) (l._turn-end - l._turn) l.left l.tokens

abbrev pub invariant-sum-loop-turn : goal.invariant-sum-loop-turn
invariant-sum-loop-turn l = spec.sum all l.text (spec.under all l.text l.levels) l.fn.tokens ≡ turns (of signs) (spec.added all l.text (spec.under all l.text l.levels)) (l._turn-end - l._turn) l.left l.tokens

abbrev pub invariant-more_sums-loop-turn : goal.invariant-more_sums-loop-turn
invariant-more_sums-loop-turn l = spec.more (spec.sum all l.text (spec.under all l.text l.levels)) l.fn.found l.fn.tokens ≡ turns (is k.Comma) (spec.another (spec.sum all l.text (spec.under all l.text l.levels))) (l._turn-end - l._turn) l.sums l.tokens

abbrev pub invariant-more_exprs-loop-turn : goal.invariant-more_exprs-loop-turn
invariant-more_exprs-loop-turn l = spec.more (spec.expr all l.text (spec.under all l.text l.levels)) l.fn.found l.fn.tokens ≡ turns (is k.Comma) (spec.another (spec.expr all l.text (spec.under all l.text l.levels))) (l._turn-end - l._turn) l.exprs l.tokens

abbrev pub invariant-conj-loop-turn : goal.invariant-conj-loop-turn
invariant-conj-loop-turn l = spec.conj all l.text (spec.under all l.text l.levels) l.fn.tokens ≡ turns (is k.And) (spec.operation k.And op.And (spec.neg all l.text (spec.under all l.text l.levels))) (l._turn-end - l._turn) l.left l.tokens

abbrev pub invariant-expr-loop-turn : goal.invariant-expr-loop-turn
invariant-expr-loop-turn l = spec.expr all l.text (spec.under all l.text l.levels) l.fn.tokens ≡ turns (is k.Or) (spec.operation k.Or op.Or (spec.conj all l.text (spec.under all l.text l.levels))) (l._turn-end - l._turn) l.left l.tokens
