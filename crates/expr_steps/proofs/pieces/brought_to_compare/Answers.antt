use Rattle.std.proofs.Common.{rules, ℤ, FitsSigned, subst}
use Rattle.std.specs.Int.{w128}
use Rattle.std.proofs.lemmas.Int.{to_z-of_z}
use Rattle.expr_steps.specs.Codes.{Appends, and_then}
use Rattle.expr_steps.specs.Lowered as spec
use Rattle.expr_steps.proofs.Appending.{then_appended}
use Rattle.expr_steps.proofs.pieces.brought_to_compare.Goals as goal

pub returns : goal.returns
returns c =
    let first : FitsSigned w128 c.args.factors.x = search rules in
    let second : FitsSigned w128 c.args.factors.y = search rules in
    let x = subst (λ (f : ℤ). Appends (spec.times f c.args.a) c.args.steps.now.items c.times.new.steps.items c.in_ok-x.x) (to_z-of_z w128 c.args.factors.x first) c.in_ok-x.ensures in
    let y = subst (λ (f : ℤ). Appends (spec.times f c.args.b) c.times.new.steps.items c.times-2.new.steps.items c.in_ok-y.y) (to_z-of_z w128 c.args.factors.y second) c.in_ok-y.ensures in
    then_appended (spec.times c.args.factors.x c.args.a) (λ x. and_then (spec.times c.args.factors.y c.args.b) (λ y. spec.comparing c.args.op x y)) c.args.steps.now.items c.times.new.steps.items c.comparing.new.steps.items c.in_ok-x.x c.comparing.result x
    (then_appended (spec.times c.args.factors.y c.args.b) (λ y. spec.comparing c.args.op c.in_ok-x.x y) c.times.new.steps.items c.times-2.new.steps.items c.comparing.new.steps.items c.in_ok-y.y c.comparing.result y c.comparing.ensures)
