use Rattle.std.proofs.Common.{◌≡◌, ℤ, pos, ap, ◌∙◌, arith, Some, to_z, of_z}
use Rattle.std.specs.Int.{w128}
use Rattle.std.proofs.lemmas.Int.{ints}
use Rattle.move_kernels.specs.Kernels.{side_of}
use Rattle.move_kernels.proofs.Stretches.{listed_more}
use Rattle.move_kernels.proofs.crossing.cross_into.Goals as goal

pub loop-k-preserved : goal.loop-k-preserved
loop-k-preserved c =
    let number : to_z w128 (of_z w128 c.from.result) ≡ pos c.place_of.result = omega (arith, ints, c.from.ensures) in
    listed_more (λ i. Some (pos (side_of c.args.left c.args.m i))) c.args.first c.loop-k.k c.loop-k.out _ (omega (arith, c.loop-k-test.true, c.loop-k.auto.out))
    (ap (λ (z : ℤ). Some z) (number ∙ ap pos c.place_of.ensures)) c.loop-k.invariant
