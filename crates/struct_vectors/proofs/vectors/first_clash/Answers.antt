use Rattle.std.proofs.Common.{◌-◌, arith}
use Rattle.struct_vectors.specs.Vectors.{paths_of}
use Rattle.struct_vectors.proofs.ShapeLaws.{first_clash_at, clash_absent, no_clash_more, no_clash_all}
use Rattle.struct_vectors.proofs.vectors.first_clash.Goals as goal

pub returns-then-starts_with : goal.returns-then-starts_with
returns-then-starts_with c =
    first_clash_at c.args.attributes.now c.loop-i.i (c.loop-i.i - 1) _ _ (omega arith) c.loop-i-test.true c.if-starts_with.ensures.below c.loop-i.invariant

pub loop-i-preserved : goal.loop-i-preserved
loop-i-preserved c =
    no_clash_more (paths_of c.args.attributes.now) c.loop-i.i (c.loop-i.i - 1) (omega arith) c.loop-i.invariant (clash_absent c.args.attributes.now c.loop-i.i (c.loop-i.i - 1) _ _ (omega arith) c.loop-i-test.true c.if-starts_with.ensures.below)

pub returns : goal.returns
returns c = no_clash_all c.args.attributes.now c.loop-i.i c.loop-i-test.false c.loop-i.invariant
