use Rattle.std.proofs.Common.{sym, ◌∙◌}
use Rattle.struct_vectors.proofs.ShapeLaws.{long_more}
use Rattle.struct_vectors.proofs.vectors.first_of_other_length.Goals as goal

pub loop-i-preserved : goal.loop-i-preserved
loop-i-preserved c =
    long_more c.args.n c.args.attributes.now c.loop-i.i c.index-attributes-i.result c.loop-i-test.true c.index-attributes-i.is c.loop-i.invariant (sym c.len.ensures.len ∙ c.if-len-n.false)
