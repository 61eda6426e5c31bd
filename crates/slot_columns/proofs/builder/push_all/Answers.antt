use Rattle.std.proofs.Common.{ap, ◌∙◌}
use Rattle.struct_vectors.specs.Makers.{MakerValue}
use Rattle.slot_columns.proofs.Listings.{pushed_more}
use Rattle.slot_columns.proofs.builder.push_all.Goals as goal

pub loop-i-preserved : goal.loop-i-preserved
loop-i-preserved c = record {
  room = ap (λ (m : MakerValue). m.room) c.push.ensures ∙ c.loop-i.invariant.room;
  wide = ap (λ (m : MakerValue). m.wide) c.push.ensures ∙ c.loop-i.invariant.wide;
  so_far = pushed_more c.args.maker.now.slots c.loop-i.maker.slots c.push.new.self.slots c.args.column.now.slots c.loop-i.i c.get.result (ap (λ (m : MakerValue). m.slots) c.push.ensures) c.loop-i.invariant.so_far c.get.ensures.slot;
}
