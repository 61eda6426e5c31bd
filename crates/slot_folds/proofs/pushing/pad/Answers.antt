use Rattle.std.proofs.Common.{ap, ◌∙◌}
use Rattle.slot_columns.specs.Builders.{BuilderValue}
use Rattle.slot_folds.proofs.PushLaws.{padded_more}
use Rattle.slot_folds.proofs.pushing.pad.Goals as goal

pub loop-k-preserved : goal.loop-k-preserved
loop-k-preserved c = record {
  room = ap (λ (b : BuilderValue). b.room) c.in_ok-push.ensures.pushed ∙ c.loop-k.invariant.room;
  slots = padded_more c.args.builder.now.slots c.loop-k.builder.slots c.push.new.self.slots c.loop-k.k (ap (λ (b : BuilderValue). b.slots) c.in_ok-push.ensures.pushed) c.loop-k.invariant.slots;
}
