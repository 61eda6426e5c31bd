use Rattle.std.proofs.Common.{◌≡◌, ◌-◌, arith, length}
use Rattle.std.specs.Prelude.{slice_range}
use Rattle.slot_folds.proofs.RunLaws.{length_range}
use Rattle.slot_folds.proofs.PushLaws.{fold_pushed}
use Rattle.slot_folds.proofs.pushing.push_fold.Goals as goal

pub returns-in_ok-push_padded-in-Ok : goal.returns-in_ok-push_padded-in-Ok
returns-in_ok-push_padded-in-Ok c =
    let run = slice_range c.args.values.now.slots c.args.from c.args.to in
    let long : length run ≡ c.args.to - c.args.from = length_range c.args.values.now.slots c.args.from c.args.to c.requires.within in
    fold_pushed c.args.kind run c.args.builder.now c.push_padded.new.builder c.in-Ok.s (c.args.to - c.args.from - 1) c.in_ok-push_padded-in-Ok.ensures c.in-Ok.ensures (omega arith)
