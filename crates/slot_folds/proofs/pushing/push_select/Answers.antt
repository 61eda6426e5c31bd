use Rattle.std.proofs.Common.{◌≡◌, ◌-◌, arith, length}
use Rattle.std.specs.Prelude.{slice_range}
use Rattle.std.specs.List.{range_with_len}
use Rattle.std.proofs.lemmas.List.FromFn.{length-range_with_len}
use Rattle.slot_folds.proofs.RunLaws.{length_range}
use Rattle.slot_folds.proofs.PushLaws.{select_pushed}
use Rattle.slot_folds.proofs.pushing.push_select.Goals as goal

pub returns : goal.returns
returns c =
    let xs = c.args.values.now.slots in
    let places = range_with_len 0 (length xs) in
    let run = slice_range places c.args.from c.args.to in
    let long : length run ≡ c.args.to - c.args.from = length_range places c.args.from c.args.to (omega (arith, c.requires.within, length-range_with_len 0 (length xs))) in
    select_pushed xs run c.args.builder.now c.push_places.new.builder c.pad.new.builder (c.args.to - c.args.from - c.in_ok-kept.kept) c.in_ok-kept.ensures.pushed c.in_ok-pad.ensures (omega (arith, c.in_ok-kept.ensures.count))
