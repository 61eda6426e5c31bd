use Rattle.std.proofs.Common.{sym}
use Rattle.key_paths.proofs.Stretches.{range_is, counted_below, counted_before, counted_after, seen_more, all_seen}
use Rattle.key_paths.proofs.ranges.PathRange.of.Goals as goal
use Rattle.key_paths.proofs.ranges.PathRange.of.Goals.{then-starts_with, else-starts_with+then-lt, else-starts_with+else-lt}

pub loop-path-preserved : goal.loop-path-preserved
loop-path-preserved c =
    let more = seen_more c.args.paths.now c.loop-path.path-index c.path-item.result c.loop-path-test.true c.path-item.is in
    elim c.if-starts_with.branch [
      | then-starts_with w ↦
          rw (w.from-is, w.count-is, more) (counted_below _ _ _ _ _ c.loop-path.invariant c.starts_with.ensures.path (sym w.if-starts_with.ensures.below))
      | else-starts_with+then-lt w ↦
          rw (w.from-is, w.count-is, more) (counted_before _ _ _ _ _ c.loop-path.invariant c.starts_with.ensures.path (sym w.if-starts_with.ensures.below) (sym w.if-lt.ensures))
      | else-starts_with+else-lt w ↦
          rw (w.from-is, w.count-is, more) (counted_after _ _ _ _ _ c.loop-path.invariant c.starts_with.ensures.path (sym w.if-starts_with.ensures.below) (sym w.if-lt.ensures))
    ]

pub returns-clause-stretch : goal.returns-clause-stretch
returns-clause-stretch c =
    let all = all_seen c.args.prefix.now c.args.paths.now c.loop-path.path-index _ _ c.loop-path-test.false c.loop-path.auto.path-index-end c.loop-path.invariant in
    range_is _ _ _ _ c.requires.ascending all.are_paths all.from_is all.count_is
