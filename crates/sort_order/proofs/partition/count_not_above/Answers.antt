use Rattle.std.proofs.Common.{ℤ, not, sym, rules, FitsSigned}
use Rattle.std.specs.Int.{w128}
use Rattle.std.proofs.lemmas.Int.{to_z-of_z}
use Rattle.std.specs.Prelude.{int_lt}
use Rattle.std.proofs.lemmas.List.Sorted.{IsPartitionPoint-from_clause}
use Rattle.sort_order.proofs.BucketLaws.{parted}
use Rattle.sort_order.proofs.Counts.{count_front}
use Rattle.sort_order.proofs.partition.count_not_above.Goals as goal

pub returns : goal.returns
returns c =
    let point = IsPartitionPoint-from_clause (λ (p : ℤ). not (int_lt c.args.x p)) c.args.pivots.now c.partition_point.result c.partition_point.ensures.partitioned (parted c.args.pivots.now c.args.x c.requires) (λ x b f' k. let g : FitsSigned w128 c.args.x = c.ranges.x in search (rules, to_z-of_z)) in
    sym (count_front (λ (p : ℤ). not (int_lt c.args.x p)) c.args.pivots.now c.partition_point.result c.partition_point.ensures.bound point)
