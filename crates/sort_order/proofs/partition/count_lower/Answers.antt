use Rattle.std.proofs.Common.{ℤ, ℕ, sym, rules, FitsSigned}
use Rattle.std.specs.Int.{w128}
use Rattle.std.specs.Ordering.{is_lt}
use Rattle.std.proofs.lemmas.Int.{to_z-of_z}
use Rattle.std.proofs.lemmas.List.Sorted.{IsPartitionPoint-from_clause}
use Rattle.sort_order.specs.Pairs.{pair_cmp}
use Rattle.sort_order.proofs.PairLaws.{lower_first}
use Rattle.sort_order.proofs.Counts.{count_front}
use Rattle.sort_order.proofs.partition.count_lower.Goals as goal

pub returns : goal.returns
returns c =
    let point = IsPartitionPoint-from_clause (λ (p : ℤ × ℕ). is_lt (pair_cmp p (c.args.b, c.args.i))) c.args.pairs.now c.partition_point.result c.partition_point.ensures.partitioned (lower_first c.args.pairs.now (c.args.b, c.args.i) c.requires) (λ x b f' k. let g : FitsSigned w128 c.args.b = c.ranges.b in search (rules, to_z-of_z)) in
    sym (count_front (λ (p : ℤ × ℕ). is_lt (pair_cmp p (c.args.b, c.args.i))) c.args.pairs.now c.partition_point.result c.partition_point.ensures.bound point)
