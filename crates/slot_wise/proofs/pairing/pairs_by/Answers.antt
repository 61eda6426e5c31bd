use Rattle.std.proofs.Common.{◌≡◌, ℤ, Some, map, subst, rules, to_z, of_z, FitsSigned}
use Rattle.std.specs.Int.{w128}
use Rattle.std.specs.List.{range_with_len}
use Rattle.std.proofs.lemmas.Int.{to_z-of_z}
use Rattle.control_vectors.specs.Slots.{all_slots}
use Rattle.slot_columns.specs.Stops.{Exact}
use Rattle.slot_wise.specs.Sources.{source_at}
use Rattle.slot_wise.proofs.pairing.pairs_by.Goals as goal

pub returns-in-Number : goal.returns-in-Number
returns-in-Number g c = λ slot gives.
    let fits : FitsSigned w128 c.in-Number.number = search rules in
    let same : to_z w128 (of_z w128 c.in-Number.number) ≡ c.in-Number.number = to_z-of_z w128 c.in-Number.number fits in
    rw c.in-Number.is (subst (λ (z : ℤ). Exact (λ v. v.slots) c.pairs_from.result (all_slots (map (λ i. slot (Some z) (source_at c.args.y i)) (range_with_len 0 c.args.n)))) same (c.pairs_from.ensures slot gives))

pub returns-in-Column : goal.returns-in-Column
returns-in-Column g c = λ slot gives. rw c.in-Column.is (c.pairs_of_column.ensures slot gives)
