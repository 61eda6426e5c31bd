use Rattle.std.proofs.Common.{List, length, ap, ◌∙◌, sym, Ok}
use Rattle.std.specs.Prelude.{Result}
use Rattle.control_vectors.specs.Slots.{Slot, numbers}
use Rattle.control_vectors.specs.declared.Over.{Over}
use Rattle.sort_order.specs.Buckets.{partitioned}
use Rattle.programs.specs.Vectors.{Vector, known, seen, slots_of}
use Rattle.voodoo_ops.specs.Envs.{env_in}
use Rattle.voodoo_ops.proofs.Lengths.{partitioned_long}
use Rattle.voodoo_ops.proofs.Seen.{column_long}
use Rattle.voodoo_ops.proofs.moves.partition_made.Goals as goal

pub returns : goal.returns
returns c =
    let a = known (env_in c.args.made.now c.args.args.now.a) in
    let b = known (env_in c.args.made.now c.args.args.now.b) in
    let keys = slots_of a.attributes c.args.args.now.key in
    let pivots = slots_of b.attributes c.args.args.now.pivot in
    let slots = c.in_ok-partitions.ensures ∙ ap (λ (l : List Slot). partitioned (numbers l) c.attribute-keys.result.now.slots) c.attribute-pivots.ensures.slots ∙ ap (partitioned (numbers pivots)) c.attribute-keys.ensures.slots in
    let many = ap (λ (l : List Slot). length l) slots ∙ partitioned_long (numbers pivots) keys ∙ ap (λ (l : List Slot). length l) (sym c.attribute-keys.ensures.slots) ∙ c.attribute-keys.ensures.len in
    ap (λ (v : Vector). let r : Result Vector Over = Ok v in r)
    (sym (column_long c.args.args.now.out a.len _ c.in_ok-partitions.field-0.slots (partitioned (numbers pivots) keys) (seen c.in_ok-named.field-0) c.in_ok-named.ensures slots many))
