use Rattle.std.proofs.Common.{◌≡◌, ℕ, subst, rules, sym, ap, ◌∙◌, List, map, get_or, None}
use Rattle.std.specs.Prelude.{IfOk}
use Rattle.std.specs.List.{range_with_len}
use Rattle.control_vectors.specs.Slots.{Slot}
use Rattle.struct_vectors.specs.Columns.{ColumnValue}
use Rattle.slot_columns.proofs.Listings.{map_by_place}
use Rattle.sort_order.specs.Buckets.{bucket}
use Rattle.slot_moves.proofs.ranking.column_of_buckets.Goals as goal

pub returns : goal.returns
returns c =
    let slot : ℕ → Slot = λ i. bucket c.args.pivots.now (get_or c.args.keys.now.slots i None) in
    let e = ap (λ k. map slot (range_with_len 0 k)) c.len.ensures.len ∙ sym (map_by_place (bucket c.args.pivots.now) c.args.keys.now.slots None) in
    subst (λ (l : List Slot). IfOk c.slots_of.result (λ (v : ColumnValue). v.slots ≡ l)) e (c.slots_of.ensures slot (λ i r h e. search rules))
