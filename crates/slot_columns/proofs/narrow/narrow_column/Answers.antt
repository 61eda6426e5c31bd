use Rattle.std.proofs.Common.{◌≡◌, length, not, ap, ◌∙◌, sym, arith}
use Rattle.std.specs.List.{list_any}
use Rattle.struct_vectors.proofs.MakerLaws.{marked_slots-all}
use Rattle.struct_vectors.specs.Columns.{ColumnValue}
use Rattle.slot_columns.proofs.narrow.narrow_column.Goals as goal

pub returns-then-all_set : goal.returns-then-all_set
returns-then-all_set c =
    let lengths : length c.args.marks.items ≡ length c.args.numbers.items = omega (arith, c.requires.lengths, c.args.marks.ok, c.args.numbers.ok) in
    ap (λ (v : ColumnValue). v.slots) c.narrow.ensures ∙ sym (marked_slots-all c.args.numbers.items c.args.marks.items lengths (ap (list_any not) (sym c.as_slice.ensures.value) ∙ c.all_set.ensures c.if-all_set.true))
