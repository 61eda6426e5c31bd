use Rattle.std.proofs.Common.{None, sym, ◌∙◌, arith}
use Rattle.std.proofs.lemmas.List.{get_or_past}
use Rattle.struct_vectors.specs.Columns.{marked_slots}
use Rattle.struct_vectors.proofs.ColumnLaws.{length-marked_slots}
use Rattle.slot_columns.proofs.Listings.{marked_read}
use Rattle.slot_columns.proofs.reading.marked_slot.Goals as goal

pub returns-then-i-numbers : goal.returns-then-i-numbers
returns-then-i-numbers c = c.slot_if_set.ensures ∙ sym (marked_read c.args.numbers.now c.args.marks.now c.args.i _ _ c.if-i-numbers.true c.requires)

pub returns-else-i-numbers : goal.returns-else-i-numbers
returns-else-i-numbers c =
    sym (get_or_past (marked_slots c.args.numbers.now c.args.marks.now) c.args.i None (omega (arith, c.if-i-numbers.false, length-marked_slots c.args.numbers.now c.args.marks.now c.requires)))
