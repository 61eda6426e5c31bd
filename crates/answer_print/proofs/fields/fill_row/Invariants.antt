use Rattle.std.proofs.Common.{◌≡◌, [], take}
use Rattle.csv.specs.Records.{fields_of, partial_of}
use Rattle.answer_print.specs.Shown.{seen_items, shown_row}
use Rattle.answer_print.proofs.fields.fill_row.Given as goal

abbrev pub invariant-loop-item : goal.invariant-loop-item
invariant-loop-item l = (fields_of l.row ≡ shown_row l.dictionary (seen_items (take l.item-index l.items)) l.i) × (partial_of l.row ≡ [])
