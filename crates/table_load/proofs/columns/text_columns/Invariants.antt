use Rattle.std.proofs.Common.{◌≡◌, take}
use Rattle.table_load.specs.HeldColumns.{text_columns}
use Rattle.table_load.proofs.columns.text_columns.Given as goal

abbrev pub invariant-loop-column : goal.invariant-loop-column
invariant-loop-column l = l.are_texts.items ≡ text_columns (take l.column-index l.columns)
