use Rattle.std.proofs.Common.{◌≡◌, ◌+◌, drop}
use Rattle.csv.specs.Records.{fields_of}
use Rattle.table_load.specs.Tables.{first_other}
use Rattle.table_load.proofs.header.other_column.Given as goal

abbrev pub invariant-columns : goal.invariant-columns
invariant-columns l = first_other 1 l.columns (fields_of l.row) ≡ first_other (l.i + 1) (drop l.i l.columns) (drop l.i (fields_of l.row))
