use Rattle.std.proofs.Common.{◌≡◌, [], take}
use Rattle.csv.specs.Records.{fields_of, partial_of}
use Rattle.row_print.specs.Results.{place_row, slots_in}
use Rattle.row_print.proofs.results.fill_row.Given as goal

abbrev pub invariant-loop-c : goal.invariant-loop-c
invariant-loop-c l = (fields_of l.row ≡ place_row (slots_in (take l.c-index l.columns)) l.i) × (partial_of l.row ≡ [])
