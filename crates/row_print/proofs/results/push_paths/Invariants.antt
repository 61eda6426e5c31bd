use Rattle.std.proofs.Common.{◌≡◌, ◌++◌, [], take}
use Rattle.csv.specs.Records.{fields_of, partial_of}
use Rattle.row_print.proofs.results.push_paths.Given as goal

abbrev pub invariant-loop-p : goal.invariant-loop-p
invariant-loop-p l = (fields_of l.row ≡ fields_of l.fn.row ++ take l.p-index l.paths) × (partial_of l.row ≡ [])
