use Rattle.std.proofs.Common.{◌≡◌, ◌++◌, [], take}
use Rattle.csv.specs.Records.{fields_of, partial_of}
use Rattle.answer_print.proofs.answers.push_names.Given as goal

abbrev pub invariant-loop-name : goal.invariant-loop-name
invariant-loop-name l = (fields_of l.row ≡ fields_of l.fn.row ++ take l.name-index l.names) × (partial_of l.row ≡ [])
