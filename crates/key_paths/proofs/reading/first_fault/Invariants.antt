use Rattle.std.proofs.Common.{◌≡◌, take, Ok}
use Rattle.key_paths.proofs.ReadingLaws.{read_on, start}
use Rattle.key_paths.proofs.reading.first_fault.Given as goal

abbrev pub invariant-loop-at : goal.invariant-loop-at
invariant-loop-at l = read_on (take l.at l.text) start ≡ Ok l.reached
