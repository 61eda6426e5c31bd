use Rattle.std.proofs.Common.{◌≡◌, map, take}
use Rattle.table_load.specs.Vectors.{code_at}
use Rattle.table_load.proofs.held.recoded.Given as goal

abbrev pub invariant-loop-place : goal.invariant-loop-place
invariant-loop-place l = l.numbers.items ≡ map (code_at l.codes) (take l.place-index l.places)
