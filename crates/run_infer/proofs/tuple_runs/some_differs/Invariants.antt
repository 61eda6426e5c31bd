use Rattle.std.proofs.Common.{◌≡◌, false, take}
use Rattle.std.specs.List.{list_any}
use Rattle.control_vectors.specs.Runs.{differs}
use Rattle.run_infer.proofs.tuple_runs.some_differs.Given as goal

abbrev pub invariant-loop-part : goal.invariant-loop-part
invariant-loop-part l = list_any (λ part. differs part.slots l.i) (take l.part-index l.parts) ≡ false
