use Rattle.std.proofs.Common.{◌≤◌, take}
use Rattle.std.specs.Io.KnownBytes.{Appends}
use Rattle.programs.specs.Vectors.{seen_all}
use Rattle.row_print.specs.Results.{results_text}
use Rattle.row_print.proofs.results.write_results.Given as goal

abbrev pub invariant-loop-e : goal.invariant-loop-e
invariant-loop-e g l = (g.O.Sink.faults l.fn.out ≤ g.O.Sink.faults l.out) × Appends (g.O.Sink.written l.fn.out) (g.O.Sink.written l.out) (results_text (take l.e-index (seen_all l.r)))
