use Rattle.std.proofs.Common.{◌<◌}
use Rattle.cases_jobs.proofs.sums.adler_32.Given as goal

abbrev pub invariant-loop-b : goal.invariant-loop-b
invariant-loop-b l = (l.low < 65521) × (l.high < 65521)
