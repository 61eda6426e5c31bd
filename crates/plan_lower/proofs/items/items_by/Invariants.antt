use Rattle.std.proofs.Common.{drop, ◌+◌}
use Rattle.std.specs.List.{enumerate_from}
use Rattle.program_writers.specs.Writers.{through}
use Rattle.program_writers.proofs.Writing.{Continues}
use Rattle.plan_programs.specs.Items as spec
use Rattle.plan_lower.proofs.items.items_by.Given as goal

abbrev pub invariant-loop-k : goal.invariant-loop-k
invariant-loop-k l =
    Continues (λ x. through (spec.item_of l.dictionary l.b) x (enumerate_from (l.k + 1) (drop l.k l.items))) l.fn.w (through (spec.item_of l.dictionary l.b) l.fn.vector (enumerate_from 1 l.items)) l.w l.vector
