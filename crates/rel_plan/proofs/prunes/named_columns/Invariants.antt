use Rattle.std.proofs.Common.{◌≡◌, take, filter}
use Rattle.rel_plan.specs.Prunes.{is_named_at}
use Rattle.rel_plan.proofs.prunes.named_columns.Given as goal

abbrev pub invariant-loop-column : goal.invariant-loop-column
invariant-loop-column l = l.kept ≡ filter (is_named_at l.p l.n) (take l.column-index l.columns)
