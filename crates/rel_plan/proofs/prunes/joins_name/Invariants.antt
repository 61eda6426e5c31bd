use Rattle.std.proofs.Common.{◌≡◌, drop}
use Rattle.std.specs.List.{list_any, enumerate_from}
use Rattle.rel_plan.specs.Prunes.{same_column, join_columns}
use Rattle.rel_plan.proofs.prunes.joins_name.Given as goal

abbrev pub invariant-loop-n : goal.invariant-loop-n
invariant-loop-n l = list_any (λ p. list_any (same_column l.c) (join_columns p)) (enumerate_from 0 l.sources) ≡ list_any (λ p. list_any (same_column l.c) (join_columns p)) (enumerate_from l.n (drop l.n l.sources))
