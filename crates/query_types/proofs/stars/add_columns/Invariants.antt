use Rattle.std.proofs.Common.{◌≡◌, ◌++◌, drop}
use Rattle.query_types.specs.Grouping.{table_columns}
use Rattle.query_types.proofs.stars.add_columns.Given as goal

abbrev pub invariant-loop-k : goal.invariant-loop-k
invariant-loop-k l = l.fn.all ++ table_columns l.source 0 l.columns ≡ l.all ++ table_columns l.source l.k (drop l.k l.columns)
