use Rattle.std.proofs.Common.{◌≡◌, drop}
use Rattle.query_types.specs.Names.{in_columns}
use Rattle.query_types.proofs.names.in_columns.Given as goal

abbrev pub invariant-loop-i : goal.invariant-loop-i
invariant-loop-i l = in_columns l.name l.source 0 l.columns ≡ in_columns l.name l.source l.i (drop l.i l.columns)
