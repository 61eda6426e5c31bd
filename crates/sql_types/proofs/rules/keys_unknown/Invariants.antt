use Rattle.std.proofs.Common.{◌≡◌, take, fold}
use Rattle.sql_types.specs.Findings.{noted}
use Rattle.sql_types.specs.Catalog.{is_unknown, key_unknown}
use Rattle.sql_types.proofs.rules.keys_unknown.Given as goal

abbrev pub invariant-loop-k : goal.invariant-loop-k
invariant-loop-k l = l.best ≡ fold (noted (is_unknown l.t) key_unknown) l.fn.first (take l.k-index l.k-items)
