use Rattle.std.proofs.Common.{◌≡◌, take, fold}
use Rattle.sql_types.specs.Findings.{noted}
use Rattle.sql_types.specs.Catalog.{bad_width}
use Rattle.sql_types.specs.Widths.{is_bad_width}
use Rattle.sql_types.proofs.rules.bad_widths.Given as goal

abbrev pub invariant-loop-c : goal.invariant-loop-c
invariant-loop-c l = l.best ≡ fold (noted is_bad_width bad_width) l.fn.first (take l.c-index l.c-items)
