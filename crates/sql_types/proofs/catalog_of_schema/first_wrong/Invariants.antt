use Rattle.std.proofs.Common.{◌≡◌, ◌++◌, take, flat_map}
use Rattle.std.specs.Prelude.{None}
use Rattle.sql_types.specs.Findings.{first_from}
use Rattle.sql_types.specs.Catalog.{tables_twice, too_many_tables, table_findings}
use Rattle.sql_types.proofs.catalog_of_schema.first_wrong.Given as goal

abbrev pub invariant-loop-t : goal.invariant-loop-t
invariant-loop-t l = l.first ≡ first_from None (too_many_tables l.defs ++ (tables_twice l.defs ++ flat_map table_findings (take l.t-index l.defs)))
