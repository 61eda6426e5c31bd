-- The worked examples, computed.
use Rattle.std.proofs.Common.{refl}
use Rattle.sql_types.specs.Findings.{first_of}
use Rattle.sql_types.specs.Catalog.{table_findings, findings, catalog_of}
use Rattle.sql_types.specs.Examples.{WorkedCatalogs}

pub worked_catalogs : WorkedCatalogs
unfolding first_of table_findings findings catalog_of
worked_catalogs = (refl, refl, refl, refl, refl, refl, refl, refl)
