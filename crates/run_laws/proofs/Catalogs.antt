-- Definitions are a catalog, or something is wrong with them.
use Rattle.std.proofs.Common.{◌≡◌, List, Err, Some, None}
use Rattle.std.specs.Prelude.{Option}
use Rattle.sql_read.specs.declared.definition.TableDef.{TableDef}
use Rattle.sql_types.specs.declared.finding.Finding.{Finding}
use Rattle.sql_types.specs.declared.refusal.SchemaRefusal.TheVariants as catalog
use Rattle.sql_types.specs.Catalog.{catalog_of, decided, findings}
use Rattle.sql_types.specs.Findings.{first_of}
use Rattle.run_laws.specs.Laws.{CatalogLaw}

decided_never : (defs : List TableDef) (first : Option Finding) → decided defs first ≡ Err catalog.NoMemory → ⊥
decided_never defs None e = cc
decided_never defs (Some p) e = cc

pub catalog_law : CatalogLaw
unfolding catalog_of
catalog_law defs e = decided_never defs (first_of (findings defs)) e
