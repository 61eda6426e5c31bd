use Rattle.std.proofs.Common.{arith}
use Rattle.std.proofs.lemmas.Grind.{common_steps}
use Rattle.sql_types.specs.Findings.{first_of}
use Rattle.sql_types.specs.Catalog.{findings}
use Rattle.sql_types.proofs.catalog_of_schema.first_wrong.Goals as goal

pub returns : goal.returns
unfolding first_of findings
returns c = grind (arith, common_steps)
