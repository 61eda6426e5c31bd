use Rattle.run_laws.proofs.Catalogs.{catalog_law}
use Rattle.run_laws.proofs.laws.catalog_law.Goals as goal

pub returns : goal.returns
returns c = catalog_law
