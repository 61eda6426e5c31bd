use Rattle.run_laws.proofs.SchemaTexts.{schema_law}
use Rattle.run_laws.proofs.laws.schema_law.Goals as goal

pub returns : goal.returns
returns c = schema_law
