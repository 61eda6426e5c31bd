use Rattle.query_answers.proofs.LoadedKeys.{loaded}
use Rattle.query_answers.proofs.laws.loaded_key.Goals as goal

pub returns : goal.returns
returns c = loaded
