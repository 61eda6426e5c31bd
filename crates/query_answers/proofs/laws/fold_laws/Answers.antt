use Rattle.query_answers.proofs.Folds.{part_laws, argument_laws}
use Rattle.query_answers.proofs.SlotFolds.{slot_laws}
use Rattle.query_answers.proofs.laws.fold_laws.Goals as goal

pub returns : goal.returns
returns c = record { parts = part_laws; arguments = argument_laws; slots = slot_laws }
