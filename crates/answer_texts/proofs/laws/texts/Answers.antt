use Rattle.answer_texts.proofs.Worked.{texts}
use Rattle.answer_texts.proofs.laws.texts.Goals as goal

pub returns : goal.returns
returns c = texts
