use Rattle.answer_texts.proofs.Worked.{dates}
use Rattle.answer_texts.proofs.laws.dates.Goals as goal

pub returns : goal.returns
returns c = dates
