use Rattle.answer_texts.proofs.Worked.{numbers}
use Rattle.answer_texts.proofs.laws.numbers.Goals as goal

pub returns : goal.returns
returns c = numbers
