use Rattle.data_make.proofs.WorkedAnswers.{worked_answer}
use Rattle.data_make.proofs.laws.worked_answer.Goals as goal

pub returns : goal.returns
returns c = worked_answer
