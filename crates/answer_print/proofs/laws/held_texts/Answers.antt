use Rattle.answer_print.proofs.Worked.{held_texts}
use Rattle.answer_print.proofs.laws.held_texts.Goals as goal

pub returns : goal.returns
returns c = held_texts c.date_law.ensures.printed
