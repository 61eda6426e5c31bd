use Rattle.answer_texts.proofs.DateTexts.{every_day, printed}
use Rattle.answer_texts.proofs.laws.date_law.Goals as goal

pub returns : goal.returns
returns c = record { printed = printed; every = every_day }
