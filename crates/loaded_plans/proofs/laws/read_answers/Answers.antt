use Rattle.loaded_plans.proofs.laws.read_answers.Goals as goal

pub returns : goal.returns
returns c text defs tables q t read typed loaded = c.loaded_answers.ensures.query_kept defs tables q t loaded (c.answer_law.ensures text q read) typed
