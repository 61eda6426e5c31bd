use Rattle.control_plan.proofs.setting.set.Goals as goal

pub returns-in-Level : goal.returns-in-Level
returns-in-Level c = rw c.in-Level.is (c.push_level.ensures c.args.given.now)
