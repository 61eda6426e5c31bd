use Rattle.std.proofs.Common.{◌≤◌, length, arith, rules}
use Rattle.std.proofs.lemmas.Grind.{common_steps}
use Rattle.sql_types.proofs.FindingFolds.{none_at}
use Rattle.sql_types.proofs.rules.too_many_columns.Goals as goal

pub returns-in-None : goal.returns-in-None
returns-in-None c =
    let few : length c.args.t.now.columns ≤ 64 = grind (arith, common_steps) in
    rw (none_at 64 c.args.t.now.columns few) (search rules)
