use Rattle.std.proofs.Common.{arith}
use Rattle.std.proofs.lemmas.Grind.{common_steps}
use Rattle.voodoo_text.proofs.Tokens.{tokens_few}
use Rattle.voodoo_text.proofs.line.Line.ahead.Goals as goal

pub returns-clause-few : goal.returns-clause-few
returns-clause-few c = let few = tokens_few c.self.inside.after_name 0 c.self.inside.rest.now in grind (arith, common_steps)
