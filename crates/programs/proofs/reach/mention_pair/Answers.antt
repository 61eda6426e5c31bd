use Rattle.programs.specs.Indexes.{places_of}
use Rattle.programs.specs.Mentions.{operand_names}
use Rattle.programs.proofs.Marks.{wants_both}
use Rattle.programs.proofs.reach.mention_pair.Goals as goal

pub returns : goal.returns
returns c = wants_both (places_of c.args.wanted) _ _ (operand_names c.args.args.now.x) (operand_names c.args.args.now.y) c.in_ok-first.ensures c.in_ok-now.ensures
