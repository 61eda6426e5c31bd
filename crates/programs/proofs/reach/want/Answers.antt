use Rattle.programs.specs.Indexes.{places_of}
use Rattle.programs.proofs.Marks.{wants_one}
use Rattle.programs.proofs.reach.want.Goals as goal

pub returns : goal.returns
returns c = wants_one (places_of c.args.wanted) _ c.args.a.now 0 c.in_ok-now.ensures
