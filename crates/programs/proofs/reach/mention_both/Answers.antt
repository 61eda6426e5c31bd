use Rattle.std.proofs.Common.{◌∷◌, []}
use Rattle.programs.specs.Indexes.{places_of}
use Rattle.programs.proofs.Marks.{wants_both}
use Rattle.programs.proofs.reach.mention_both.Goals as goal

pub returns : goal.returns
returns c = wants_both (places_of c.args.wanted) _ _ (c.args.a.now ∷ []) (c.args.b.now ∷ []) c.in_ok-first.ensures c.in_ok-now.ensures
