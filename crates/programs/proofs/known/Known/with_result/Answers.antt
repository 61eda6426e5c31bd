use Rattle.std.proofs.Common.{ap, ◌∙◌, ◌++◌, ◌∷◌, []}
use Rattle.programs.specs.Outlines.{Outline}
use Rattle.programs.specs.Indexes.{places_of}
use Rattle.programs.proofs.Places.{known_result, within_kept}
use Rattle.programs.proofs.known.Known.with_result.Goals as goal

pub invariant_of-result : goal.invariant_of-result
invariant_of-result c = record { within = within_kept c.args.self.outlines.items _ c.none.result (places_of c.args.self.vectors) c.in_ok-push.ensures.items c.args.self.within }

pub returns : goal.returns
returns c =
    known_result c.args.self.outlines.items _ (places_of c.args.self.vectors) (places_of c.args.self.results) _ c.args.name.now 0 (c.in_ok-push.ensures.items ∙ ap (λ (o : Outline). c.args.self.outlines.items ++ o ∷ []) c.none.ensures) c.args.self.within c.in_ok-with.ensures
