use Rattle.std.proofs.Common.{◌≡◌, ap, ◌∙◌, arith, length}
use Rattle.programs.specs.Indexes.{noted, places_of}
use Rattle.programs.proofs.Places.{known_vector, within_pushed}
use Rattle.programs.proofs.known.Known.with_vector.Goals as goal

pub invariant_of-result : goal.invariant_of-result
invariant_of-result c =
    let same : c.len-place.result ≡ length c.args.self.outlines.items = omega (arith, c.len-place.ensures, c.args.self.outlines.ok) in
    record { within = within_pushed c.args.self.outlines.items _ c.args.outline (places_of c.args.self.vectors) _ c.args.name.now c.in_ok-push.ensures.items (c.in_ok-with.ensures ∙ ap (noted (places_of c.args.self.vectors) c.args.name.now) same) c.args.self.within }

pub returns : goal.returns
returns c =
    let same : c.len-place.result ≡ length c.args.self.outlines.items = omega (arith, c.len-place.ensures, c.args.self.outlines.ok) in
    known_vector c.args.self.outlines.items _ (places_of c.args.self.vectors) _ (places_of c.args.self.results) c.args.name.now c.args.outline c.in_ok-push.ensures.items c.args.self.within (c.in_ok-with.ensures ∙ ap (noted (places_of c.args.self.vectors) c.args.name.now) same)
