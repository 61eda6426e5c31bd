use Rattle.std.proofs.Common.{◌≡◌, ◌∙◌}
use Rattle.struct_vectors.specs.Vectors.{paths_of}
use Rattle.programs.proofs.Merging.{rises_ascending}
use Rattle.programs.proofs.Seen.{outline_seen}
use Rattle.programs.proofs.drafts.Draft.of_vector.Goals as goal

pub invariant_of-result : goal.invariant_of-result
invariant_of-result c =
    let same : c.in_ok-paths.paths.items ≡ paths_of c.args.v.now.attributes = c.in_ok-paths.ensures ∙ c.paths.ensures.paths in
    rw same (rises_ascending _ c.paths.ensures.shaped.ascending, c.paths.ensures.shaped.paths)

pub returns : goal.returns
returns c = outline_seen _ _ c.args.v.now (c.from.ensures ∙ c.len.ensures.len) (c.in_ok-paths.ensures ∙ c.paths.ensures.paths)
