use Rattle.key_paths.specs.Paths.{IsPath}
use Rattle.key_paths.specs.Substructures.{is_before}
use Rattle.programs.proofs.Merging.{rises_merged, merged-all}
use Rattle.programs.proofs.drafts.Draft.of_two.Goals as goal

pub invariant_of-result : goal.invariant_of-result
invariant_of-result c =
    rw (c.in_ok-paths.ensures, c.as_slice.ensures.value, c.as_slice-2.ensures.value) (rises_merged _ _ c.first.invariant.0 c.second.invariant.0, merged-all IsPath is_before _ _ c.first.invariant.1 c.second.invariant.1)
