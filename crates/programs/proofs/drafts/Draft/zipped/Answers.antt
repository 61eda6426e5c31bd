use Rattle.key_paths.specs.Paths.{IsPath}
use Rattle.key_paths.specs.Substructures.{is_before}
use Rattle.programs.proofs.Merging.{rises_merged, merged-all}
use Rattle.programs.proofs.drafts.Draft.zipped.Goals as goal

pub invariant_of-result : goal.invariant_of-result
invariant_of-result c =
    let a = c.paths.ensures in
    let b = c.paths-2.ensures in
    rw (c.in_ok-paths.ensures, a.value, b.value) (rises_merged _ _ a.rises b.rises, merged-all IsPath is_before _ _ a.paths b.paths)
