use Rattle.std.proofs.Common.{ℕ, List, Bool}
use Rattle.std.specs.Prelude.{not}
use Rattle.std.proofs.lemmas.List.Elements.{All-filter}
use Rattle.key_paths.specs.Paths.{IsPath}
use Rattle.key_paths.specs.Substructures.{is_before, is_at_or_below}
use Rattle.programs.specs.Faults.{IsClear}
use Rattle.programs.proofs.Merging.{rises_merged, merged-all}
use Rattle.programs.proofs.Projections.{rises_filter}
use Rattle.programs.proofs.drafts.Draft.upserted.Goals as goal

pub invariant_of-result : goal.invariant_of-result
invariant_of-result c =
    let a = c.paths.ensures in
    let clear : IsClear c.args.a.now = record { rises = a.rises; paths = a.paths; clear = a.clear } in
    let other : List ℕ → Bool = λ x. not (is_at_or_below x c.args.p.now) in
    rw (c.in_ok-paths.ensures, c.as_slice.ensures.value, c.as_slice-2.ensures.value, c.in_ok-others.ensures, a.value)
    (rises_merged _ _ c.first.invariant.0 (rises_filter other c.args.a.now clear), merged-all IsPath is_before _ _ c.first.invariant.1 (All-filter other IsPath c.args.a.now.paths a.paths))
