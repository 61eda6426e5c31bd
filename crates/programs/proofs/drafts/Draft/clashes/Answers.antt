use Rattle.std.proofs.Common.{ap, ◌∙◌, sym}
use Rattle.programs.specs.Faults.{too_deep}
use Rattle.programs.proofs.Depths.{none_deep}
use Rattle.programs.proofs.drafts.Draft.clashes.Goals as goal

pub returns-then-has_root-clause-shallow : goal.returns-then-has_root-clause-shallow
returns-then-has_root-clause-shallow c = ap too_deep (sym c.self.view_is) ∙ none_deep c.self.inside.paths.items c.self.invariant.1

pub returns-else-has_root-clause-shallow : goal.returns-else-has_root-clause-shallow
returns-else-has_root-clause-shallow c = ap too_deep (sym c.self.view_is) ∙ none_deep c.self.inside.paths.items c.self.invariant.1
