use Rattle.struct_vectors.proofs.ArrangeLaws.{chain_ascending}
use Rattle.programs.proofs.Nesting.{chain_without_clash}
use Rattle.programs.proofs.shape.Shape.paths_of.Goals as goal

pub returns-clause-ascending : goal.returns-clause-ascending
returns-clause-ascending c =
    let p = c.paths.ensures in
    rw p.value (chain_ascending c.index.result.now.paths (chain_without_clash c.index.result.now p.rises p.paths p.clear))
