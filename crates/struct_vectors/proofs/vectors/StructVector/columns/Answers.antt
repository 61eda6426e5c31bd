use Rattle.std.proofs.Common.{sym, ap, ◌∙◌}
use Rattle.struct_vectors.specs.Vectors.{VectorValue, columns_of}
use Rattle.struct_vectors.proofs.VectorLaws.{columns_of-zip}
use Rattle.struct_vectors.proofs.vectors.StructVector.columns.Goals as goal

pub returns-clause-columns : goal.returns-clause-columns
returns-clause-columns c =
    c.as_slice.ensures.value ∙ sym (columns_of-zip c.self.inside.paths.items c.self.inside.columns.items c.self.invariant.0) ∙ ap (λ (v : VectorValue). columns_of v.attributes) c.self.view_is
