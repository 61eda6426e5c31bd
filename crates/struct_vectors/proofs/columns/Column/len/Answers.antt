use Rattle.struct_vectors.proofs.ColumnLaws.{few_slots}
use Rattle.struct_vectors.proofs.columns.Column.len.Goals as goal

pub returns-clause-bounded : goal.returns-clause-bounded
returns-clause-bounded c = rw (← c.self.view_is) (few_slots c.self.inside.form c.self.invariant)
