use Rattle.held_answers.proofs.Printing.{print_law}
use Rattle.held_answers.proofs.laws.print_law.Goals as goal

pub returns : goal.returns
returns c = print_law c.columns_fit.ensures c.typed_law.ensures c.column_law.ensures c.kind_law.ensures c.written_law.ensures
