use Rattle.std.proofs.Common.{to_z, of_z, arith}
use Rattle.std.specs.Int.{w128}
use Rattle.std.proofs.lemmas.Int.{ints}
use Rattle.struct_vectors.proofs.ColumnLaws.{marked_at}
use Rattle.struct_vectors.proofs.forms.marked_narrow_slot.Goals as goal

pub returns-clause-slot : goal.returns-clause-slot
returns-clause-slot c =
    marked_at c.args.numbers.now.items c.args.marks.now.items c.args.i c.index.result.now (to_z w128 (of_z w128 c.from.result)) c.index-2.result.now c.marked.result c.requires.within c.requires.lengths c.index.ensures c.index-2.ensures (omega (arith, ints)) c.marked.ensures
