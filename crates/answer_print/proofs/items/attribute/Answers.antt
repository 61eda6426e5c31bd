use Rattle.std.proofs.Common.{refl}
use Rattle.programs.specs.Vectors.{seen}
use Rattle.voodoo_ops.proofs.Seen.{found_length, found_slots, not_found}
use Rattle.answer_print.proofs.items.attribute.Goals as goal

pub unreachable-requires : goal.unreachable-requires
unreachable-requires c = not_found c.args.path.now c.args.v.now (seen c.args.v.now) refl c.in-None.ensures.column c.requires

pub returns-clause-slots : goal.returns-clause-slots
returns-clause-slots c = found_slots c.args.path.now c.args.v.now (seen c.args.v.now) c.in-Some.column.now refl c.in-Some.ensures.column

pub returns-clause-len : goal.returns-clause-len
returns-clause-len c = found_length c.args.path.now c.args.v.now (seen c.args.v.now) c.in-Some.column.now refl c.column_at.ensures.shaped.lengths c.in-Some.ensures.column
