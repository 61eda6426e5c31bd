use Rattle.programs.specs.Vectors.{known}
use Rattle.voodoo_ops.specs.Envs.{env_in}
use Rattle.voodoo_ops.proofs.Seen.{found_length, found_slots, not_found}
use Rattle.voodoo_ops.proofs.reading.attribute.Goals as goal

pub unreachable-requires : goal.unreachable-requires
unreachable-requires c =
    not_found c.args.p.now c.vector.result.now (known (env_in c.args.made.now c.args.a.now)) c.vector.ensures.vector c.in-None.ensures.column c.requires.1

pub returns-clause-slots : goal.returns-clause-slots
returns-clause-slots c =
    found_slots c.args.p.now c.vector.result.now (known (env_in c.args.made.now c.args.a.now)) c.in-Some.column.now c.vector.ensures.vector c.in-Some.ensures.column

pub returns-clause-len : goal.returns-clause-len
returns-clause-len c =
    found_length c.args.p.now c.vector.result.now (known (env_in c.args.made.now c.args.a.now)) c.in-Some.column.now c.vector.ensures.vector c.vector.ensures.shaped.lengths c.in-Some.ensures.column
