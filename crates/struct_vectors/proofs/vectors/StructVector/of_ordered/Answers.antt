use Rattle.std.proofs.Common.{ap}
use Rattle.struct_vectors.specs.Vectors.{vector_of}
use Rattle.struct_vectors.proofs.ArrangeLaws.{kept_apart, kept_lengths}
use Rattle.struct_vectors.proofs.vectors.StructVector.of_ordered.Goals as goal

pub invariant_of-result : goal.invariant_of-result
invariant_of-result c =
    let xs = c.args.attributes.items in (
      kept_lengths xs c.in_ok-paths.paths.items c.in_ok-paths.columns.items c.in_ok-paths.ensures.paths c.in_ok-paths.ensures.columns,
      rw (kept_apart xs c.in_ok-paths.paths.items c.in_ok-paths.columns.items c.in_ok-paths.ensures.paths c.in_ok-paths.ensures.columns) c.requires,
    )

pub returns : goal.returns
returns c = ap (vector_of c.args.n) (kept_apart c.args.attributes.items c.in_ok-paths.paths.items c.in_ok-paths.columns.items c.in_ok-paths.ensures.paths c.in_ok-paths.ensures.columns)
