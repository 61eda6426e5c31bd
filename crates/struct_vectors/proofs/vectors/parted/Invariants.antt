use Rattle.std.proofs.Common.{◌≡◌, ◌++◌}
use Rattle.std.specs.Vec.Iter.{into_iter_items}
use Rattle.struct_vectors.specs.Vectors.{paths_of, columns_of}
use Rattle.struct_vectors.proofs.vectors.parted.Given as goal

abbrev pub invariant-loop-path : goal.invariant-loop-path
invariant-loop-path l = record {
  paths_so_far : l.paths.items ++ paths_of (into_iter_items l.path-iterator) ≡ paths_of l.fn.attributes.items;
  columns_so_far : l.columns.items ++ columns_of (into_iter_items l.path-iterator) ≡ columns_of l.fn.attributes.items;
}
