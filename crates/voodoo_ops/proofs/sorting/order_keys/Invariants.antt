use Rattle.std.proofs.Common.{◌≡◌, take, map, length}
use Rattle.std.specs.Prelude.{All}
use Rattle.programs.specs.Vectors.{known}
use Rattle.voodoo_ops.specs.Envs.{env_in}
use Rattle.voodoo_ops.specs.Moves.{sort_key}
use Rattle.voodoo_ops.specs.Sorting.{cells_of_key, cells_of_keys}
use Rattle.voodoo_ops.proofs.sorting.order_keys.Given as goal

abbrev pub invariant-loop-k : goal.invariant-loop-k
invariant-loop-k l = record {
  keys : cells_of_keys l.columns.items ≡ map cells_of_key (map (sort_key (known (env_in l.made l.a))) (take l.k l.keys));
  long : All (λ k. length k.column.now.slots ≡ (known (env_in l.made l.a)).len) l.columns.items;
}
