use Rattle.std.proofs.Common.{◌≡◌, ◌≤◌, ◌^◌, ◌++◌, ℕ, drop}
use Rattle.std.specs.Vec.Iter.{into_iter_items}
use Rattle.table_load.specs.HeldColumns.{AreColumns}
use Rattle.table_load.specs.Vectors.{attributes_in}
use Rattle.table_load.proofs.vectors.attributes_of.Given as goal

abbrev pub invariant-loop-column : goal.invariant-loop-column
invariant-loop-column l = record {
  so_far : l.attributes.items ++ attributes_in l.codes (drop l.i l.are_texts) (into_iter_items l.column-iterator) (drop l.i l.defs) ≡ attributes_in l.codes l.are_texts l.fn.columns.items l.defs;
  whole : (m : ℕ) × (n : ℕ) × (n ≤ 2 ^ 20) × AreColumns m n (drop l.i l.are_texts) (into_iter_items l.column-iterator);
}
