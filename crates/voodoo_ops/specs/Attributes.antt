-- Vectors that hand attributes on: Zip, Project and Upsert (Voodoo, PVLDB 9(14), 2016, table 2; lengths and empties are this project's own).
use Rattle.std.specs.Prelude.{ℕ, min, Bool, not, List, [], ◌∷◌, map, filter, None, slice_index_or}
use Rattle.std.specs.List.{range_with_len}
use Rattle.control_vectors.specs.Slots.{Slot}
use Rattle.key_paths.specs.Substructures.{is_before, is_at_or_below}
use Rattle.programs.specs.Mentions.{Label}
use Rattle.programs.specs.Vectors.{Attribute, Vector, slots_of, cut_to}
use Rattle.programs.specs.Merges.{merged}
use Rattle.programs.specs.Moves.{moved}

abbrev pub comes_before : Attribute → Attribute → Bool
comes_before t u = is_before t.0 u.0

-- the attributes at or below a path, and the others
abbrev pub below : Label → List Attribute → List Attribute
below p attributes = filter (λ t. is_at_or_below t.0 p) attributes

abbrev pub beside : Label → List Attribute → List Attribute
beside p attributes = filter (λ t. not (is_at_or_below t.0 p)) attributes

-- Zip: the attributes of both, at the shorter length
abbrev pub zipped : Vector → Vector → Vector
zipped a b =
    let n = min a.len b.len in
    record { len = n; attributes = merged comes_before (cut_to n a.attributes) (cut_to n b.attributes) }

-- Project: the attributes at or below p, with q in place of p at the start of their paths
abbrev pub projected : Vector → Label → Label → Vector
projected a p q = record { len = a.len; attributes = map (λ t. (moved p q t.0, t.1)) (below p a.attributes) }

-- the first n slots, empty past the last one
abbrev pub resized : ℕ → List Slot → List Slot
resized n xs = map (λ i. slice_index_or xs i None) (range_with_len 0 n)

-- Upsert: b's attribute q at p, and a's attributes beside p
abbrev pub upserted : Vector → Label → Vector → Label → Vector
upserted a p b q = record {
  len = a.len;
  attributes = merged comes_before ((p, resized a.len (slots_of b.attributes q)) ∷ []) (beside p a.attributes);
}
