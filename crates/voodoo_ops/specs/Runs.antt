-- Runs of a vector: those of the tuples of its attributes at or below a path (Voodoo, PVLDB 9(14), 2016, section 2.2: controlled folds).
use Rattle.std.specs.Prelude.{ℕ, Bool, ◌&&◌, List, map}
use Rattle.control_vectors.specs.Runs as tuples
use Rattle.control_vectors.specs.Runs.{Tuple, side_by_side, differs}
use Rattle.key_paths.specs.Substructures.{is_at_or_below}
use Rattle.programs.specs.Mentions.{Label}
use Rattle.programs.specs.Vectors.{Attribute, Vector}
use Rattle.voodoo_ops.specs.Attributes.{below}

-- at each place the tuple of the slots at or below a path
abbrev pub tuples_below : Vector → Label → List Tuple
tuples_below v run = side_by_side v.len (map (λ t. t.1) (below run v.attributes))

-- for each place, whether a run of these tuples begins there
abbrev pub run_marks : Vector → Label → List Bool
run_marks v run = tuples.run_marks (tuples_below v run)

-- whether an attribute stands at or below a path and differs at a place from the place before
abbrev pub changes_below : Label → Attribute → ℕ → Bool
changes_below p t i = is_at_or_below t.0 p && differs t.1 i
