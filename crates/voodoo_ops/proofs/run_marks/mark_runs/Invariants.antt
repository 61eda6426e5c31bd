use Rattle.std.proofs.Common.{◌≡◌, ℕ, ◌<◌, true, false, length, take, get_or}
use Rattle.std.specs.List.{list_any}
use Rattle.programs.specs.Vectors.{seen_attributes}
use Rattle.voodoo_ops.specs.Attributes.{below}
use Rattle.control_vectors.specs.Runs.{differs}
use Rattle.voodoo_ops.proofs.run_marks.mark_runs.Given as goal

abbrev pub invariant-loop-attribute : goal.invariant-loop-attribute
invariant-loop-attribute l = record {
  each : length l.marks ≡ l.v.length;
  first : 0 < length l.marks → get_or l.marks 0 false ≡ true;
  later : (i : ℕ) → 0 < i → i < length l.marks → get_or l.marks i false ≡ list_any (λ t. differs t.1 i) (below l.run (take l.attribute-index (seen_attributes l.v.attributes)));
}
