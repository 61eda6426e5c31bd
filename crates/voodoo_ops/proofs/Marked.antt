-- The marks of runs, and what is folded over them.
use Rattle.std.proofs.Common.{◌≡◌, Bool, List, length, map, sym, ap, ◌∙◌, refl}
use Rattle.control_vectors.specs.Slots.{Slot}
use Rattle.programs.specs.Mentions.{Label}
use Rattle.programs.specs.Vectors.{Vector, slots_of}
use Rattle.voodoo_ops.specs.Attributes.{below}
use Rattle.control_vectors.proofs.RunLaws.{length_run_marks, length_side_by_side}
use Rattle.voodoo_ops.specs.Runs.{tuples_below, run_marks}

pub length_marks : (v : Vector) (run : Label) (marks : List Bool) → marks ≡ run_marks v run → length marks ≡ v.len
length_marks v run marks m = ap (λ (l : List Bool). length l) m ∙ length_run_marks (tuples_below v run) ∙ length_side_by_side v.len (map (λ t. t.1) (below run v.attributes))

pub as_many : (v w : Vector) (run : Label) (marks : List Bool) (xs : List Slot) → v ≡ w → marks ≡ run_marks v run → length xs ≡ w.len → length marks ≡ length xs
as_many v w run marks xs is m e = length_marks v run marks m ∙ ap (λ (u : Vector). u.len) is ∙ sym e

-- what is made of the marks and the values of a vector
pub over_runs : {R : Type 0} (f : List Bool → List Slot → R) (v w : Vector) (run val : Label) (marks : List Bool) (xs : List Slot) → v ≡ w → marks ≡ run_marks v run → xs ≡ slots_of w.attributes val → f marks xs ≡ f (run_marks w run) (slots_of w.attributes val)
over_runs f v w run val marks xs is m e = rw (m, is, e) refl

-- as many marks as values
pub same_count : (w : Vector) (run val : Label) (xs : List Slot) → xs ≡ slots_of w.attributes val → length xs ≡ w.len → length (run_marks w run) ≡ length (slots_of w.attributes val)
same_count w run val xs e many = length_marks w run (run_marks w run) refl ∙ sym many ∙ ap (λ (l : List Slot). length l) e

pub value_count : (w : Vector) (val : Label) (xs : List Slot) → xs ≡ slots_of w.attributes val → length xs ≡ w.len → length (slots_of w.attributes val) ≡ w.len
value_count w val xs e many = ap (λ (l : List Slot). length l) (sym e) ∙ many
