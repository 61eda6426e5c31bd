-- Columns: their lengths, and the slots at their places.
use Rattle.std.proofs.Common.{◌≡◌, ℕ, zero, suc, ◌<◌, ◌≤◌, ℤ, Bool, List, [], ◌∷◌, length, get_or, refl, ap, sym, ◌∙◌, arith}
use Rattle.std.specs.Prelude.{Option, Some, slice_get}
use Rattle.std.specs.Option.{option_map}
use Rattle.std.proofs.lemmas.List.{length-map}
use Rattle.std.proofs.lemmas.Option.{slice_get-map, slice_get-get_or}
use Rattle.control_vectors.specs.Controls.{Control, control_at, control_list}
use Rattle.control_vectors.proofs.ControlLaws.{length-control_list, slice_get-control_list}
use Rattle.struct_vectors.specs.Columns.{some_slots, marked_slot, marked_slots}
use Rattle.struct_vectors.specs.Forms.{value_of, IsWhole}
use Rattle.struct_vectors.specs.declared.forms.Form.{Form}
use Rattle.struct_vectors.specs.declared.forms.Form.TheVariants.{Narrow, NarrowWithEmpties, Wide, WideWithEmpties, Symbolic}

-- ---- lengths

pub length-some_slots : (xs : List ℤ) → length (some_slots xs) ≡ length xs
length-some_slots xs = length-map xs (λ (x : ℤ). Some x)

pub length-marked_slots : (xs : List ℤ) (marks : List Bool) → length marks ≡ length xs → length (marked_slots xs marks) ≡ length xs
length-marked_slots [] marks e = refl
length-marked_slots (x ∷ xs) [] e = absurd (omega arith)
length-marked_slots (x ∷ xs) (m ∷ marks) e = ap suc (length-marked_slots xs marks (omega arith))

pub length-control_slots : (c : Control) (n : ℕ) → length (some_slots (control_list c n)) ≡ n
length-control_slots c n = length-some_slots (control_list c n) ∙ length-control_list c n

-- ---- slots at a place

pub slice_get-some_slots : (xs : List ℤ) (i : ℕ) (x : ℤ) → i < length xs → x ≡ get_or xs i x → slice_get (some_slots xs) i ≡ Some (Some x)
slice_get-some_slots xs i x h e = slice_get-map (λ (y : ℤ). Some y) xs i ∙ ap (option_map (λ (y : ℤ). Some y)) (slice_get-get_or xs i x h ∙ ap (λ (y : ℤ). Some y) (sym e))

pub slice_get-marked_slots : (xs : List ℤ) (marks : List Bool) (i : ℕ) (x : ℤ) (m : Bool) → i < length xs → length marks ≡ length xs → x ≡ get_or xs i x → m ≡ get_or marks i m → slice_get (marked_slots xs marks) i ≡ Some (marked_slot x m)
slice_get-marked_slots [] marks i x m h e ex em = absurd (omega arith)
slice_get-marked_slots (y ∷ xs) [] i x m h e ex em = absurd (omega arith)
slice_get-marked_slots (y ∷ xs) (k ∷ marks) zero x m h e ex em = rw (ex, em) refl
slice_get-marked_slots (y ∷ xs) (k ∷ marks) (suc i) x m h e ex em = slice_get-marked_slots xs marks i x m (omega arith) (omega arith) ex em

pub slice_get-control_slots : (c : Control) (n i : ℕ) → i < n → slice_get (some_slots (control_list c n)) i ≡ Some (Some (control_at c i))
slice_get-control_slots c n i h = slice_get-map (λ (y : ℤ). Some y) (control_list c n) i ∙ ap (option_map (λ (y : ℤ). Some y)) (slice_get-control_list c n i h)

-- a column has at most 2^22 slots
pub few_slots : (form : Form) → IsWhole form → length (value_of form).slots ≤ 4194304
few_slots (Narrow xs) h = omega (arith, length-some_slots xs.items)
few_slots (NarrowWithEmpties xs marks) h = omega (arith, length-marked_slots xs.items marks.items h.1)
few_slots (Wide xs) h = omega (arith, length-some_slots xs.items)
few_slots (WideWithEmpties xs marks) h = omega (arith, length-marked_slots xs.items marks.items h.1)
few_slots (Symbolic c n) h = omega (arith, length-control_slots c n)

-- the slot that a number and its mark give
pub marked_at : (xs : List ℤ) (marks : List Bool) (i : ℕ) (x z : ℤ) (m : Bool) (r : Option ℤ) → i < length xs → length marks ≡ length xs → x ≡ get_or xs i x → m ≡ get_or marks i m → x ≡ z → r ≡ marked_slot z m → slice_get (marked_slots xs marks) i ≡ Some r
marked_at xs marks i x z m r h e ex em same is =
    slice_get-marked_slots xs marks i x m h e ex em ∙ ap (λ (y : Option ℤ). Some y) (ap (λ (y : ℤ). marked_slot y m) same ∙ sym is)
