-- Fronts of the slots that a form keeps.
use Rattle.std.proofs.Common.{◌≡◌, ℕ, zero, suc, ◌≤◌, ◌^◌, ℤ, Bool, List, [], ◌∷◌, length, take, refl, ap, sym, ◌∙◌, arith, Some, Vec, Global}
use Rattle.std.specs.Prelude.{Option}
use Rattle.std.proofs.lemmas.List.{take-map, length-take}
use Rattle.std.proofs.lemmas.List.FromFn.{take-map-range_with_len}
use Rattle.control_vectors.specs.Controls.{Control, control_at, control_list}
use Rattle.struct_vectors.specs.Columns.{some_slots, marked_slot, marked_slots}
use Rattle.struct_vectors.specs.Forms.{value_of, IsWhole, IsFrontOf}
use Rattle.struct_vectors.specs.declared.forms.Form.{Form}
use Rattle.struct_vectors.specs.declared.forms.Form.TheVariants.{Narrow, NarrowWithEmpties, Wide, WideWithEmpties, Symbolic}
use Rattle.struct_vectors.proofs.ColumnLaws.{length-marked_slots, length-control_slots}

pub take-marked_slots : (n : ℕ) (xs : List ℤ) (marks : List Bool) → take n (marked_slots xs marks) ≡ marked_slots (take n xs) (take n marks)
take-marked_slots zero xs marks = refl
take-marked_slots (suc n) [] marks = refl
take-marked_slots (suc n) (x ∷ xs) [] = refl
take-marked_slots (suc n) (x ∷ xs) (m ∷ marks) = ap (λ (l : List (Option ℤ)). marked_slot x m ∷ l) (take-marked_slots n xs marks)

-- ---- fronts of forms

pub few_marked : (form : Form) (xs : List ℤ) (marks : List Bool) (n k : ℕ) → length (marked_slots xs marks) ≡ k → length marks ≡ length xs → n ≤ k → n ≤ length xs
few_marked form xs marks n k e same h = omega (arith, length-marked_slots xs marks same)

pub front_narrow : (form : Form) (xs ys : Vec ℤ Global) (n : ℕ) → form ≡ Narrow xs → IsWhole form → ys.items ≡ take n xs.items → IsFrontOf n form (Narrow ys)
front_narrow form xs ys n is whole e =
    let w : length xs.items ≤ 2 ^ 22 = rw is at whole in
    rw is (record {
      slots = ap some_slots e ∙ sym (take-map (λ (x : ℤ). Some x) n xs.items);
      form = refl;
      sound = rw e (omega (arith, length-take n xs.items));
    })

pub front_wide : (form : Form) (xs ys : Vec ℤ Global) (n : ℕ) → form ≡ Wide xs → IsWhole form → ys.items ≡ take n xs.items → IsFrontOf n form (Wide ys)
front_wide form xs ys n is whole e =
    let w : length xs.items ≤ 2 ^ 22 = rw is at whole in
    rw is (record {
      slots = ap some_slots e ∙ sym (take-map (λ (x : ℤ). Some x) n xs.items);
      form = refl;
      sound = rw e (omega (arith, length-take n xs.items));
    })

marks_length : (xs : List ℤ) (marks : List Bool) (n : ℕ) → length marks ≡ length xs → length (take n marks) ≡ length (take n xs)
marks_length xs marks n e = omega (arith, length-take n marks, length-take n xs)

pub front_marked_narrow : (form : Form) (xs ys : Vec ℤ Global) (marks ms : Vec Bool Global) (n : ℕ) → form ≡ NarrowWithEmpties xs marks → IsWhole form → ys.items ≡ take n xs.items → ms.items ≡ take n marks.items → IsFrontOf n form (NarrowWithEmpties ys ms)
front_marked_narrow form xs ys marks ms n is whole e f =
    let w : (length xs.items ≤ 2 ^ 22) × (length marks.items ≡ length xs.items) = rw is at whole in
    rw is (record {
      slots = rw (e, f) (sym (take-marked_slots n xs.items marks.items));
      form = refl;
      sound = rw (e, f) (omega (arith, w.0, length-take n xs.items), marks_length xs.items marks.items n w.1);
    })

pub front_marked_wide : (form : Form) (xs ys : Vec ℤ Global) (marks ms : Vec Bool Global) (n : ℕ) → form ≡ WideWithEmpties xs marks → IsWhole form → ys.items ≡ take n xs.items → ms.items ≡ take n marks.items → IsFrontOf n form (WideWithEmpties ys ms)
front_marked_wide form xs ys marks ms n is whole e f =
    let w : (length xs.items ≤ 2 ^ 22) × (length marks.items ≡ length xs.items) = rw is at whole in
    rw is (record {
      slots = rw (e, f) (sym (take-marked_slots n xs.items marks.items));
      form = refl;
      sound = rw (e, f) (omega (arith, w.0, length-take n xs.items), marks_length xs.items marks.items n w.1);
    })

pub front_control : (form : Form) (c : Control) (m n : ℕ) → form ≡ Symbolic c m → IsWhole form → n ≤ length (value_of form).slots → IsFrontOf n form (Symbolic c n)
front_control form c m n is whole h =
    let w : m ≤ 2 ^ 22 = rw is at whole in
    let few : n ≤ m = rw (is, length-control_slots c m) at h in
    rw is (record {
      slots = ap some_slots (sym (take-map-range_with_len (control_at c) 0 m n few)) ∙ sym (take-map (λ (x : ℤ). Some x) n (control_list c m));
      form = refl;
      sound = omega arith;
    })
