-- Control vectors that list the places of pairs.
use Rattle.std.proofs.Common.{◌≡◌, ℕ, zero, suc, ◌*◌, ◌/◌, ◌%◌, ◌<◌, max, ℤ, pos, ◌+ℤ◌, map, refl, ap, ◌∙◌, arith, ◌==◌, false, Some, None}
use Rattle.std.specs.List.{range_with_len}
use Rattle.std.proofs.lemmas.Int.{ints}
use Rattle.std.proofs.lemmas.Bool.Decides.{nat_tests}
use Rattle.std.proofs.lemmas.List.{get_or-map, length-map}
use Rattle.std.proofs.lemmas.List.FromFn.{fill_by_all, length-map-range_with_len, get_or-map-range_with_len}
use Rattle.control_vectors.specs.Controls.{Control, control_of, control_at, control_list, rest_of}
use Rattle.struct_vectors.specs.Columns.{some_slots}
use Rattle.slot_moves.specs.Crosses.{left_places, right_places}

-- slots that a control vector gives, place by place
controlled : (c : Control) (f : ℕ → ℕ) (k : ℕ) → ((i : ℕ) → i < k → control_at c i ≡ pos (f i)) → some_slots (control_list c k) ≡ map (λ i. Some (pos (f i))) (range_with_len 0 k)
controlled c f k each =
    fill_by_all (λ i. Some (pos (f i))) (some_slots (control_list c k)) k None
    (length-map (control_list c k) (λ (x : ℤ). Some x) ∙ length-map-range_with_len (control_at c) 0 k)
    (λ i h. get_or-map (λ (x : ℤ). Some x) (control_list c k) i (pos 0) None (omega (arith, length-map-range_with_len (control_at c) 0 k)) ∙ ap (λ (x : ℤ). Some x) (get_or-map-range_with_len (control_at c) 0 k i i (pos 0) h (omega arith) ∙ each i h))

zero_plus : (n : ℕ) → pos 0 +ℤ pos n ≡ pos n
zero_plus n = omega (arith, ints)

times_one : (i : ℕ) → i * 1 ≡ i
times_one i = omega arith

over_one : (i : ℕ) → i / 1 ≡ i
over_one i = omega arith

pub left_is : (n m k : ℕ) → k ≡ n * m → some_slots (control_list (control_of (pos 0) 1 0 (max m 1)) k) ≡ left_places n m
left_is n zero k e =
    let none : n * 0 ≡ 0 = omega arith in
    rw (e, none) refl
left_is n (suc m) k e =
    let same : max (suc m) 1 ≡ suc m = omega arith in
    rw (e, same) (controlled (control_of (pos 0) 1 0 (suc m)) (λ i. i / suc m) (n * suc m) (λ i h. zero_plus ((i * 1) / suc m) ∙ ap (λ j. pos (j / suc m)) (times_one i)))

rest_suc : (q m : ℕ) → rest_of q (suc m) ≡ q % suc m
rest_suc q m = let e : (suc m == 0) ≡ false = grind (arith, nat_tests) in rw e refl

pub right_is : (n m k : ℕ) → k ≡ n * m → some_slots (control_list (control_of (pos 0) 1 m 1) k) ≡ right_places n m
right_is n zero k e =
    let none : n * 0 ≡ 0 = omega arith in
    rw (e, none) refl
right_is n (suc m) k e =
    rw e (controlled (control_of (pos 0) 1 (suc m) 1) (λ i. i % suc m) (n * suc m) (λ i h. zero_plus (rest_of ((i * 1) / 1) (suc m)) ∙ ap pos (rest_suc ((i * 1) / 1) m) ∙ ap (λ j. pos (j % suc m)) (over_one (i * 1) ∙ times_one i)))
