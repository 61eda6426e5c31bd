-- Where the runs of a control vector's values begin.
use Rattle.std.proofs.Common.{◌≡◌, ℕ, zero, suc, ◌+◌, ◌-◌, ◌*◌, ◌/◌, ◌%◌, ◌<◌, ◌≤◌, ℤ, pos, ◌+ℤ◌, Bool, true, false, ◌||◌, ◌&&◌, not, ◌⊎◌, [], ◌∷◌, get_or, length, refl, sym, ap, ◌∙◌, arith, inl, inr, Some, None}
use Rattle.std.specs.Prelude.{◌==◌, ◌^◌, if◌then◌else◌, slice_get}
use Rattle.std.specs.Ordering.{int_eq}
use Rattle.std.proofs.lemmas.Bool.{eqb-true, eqb-false, eq-eqb, ne_eqb, cases_Bool}
use Rattle.std.proofs.lemmas.Bool.Decides.{same_from_decides, Decides-eqb, Decides-int_eq, Decides-like}
use Rattle.std.proofs.lemmas.Int.{ints}
use Rattle.std.proofs.lemmas.Option.{get_or_from_slice_get}
use Rattle.std.proofs.Math.Dec.{eqb-suc-zero}
use Rattle.std.proofs.Math.Nat.{mod-one, mod-eq_of_lt, zero-mod}
use Rattle.control_vectors.specs.Slots.{Slot}
use Rattle.control_vectors.specs.Controls.{Control, control_at, control_list, rest_at, rest_of}
use Rattle.control_vectors.specs.Closed.{is_multiple}
use Rattle.control_vectors.specs.Runs.{begins, run_marks, slot_eq}
use Rattle.control_vectors.proofs.RunLaws.{begins_side_by_side, length_run_marks, length_side_by_side}
use Rattle.struct_vectors.specs.Columns.{some_slots}
use Rattle.struct_vectors.proofs.ColumnLaws.{slice_get-control_slots}
use Rattle.run_infer.specs.declared.inferring.Runs.{Runs}
use Rattle.run_infer.specs.declared.inferring.Runs.TheVariants.{One, Uniform, ByValue}
use Rattle.run_infer.specs.Inferred.{HasRuns, begins_at, inferred, stepped, tuples_of}
use Rattle.run_infer.specs.Marks.{AreMarks}
use Rattle.run_infer.proofs.MarkLaws.{are_marks, mark_at}
use Rattle.run_infer.proofs.Divisions.{leaves, rests_alike, quotient_same, quotient_more, quotient_of_place, quotient_of_step, length_from, step_from}

-- ---- a run begins where a value differs from the one before
value_slot : (c : Control) (n i : ℕ) → i < n → get_or (some_slots (control_list c n)) i None ≡ Some (control_at c i)
value_slot c n i h = get_or_from_slice_get (some_slots (control_list c n)) i (Some (control_at c i)) None (slice_get-control_slots c n i h)

or_false : (b : Bool) → (b || false) ≡ b
or_false true = refl
or_false false = refl

pub begins_control : (c : Control) (n i : ℕ) → i < n → begins (tuples_of c n) i ≡ begins_at c i
begins_control c n i h =
    let xs = some_slots (control_list c n) in
    begins_side_by_side n i (xs ∷ []) h
    ∙ ap (λ (s : Slot). i == 0 || (not (slot_eq s (get_or xs (i - 1) None)) || false)) (value_slot c n i h)
    ∙ ap (λ (s : Slot). i == 0 || (not (slot_eq (Some (control_at c i)) s) || false)) (value_slot c n (i - 1) (omega (arith, h)))
    ∙ ap (λ (b : Bool). i == 0 || b) (or_false (not (int_eq (control_at c i) (control_at c (i - 1)))))

-- values are alike where what stands above the start is
values_alike : (c : Control) (i k : ℕ) → int_eq (control_at c i) (control_at c k) ≡ (rest_at c i == rest_at c k)
values_alike c i k = by c.start (rest_at c i) (rest_at c k)
  where
    by : (z : ℤ) (a b : ℕ) → int_eq (z +ℤ pos a) (z +ℤ pos b) ≡ (a == b)
    by z a b = same_from_decides (int_eq (z +ℤ pos a) (z +ℤ pos b)) (a == b) (Decides-int_eq (z +ℤ pos a) (z +ℤ pos b)) (Decides-like (a == b) (λ e. ap (λ n. z +ℤ pos n) e) (λ e. omega (arith, ints)) (Decides-eqb a b))

begins_next : (c : Control) (j : ℕ) → begins_at c (suc j) ≡ not (rest_at c (suc j) == rest_at c j)
begins_next c j =
    let before : suc j - 1 ≡ j = omega arith in
    rw (eqb-suc-zero j, before) (ap not (values_alike c (suc j) j))

-- ---- one run, and runs of one length
abbrev alike : Control → ℕ → Bool
alike c j = rest_at c (suc j) == rest_at c j

one_run : (c : Control) → ((j : ℕ) → alike c j ≡ true) → HasRuns c One
one_run c e n zero h = begins_control c n zero h
one_run c e n (suc j) h = begins_control c n (suc j) h ∙ begins_next c j ∙ ap not (e j) ∙ sym (eqb-suc-zero j)

uniform_runs : (c : Control) (k : ℕ) → 1 ≤ k → ((j : ℕ) → alike c j ≡ not (is_multiple (suc j) k)) → HasRuns c (Uniform k)
uniform_runs c k few e = (few, at)
  where
    not-not : (b : Bool) → not (not b) ≡ b
    not-not true = refl
    not-not false = refl

    at : (n i : ℕ) → i < n → begins (tuples_of c n) i ≡ is_multiple i k
    at n zero h = begins_control c n zero h ∙ sym (eq-eqb (0 % k) 0 (zero-mod k))
    at n (suc j) h = begins_control c n (suc j) h ∙ begins_next c j ∙ ap not (e j) ∙ not-not (is_multiple (suc j) k)

-- ---- the three rules
no_step : (c : Control) → c.step ≡ 0 → HasRuns c One
no_step c e = one_run c (λ j. eq-eqb (rest_at c (suc j)) (rest_at c j) (ap (λ n. rest_of (n / c.divisor) c.modulus) (ap (λ s. suc j * s) e ∙ omega arith ∙ ap (λ s. j * s) (sym e))))

no_rest : (c : Control) → c.modulus ≡ 1 → HasRuns c One
no_rest c e = one_run c (λ j. eq-eqb (rest_at c (suc j)) (rest_at c j) (none (suc j) ∙ sym (none j)))
  where
    none : (i : ℕ) → rest_at c i ≡ 0
    none i = ap (rest_of ((i * c.step) / c.divisor)) e ∙ mod-one ((i * c.step) / c.divisor)

moves_on : (m : ℕ) → (m == 1) ≡ false → leaves 1 m ≡ false
moves_on zero e = refl
moves_on (suc zero) e = cc
moves_on (suc (suc p)) e = rw (eqb-suc-zero (suc p)) (ap (λ r. r == 0) (mod-eq_of_lt (omega arith)))

of_places : (c : Control) → 0 < c.step → (c.modulus == 1) ≡ false → 1 ≤ c.divisor → is_multiple c.divisor c.step ≡ true → HasRuns c (Uniform (c.divisor / c.step))
of_places c some m h e = uniform_runs c (c.divisor / c.step) (length_from c.step c.divisor h e) (λ j. by j (c.divisor / c.step) (length_from c.step c.divisor h e) (place j) (place (suc j)) (cases_Bool (is_multiple (suc j) (c.divisor / c.step))))
  where
    place : (i : ℕ) → rest_at c i ≡ rest_of (i / (c.divisor / c.step)) c.modulus
    place i = ap (λ q. rest_of q c.modulus) (quotient_of_place i c.step c.divisor some e)

    by : (j k : ℕ) → 1 ≤ k → rest_at c j ≡ rest_of (j / k) c.modulus → rest_at c (suc j) ≡ rest_of (suc j / k) c.modulus → (is_multiple (suc j) k ≡ true) ⊎ (is_multiple (suc j) k ≡ false) → alike c j ≡ not (is_multiple (suc j) k)
    by j k few here next (inl t) =
        ap (λ r. r == rest_at c j) (next ∙ ap (λ q. rest_of q c.modulus) (quotient_more j k few t))
        ∙ ap (λ r. rest_of (j / k + 1) c.modulus == r) here
        ∙ rests_alike (j / k) 1 c.modulus
        ∙ moves_on c.modulus m
        ∙ sym (ap not t)
    by j k few here next (inr t) =
        eq-eqb (rest_at c (suc j)) (rest_at c j) (next ∙ ap (λ q. rest_of q c.modulus) (quotient_same j k few t) ∙ sym here)
        ∙ sym (ap not t)

-- multiples of a number that the modulus divides are one run, and of any other each is a run of its own
stepped_runs : (c : Control) (by m : ℕ) → 1 ≤ by → ((j : ℕ) → alike c j ≡ leaves by m) → HasRuns c (stepped by m)
stepped_runs c by zero some each = uniform_runs c 1 (omega arith) (λ j. each j ∙ ne_eqb by 0 (omega arith) ∙ sym (ap (λ r. not (r == 0)) (mod-one (suc j))))
stepped_runs c by (suc p) some each = rw (eqb-suc-zero p) (on (is_multiple by (suc p)) (λ j. each j ∙ rw (eqb-suc-zero p) refl))
  where
    on : (b : Bool) → ((j : ℕ) → alike c j ≡ b) → HasRuns c (if true && b then One else Uniform 1)
    on true same = one_run c same
    on false other = uniform_runs c 1 (omega arith) (λ j. other j ∙ sym (ap (λ r. not (r == 0)) (mod-one (suc j))))

of_steps : (c : Control) → (c.step == 0) ≡ false → 1 ≤ c.divisor → is_multiple c.step c.divisor ≡ true → HasRuns c (stepped (c.step / c.divisor) c.modulus)
of_steps c some h e = stepped_runs c by c.modulus (step_from c.step c.divisor some e) (λ j. ap (λ r. r == rest_at c j) (next j) ∙ ap (λ r. rest_of (j * by + by) c.modulus == r) (place j) ∙ rests_alike (j * by) by c.modulus)
  where
    by : ℕ
    by = c.step / c.divisor

    place : (i : ℕ) → rest_at c i ≡ rest_of (i * by) c.modulus
    place i = ap (λ q. rest_of q c.modulus) (quotient_of_step i c.step c.divisor h e)

    next : (j : ℕ) → rest_at c (suc j) ≡ rest_of (j * by + by) c.modulus
    next j = place (suc j) ∙ ap (λ q. rest_of q c.modulus) (let q : suc j * by ≡ j * by + by = omega arith in q)

-- what is inferred holds of the runs
pub inferred_runs : (c : Control) → 1 ≤ c.divisor → HasRuns c (inferred c)
inferred_runs c h = on (c.step == 0) (c.modulus == 1) (is_multiple c.divisor c.step) (is_multiple c.step c.divisor) refl refl refl refl
  where
    on : (none one places steps : Bool) → (c.step == 0) ≡ none → (c.modulus == 1) ≡ one → is_multiple c.divisor c.step ≡ places → is_multiple c.step c.divisor ≡ steps
        → HasRuns c (if none || one then One else if places then Uniform (c.divisor / c.step) else if steps then stepped (c.step / c.divisor) c.modulus else ByValue)
    on true one places steps n o p s = no_step c (eqb-true c.step 0 n)
    on false true places steps n o p s = no_rest c (eqb-true c.modulus 1 o)
    on false false true steps n o p s = let some = eqb-false c.step 0 n in of_places c (omega arith) o h p
    on false false false true n o p s = of_steps c n h s
    on false false false false n o p s = tt

pub has_runs : (c : Control) (r : Runs) → 1 ≤ c.divisor → r ≡ inferred c → HasRuns c r
has_runs c r h e = rw e (inferred_runs c h)

-- ---- what the runs say of a place
pub one_begins : (c : Control) (i : ℕ) → HasRuns c One → (i == 0) ≡ begins_at c i
one_begins c i h = sym (h (suc i) i (omega arith)) ∙ begins_control c (suc i) i (omega arith)

pub uniform_begins : (c : Control) (k i : ℕ) → HasRuns c (Uniform k) → is_multiple i k ≡ begins_at c i
uniform_begins c k i h = sym (h.1 (suc i) i (omega arith)) ∙ begins_control c (suc i) i (omega arith)

-- ---- the marks of a list of values
length_tuples : (c : Control) (n : ℕ) → length (tuples_of c n) ≡ n
length_tuples c n = length_side_by_side n (some_slots (control_list c n) ∷ [])

pub length_control_marks : (c : Control) (n : ℕ) → length (run_marks (tuples_of c n)) ≡ n
length_control_marks c n = length_run_marks (tuples_of c n) ∙ length_tuples c n

pub are_control_marks : (c : Control) (n : ℕ) → n ≤ 2 ^ 22 → AreMarks (run_marks (tuples_of c n))
are_control_marks c n few = are_marks (tuples_of c n) (omega (arith, length_tuples c n))

pub control_mark : (c : Control) (n i : ℕ) (r : Bool) → i < length (run_marks (tuples_of c n)) → r ≡ begins_at c i → slice_get (run_marks (tuples_of c n)) i ≡ Some r
control_mark c n i r h e =
    let within : i < n = omega (arith, h, length_control_marks c n) in
    mark_at (tuples_of c n) i (omega (arith, length_tuples c n)) ∙ ap (λ (b : Bool). Some b) (begins_control c n i within ∙ sym e)
