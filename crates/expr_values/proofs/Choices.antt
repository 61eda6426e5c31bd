-- COALESCE at one place: each operand fills what is empty before it.
use Rattle.std.proofs.Common.{◌≡◌, ℕ, zero, suc, ◌-◌, ℤ, true, false, not, ◌&&◌, nat_le, List, [], ◌∷◌, map, Option, Some, None, Result, Ok, Err, IfOk, refl, sym, ap, ◌∙◌, subst}
use Rattle.std.specs.List.{list_all}
use Rattle.control_vectors.specs.Slots.{Slot, Cell, in_128_bits}
use Rattle.control_vectors.specs.declared.Over.{Over}
use Rattle.control_vectors.specs.declared.PairKind.TheVariants as pair
use Rattle.slot_wise.specs.Pairs.{pair_slot}
use Rattle.sql_values.specs.Values.{Value, number, text, truth, null}
use Rattle.typed_trees.specs.declared.kinds.Kind.{Kind}
use Rattle.typed_trees.specs.declared.kinds.Kind.TheVariants.{Number, Date, Text, Truth}
use Rattle.typed_trees.specs.Kinds.{is_truth}
use Rattle.typed_trees.specs.Scales.{greatest}
use Rattle.table_load.specs.Databases.{coded}
use Rattle.typed_values.specs.Narrow.{counted}
use Rattle.typed_values.specs.Intervals.{raised}
use Rattle.typed_values.specs.Values.{Valued, Operand, with, or_over, first_there, rescaled, at_scale, all_at_one_scale, more_valued, all_valued}
use Rattle.value_laws.specs.Laws.{is_of, IsOf}
use Rattle.expr_steps.specs.declared.steps.Source.{Source}
use Rattle.expr_steps.specs.Codes.{Code, from_source, one, and_then}
use Rattle.expr_steps.specs.Lowered.{Bytes, Part, times, raise, filled, filled_from, most_scale}
use Rattle.expr_steps.specs.Lowered as codes
use Rattle.expr_values.specs.Laws.{is_known, value_cell}
use Rattle.expr_values.specs.Places.{Place}
use Rattle.expr_values.specs.Written.{kind_scale}
use Rattle.expr_values.proofs.Codes.{Stands, Begins, Gives, Later, begins_later, then_cell, slot_same, never, source_gives, one_gives, then_gives, as_cell}
use Rattle.expr_values.proofs.Cells.{times_cell, times_gives}
use Rattle.expr_values.proofs.Numbers.{times_numeric}
use Rattle.expr_values.proofs.Sides.{scale_counted, plain_kind, plain_value, text_scale}
use Rattle.expr_values.proofs.Scales.{and_left, scale_small, max_scale}
use Rattle.expr_values.proofs.Operands.{Ready, operand_of}
use Rattle.expr_values.proofs.Between.{part_at}

-- ---- operands that stand alone

pub record Sole (texts : List Bytes) (p : Place) (k : Kind) : Type 0 where
  pub scale : ℕ
  pub value : Valued
  pub code : Code
  pub ready : Ready texts p k None scale value code

abbrev pub sole_part : (texts : List Bytes) (p : Place) (k : Kind) → Sole texts p k → Part
sole_part texts p k y = part_at y.scale None y.code

abbrev pub sole_operand : (texts : List Bytes) (p : Place) (k : Kind) → Sole texts p k → Operand
sole_operand texts p k y = operand_of y.scale y.value

-- ---- a value at a greater scale

times_plain : (texts : List Bytes) (k : Kind) (to n : ℕ) (v : Value) → plain_kind k ≡ true → nat_le n 36 ≡ true → is_of k v ≡ true → times_cell (raise to (counted n)) (coded texts v) ≡ value_cell texts (rescaled (to - n) v)
times_plain texts k to n v plain small h =
    let o = plain_value k v plain h in
    ap (λ (c : ℕ). times_cell (raise to c) (coded texts v)) (scale_counted n small)
    ∙ subst (λ (x : Value). times_cell (raise to n) (coded texts x) ≡ value_cell texts (rescaled (to - n) x)) o.1 (times_numeric texts (to - n) o.0)

times_text : (texts : List Bytes) (to n : ℕ) (v : Value) → to ≡ 0 → n ≡ 0 → times_cell (raise to (counted n)) (coded texts v) ≡ value_cell texts (rescaled (to - n) v)
times_text texts to n v e f =
    subst (λ (i : ℕ). times_cell (raise i (counted n)) (coded texts v) ≡ value_cell texts (rescaled (i - n) v)) (sym e)
    (subst (λ (j : ℕ). times_cell (raise 0 (counted j)) (coded texts v) ≡ value_cell texts (rescaled (0 - j) v)) (sym f) refl)

times_value : (texts : List Bytes) (k : Kind) (to n : ℕ) (v : Value) → not (is_truth k) ≡ true → kind_scale k to ≡ true → kind_scale k n ≡ true → is_of k v ≡ true → times_cell (raise to (counted n)) (coded texts v) ≡ value_cell texts (rescaled (to - n) v)
times_value texts Number to n v h t f i = times_plain texts Number to n v refl f i
times_value texts Date to n v h t f i = times_plain texts Date to n v refl f i
times_value texts Text to n v h t f i = times_text texts to n v (text_scale to t) (text_scale n f)
times_value texts Truth to n v h t f i = absurd (cc)

-- ---- the first of two that is there

abbrev first_of : Value → Value → Value
first_of v w = first_there (v ∷ w ∷ [])

first_one : (v : Value) → v ≡ first_there (v ∷ [])
first_one null = refl
first_one (number z) = refl
first_one (text t) = refl
first_one (truth b) = refl

fill_coded : (texts : List Bytes) (v w : Value) → pair_slot pair.Fill (coded texts v) (coded texts w) ≡ value_cell texts (Ok (first_of v w))
fill_coded texts null w = ap (λ (x : Value). value_cell texts (Ok x)) (first_one w)
fill_coded texts (number z) w = refl
fill_coded texts (text t) w = refl
fill_coded texts (truth true) w = refl
fill_coded texts (truth false) w = refl

first_more : (v w : Value) (vs : List Value) → first_there (first_of v w ∷ vs) ≡ first_there (v ∷ w ∷ vs)
first_more null null vs = refl
first_more null (number z) vs = refl
first_more null (text t) vs = refl
first_more null (truth b) vs = refl
first_more (number z) w vs = refl
first_more (text t) w vs = refl
first_more (truth b) w vs = refl

abbrev choice_of : Value → Result (List Value) Over → Valued
choice_of v r = with r (λ vs. Ok (first_there (v ∷ vs)))

choice_more : (v w : Value) (r : Result (List Value) Over) → choice_of (first_of v w) r ≡ choice_of v (more_valued w r)
choice_more v w (Ok vs) = ap (λ (x : Value). Ok x) (first_more v w vs)
choice_more v w (Err e) = refl

-- ---- the steps

fill_gives : (texts : List Bytes) (p : Place) (k : Kind) (to : ℕ) (y : Sole texts p k) → not (is_truth k) ≡ true → kind_scale k to ≡ true → (made : List Slot) (found : Source) (v : Value) → Begins p made → Stands p made found (coded texts v) →
    Gives p made (filled to (sole_part texts p k y) found) (value_cell texts (with (at_scale to (sole_operand texts p k y)) (λ w. Ok (first_of v w))))
fill_gives texts p k to y h t made found v b so_far =
    let n = y.scale in
    let fill = pair_slot pair.Fill (coded texts v) in
    let f = raise to (counted n) in
    as_cell p made (filled to (sole_part texts p k y) found) (then_cell (value_cell texts y.value) (λ u. then_cell (times_cell f u) fill)) (value_cell texts (with (at_scale to (sole_operand texts p k y)) (λ w. Ok (first_of v w))))
    (same y.value y.ready.of y.ready.fits)
    (then_gives p made y.code (filled_from to n found) (value_cell texts y.value) (λ u. then_cell (times_cell f u) fill) (y.ready.gives made b)
    (λ l later x u is i. then_gives p l (times f x) (one pair.Fill found) (times_cell f u) fill (times_gives p l f x u i)
    (λ j further z w was g. one_gives p j pair.Fill found z (coded texts v) w (further found (coded texts v) (later found (coded texts v) so_far)) g)))
  where
    filled_value : (q : Valued) → then_cell (value_cell texts q) (pair_slot pair.Fill (coded texts v)) ≡ value_cell texts (with q (λ w. Ok (first_of v w)))
    filled_value (Ok w) = fill_coded texts v w
    filled_value (Err e) = refl

    same : (r : Valued) → IsOf k r → kind_scale k y.scale ≡ true → then_cell (value_cell texts r) (λ u. then_cell (times_cell (raise to (counted y.scale)) u) (pair_slot pair.Fill (coded texts v))) ≡ value_cell texts (with (with r (rescaled (to - y.scale))) (λ w. Ok (first_of v w)))
    same (Ok w) i f = ap (λ (c : Cell). then_cell c (pair_slot pair.Fill (coded texts v))) (times_value texts k to y.scale w h t f i) ∙ filled_value (rescaled (to - y.scale) w)
    same (Err e) i f = refl

-- one operand, and then the others
next_gives : (texts : List Bytes) (p : Place) (m : Code) (f : Source → Code) (v : Value) (q : Valued) (rs : List Valued) (made : List Slot) → Gives p made m (value_cell texts (with q (λ w. Ok (first_of v w)))) →
    ((w : Value) (l : List Slot) → Later p made l → (next : Source) → Stands p l next (coded texts (first_of v w)) → Gives p l (f next) (value_cell texts (choice_of (first_of v w) (all_valued rs)))) → Gives p made (and_then m f) (value_cell texts (choice_of v (all_valued (q ∷ rs))))
next_gives texts p m f v (Err e) rs made g more = then_gives p made m f (Err e) (λ t. Err e) g (λ l later z t is j. absurd (let no = never e t is in cc))
next_gives texts p m f v (Ok w) rs made g more =
    as_cell p made (and_then m f) (value_cell texts (choice_of (first_of v w) (all_valued rs))) (value_cell texts (choice_of v (more_valued w (all_valued rs)))) (ap (value_cell texts) (choice_more v w (all_valued rs)))
    (then_gives p made m f (Ok (coded texts (first_of v w))) (λ t. value_cell texts (choice_of (first_of v w) (all_valued rs))) g
    (λ l later z t is j. more w l later z (subst (λ (u : Slot). Stands p l z u) (sym (slot_same (coded texts (first_of v w)) t is)) j)))

first_gives : (texts : List Bytes) (p : Place) (k : Kind) (to : ℕ) (ys : List (Sole texts p k)) → not (is_truth k) ≡ true → kind_scale k to ≡ true → (made : List Slot) (found : Source) (v : Value) → Begins p made → Stands p made found (coded texts v) →
    Gives p made (codes.first_there to (map (sole_part texts p k) ys) found) (value_cell texts (choice_of v (all_valued (map (at_scale to) (map (sole_operand texts p k) ys)))))
first_gives texts p k to [] h t made found v b so_far = as_cell p made (from_source found) (Ok (coded texts v)) (Ok (coded texts (first_there (v ∷ [])))) (ap (λ (x : Value). Ok (coded texts x)) (first_one v)) (source_gives p made found (coded texts v) so_far)
first_gives texts p k to (y ∷ ys) h t made found v b so_far =
    next_gives texts p (filled to (sole_part texts p k y) found) (codes.first_there to (map (sole_part texts p k) ys)) v (at_scale to (sole_operand texts p k y)) (map (at_scale to) (map (sole_operand texts p k) ys)) made (fill_gives texts p k to y h t made found v b so_far)
    (λ w l later next is. first_gives texts p k to ys h t l next (first_of v w) (begins_later p made l later b) is)

-- ---- the scale of the choice

greatest_fits : (texts : List Bytes) (p : Place) (k : Kind) (first : ℕ) (ys : List (Sole texts p k)) → kind_scale k first ≡ true → kind_scale k (greatest first (map (λ (y : Operand). y.scale) (map (sole_operand texts p k) ys))) ≡ true
greatest_fits texts p k first [] h = h
greatest_fits texts p k first (y ∷ ys) h = max_scale k first (greatest y.scale (map (λ (y : Operand). y.scale) (map (sole_operand texts p k) ys))) h (greatest_fits texts p k y.scale ys y.ready.fits)

same_scales : (texts : List Bytes) (p : Place) (k : Kind) (ys : List (Sole texts p k)) → map (λ (y : Part). y.scale) (map (sole_part texts p k) ys) ≡ map (λ (y : Operand). y.scale) (map (sole_operand texts p k) ys)
same_scales texts p k [] = refl
same_scales texts p k (y ∷ ys) = ap (λ (l : List ℕ). y.scale ∷ l) (same_scales texts p k ys)

most_is : (texts : List Bytes) (p : Place) (k : Kind) (x : Sole texts p k) (ys : List (Sole texts p k)) → most_scale (sole_part texts p k x) (map (sole_part texts p k) ys) ≡ greatest x.scale (map (λ (y : Operand). y.scale) (map (sole_operand texts p k) ys))
most_is texts p k x ys =
    let to = greatest x.scale (map (λ (y : Operand). y.scale) (map (sole_operand texts p k) ys)) in
    ap (λ (l : List ℕ). counted (greatest x.scale l)) (same_scales texts p k ys) ∙ scale_counted to (scale_small k to (greatest_fits texts p k x.scale ys x.ready.fits))

-- ---- the whole

abbrev chosen : Result (List Value) Over → Valued
chosen r = with r (λ vs. Ok (first_there vs))

chosen_first : (w : Value) (r : Result (List Value) Over) → choice_of w r ≡ chosen (more_valued w r)
chosen_first w (Ok vs) = refl
chosen_first w (Err e) = refl

-- behind the first operand's value, at the scale of the choice
scaled_gives : (texts : List Bytes) (p : Place) (m : Code) (f : Source → Code) (c : Cell) (q : Valued) (rs : List Valued) (l : List Slot) → c ≡ value_cell texts q → Gives p l m c →
    ((w : Value) (j : List Slot) → Later p l j → (found : Source) → Stands p j found (coded texts w) → Gives p j (f found) (value_cell texts (choice_of w (all_valued rs)))) → Gives p l (and_then m f) (value_cell texts (chosen (all_valued (q ∷ rs))))
scaled_gives texts p m f c (Err e) rs l is g next = then_gives p l m f (Err e) (λ t. Err e) (as_cell p l m c (Err e) is g) (λ j later z t was i. absurd (let no = never e t was in cc))
scaled_gives texts p m f c (Ok w) rs l is g next =
    as_cell p l (and_then m f) (value_cell texts (choice_of w (all_valued rs))) (value_cell texts (chosen (more_valued w (all_valued rs)))) (ap (value_cell texts) (chosen_first w (all_valued rs)))
    (then_gives p l m f (Ok (coded texts w)) (λ t. value_cell texts (choice_of w (all_valued rs))) (as_cell p l m c (Ok (coded texts w)) is g)
    (λ j later z t was i. next w j later z (subst (λ (u : Slot). Stands p j z u) (sym (slot_same (coded texts w) t was)) i)))

begun_gives : (texts : List Bytes) (p : Place) (k : Kind) (to n : ℕ) (r : Valued) (m : Code) (f : Source → Code) (rs : List Valued) → not (is_truth k) ≡ true → kind_scale k to ≡ true → kind_scale k n ≡ true → IsOf k r → (made : List Slot) → Begins p made → Gives p made m (value_cell texts r) →
    ((w : Value) (j : List Slot) → Begins p j → (found : Source) → Stands p j found (coded texts w) → Gives p j (f found) (value_cell texts (choice_of w (all_valued rs)))) →
    Gives p made (and_then m (λ a. and_then (times (raise to (counted n)) a) f)) (value_cell texts (chosen (all_valued (with r (rescaled (to - n)) ∷ rs))))
begun_gives texts p k to n (Err e) m f rs h t i o made b g next = then_gives p made m (λ a. and_then (times (raise to (counted n)) a) f) (Err e) (λ u. Err e) g (λ l later z u is j. absurd (let no = never e u is in cc))
begun_gives texts p k to n (Ok v) m f rs h t i o made b g next =
    let factor = raise to (counted n) in
    then_gives p made m (λ a. and_then (times factor a) f) (Ok (coded texts v)) (λ u. value_cell texts (chosen (all_valued (rescaled (to - n) v ∷ rs)))) g
    (λ l later a u is stands.
    let here = subst (λ (s : Slot). Stands p l a s) (sym (slot_same (coded texts v) u is)) stands in
    scaled_gives texts p (times factor a) f (times_cell factor (coded texts v)) (rescaled (to - n) v) rs l (times_value texts k to n v h t i o) (times_gives p l factor a (coded texts v) here)
    (λ w j further found so_far. next w j (begins_later p l j further (begins_later p made l later b)) found so_far))

abbrev choice_code : ℕ → ℕ → Code → List Part → Code
choice_code to n m ys = and_then m (λ a. and_then (times (raise to (counted n)) a) (codes.first_there to ys))

pub choice_gives : (texts : List Bytes) (p : Place) (k : Kind) (x : Sole texts p k) (ys : List (Sole texts p k)) → not (is_truth k) ≡ true → (made : List Slot) → Begins p made →
    Gives p made (codes.choice (sole_part texts p k x) (map (sole_part texts p k) ys)) (value_cell texts (with (all_at_one_scale (sole_operand texts p k x) (map (sole_operand texts p k) ys)) (λ vs. Ok (first_there vs))))
choice_gives texts p k x ys h made b =
    let to = greatest x.scale (map (λ (y : Operand). y.scale) (map (sole_operand texts p k) ys)) in
    let fits = greatest_fits texts p k x.scale ys x.ready.fits in
    let rs = map (at_scale to) (map (sole_operand texts p k) ys) in
    subst (λ (n : ℕ). Gives p made (choice_code n x.scale x.code (map (sole_part texts p k) ys)) (value_cell texts (chosen (all_valued (at_scale to (sole_operand texts p k x) ∷ rs))))) (sym (most_is texts p k x ys))
    (begun_gives texts p k to x.scale x.value x.code (codes.first_there to (map (sole_part texts p k) ys)) rs h fits x.ready.fits x.ready.of made b (x.ready.gives made b)
    (λ w j begins found so_far. first_gives texts p k to ys h fits j found w begins so_far))

-- ---- texts of the dictionary

rescaled_known : (texts : List Bytes) (n : ℕ) (v : Value) → is_known texts v ≡ true → IfOk (rescaled n v) (λ w. is_known texts w ≡ true)
rescaled_known texts zero v h = h
rescaled_known texts (suc n) (number z) h = by (in_128_bits (raised (suc n) z))
  where
    by : (o : Option ℤ) → IfOk (or_over o) (λ w. is_known texts w ≡ true)
    by (Some x) = refl
    by None = tt
rescaled_known texts (suc n) (text t) h = h
rescaled_known texts (suc n) (truth b) h = refl
rescaled_known texts (suc n) null h = refl

scaled_known : (texts : List Bytes) (to n : ℕ) (r : Valued) → IfOk r (λ v. is_known texts v ≡ true) → IfOk (with r (rescaled (to - n))) (λ v. is_known texts v ≡ true)
scaled_known texts to n (Ok v) h = rescaled_known texts (to - n) v h
scaled_known texts to n (Err e) h = tt

abbrev AllKnown : List Bytes → Result (List Value) Over → Type 0
AllKnown texts r = IfOk r (λ vs. list_all (is_known texts) vs ≡ true)

more_known : (texts : List Bytes) (q : Valued) (rs : List Valued) → IfOk q (λ v. is_known texts v ≡ true) → AllKnown texts (all_valued rs) → AllKnown texts (all_valued (q ∷ rs))
more_known texts (Ok v) rs h g = also (all_valued rs) g
  where
    also : (r : Result (List Value) Over) → AllKnown texts r → AllKnown texts (more_valued v r)
    also (Ok vs) g = (λ i. h i && g i)
    also (Err e) g = tt
more_known texts (Err e) rs h g = tt

others_known : (texts : List Bytes) (p : Place) (k : Kind) (to : ℕ) (ys : List (Sole texts p k)) → AllKnown texts (all_valued (map (at_scale to) (map (sole_operand texts p k) ys)))
others_known texts p k to [] = refl
others_known texts p k to (y ∷ ys) = more_known texts (at_scale to (sole_operand texts p k y)) (map (at_scale to) (map (sole_operand texts p k) ys)) (scaled_known texts to y.scale y.value y.ready.text) (others_known texts p k to ys)

first_known : (texts : List Bytes) (vs : List Value) → list_all (is_known texts) vs ≡ true → is_known texts (first_there vs) ≡ true
first_known texts [] h = refl
first_known texts (null ∷ vs) h = first_known texts vs h
first_known texts (number z ∷ vs) h = refl
first_known texts (truth b ∷ vs) h = refl
first_known texts (text t ∷ vs) h = and_left (is_known texts (text t)) (list_all (is_known texts) vs) h

pub choice_known : (texts : List Bytes) (p : Place) (k : Kind) (x : Sole texts p k) (ys : List (Sole texts p k)) → IfOk (with (all_at_one_scale (sole_operand texts p k x) (map (sole_operand texts p k) ys)) (λ vs. Ok (first_there vs))) (λ v. is_known texts v ≡ true)
choice_known texts p k x ys =
    let to = greatest x.scale (map (λ (y : Operand). y.scale) (map (sole_operand texts p k) ys)) in
    by (all_valued (map (at_scale to) (map (sole_operand texts p k) (x ∷ ys)))) (others_known texts p k to (x ∷ ys))
  where
    by : (r : Result (List Value) Over) → AllKnown texts r → IfOk (with r (λ vs. Ok (first_there vs))) (λ v. is_known texts v ≡ true)
    by (Ok vs) h = first_known texts vs h
    by (Err e) h = tt
