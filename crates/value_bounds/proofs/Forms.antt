-- Each form of an expression has a value that its interval holds, where its operands have.
use Rattle.std.proofs.Common.{◌≡◌, ℕ, zero, suc, ◌+◌, ◌-◌, ◌≤◌, max, ℤ, pos, ◌≤ℤ◌, int_le, int_div, Bool, true, false, ◌&&◌, if◌then◌else◌, T, List, [], ◌∷◌, Option, Some, None, Result, Ok, Err, IsOkAnd, is_some, refl, sym, ap, ◌∙◌, subst, arith}
use Rattle.std.specs.List.{fold, list_all}
use Rattle.std.proofs.lemmas.Bool.Decides.{nat_tests}
use Rattle.std.proofs.lemmas.Int.{ints}
use Rattle.control_vectors.specs.declared.Over.{Over}
use Rattle.control_vectors.specs.Slots.{fits_128, in_128_bits}
use Rattle.control_vectors.proofs.NumberLaws.{in_128_bits_yes, in_128_bits-some}
use Rattle.sql_read.specs.declared.definition.ColumnKind.{ColumnKind}
use Rattle.query_trees.specs.declared.expr.BinaryOp.{BinaryOp}
use Rattle.query_trees.specs.declared.expr.BinaryOp.TheVariants as op
use Rattle.query_trees.specs.declared.expr.Polarity.{Polarity}
use Rattle.query_trees.specs.declared.expr.Polarity.TheVariants.{Plain, Negated}
use Rattle.query_trees.specs.declared.expr.Sign.{Sign}
use Rattle.typed_trees.specs.declared.typed.ColumnType.{ColumnType}
use Rattle.typed_values.specs.declared.interval_rule.Bounded.{Bounded}
use Rattle.typed_values.specs.declared.intervals.Interval.{Interval}
use Rattle.typed_values.specs.Intervals.{of_column, of_type, around, signed, combined}
use Rattle.typed_values.specs.Intervals as exactly
use Rattle.typed_values.specs.Bounds.{hull, has_scale, lies_within}
use Rattle.typed_values.specs.Narrow.{literal, signed_interval, combined_interval, quotient_interval, divisor}
use Rattle.typed_values.specs.Narrow as b
use Rattle.typed_values.specs.Narrow.{Bounds, limited, truth_if, counted}
use Rattle.sql_values.specs.Values.{Value, number, text, truth, null}
use Rattle.typed_values.specs.Values.{Valued, Operand, with, with_both, or_over, exact, arithmetic, signed_value, quotient_value, comparison, both, opposite, either, by_polarity, is_null, first_there, rescaled, at_scale, at_one_scale, compared, between, among, binary_value, more_valued, all_valued}
use Rattle.typed_values.proofs.Kept.{keep, column_kept}
use Rattle.value_bounds.specs.Laws.{holds}
use Rattle.value_bounds.proofs.Ends.{Covers, covers_exact, literal_covers, signed_covers, combined_covers, quotient_covers, raised_covers, least_hull, greatest_hull}

-- a value that an interval holds
abbrev pub HasValue : Interval → Valued → Type 0
HasValue i r = IsOkAnd r (λ v. holds i v ≡ true)

-- the same, where something is found and the columns fit
abbrev pub IsBounded : Bounds → Bool → Valued → Type 0
IsBounded p fits r = (a : Bounded) → p ≡ Some a → fits ≡ true → HasValue a.interval r

-- no number: every interval holds it
abbrev pub IsFree : Value → Type 0
IsFree v = (i : Interval) → holds i v ≡ true

-- the same of what is evaluated
abbrev pub HasFree : Valued → Type 0
HasFree r = (i : Interval) → HasValue i r

-- ---- tests

true_both : (x y : Bool) → T x → T y → (x && y) ≡ true
true_both true true h g = refl
true_both true false h g = absurd g
true_both false y h g = absurd h

both_true : (x y : Bool) → (x && y) ≡ true → T x × T y
both_true true true e = (tt, tt)
both_true true false e = cc
both_true false y e = cc

pub and_left : (x y : Bool) → (x && y) ≡ true → x ≡ true
and_left true y e = refl
and_left false y e = cc

pub and_right : (x y : Bool) → (x && y) ≡ true → y ≡ true
and_right true y e = e
and_right false y e = cc

above_least : (i : Interval) (z : ℤ) → holds i (number z) ≡ true → i.least ≤ℤ z
above_least i z h = record { le = (both_true (int_le i.least z) (int_le z i.greatest) h).0 }

below_greatest : (i : Interval) (z : ℤ) → holds i (number z) ≡ true → z ≤ℤ i.greatest
below_greatest i z h = record { le = (both_true (int_le i.least z) (int_le z i.greatest) h).1 }

-- a number that the interval covers is exact
some_is : (i j : Interval) → Some i ≡ Some j → i ≡ j
some_is i j e = cc

-- an interval that is kept is the same one
kept_some : (i j : Interval) → keep i ≡ Some j → i ≡ j
kept_some i j e = by (lies_within (Some i)) e
  where
    by : (t : Bool) → (if t then Some i else None) ≡ Some j → i ≡ j
    by true e = some_is i j e
    by false e = cc

covered : (p : Option Interval) (z : ℤ) (i : Interval) → Covers p z → p ≡ Some i → HasValue i (exact z)
covered p z i h e =
    let low = h.above i e in
    let high = h.below i e in
    let held : holds i (number z) ≡ true = true_both (int_le i.least z) (int_le z i.greatest) low.le high.le in
    subst (λ (r : Option ℤ). HasValue i (or_over r)) (sym (in_128_bits_yes z (h.fits i e))) held

-- ---- Over is strict

then_held : (a i : Interval) (r : Valued) (f : Value → Valued) → HasValue a r → ((v : Value) → holds a v ≡ true → HasValue i (f v)) → HasValue i (with r f)
then_held a i (Ok v) f h k = k v h
then_held a i (Err x) f h k = absurd h

-- ---- truths and nulls are free

opposite_free : (v : Value) → IsFree (opposite v)
opposite_free (truth x) i = refl
opposite_free (number z) i = refl
opposite_free (text t) i = refl
opposite_free null i = refl

both_free : (v w : Value) → IsFree (both v w)
both_free (truth false) w i = refl
both_free (truth true) (truth false) i = refl
both_free (truth true) (truth true) i = refl
both_free v (truth false) i = refl
both_free v (truth true) i = refl
both_free v w i = refl

either_free : (v w : Value) → IsFree (either v w)
either_free v w = opposite_free (both (opposite v) (opposite w))

compared_free : (o : BinaryOp) (v w : Value) → IsFree (comparison o v w)
compared_free o null w i = refl
compared_free o v null i = refl
compared_free o v w i = refl

by_polarity_free : (p : Polarity) (v : Value) → IsFree v → IsFree (by_polarity p v)
by_polarity_free Plain v h = h
by_polarity_free Negated v h = opposite_free v

-- ---- Over is strict, and what is found is found of the operands

pub no_bounds : (a : Bounded) → None ≡ Some a → ⊥
no_bounds a e = cc

none_some : (i : Interval) → None ≡ Some i → ⊥
none_some i e = cc

then_free : (a : Interval) (r : Valued) (f : Value → Valued) → HasValue a r → ((v : Value) → HasFree (f v)) → HasFree (with r f)
then_free a (Ok v) f h k i = k v i
then_free a (Err x) f h k i = absurd h

then_all : (r : Valued) (f : Value → Valued) → HasFree r → ((v : Value) → HasFree (f v)) → HasFree (with r f)
then_all (Ok v) f h k i = k v i
then_all (Err x) f h k i = absurd (h (exactly.truth))

-- an interval at a scale that a query can have is the one that was found
limited_some : (scale : ℕ) (p : Option Interval) (a : Bounded) → limited scale p ≡ Some a → p ≡ Some a.interval
limited_some scale None a e = cc
limited_some scale (Some i) a e = by (has_scale scale) e
  where
    by : (t : Bool) → (if t then Some (record { interval = i; scale = scale }) else None) ≡ Some a → Some i ≡ Some a.interval
    by true e = let same : record { interval = i; scale = scale } ≡ a = cc in ap (λ (c : Bounded). Some c.interval) same
    by false e = cc

pub limited_scale : (scale : ℕ) (p : Option Interval) (a : Bounded) → limited scale p ≡ Some a → has_scale scale ≡ true
limited_scale scale None a e = cc
limited_scale scale (Some i) a e = by (has_scale scale) e
  where
    by : (t : Bool) → (if t then Some (record { interval = i; scale = scale }) else None) ≡ Some a → t ≡ true
    by true e = refl
    by false e = cc

pub truth_some : (t : Bool) (a : Bounded) → truth_if t ≡ Some a → t ≡ true
truth_some true a e = refl
truth_some false a e = cc

-- ---- literals and columns

-- a number that stands in an interval that may not be there
covered_limited : (scale : ℕ) (p : Option Interval) (z : ℤ) (a : Bounded) → Covers p z → limited scale p ≡ Some a → HasValue a.interval (exact z)
covered_limited scale p z a h e = covered p z a.interval h (limited_some scale p a e)

pub number_bounded : (n scale : ℕ) → IsBounded (limited scale (literal n)) true (exact (pos n))
number_bounded n scale a e t = covered_limited scale (literal n) (pos n) a (literal_covers n) e

pub text_bounded : (t : List ℕ) (p : Bounds) → IsBounded p true (Ok (text t))
text_bounded t p a e is = refl

pub date_bounded : (day : ℤ) → IsBounded (limited 0 (b.exact day)) true (Ok (number day))
date_bounded day a e t =
    let h = covers_exact day in
    let is = limited_some 0 (b.exact day) a e in
    let low = h.above a.interval is in
    let high = h.below a.interval is in
    true_both (int_le a.interval.least day) (int_le day a.interval.greatest) low.le high.le

-- the interval of a column is the exact one, where it is there
column_some : (kind : ColumnKind) (width : ℕ) (i : Interval) → b.of_column kind width ≡ Some i → of_column kind width ≡ i
column_some kind width i e = kept_some (of_column kind width) i (sym (column_kept kind width) ∙ e)

pub column_bounded : (type : ColumnType) (v : Value) → IsBounded (limited type.scale (b.of_type type)) (holds (of_type type) v) (Ok v)
column_bounded type v a e t = subst (λ (j : Interval). holds j v ≡ true) (column_some type.kind type.width a.interval (limited_some type.scale (b.of_type type) a e)) t

pub aggregate_bounded : (r : Valued) → IsBounded None true r
aggregate_bounded r a e t = absurd (no_bounds a e)

-- ---- one operand

signed_held : (s : Sign) (a i : Interval) (v : Value) → signed_interval s a ≡ Some i → holds a v ≡ true → HasValue i (signed_value s v)
signed_held s a i (number z) e h = covered (signed_interval s a) (signed s z) i (signed_covers s a z (above_least a z h) (below_greatest a z h)) e
signed_held s a i (text t) e h = refl
signed_held s a i (truth x) e h = refl
signed_held s a i null e h = refl

pub signed_bounded : (s : Sign) (p : Bounds) (f : Bool) (r : Valued) → IsBounded p f r → IsBounded (b.signed_bounds s p) f (with r (signed_value s))
signed_bounded s None f r h a e t = absurd (no_bounds a e)
signed_bounded s (Some c) f r h a e t =
    then_held c.interval a.interval r (signed_value s) (h c refl t) (λ v k. signed_held s c.interval a.interval v (limited_some c.scale (signed_interval s c.interval) a e) k)

-- a truth of an operand that is there
pub tested_bounded : (g : Value → Value) → ((v : Value) → IsFree (g v)) → (p : Bounds) (f : Bool) (r : Valued) → IsBounded p f r → IsBounded (truth_if (is_some p)) f (with r (λ v. Ok (g v)))
tested_bounded g free None f r h a e t = absurd (no_bounds a e)
tested_bounded g free (Some c) f r h a e t = then_held c.interval a.interval r (λ v. Ok (g v)) (h c refl t) (λ v k. free v a.interval)

pub opposite_is_free : (v : Value) → IsFree (opposite v)
opposite_is_free v = opposite_free v

pub null_test_free : (p : Polarity) (v : Value) → IsFree (by_polarity p (truth (is_null v)))
null_test_free p v = by_polarity_free p (truth (is_null v)) (λ i. refl)

divisor_is : (s : Sign) (n : ℕ) (d : ℤ) → divisor s n ≡ Some d → signed s (pos n) ≡ d
divisor_is s n d e = in_128_bits-some (signed s (pos n)) d (unless (fits_128 (pos n)) e)
  where
    unless : (t : Bool) → (if t then in_128_bits (signed s (pos n)) else None) ≡ Some d → in_128_bits (signed s (pos n)) ≡ Some d
    unless true e = e
    unless false e = cc

quotient_held : (s : Sign) (n : ℕ) (a i : Interval) (d : ℤ) (v : Value) → signed s (pos n) ≡ d → quotient_interval a d ≡ Some i → holds a v ≡ true → HasValue i (quotient_value v s n)
quotient_held s n a i d (number z) is e h =
    subst (λ (k : ℤ). HasValue i (exact (int_div z k))) (sym is)
    (covered (quotient_interval a d) (int_div z d) i (quotient_covers a d z (above_least a z h) (below_greatest a z h)) e)
quotient_held s n a i d (text t) is e h = refl
quotient_held s n a i d (truth x) is e h = refl
quotient_held s n a i d null is e h = refl

divided_held : (s : Sign) (n : ℕ) (c a : Bounded) (d : Option ℤ) (v : Value) → divisor s n ≡ d → b.quotient_bounds (Some c) d ≡ Some a → holds c.interval v ≡ true → HasValue a.interval (quotient_value v s n)
divided_held s n c a None v is e h = absurd (no_bounds a e)
divided_held s n c a (Some d) v is e h = quotient_held s n c.interval a.interval d v (divisor_is s n d is) (limited_some c.scale (quotient_interval c.interval d) a e) h

pub divide_bounded : (s : Sign) (n : ℕ) (p : Bounds) (f : Bool) (r : Valued) → IsBounded p f r → IsBounded (b.quotient_bounds p (divisor s n)) f (with r (λ v. quotient_value v s n))
divide_bounded s n None f r h a e t = absurd (no_bounds a e)
divide_bounded s n (Some c) f r h a e t =
    then_held c.interval a.interval r (λ v. quotient_value v s n) (h c refl t) (λ v k. divided_held s n c a (divisor s n) v refl e k)

-- ---- operands that are rescaled

times_one : (z : ℤ) → exactly.raised 0 z ≡ z
times_one z = omega (arith, ints)

-- what is not rescaled stays as it is, and its interval too
unscaled_held : (a i : Interval) (v : Value) → b.raised 0 a ≡ Some i → holds a v ≡ true → holds i v ≡ true
unscaled_held a i (number z) e h =
    let c = raised_covers 0 a z (above_least a z h) (below_greatest a z h) in
    let low : i.least ≤ℤ z = subst (λ (w : ℤ). i.least ≤ℤ w) (times_one z) (c.above i e) in
    let high : z ≤ℤ i.greatest = subst (λ (w : ℤ). w ≤ℤ i.greatest) (times_one z) (c.below i e) in
    true_both (int_le i.least z) (int_le z i.greatest) low.le high.le
unscaled_held a i (text t) e h = refl
unscaled_held a i (truth x) e h = refl
unscaled_held a i null e h = refl

rescaled_held : (n : ℕ) (a i : Interval) (v : Value) → b.raised n a ≡ Some i → holds a v ≡ true → HasValue i (rescaled n v)
rescaled_held zero a i v e h = unscaled_held a i v e h
rescaled_held (suc n) a i (number z) e h = covered (b.raised (suc n) a) (exactly.raised (suc n) z) i (raised_covers (suc n) a z (above_least a z h) (below_greatest a z h)) e
rescaled_held (suc n) a i (text t) e h = refl
rescaled_held (suc n) a i (truth x) e h = refl
rescaled_held (suc n) a i null e h = refl

-- an operand that has the scale that is found
abbrev pub of_bounds : Bounded → Valued → Operand
of_bounds a r = record { scale = a.scale; value = r }

scaled_held : (to : ℕ) (a : Bounded) (i : Interval) (r : Valued) → b.at_scale to (Some a) ≡ Some i → HasValue a.interval r → HasValue i (at_scale to (of_bounds a r))
scaled_held to a i r e h = then_held a.interval i r (rescaled (to - a.scale)) h (λ v k. rescaled_held (to - a.scale) a.interval i v e k)

-- ---- two operands

both_there : (o : BinaryOp) (p q : Option Interval) (i : Interval) → b.combined_bounds o p q ≡ Some i → (j : Interval) × (k : Interval) × (p ≡ Some j) × (q ≡ Some k) × (combined_interval o j k ≡ Some i)
both_there o None q i e = absurd (none_some i e)
both_there o (Some j) None i e = absurd (none_some i e)
both_there o (Some j) (Some k) i e = (j, k, refl, refl, e)

calculated_held : (o : BinaryOp) (a c i : Interval) (v w : Value) → combined_interval o a c ≡ Some i → holds a v ≡ true → holds c w ≡ true → HasValue i (arithmetic (combined o) v w)
calculated_held o a c i (number x) (number y) e h g =
    covered (combined_interval o a c) (combined o x y) i
    (combined_covers o a c x y (above_least a x h) (below_greatest a x h) (above_least c y g) (below_greatest c y g)) e
calculated_held o a c i (number x) (text t) e h g = refl
calculated_held o a c i (number x) (truth y) e h g = refl
calculated_held o a c i (number x) null e h g = refl
calculated_held o a c i (text t) w e h g = refl
calculated_held o a c i (truth x) w e h g = refl
calculated_held o a c i null w e h g = refl

both_held : (a c i : Interval) (r s : Valued) (f : Value → Value → Valued) → HasValue a r → HasValue c s → ((v w : Value) → holds a v ≡ true → holds c w ≡ true → HasValue i (f v w)) → HasValue i (with_both r s f)
both_held a c i r s f h k each = then_held a i r (λ v. with s (f v)) h (λ v hv. then_held c i s (f v) k (λ w hw. each v w hv hw))

sum_held : (o : BinaryOp) (x y a : Bounded) (r s : Valued) → b.sum_bounds o x y ≡ Some a → HasValue x.interval r → HasValue y.interval s → HasValue a.interval (at_one_scale (of_bounds x r) (of_bounds y s) (arithmetic (combined o)))
sum_held o x y a r s e h k =
    let to = max x.scale y.scale in
    let found = both_there o (b.at_scale to (Some x)) (b.at_scale to (Some y)) a.interval (limited_some to (b.combined_bounds o (b.at_scale to (Some x)) (b.at_scale to (Some y))) a e) in
    both_held found.0 found.1 a.interval (at_scale to (of_bounds x r)) (at_scale to (of_bounds y s)) (arithmetic (combined o))
    (scaled_held to x found.0 r found.2 h) (scaled_held to y found.1 s found.3 k) (λ v w hv hw. calculated_held o found.0 found.1 a.interval v w found.4 hv hw)

product_held : (x y a : Bounded) (r s : Valued) → b.product_bounds x y ≡ Some a → HasValue x.interval r → HasValue y.interval s → HasValue a.interval (with_both r s (arithmetic (combined op.Multiply)))
product_held x y a r s e h k =
    both_held x.interval y.interval a.interval r s (arithmetic (combined op.Multiply)) h k
    (λ v w hv hw. calculated_held op.Multiply x.interval y.interval a.interval v w (limited_some (x.scale + y.scale) (combined_interval op.Multiply x.interval y.interval) a e) hv hw)

logic_held : (f : Value → Value → Value) → ((v w : Value) → IsFree (f v w)) → (x y : Bounded) (r s : Valued) → HasValue x.interval r → HasValue y.interval s → HasFree (with_both r s (λ v w. Ok (f v w)))
logic_held f free x y r s h k i = both_held x.interval y.interval i r s (λ v w. Ok (f v w)) h k (λ v w hv hw. free v w i)

some_there : (p : Option Interval) → is_some p ≡ true → (i : Interval) × (p ≡ Some i)
some_there None e = cc
some_there (Some i) e = (i, refl)

pub compared_held : (o : BinaryOp) (x y : Bounded) (r s : Valued) → b.are_alike x y ≡ true → HasValue x.interval r → HasValue y.interval s → HasFree (compared o (of_bounds x r) (of_bounds y s))
compared_held o x y r s e h k i =
    let to = max x.scale y.scale in
    let left = some_there (b.at_scale to (Some x)) (and_left (is_some (b.at_scale to (Some x))) (is_some (b.at_scale to (Some y))) e) in
    let right = some_there (b.at_scale to (Some y)) (and_right (is_some (b.at_scale to (Some x))) (is_some (b.at_scale to (Some y))) e) in
    both_held left.0 right.0 i (at_scale to (of_bounds x r)) (at_scale to (of_bounds y s)) (λ v w. Ok (comparison o v w))
    (scaled_held to x left.0 r left.1 h) (scaled_held to y right.0 s right.1 k) (λ v w hv hw. compared_free o v w i)

comparison_held : (o : BinaryOp) (x y a : Bounded) (r s : Valued) → truth_if (b.are_alike x y) ≡ Some a → HasValue x.interval r → HasValue y.interval s → HasValue a.interval (compared o (of_bounds x r) (of_bounds y s))
comparison_held o x y a r s e h k = compared_held o x y r s (truth_some (b.are_alike x y) a e) h k a.interval

joined_held : (o : BinaryOp) (x y a : Bounded) (r s : Valued) → b.binary_bounds o (Some x) (Some y) ≡ Some a → HasValue x.interval r → HasValue y.interval s → HasValue a.interval (binary_value o (of_bounds x r) (of_bounds y s))
joined_held op.Add x y a r s e h k = sum_held op.Add x y a r s e h k
joined_held op.Subtract x y a r s e h k = sum_held op.Subtract x y a r s e h k
joined_held op.Multiply x y a r s e h k = product_held x y a r s e h k
joined_held op.Or x y a r s e h k = logic_held either either_free x y r s h k a.interval
joined_held op.And x y a r s e h k = logic_held both both_free x y r s h k a.interval
joined_held op.Equal x y a r s e h k = comparison_held op.Equal x y a r s e h k
joined_held op.Differs x y a r s e h k = comparison_held op.Differs x y a r s e h k
joined_held op.Less x y a r s e h k = comparison_held op.Less x y a r s e h k
joined_held op.LessEqual x y a r s e h k = comparison_held op.LessEqual x y a r s e h k
joined_held op.Greater x y a r s e h k = comparison_held op.Greater x y a r s e h k
joined_held op.GreaterEqual x y a r s e h k = comparison_held op.GreaterEqual x y a r s e h k

-- an operand whose scale is the one that is found
pub record IsOperand (p : Bounds) (fits : Bool) (x : Operand) : Type 0 where
  pub scaled : (a : Bounded) → p ≡ Some a → a.scale ≡ x.scale
  pub held : IsBounded p fits x.value

own_scale : (a : Bounded) (x : Operand) → a.scale ≡ x.scale → of_bounds a x.value ≡ x
own_scale a x e = λ i. record { scale = e i; value = x.value }

pub binary_bounded : (o : BinaryOp) (p q : Bounds) (f g : Bool) (x y : Operand) → IsOperand p f x → IsOperand q g y → IsBounded (b.binary_bounds o p q) (f && g) (binary_value o x y)
binary_bounded o None q f g x y h k a e t = absurd (no_bounds a e)
binary_bounded o (Some c) None f g x y h k a e t = absurd (no_bounds a e)
binary_bounded o (Some c) (Some d) f g x y h k a e t =
    subst (λ (z : Operand). HasValue a.interval (binary_value o z y)) (own_scale c x (h.scaled c refl))
    (subst (λ (z : Operand). HasValue a.interval (binary_value o (of_bounds c x.value) z)) (own_scale d y (k.scaled d refl))
    (joined_held o c d a x.value y.value e (h.held c refl (and_left f g t)) (k.held d refl (and_right f g t))))

-- ---- BETWEEN and IN

pub pair_held : (o : BinaryOp) (p q : Bounds) (f g : Bool) (x y : Operand) → IsOperand p f x → IsOperand q g y → b.comparable p q ≡ true → f ≡ true → g ≡ true → HasFree (compared o x y)
pair_held o None q f g x y h k e t u i = cc
pair_held o (Some c) None f g x y h k e t u i = cc
pair_held o (Some c) (Some d) f g x y h k e t u i =
    subst (λ (z : Operand). HasValue i (compared o z y)) (own_scale c x (h.scaled c refl))
    (subst (λ (z : Operand). HasValue i (compared o (of_bounds c x.value) z)) (own_scale d y (k.scaled d refl))
    (compared_held o c d x.value y.value e (h.held c refl t) (k.held d refl u) i))

both_then : (f : Value → Value → Value) → ((v w : Value) → IsFree (f v w)) → (r s : Valued) → HasFree r → HasFree s → HasFree (with_both r s (λ v w. Ok (f v w)))
both_then f free r s h k = then_all r (λ v. with s (λ w. Ok (f v w))) h (λ v. then_all s (λ w. Ok (f v w)) k (λ w i. free v w i))

-- a truth of two, and its negation
free_by_polarity : (o : Polarity) (r s : Valued) (f : Value → Value → Value) → ((v w : Value) → IsFree (f v w)) → HasFree r → HasFree s → HasFree (with (with_both r s (λ v w. Ok (f v w))) (λ v. Ok (by_polarity o v)))
free_by_polarity o (Ok v) (Ok w) f free h k i = by_polarity_free o (f v w) (free v w) i
free_by_polarity o (Ok v) (Err x) f free h k i = absurd (k i)
free_by_polarity o (Err x) s f free h k i = absurd (h i)

pub between_bounded : (o : Polarity) (p q u : Bounds) (f g k : Bool) (x low high : Operand) → IsOperand p f x → IsOperand q g low → IsOperand u k high →
    IsBounded (truth_if (b.comparable p q && b.comparable p u)) (f && (g && k)) (with (between x low high) (λ v. Ok (by_polarity o v)))
between_bounded o p q u f g k x low high hx hl hh a e t =
    let both_alike = truth_some (b.comparable p q && b.comparable p u) a e in
    let rest = and_right f (g && k) t in
    let fx = and_left f (g && k) t in
    let least = pair_held op.GreaterEqual p q f g x low hx hl (and_left (b.comparable p q) (b.comparable p u) both_alike) fx (and_left g k rest) in
    let most = pair_held op.LessEqual p u f k x high hx hh (and_right (b.comparable p q) (b.comparable p u) both_alike) fx (and_right g k rest) in
    free_by_polarity o (compared op.GreaterEqual x low) (compared op.LessEqual x high) both both_free least most a.interval

pub among_more : (p q : Bounds) (f g : Bool) (x y : Operand) (ys : List Operand) → IsOperand p f x → IsOperand q g y → b.comparable p q ≡ true → f ≡ true → g ≡ true → HasFree (among x ys) → HasFree (among x (y ∷ ys))
among_more p q f g x y ys hx hy e t u more = both_then either either_free (compared op.Equal x y) (among x ys) (pair_held op.Equal p q f g x y hx hy e t u) more

pub among_none : (p : Bounds) (f : Bool) (x : Operand) → IsOperand p f x → is_some p ≡ true → f ≡ true → HasFree (among x [])
among_none None f x h e t = cc
among_none (Some c) f x h e t = then_free c.interval x.value (λ v. Ok (truth false)) (h.held c refl t) (λ v i. refl)

pub in_bounded : (o : Polarity) (all fits : Bool) (r : Valued) → (all ≡ true → fits ≡ true → HasFree r) → IsBounded (truth_if all) fits (with r (λ v. Ok (by_polarity o v)))
in_bounded o all fits (Ok v) h a e t = of_value v (h (truth_some all a e) t)
  where
    of_value : (v : Value) → HasFree (Ok v) → holds a.interval (by_polarity o v) ≡ true
    of_value v k = by_polarity_free o v k a.interval
in_bounded o all fits (Err x) h a e t = absurd (h (truth_some all a e) t a.interval)

-- ---- COALESCE

-- what an interval holds, one around it holds too
holds_left : (a c : Interval) (v : Value) → holds a v ≡ true → holds (around a c) v ≡ true
holds_left a c (number z) h =
    let low : (around a c).least ≤ℤ z = below_all (around a c).least a.least z (least_hull a c).0 (above_least a z h) in
    let high : z ≤ℤ (around a c).greatest = below_all z a.greatest (around a c).greatest (below_greatest a z h) (greatest_hull a c).0 in
    true_both (int_le (around a c).least z) (int_le z (around a c).greatest) low.le high.le
  where
    below_all : (x y z : ℤ) → x ≤ℤ y → y ≤ℤ z → x ≤ℤ z
    below_all x y z h g = omega (arith, ints)
holds_left a c (text t) h = refl
holds_left a c (truth x) h = refl
holds_left a c null h = refl

holds_right : (a c : Interval) (v : Value) → holds c v ≡ true → holds (around a c) v ≡ true
holds_right a c (number z) h =
    let low : (around a c).least ≤ℤ z = below_all (around a c).least c.least z (least_hull a c).1 (above_least c z h) in
    let high : z ≤ℤ (around a c).greatest = below_all z c.greatest (around a c).greatest (below_greatest c z h) (greatest_hull a c).1 in
    true_both (int_le (around a c).least z) (int_le z (around a c).greatest) low.le high.le
  where
    below_all : (x y z : ℤ) → x ≤ℤ y → y ≤ℤ z → x ≤ℤ z
    below_all x y z h g = omega (arith, ints)
holds_right a c (text t) h = refl
holds_right a c (truth x) h = refl
holds_right a c null h = refl

-- an interval that is there, and lies within another
abbrev pub LiesIn : Option Interval → Interval → Type 0
LiesIn p i = (j : Interval) × (p ≡ Some j) × ((v : Value) → holds j v ≡ true → holds i v ≡ true)

hull_left : (p q : Option Interval) (i : Interval) → LiesIn (hull p q) i → LiesIn p i
hull_left None q i h = absurd (none_some h.0 h.1)
hull_left (Some a) None i h = absurd (none_some h.0 h.1)
hull_left (Some a) (Some c) i h =
    let same : around a c ≡ h.0 = some_is (around a c) h.0 h.1 in
    (a, refl, λ v k. h.2 v (subst (λ (j : Interval). holds j v ≡ true) same (holds_left a c v k)))

pub hull_right : (p q : Option Interval) (i : Interval) → LiesIn (hull p q) i → LiesIn q i
hull_right None q i h = absurd (none_some h.0 h.1)
hull_right (Some a) None i h = absurd (none_some h.0 h.1)
hull_right (Some a) (Some c) i h =
    let same : around a c ≡ h.0 = some_is (around a c) h.0 h.1 in
    (c, refl, λ v k. h.2 v (subst (λ (j : Interval). holds j v ≡ true) same (holds_right a c v k)))

-- the first of those that a hull goes around
pub fold_first : (p : Option Interval) (qs : List (Option Interval)) (i : Interval) → fold hull p qs ≡ Some i → LiesIn p i
fold_first p [] i e = (i, e, λ v h. h)
fold_first p (q ∷ qs) i e = hull_left p q i (fold_first (hull p q) qs i e)

-- the values of a list are all there, and an interval holds each
abbrev pub AllHeld : Interval → Result (List Value) Over → Type 0
AllHeld i vs = IsOkAnd vs (λ ws. list_all (holds i) ws ≡ true)

pub more_held : (i : Interval) (r : Valued) (rs : List Valued) → HasValue i r → AllHeld i (all_valued rs) → AllHeld i (all_valued (r ∷ rs))
more_held i (Ok v) rs h k = also (all_valued rs) k
  where
    also : (vs : Result (List Value) Over) → AllHeld i vs → AllHeld i (more_valued v vs)
    also (Ok ws) k = (λ j. h j && k j)
    also (Err x) k = k
more_held i (Err x) rs h k = h

-- an operand that a hull goes around
pub operand_held : (to : ℕ) (p : Bounds) (fits : Bool) (x : Operand) (i : Interval) → IsOperand p fits x → fits ≡ true → LiesIn (b.at_scale to p) i → HasValue i (at_scale to x)
operand_held to None fits x i h t k = absurd (none_some k.0 k.1)
operand_held to (Some c) fits x i h t k =
    subst (λ (z : Operand). HasValue i (at_scale to z)) (own_scale c x (h.scaled c refl))
    (wider_value (at_scale to (of_bounds c x.value)) (scaled_held to c k.0 x.value k.1 (h.held c refl t)))
  where
    wider_value : (r : Valued) → HasValue k.0 r → HasValue i r
    wider_value (Ok v) g = k.2 v g
    wider_value (Err e) g = absurd g

first_held : (i : Interval) (vs : List Value) → list_all (holds i) vs ≡ true → holds i (first_there vs) ≡ true
first_held i [] h = refl
first_held i (null ∷ vs) h = first_held i vs h
first_held i (number z ∷ vs) h = and_left (holds i (number z)) (list_all (holds i) vs) h
first_held i (text t ∷ vs) h = refl
first_held i (truth x ∷ vs) h = refl

pub choice_held : (i : Interval) (vs : Result (List Value) Over) → AllHeld i vs → HasValue i (with vs (λ ws. Ok (first_there ws)))
choice_held i (Ok ws) h = first_held i ws h
choice_held i (Err x) h = absurd h

-- the scale of a choice, where it is one that a query can have
pub counted_scale : (to : ℕ) → has_scale (counted to) ≡ true → counted to ≡ to
counted_scale to e = let h : counted to ≤ 36 = grind (arith, nat_tests) in omega arith

pub limited_some_is : (scale : ℕ) (p : Option Interval) (a : Bounded) → limited scale p ≡ Some a → p ≡ Some a.interval
limited_some_is = limited_some
