-- The value of an aggregate over values that can be shown is one, too.
use Rattle.std.proofs.Common.{◌≡◌, ℕ, ℤ, pos, Bool, true, false, not, if◌then◌else◌, List, [], ◌∷◌, length, Option, Some, None, Result, Ok, Err, refl, subst}
use Rattle.std.specs.Prelude.{All, fold, int_div}
use Rattle.std.specs.Ordering.{is_gt, is_lt}
use Rattle.std.proofs.lemmas.Bool.{false≢true}
use Rattle.std.proofs.lemmas.List.Elements.{All-filter, All-head, All-tail}
use Rattle.control_vectors.specs.declared.Over.{Over}
use Rattle.control_vectors.specs.Folds.{total_of}
use Rattle.control_vectors.specs.Slots.{in_128_bits}
use Rattle.query_trees.specs.declared.expr.Sign.TheVariants.{Plus}
use Rattle.sql_values.specs.Values.{Value, number, text, truth, null, by_value}
use Rattle.typed_trees.specs.declared.kinds.Kind.{Kind}
use Rattle.typed_trees.specs.declared.kinds.Kind.TheVariants.{Number, Date, Text, Truth}
use Rattle.typed_trees.specs.declared.typed.AggregateKind.{AggregateKind}
use Rattle.typed_trees.specs.declared.typed.AggregateKind.TheVariants as of
use Rattle.typed_trees.specs.Kinds.{is_number, is_truth}
use Rattle.typed_trees.specs.Types.{DataType, typed_as, counted_type, folded_type}
use Rattle.typed_trees.proofs.Inversions.{passed, some_same}
use Rattle.typed_values.specs.Aggregates.{aggregate_of, aggregate_over, greater, lesser, mean_of, numbers_in, sum_of, those_there}
use Rattle.typed_values.specs.Intervals.{signed}
use Rattle.typed_values.specs.Values.{Valued, exact, is_null, or_over, quotient_value, with}
use Rattle.query_answers.specs.FoldLaws.{is_numeric}
use Rattle.held_answers.specs.Shown.{is_shown}

pub ok_same : {A : Type 0} (a b : A) → ◌≡◌ {A = Result A Over} (Ok a) (Ok b) → a ≡ b
ok_same a b e = cc

module _ (texts : List (List ℕ)) where
  abbrev pub IsShown : Kind → Value → Type 0
  IsShown k v = is_shown texts k v ≡ true

  numeric_shown : (k : Kind) (v : Value) → is_number k ≡ true → is_numeric v ≡ true → IsShown k v
  numeric_shown Number (number z) h n = refl
  numeric_shown k (text t) h n = absurd (false≢true n)
  numeric_shown k (truth b) h n = absurd (false≢true n)
  numeric_shown k null h n = refl
  numeric_shown Date (number z) h n = absurd (false≢true h)
  numeric_shown Text (number z) h n = absurd (false≢true h)
  numeric_shown Truth (number z) h n = absurd (false≢true h)

  -- ---- numbers

  abbrev IsNumeric : Value → Type 0
  IsNumeric v = is_numeric v ≡ true

  exact_numeric : (z : ℤ) (v : Value) → exact z ≡ Ok v → IsNumeric v
  exact_numeric z v e = by (in_128_bits z) e
    where
      by : (o : Option ℤ) → or_over o ≡ Ok v → IsNumeric v
      by (Some x) e = subst IsNumeric (ok_same (number x) v e) refl
      by None e = absurd cc

  sum_numeric : (vs : List Value) (v : Value) → sum_of vs ≡ Ok v → IsNumeric v
  sum_numeric [] v e = subst IsNumeric (ok_same null v e) refl
  sum_numeric (w ∷ vs) v e = exact_numeric (total_of (numbers_in (w ∷ vs))) v e

  quotient_numeric : (a : Value) (n : ℕ) (v : Value) → quotient_value a Plus n ≡ Ok v → IsNumeric v
  quotient_numeric (number x) n v e = exact_numeric (int_div x (signed Plus (pos n))) v e
  quotient_numeric (text t) n v e = subst IsNumeric (ok_same null v e) refl
  quotient_numeric (truth b) n v e = subst IsNumeric (ok_same null v e) refl
  quotient_numeric null n v e = subst IsNumeric (ok_same null v e) refl

  mean_numeric : (vs : List Value) (v : Value) → mean_of vs ≡ Ok v → IsNumeric v
  mean_numeric vs v e = by (sum_of vs) e
    where
      by : (r : Valued) → with r (λ sum. quotient_value sum Plus (length vs)) ≡ Ok v → IsNumeric v
      by (Ok s) e = quotient_numeric s (length vs) v e
      by (Err x) e = absurd cc

  -- ---- one of the values

  module _ (k : Kind) where
    either_shown : (c : Bool) (a b : Value) → IsShown k a → IsShown k b → IsShown k (if c then b else a)
    either_shown true a b g h = h
    either_shown false a b g h = g

    fold_shown : (pick : Value → Value → Value) → ((a b : Value) → IsShown k a → IsShown k b → IsShown k (pick a b)) → (a : Value) (vs : List Value) → IsShown k a → All (IsShown k) vs → IsShown k (fold pick a vs)
    fold_shown pick each a [] g h = g
    fold_shown pick each a (v ∷ vs) g h = fold_shown pick each (pick a v) vs (each a v g (All-head (IsShown k) v vs h)) (All-tail (IsShown k) v vs h)

    least_shown : (vs : List Value) (v : Value) → All (IsShown k) vs → aggregate_of of.Min vs ≡ Ok v → IsShown k v
    least_shown [] v h e = subst (IsShown k) (ok_same null v e) refl
    least_shown (w ∷ vs) v h e = subst (IsShown k) (ok_same (fold lesser w vs) v e) (fold_shown lesser (λ a b. either_shown (is_gt (by_value a b)) a b) w vs (All-head (IsShown k) w vs h) (All-tail (IsShown k) w vs h))

    greatest_shown : (vs : List Value) (v : Value) → All (IsShown k) vs → aggregate_of of.Max vs ≡ Ok v → IsShown k v
    greatest_shown [] v h e = subst (IsShown k) (ok_same null v e) refl
    greatest_shown (w ∷ vs) v h e = subst (IsShown k) (ok_same (fold greater w vs) v e) (fold_shown greater (λ a b. either_shown (is_lt (by_value a b)) a b) w vs (All-head (IsShown k) w vs h) (All-tail (IsShown k) w vs h))

  -- ---- an aggregate of values of a type

  as_type : (u t : DataType) (v : Value) → u ≡ t → IsShown u.kind v → IsShown t.kind v
  as_type u t v e g = subst (λ (x : DataType). IsShown x.kind v) e g

  folded_shown : (kind : AggregateKind) (u t : DataType) (vs : List Value) (v : Value) → folded_type kind u ≡ Some t → All (IsShown u.kind) vs → aggregate_of kind vs ≡ Ok v → IsShown t.kind v
  folded_shown of.Count u t vs v is h e = as_type (typed_as Number 0) t v (passed (not (is_truth u.kind)) (typed_as Number 0) t is).1 (subst (IsShown Number) (ok_same (number (pos (length vs))) v e) refl)
  folded_shown of.Sum u t vs v is h e = let a = passed (is_number u.kind) u t is in as_type u t v a.1 (numeric_shown u.kind v a.0 (sum_numeric vs v e))
  folded_shown of.Avg u t vs v is h e = let a = passed (is_number u.kind) u t is in as_type u t v a.1 (numeric_shown u.kind v a.0 (mean_numeric vs v e))
  folded_shown of.Min u t vs v is h e = as_type u t v (passed (not (is_truth u.kind)) u t is).1 (least_shown u.kind vs v h e)
  folded_shown of.Max u t vs v is h e = as_type u t v (passed (not (is_truth u.kind)) u t is).1 (greatest_shown u.kind vs v h e)

  pub over_shown : (kind : AggregateKind) (u t : DataType) (vs : List Value) (v : Value) → folded_type kind u ≡ Some t → All (IsShown u.kind) vs → aggregate_over kind vs ≡ Ok v → IsShown t.kind v
  over_shown kind u t vs v is h e = folded_shown kind u t (those_there vs) v is (All-filter (λ (w : Value). not (is_null w)) (IsShown u.kind) vs h) e

  -- a count of rows
  pub counted_shown : (kind : AggregateKind) (t : DataType) (n : ℕ) (v : Value) → counted_type kind ≡ Some t → ◌≡◌ {A = Valued} (Ok (number (pos n))) (Ok v) → IsShown t.kind v
  counted_shown of.Count t n v is e = as_type (typed_as Number 0) t v (some_same (typed_as Number 0) t is) (subst (IsShown Number) (ok_same (number (pos n)) v e) refl)
  counted_shown of.Sum t n v is e = absurd cc
  counted_shown of.Min t n v is e = absurd cc
  counted_shown of.Max t n v is e = absurd cc
  counted_shown of.Avg t n v is e = absurd cc
