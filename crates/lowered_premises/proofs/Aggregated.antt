-- The value of an aggregate is of its type's kind, and a text of the dictionary.
use Rattle.std.proofs.Common.{◌≡◌, ℕ, ℤ, pos, Bool, true, false, not, if◌then◌else◌, List, [], ◌∷◌, length, Option, Some, None, Ok, Err, refl, subst}
use Rattle.std.specs.Prelude.{All, fold, int_div}
use Rattle.std.specs.Ordering.{is_gt, is_lt}
use Rattle.std.proofs.lemmas.Bool.{false≢true}
use Rattle.std.proofs.lemmas.List.Elements.{All-filter, All-head, All-tail}
use Rattle.control_vectors.specs.Folds.{total_of}
use Rattle.control_vectors.specs.Slots.{in_128_bits}
use Rattle.query_trees.specs.declared.expr.Sign.TheVariants.{Plus}
use Rattle.sql_values.specs.Values.{Value, number, text, truth, null, by_value}
use Rattle.typed_trees.specs.declared.kinds.Kind.{Kind}
use Rattle.typed_trees.specs.declared.kinds.Kind.TheVariants.{Number, Date, Text, Truth}
use Rattle.typed_trees.specs.declared.typed.AggregateKind.{AggregateKind}
use Rattle.typed_trees.specs.declared.typed.AggregateKind.TheVariants as of
use Rattle.typed_trees.specs.Kinds.{is_number, is_truth}
use Rattle.typed_trees.specs.Types.{DataType, typed_as, counted_type, folded_type}
use Rattle.typed_trees.proofs.Inversions.{passed, some_same}
use Rattle.typed_values.specs.Aggregates.{aggregate_of, aggregate_over, greater, lesser, mean_of, numbers_in, sum_of, those_there}
use Rattle.typed_values.specs.Intervals.{signed}
use Rattle.typed_values.specs.Values.{Valued, exact, is_null, or_over, quotient_value, with}
use Rattle.query_answers.specs.FoldLaws.{is_numeric}
use Rattle.value_laws.specs.Laws.{is_of}
use Rattle.expr_values.specs.Laws.{is_known}
use Rattle.lowered_premises.proofs.Members.{ok_same}

-- a value of a kind or null; a text is one of the dictionary
abbrev pub Good : List (List ℕ) → Kind → Value → Type 0
Good texts k v = (is_of k v ≡ true) × (is_known texts v ≡ true)

module _ (texts : List (List ℕ)) where
  number_of : (k : Kind) (z : ℤ) → is_number k ≡ true → Good texts k (number z)
  number_of Number z h = (refl, refl)
  number_of Date z h = absurd (false≢true h)
  number_of Text z h = absurd (false≢true h)
  number_of Truth z h = absurd (false≢true h)

  numeric_good : (k : Kind) (v : Value) → is_number k ≡ true → is_numeric v ≡ true → Good texts k v
  numeric_good k (number z) h n = number_of k z h
  numeric_good k (text t) h n = absurd (false≢true n)
  numeric_good k (truth b) h n = absurd (false≢true n)
  numeric_good k null h n = (refl, refl)

  -- ---- numbers

  exact_numeric : (z : ℤ) (v : Value) → exact z ≡ Ok v → is_numeric v ≡ true
  exact_numeric z v e = by (in_128_bits z) e
    where
      by : (o : Option ℤ) → or_over o ≡ Ok v → is_numeric v ≡ true
      by (Some x) e = subst (λ (w : Value). is_numeric w ≡ true) (ok_same (number x) v e) refl
      by None e = absurd cc

  sum_numeric : (vs : List Value) (v : Value) → sum_of vs ≡ Ok v → is_numeric v ≡ true
  sum_numeric [] v e = subst (λ (w : Value). is_numeric w ≡ true) (ok_same null v e) refl
  sum_numeric (w ∷ vs) v e = exact_numeric (total_of (numbers_in (w ∷ vs))) v e

  quotient_numeric : (a : Value) (n : ℕ) (v : Value) → quotient_value a Plus n ≡ Ok v → is_numeric v ≡ true
  quotient_numeric (number x) n v e = exact_numeric (int_div x (signed Plus (pos n))) v e
  quotient_numeric (text t) n v e = subst (λ (w : Value). is_numeric w ≡ true) (ok_same null v e) refl
  quotient_numeric (truth b) n v e = subst (λ (w : Value). is_numeric w ≡ true) (ok_same null v e) refl
  quotient_numeric null n v e = subst (λ (w : Value). is_numeric w ≡ true) (ok_same null v e) refl

  mean_numeric : (vs : List Value) (v : Value) → mean_of vs ≡ Ok v → is_numeric v ≡ true
  mean_numeric vs v e = by (sum_of vs) e
    where
      by : (r : Valued) → with r (λ sum. quotient_value sum Plus (length vs)) ≡ Ok v → is_numeric v ≡ true
      by (Ok s) e = quotient_numeric s (length vs) v e
      by (Err x) e = absurd cc

  -- ---- one of the values

  module _ (k : Kind) where
    lesser_good : (a b : Value) → Good texts k a → Good texts k b → Good texts k (lesser a b)
    lesser_good a b g h = by (is_gt (by_value a b))
      where
        by : (c : Bool) → Good texts k (if c then b else a)
        by true = h
        by false = g

    greater_good : (a b : Value) → Good texts k a → Good texts k b → Good texts k (greater a b)
    greater_good a b g h = by (is_lt (by_value a b))
      where
        by : (c : Bool) → Good texts k (if c then b else a)
        by true = h
        by false = g

    fold_good : (pick : Value → Value → Value) → ((a b : Value) → Good texts k a → Good texts k b → Good texts k (pick a b)) → (a : Value) (vs : List Value) → Good texts k a → All (Good texts k) vs → Good texts k (fold pick a vs)
    fold_good pick each a [] g h = g
    fold_good pick each a (v ∷ vs) g h = fold_good pick each (pick a v) vs (each a v g (All-head (Good texts k) v vs h)) (All-tail (Good texts k) v vs h)

    least_good : (vs : List Value) (v : Value) → All (Good texts k) vs → aggregate_of of.Min vs ≡ Ok v → Good texts k v
    least_good [] v h e = subst (Good texts k) (ok_same null v e) (refl, refl)
    least_good (w ∷ vs) v h e = subst (Good texts k) (ok_same (fold lesser w vs) v e) (fold_good lesser lesser_good w vs (All-head (Good texts k) w vs h) (All-tail (Good texts k) w vs h))

    greatest_good : (vs : List Value) (v : Value) → All (Good texts k) vs → aggregate_of of.Max vs ≡ Ok v → Good texts k v
    greatest_good [] v h e = subst (Good texts k) (ok_same null v e) (refl, refl)
    greatest_good (w ∷ vs) v h e = subst (Good texts k) (ok_same (fold greater w vs) v e) (fold_good greater greater_good w vs (All-head (Good texts k) w vs h) (All-tail (Good texts k) w vs h))

  -- ---- an aggregate of values of a type

  same_good : (u t : DataType) (v : Value) → u ≡ t → Good texts u.kind v → Good texts t.kind v
  same_good u t v e g = subst (λ (x : DataType). Good texts x.kind v) e g

  pub folded_good : (kind : AggregateKind) (u t : DataType) (vs : List Value) (v : Value) → folded_type kind u ≡ Some t → All (Good texts u.kind) vs → aggregate_of kind vs ≡ Ok v → Good texts t.kind v
  folded_good of.Count u t vs v is h e =
      same_good (typed_as Number 0) t v (passed (not (is_truth u.kind)) (typed_as Number 0) t is).1 (subst (Good texts Number) (ok_same (number (pos (length vs))) v e) (refl, refl))
  folded_good of.Sum u t vs v is h e = let a = passed (is_number u.kind) u t is in same_good u t v a.1 (numeric_good u.kind v a.0 (sum_numeric vs v e))
  folded_good of.Avg u t vs v is h e = let a = passed (is_number u.kind) u t is in same_good u t v a.1 (numeric_good u.kind v a.0 (mean_numeric vs v e))
  folded_good of.Min u t vs v is h e = same_good u t v (passed (not (is_truth u.kind)) u t is).1 (least_good u.kind vs v h e)
  folded_good of.Max u t vs v is h e = same_good u t v (passed (not (is_truth u.kind)) u t is).1 (greatest_good u.kind vs v h e)

  pub over_good : (kind : AggregateKind) (u t : DataType) (vs : List Value) (v : Value) → folded_type kind u ≡ Some t → All (Good texts u.kind) vs → aggregate_over kind vs ≡ Ok v → Good texts t.kind v
  over_good kind u t vs v is h e = folded_good kind u t (those_there vs) v is (All-filter (λ (w : Value). not (is_null w)) (Good texts u.kind) vs h) e

  -- a count of rows
  pub counted_good : (kind : AggregateKind) (t : DataType) (n : ℕ) (v : Value) → counted_type kind ≡ Some t → ◌≡◌ {A = Valued} (Ok (number (pos n))) (Ok v) → Good texts t.kind v
  counted_good of.Count t n v is e = same_good (typed_as Number 0) t v (some_same (typed_as Number 0) t is) (subst (Good texts Number) (ok_same (number (pos n)) v e) (refl, refl))
  counted_good of.Sum t n v is e = absurd cc
  counted_good of.Min t n v is e = absurd cc
  counted_good of.Max t n v is e = absurd cc
  counted_good of.Avg t n v is e = absurd cc
