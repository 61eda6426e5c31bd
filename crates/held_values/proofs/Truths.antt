-- The conjunction of conditions.
use Rattle.std.proofs.Common.{◌≡◌, ◌∙◌, pos, Bool, true, false, cond, ◌&&◌, ◌||◌, List, [], ◌∷◌, ◌++◌, map, filter, refl, sym, ap, Option, Some, None, Result, Ok, Err, is_err, if◌then◌else◌}
use Rattle.std.specs.Prelude.{fold}
use Rattle.std.specs.List.{All, list_all, list_any}
use Rattle.std.specs.Ordering.{int_eq}
use Rattle.std.proofs.lemmas.List.Elements.{All-nil, All-cons, All-head, All-tail}
use Rattle.control_vectors.specs.Slots.{Slot, Cell, over}
use Rattle.control_vectors.specs.declared.Over.{Over}
use Rattle.control_vectors.specs.declared.PairKind.TheVariants.{Equals, LogicalAnd}
use Rattle.slot_folds.specs.Folds.{holds}
use Rattle.slot_wise.specs.Pairs.{conjunction}
use Rattle.sql_values.specs.Values.{Value, number, text, truth, null}
use Rattle.typed_trees.specs.declared.kinds.Kind.TheVariants.{Truth}
use Rattle.typed_trees.specs.declared.typed.TypedExpr.{TypedExpr}
use Rattle.typed_values.specs.Values.{Valued, On, value}
use Rattle.value_laws.specs.Laws.{IsOf}
use Rattle.expr_steps.specs.Lowered.{Bytes}
use Rattle.expr_values.specs.Laws.{value_slot}
use Rattle.query_answers.specs.Answers.{condition}
use Rattle.query_answers.specs.Overs.{◌>>=◌, each, is_met, kept}
use Rattle.query_answers.proofs.Strict.{each_over, kept_are, condition_met, condition_over}
use Rattle.held_rows.specs.Held.{Held, at, one}
use Rattle.held_rows.specs.Laws.{both_at}
use Rattle.held_rows.specs.Vectors.{AreSlots}
use Rattle.held_values.specs.Lifted.{values_told}
use Rattle.held_values.specs.Truths.{truth_slot, truths_told, AreTruths, all_evaluated, TruthLaws}

-- ---- LogicalAnd, one condition after another

pub are_slots : {A : Type 0} (cell : Option A → Cell) (h : A → Slot) → ((r : Option A) → cell r ≡ Ok (at h r)) → (held : Held A) → AreSlots cell h held
are_slots cell h same [] = All-nil (λ r. cell r ≡ Ok (at h r))
are_slots cell h same (r ∷ held) = All-cons (λ x. cell x ≡ Ok (at h x)) r held (same r) (are_slots cell h same held)

one_is_one : {A : Type 0} (r : Option A) → both_at Equals one one r ≡ Ok (at one r)
one_is_one None = refl
one_is_one (Some a) = refl

fold_more : (g : TypedExpr → Slot) (s : Slot) (parts : List TypedExpr) (e : TypedExpr) → conjunction (fold conjunction s (map g parts)) (g e) ≡ fold conjunction s (map g (parts ++ e ∷ []))
fold_more g s [] e = refl
fold_more g s (p ∷ parts) e = fold_more g (conjunction s (g p)) parts e

module _ {A : Type 0} (texts : List Bytes) (on : A → On) (parts : List TypedExpr) (e : TypedExpr) where
  one_more : (r : Option A) → both_at LogicalAnd (truths_told texts on parts) (values_told texts on e) r ≡ Ok (at (truths_told texts on (parts ++ e ∷ [])) r)
  one_more None = refl
  one_more (Some a) = let same = fold_more (λ p. value_slot texts (value (on a) p)) (Some (pos 1)) parts e in λ i. Ok (same i)

-- ---- it holds where each condition is true

holds_both : (x y : Slot) → holds (conjunction x y) ≡ (holds x && holds y)
holds_both None None = refl
holds_both None (Some y) = by (int_eq y (pos 0))
  where
    by : (c : Bool) → holds (if c then Some (pos 0) else None) ≡ false
    by true = refl
    by false = refl
holds_both (Some x) None = by (int_eq x (pos 0))
  where
    by : (b : Bool) → holds (if b || false then Some (pos 0) else None) ≡ ((if b then false else true) && false)
    by true = refl
    by false = refl
holds_both (Some x) (Some y) = by (int_eq x (pos 0)) (int_eq y (pos 0))
  where
    by : (b c : Bool) → holds (if b || c then Some (pos 0) else Some (pos 1)) ≡ ((if b then false else true) && (if c then false else true))
    by true c = refl
    by false true = refl
    by false false = refl

holds_all : (s : Slot) (xs : List Slot) → holds (fold conjunction s xs) ≡ (holds s && list_all holds xs)
holds_all s [] = by (holds s)
  where
    by : (b : Bool) → b ≡ (b && true)
    by true = refl
    by false = refl
holds_all s (x ∷ xs) = holds_all (conjunction s x) xs ∙ (ap (λ (b : Bool). b && list_all holds xs) (holds_both s x) ∙ by (holds s) (holds x) (list_all holds xs))
  where
    by : (a b c : Bool) → ((a && b) && c) ≡ (a && (b && c))
    by true b c = refl
    by false b c = refl

slot_met : (texts : List Bytes) (r : Valued) → IsOf Truth r → holds (value_slot texts r) ≡ is_met r
slot_met texts (Err e) h = refl
slot_met texts (Ok null) h = refl
slot_met texts (Ok (truth true)) h = refl
slot_met texts (Ok (truth false)) h = refl
slot_met texts (Ok (number z)) h = absurd cc
slot_met texts (Ok (text t)) h = absurd cc

module _ (texts : List Bytes) (on : On) where
  each_met : (parts : List TypedExpr) → AreTruths parts on → list_all holds (map (λ e. value_slot texts (value on e)) parts) ≡ list_all (λ e. is_met (value on e)) parts
  each_met [] h = refl
  each_met (e ∷ parts) h =
      let first = slot_met texts (value on e) (All-head (λ p. IsOf Truth (value on p)) e parts h) in
      let others = each_met parts (All-tail (λ p. IsOf Truth (value on p)) e parts h) in
      λ i. first i && others i

  pub truth_met : (parts : List TypedExpr) → AreTruths parts on → holds (truth_slot texts parts on) ≡ is_met (condition parts on)
  truth_met parts h = holds_all (Some (pos 1)) (map (λ e. value_slot texts (value on e)) parts) ∙ each_met parts h ∙ sym (condition_met on parts)

-- ---- rows

module _ {A : Type 0} where
  filter_where : (p q : A → Bool) (xs : List A) → All (λ x. p x ≡ q x) xs → filter p xs ≡ filter q xs
  filter_where p q [] h = refl
  filter_where p q (x ∷ xs) h =
      let first : p x ≡ q x = All-head (λ y. p y ≡ q y) x xs h in
      let others = filter_where p q xs (All-tail (λ y. p y ≡ q y) x xs h) in
      λ i. cond (first i) (x ∷ others i) (others i)

  any_same : (p q : A → Bool) → ((x : A) → p x ≡ q x) → (xs : List A) → list_any p xs ≡ list_any q xs
  any_same p q same [] = refl
  any_same p q same (x ∷ xs) =
      let first = same x in
      let others = any_same p q same xs in
      λ i. first i || others i

  any_none : (xs : List A) → list_any (λ x. false) xs ≡ false
  any_none [] = refl
  any_none (x ∷ xs) = any_none xs

  any_either : (p q : A → Bool) (xs : List A) → list_any (λ x. p x || q x) xs ≡ (list_any p xs || list_any q xs)
  any_either p q [] = refl
  any_either p q (x ∷ xs) = ap (λ (b : Bool). (p x || q x) || b) (any_either p q xs) ∙ by (p x) (q x) (list_any p xs) (list_any q xs)
    where
      by : (a b c d : Bool) → ((a || b) || (c || d)) ≡ ((a || c) || (b || d))
      by true b c d = refl
      by false true true d = refl
      by false true false d = refl
      by false false c d = refl

  evaluated_over : (on : A → On) (parts : List TypedExpr) (rows : List A) → list_any (λ a. list_any (λ e. is_err (value (on a) e)) parts) rows ≡ is_err (all_evaluated on parts rows)
  evaluated_over on [] rows = any_none rows
  evaluated_over on (e ∷ parts) rows =
      any_either (λ a. is_err (value (on a) e)) (λ a. list_any (λ p. is_err (value (on a) p)) parts) rows
      ∙ ap (λ (b : Bool). b || list_any (λ a. list_any (λ p. is_err (value (on a) p)) parts) rows) (sym (each_over (λ a. value (on a) e) rows))
      ∙ ap (λ (b : Bool). is_err (each (λ a. value (on a) e) rows) || b) (evaluated_over on parts rows)
      ∙ by (each (λ a. value (on a) e) rows) (all_evaluated on parts rows)
    where
      by : (r : Result (List Value) Over) (s : Result (Unit {0}) Over) → (is_err r || is_err s) ≡ is_err (r >>= λ values. s)
      by (Err x) s = refl
      by (Ok values) s = refl

  all_met : (texts : List Bytes) (on : A → On) (parts : List TypedExpr) (rows : List A) → All (λ a. AreTruths parts (on a)) rows → All (λ a. is_met (condition parts (on a)) ≡ holds (truths_told texts on parts a)) rows
  all_met texts on parts [] h = All-nil (λ a. is_met (condition parts (on a)) ≡ holds (truths_told texts on parts a))
  all_met texts on parts (a ∷ rows) h =
      All-cons (λ b. is_met (condition parts (on b)) ≡ holds (truths_told texts on parts b)) a rows
      (sym (truth_met texts (on a) parts (All-head (λ b. AreTruths parts (on b)) a rows h)))
      (all_met texts on parts rows (All-tail (λ b. AreTruths parts (on b)) a rows h))

  pub rows_kept : (texts : List Bytes) (on : A → On) (parts : List TypedExpr) (rows : List A) → All (λ a. AreTruths parts (on a)) rows
      → kept (λ a. condition parts (on a)) rows ≡ (all_evaluated on parts rows >>= λ u. Ok (filter (λ a. holds (truths_told texts on parts a)) rows))
  rows_kept texts on parts rows h =
      let test = any_same (λ a. is_err (condition parts (on a))) (λ a. list_any (λ e. is_err (value (on a) e)) parts) (λ a. condition_over (on a) parts) rows ∙ evaluated_over on parts rows in
      let same = filter_where (λ a. is_met (condition parts (on a))) (λ a. holds (truths_told texts on parts a)) rows (all_met texts on parts rows h) in
      kept_are (λ a. condition parts (on a)) rows
      ∙ ap (λ (b : Bool). if b then Err over else Ok (filter (λ a. is_met (condition parts (on a))) rows)) test
      ∙ ap (λ (l : List A). if is_err (all_evaluated on parts rows) then Err over else Ok l) same
      ∙ by (all_evaluated on parts rows)
    where
      by : (r : Result (Unit {0}) Over) → (if is_err r then Err over else Ok (filter (λ a. holds (truths_told texts on parts a)) rows)) ≡ (r >>= λ u. Ok (filter (λ a. holds (truths_told texts on parts a)) rows))
      by (Err e) = refl
      by (Ok u) = refl

pub truth_laws : {A : Type 0} → TruthLaws A
truth_laws = record {
  first = λ held. are_slots (both_at Equals one one) one one_is_one held;
  more = λ texts on parts e held. are_slots (both_at LogicalAnd (truths_told texts on parts) (values_told texts on e)) (truths_told texts on (parts ++ e ∷ [])) (one_more texts on parts e) held;
  met = λ texts parts on h. truth_met texts on parts h;
  kept_rows = λ texts on parts rows h. rows_kept texts on parts rows h;
}
