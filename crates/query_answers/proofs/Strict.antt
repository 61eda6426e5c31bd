-- What is Over on one of many rows is Over, and else each row counts by itself.
use Rattle.std.proofs.Common.{◌≡◌, Bool, true, false, ◌&&◌, ◌||◌, if◌then◌else◌, List, [], ◌∷◌, ◌++◌, Result, Ok, Err, is_err, refl, ap, ◌∙◌}
use Rattle.std.specs.Prelude.{filter, fold}
use Rattle.std.specs.List.{list_any, list_all}
use Rattle.std.proofs.lemmas.List.Elements.{filter-append}
use Rattle.control_vectors.specs.declared.Over.{Over}
use Rattle.control_vectors.specs.Slots.{over}
use Rattle.sql_values.specs.Values.{Value, number, text, truth, null}
use Rattle.typed_trees.specs.declared.typed.TypedExpr.{TypedExpr}
use Rattle.typed_values.specs.Values.{Valued, On, value, both, is_true}
use Rattle.query_answers.specs.Overs.{◌>>=◌, each, is_met, kept}
use Rattle.query_answers.specs.Answers.{condition}
use Rattle.query_answers.specs.Laws.{KeptLaws}

-- there is one Over
pub one_over : (e : Over) → e ≡ over
one_over e = refl

module _ {A B : Type 0} (f : A → Result B Over) where
  -- whether something is Over
  pub each_over : (xs : List A) → is_err (each f xs) ≡ list_any (λ x. is_err (f x)) xs
  each_over [] = refl
  each_over (x ∷ xs) = by (f x) (each f xs) (each_over xs)
    where
      by : (r : Result B Over) (rs : Result (List B) Over) → is_err rs ≡ list_any (λ x. is_err (f x)) xs → is_err (r >>= λ y. rs >>= λ ys. Ok (y ∷ ys)) ≡ (is_err r || list_any (λ x. is_err (f x)) xs)
      by (Err e) rs h = refl
      by (Ok y) (Err e) h = h
      by (Ok y) (Ok ys) h = h

  pub each_append : (xs ys : List A) → each f (xs ++ ys) ≡ (each f xs >>= λ a. each f ys >>= λ b. Ok (a ++ b))
  each_append [] ys = by (each f ys)
    where
      by : (r : Result (List B) Over) → r ≡ (r >>= λ b. Ok b)
      by (Ok b) = refl
      by (Err e) = refl
  each_append (x ∷ xs) ys = ap (λ (r : Result (List B) Over). f x >>= λ y. r >>= λ l. Ok (y ∷ l)) (each_append xs ys) ∙ by (f x) (each f xs) (each f ys)
    where
      by : (r : Result B Over) (s t : Result (List B) Over) → (r >>= λ y. (s >>= λ a. t >>= λ b. Ok (a ++ b)) >>= λ l. Ok (y ∷ l)) ≡ ((r >>= λ y. s >>= λ l. Ok (y ∷ l)) >>= λ a. t >>= λ b. Ok (a ++ b))
      by (Err e) s t = refl
      by (Ok y) (Err e) t = refl
      by (Ok y) (Ok a) (Err e) = refl
      by (Ok y) (Ok a) (Ok b) = refl

module _ {A : Type 0} (c : A → Valued) where
  pub kept_are : (xs : List A) → kept c xs ≡ (if list_any (λ x. is_err (c x)) xs then Err over else Ok (filter (λ x. is_met (c x)) xs))
  kept_are xs = by (each c xs) (each_over c xs)
    where
      by : (r : Result (List Value) Over) → is_err r ≡ list_any (λ x. is_err (c x)) xs → (r >>= λ truths. Ok (filter (λ x. is_met (c x)) xs)) ≡ (if list_any (λ x. is_err (c x)) xs then Err over else Ok (filter (λ x. is_met (c x)) xs))
      by (Ok values) h = ap (λ (b : Bool). if b then Err over else Ok (filter (λ x. is_met (c x)) xs)) h
      by (Err e) h = ap (λ (b : Bool). if b then Err over else Ok (filter (λ x. is_met (c x)) xs)) h

  pub kept_append : (xs ys : List A) → kept c (xs ++ ys) ≡ (kept c xs >>= λ a. kept c ys >>= λ b. Ok (a ++ b))
  kept_append xs ys =
      ap (λ (r : Result (List Value) Over). r >>= λ truths. Ok (filter (λ x. is_met (c x)) (xs ++ ys))) (each_append c xs ys)
      ∙ (by (each c xs) (each c ys) ∙ ap (λ (l : List A). each c xs >>= λ s. each c ys >>= λ t. Ok l) (filter-append (λ x. is_met (c x)) xs ys) ∙ apart (each c xs) (each c ys))
    where
      by : (r s : Result (List Value) Over) → ((r >>= λ a. s >>= λ b. Ok (a ++ b)) >>= λ truths. Ok (filter (λ x. is_met (c x)) (xs ++ ys))) ≡ (r >>= λ a. s >>= λ b. Ok (filter (λ x. is_met (c x)) (xs ++ ys)))
      by (Err e) s = refl
      by (Ok a) (Err e) = refl
      by (Ok a) (Ok b) = refl

      apart : (r s : Result (List Value) Over)
          → (r >>= λ a. s >>= λ b. Ok (filter (λ x. is_met (c x)) xs ++ filter (λ x. is_met (c x)) ys)) ≡ ((r >>= λ t. Ok (filter (λ x. is_met (c x)) xs)) >>= λ a. (s >>= λ t. Ok (filter (λ x. is_met (c x)) ys)) >>= λ b. Ok (a ++ b))
      apart (Err e) s = refl
      apart (Ok a) (Err e) = refl
      apart (Ok a) (Ok b) = refl

-- ---- a condition of several parts

-- what both makes of a truth, false or unknown that stands so far
true_and : (a b : Value) → is_true (both a b) ≡ (is_true a && is_true b)
true_and (number x) (number y) = refl
true_and (number x) (text y) = refl
true_and (number x) (truth true) = refl
true_and (number x) (truth false) = refl
true_and (number x) null = refl
true_and (text x) (number y) = refl
true_and (text x) (text y) = refl
true_and (text x) (truth true) = refl
true_and (text x) (truth false) = refl
true_and (text x) null = refl
true_and (truth false) b = refl
true_and (truth true) (number y) = refl
true_and (truth true) (text y) = refl
true_and (truth true) (truth true) = refl
true_and (truth true) (truth false) = refl
true_and (truth true) null = refl
true_and null (number y) = refl
true_and null (text y) = refl
true_and null (truth true) = refl
true_and null (truth false) = refl
true_and null null = refl

folded_true : (a : Value) (vs : List Value) → is_true (fold both a vs) ≡ (is_true a && list_all is_true vs)
folded_true a [] = by (is_true a)
  where
    by : (b : Bool) → b ≡ (b && true)
    by true = refl
    by false = refl
folded_true a (v ∷ vs) = folded_true (both a v) vs ∙ (ap (λ (b : Bool). b && list_all is_true vs) (true_and a v) ∙ by (is_true a) (is_true v) (list_all is_true vs))
  where
    by : (a b c : Bool) → ((a && b) && c) ≡ (a && (b && c))
    by true b c = refl
    by false b c = refl

module _ (on : On) where
  abbrev met_folded : Result (List Value) Over → Bool
  met_folded (Ok vs) = list_all is_true vs
  met_folded (Err e) = false

  met_each : (parts : List TypedExpr) → met_folded (each (value on) parts) ≡ list_all (λ e. is_met (value on e)) parts
  met_each [] = refl
  met_each (e ∷ es) = by (value on e) (each (value on) es) (met_each es)
    where
      by : (r : Valued) (rs : Result (List Value) Over) → met_folded rs ≡ list_all (λ e. is_met (value on e)) es → met_folded (r >>= λ y. rs >>= λ ys. Ok (y ∷ ys)) ≡ (is_met r && list_all (λ e. is_met (value on e)) es)
      by (Err e) rs h = refl
      by (Ok y) (Ok ys) h = ap (λ (b : Bool). is_true y && b) h
      by (Ok y) (Err e) h = both_false (is_true y) ∙ ap (λ (b : Bool). is_true y && b) h
        where
          both_false : (b : Bool) → false ≡ (b && false)
          both_false true = refl
          both_false false = refl

  pub condition_met : (parts : List TypedExpr) → is_met (condition parts on) ≡ list_all (λ e. is_met (value on e)) parts
  condition_met parts = by (each (value on) parts) ∙ met_each parts
    where
      by : (r : Result (List Value) Over) → is_met (r >>= λ truths. Ok (fold both (truth true) truths)) ≡ met_folded r
      by (Ok vs) = folded_true (truth true) vs
      by (Err e) = refl

  pub condition_over : (parts : List TypedExpr) → is_err (condition parts on) ≡ list_any (λ e. is_err (value on e)) parts
  condition_over parts = by (each (value on) parts) ∙ each_over (value on) parts
    where
      by : (r : Result (List Value) Over) → is_err (r >>= λ truths. Ok (fold both (truth true) truths)) ≡ is_err r
      by (Ok vs) = refl
      by (Err e) = refl

pub kept_laws : KeptLaws
kept_laws = record { kept_are = kept_are; in_two = kept_append; all_parts = λ parts on. condition_met on parts; some_part = λ parts on. condition_over on parts }
