-- Which conditions move to a source, and which are left when the first sources have theirs.
use Rattle.std.proofs.Common.{◌≡◌, ◌∙◌, ℕ, zero, suc, ◌<◌, ◌≤◌, ◌==◌, Bool, true, false, not, ◌&&◌, length, get_or, refl, sym, ap, subst, arith, ⊎_elim}
use Rattle.std.specs.Prelude.{nat_lt}
use Rattle.std.proofs.lemmas.Bool.{cases_eq, and_parts, and_from, and_left, and_right, not_from_true, not_from_false, eqb-true, eq-eqb, ltb-true}
use Rattle.std.proofs.lemmas.List.Folds.{list_any_at, Any-from_list_any}
use Rattle.std.proofs.lemmas.List.Sums.{AllPass-from_list_all, list_all-from_AllPass}
use Rattle.typed_trees.specs.declared.typed.ColumnRef.{ColumnRef}
use Rattle.typed_trees.specs.declared.typed.ColumnType.{ColumnType}
use Rattle.typed_trees.specs.declared.typed.TypedExpr.{TypedExpr}
use Rattle.typed_trees.specs.Columns.{columns_in}
use Rattle.typed_trees.specs.Names.{same_column, names_column}
use Rattle.rel_plan.specs.Pushes.{names_source, sources_named, is_of_one_source, moves_to, stays}
use Rattle.plan_laws.specs.Laws.{asks, is_over}
use Rattle.plan_laws.proofs.NamedColumns.{is_named}
use Rattle.plan_laws.proofs.Places.{one_of, only_one}

abbrev pub moves : ℕ → ℕ → TypedExpr → Bool
moves count k e = moves_to count k e && asks k e

-- a condition that has not moved to one of the first k sources
abbrev pub left : ℕ → ℕ → TypedExpr → Bool
left count zero e = true
left count (suc k) e = left count k e && not (moves_to count k e)

-- what an expression that asks of a source alone names is of that source
pub named_there : (k : ℕ) (e : TypedExpr) (c : ColumnRef) → asks k e ≡ true → names_column c e ≡ true → c.source ≡ k
named_there k e c a n =
    let found = Any-from_list_any (λ (x : ColumnRef × ColumnType). same_column c x.0) (columns_in e) (sym (is_named (same_column c) e) ∙ n) in
    let is = eqb-true c.source found.1.0.source ((and_parts (c.source == found.1.0.source) (c.column == found.1.0.column) found.4).0) in
    let there = AllPass-from_list_all (λ (x : ColumnRef × ColumnType). x.0.source == k) (columns_in e) a found.0 found.1 found.2 in
    is ∙ eqb-true found.1.0.source k (subst (λ (x : ColumnRef × ColumnType). (x.0.source == k) ≡ true) found.3 there)

-- ---- where a condition moves

module _ (count : ℕ) (e : TypedExpr) where
  is_one : (n : ℕ) → moves_to count n e ≡ true → (names_source n e ≡ true) × (sources_named count e ≡ 1)
  is_one n m = let both = and_parts (names_source n e) (is_of_one_source count e) m in (both.0, eqb-true (sources_named count e) 1 both.1)

  moves_once : (n k : ℕ) → n < count → k < count → moves_to count n e ≡ true → moves_to count k e ≡ true → n ≡ k
  moves_once n k l h m g = let first = is_one n m in only_one (λ i. names_source i e) count n k first.1 l first.0 h (is_one k g).0

  not_before : (n k : ℕ) → n < count → k < n → moves_to count n e ≡ true → moves_to count k e ≡ false
  not_before n k l h m = by (moves_to count k e) refl
    where
      by : (b : Bool) → moves_to count k e ≡ b → moves_to count k e ≡ false
      by false is = is
      by true is = let j : k < count = omega arith in absurd (omega (arith, moves_once n k l j m is))

  -- a condition is left until its source comes
  left_until : (n k : ℕ) → n < count → moves_to count n e ≡ true → k ≤ n → left count k e ≡ true
  left_until n zero l m h = refl
  left_until n (suc k) l m h = let j : k < n = omega arith in let i : k ≤ n = omega arith in and_from (left count k e) (not (moves_to count k e)) (left_until n k l m i) (not_from_false (moves_to count k e) (not_before n k l j m))

  gone_after : (n k : ℕ) → n < k → moves_to count n e ≡ true → left count k e ≡ false
  gone_after n zero l m = absurd (omega arith)
  gone_after n (suc k) l m = ⊎_elim now (λ other. and_left (left count k e) (not (moves_to count k e)) (gone_after n k (earlier other) m)) (cases_eq n k)
    where
      now : n ≡ k → left count (suc k) e ≡ false
      now is = and_right (left count k e) (not (moves_to count k e)) (not_from_true (moves_to count k e) (subst (λ i. moves_to count i e ≡ true) is m))

      earlier : (n ≡ k → ⊥) → n < k
      earlier other = grind arith

  always_left : is_of_one_source count e ≡ false → (k : ℕ) → left count k e ≡ true
  always_left h zero = refl
  always_left h (suc k) = and_from (left count k e) (not (moves_to count k e)) (always_left h k) (not_from_false (moves_to count k e) (and_right (names_source k e) (is_of_one_source count e) h))

  -- at the end those are left that stay
  pub left_stay : left count count e ≡ stays count e
  left_stay = by (is_of_one_source count e) refl
    where
      by : (b : Bool) → is_of_one_source count e ≡ b → left count count e ≡ stays count e
      by false h = always_left h count ∙ sym (ap not h)
      by true h =
          let one = eqb-true (sources_named count e) 1 h in
          let found = one_of (λ i. names_source i e) count (omega (arith, one)) in
          gone_after found.0 count found.1 (and_from (names_source found.0 e) (is_of_one_source count e) found.2 h) ∙ sym (ap not h)

  module _ (within : is_over count e ≡ true) (k : ℕ) (l : k < count) where
    -- what moves to a source asks of it alone
    pub asks_there : moves_to count k e ≡ true → asks k e ≡ true
    asks_there m = list_all-from_AllPass (λ c. c.0.source == k) (columns_in e) (λ i d j. at (get_or (columns_in e) i d) (AllPass-from_list_all (λ c. nat_lt c.0.source count) (columns_in e) within i d j) (named i d j))
      where
        named : (i : ℕ) (d : ColumnRef × ColumnType) → i < length (columns_in e) → names_source (get_or (columns_in e) i d).0.source e ≡ true
        named i d j =
            let n = (get_or (columns_in e) i d).0.source in
            is_named (λ c. n == c.source) e ∙ list_any_at (λ c. n == c.0.source) (columns_in e) i d j (eq-eqb n n refl)

        at : (c : ColumnRef × ColumnType) → nat_lt c.0.source count ≡ true → names_source c.0.source e ≡ true → (c.0.source == k) ≡ true
        at c h g = let one = is_one k m in eq-eqb c.0.source k (only_one (λ i. names_source i e) count c.0.source k one.1 (ltb-true c.0.source count h) g l one.0)

    same : moves count k e ≡ moves_to count k e
    same = by (moves_to count k e) refl
      where
        by : (b : Bool) → moves_to count k e ≡ b → (moves_to count k e && asks k e) ≡ moves_to count k e
        by true m = and_from (moves_to count k e) (asks k e) m (asks_there m) ∙ sym m
        by false m = and_left (moves_to count k e) (asks k e) m ∙ sym m

    -- those that are left and move are those that move, and the others are left still
    pub moving : (left count k e && moves count k e) ≡ moves_to count k e
    moving = ap (λ (b : Bool). left count k e && b) same ∙ by (moves_to count k e) refl
      where
        by : (b : Bool) → moves_to count k e ≡ b → (left count k e && moves_to count k e) ≡ moves_to count k e
        by true m = let i : k ≤ k = omega arith in and_from (left count k e) (moves_to count k e) (left_until k k l m i) m ∙ sym m
        by false m = and_right (left count k e) (moves_to count k e) m ∙ sym m

    pub staying : (left count k e && not (moves count k e)) ≡ left count (suc k) e
    staying = ap (λ (b : Bool). left count k e && not b) same
