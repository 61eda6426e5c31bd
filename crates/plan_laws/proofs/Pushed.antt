-- Conditions move to their sources, one source after the other, and the answer stays.
use Rattle.std.proofs.Common.{◌≡◌, ◌≢◌, ◌∙◌, ℕ, suc, ◌+◌, ◌<◌, Bool, true, false, cond, not, ◌&&◌, if◌then◌else◌, List, [], ◌∷◌, ◌++◌, length, map, get_or, Ok, Err, is_err, refl, sym, ap, subst, arith, append_assoc}
use Rattle.std.specs.Prelude.{All, filter}
use Rattle.std.specs.List.{AllByRecursion, Contains, enumerate_from, list_all, list_any}
use Rattle.std.proofs.lemmas.Bool.{and_parts}
use Rattle.std.proofs.lemmas.List.{length_push}
use Rattle.std.proofs.lemmas.List.Elements.{All-filter, filter_agree, recursion_from_All}
use Rattle.std.proofs.lemmas.List.Folds.{list_any_none}
use Rattle.std.proofs.lemmas.List.Sums.{AllPass-from_list_all}
use Rattle.control_vectors.specs.Slots.{over}
use Rattle.table_load.specs.Values.{Table, value_at}
use Rattle.typed_trees.specs.declared.typed.PlanSource.{PlanSource}
use Rattle.typed_trees.specs.declared.typed.TypedExpr.{TypedExpr}
use Rattle.typed_values.specs.Bounds.{cannot_overflow}
use Rattle.typed_values.specs.Values.{Valued, value, value_on_row}
use Rattle.value_bounds.specs.Laws.{fits}
use Rattle.value_bounds.proofs.Values.{never_over}
use Rattle.value_laws.specs.Laws.{NamesLaw}
use Rattle.sql_values.specs.Values.{null}
use Rattle.query_answers.specs.Clauses.{Clauses}
use Rattle.query_answers.specs.Answers.{FromRow, column_value, from_rows, on_row, answer}
use Rattle.query_answers.specs.Laws.{with_parts, over_sources, on_source}
use Rattle.query_answers.proofs.Lists.{filter_both, filter_all}
use Rattle.query_answers.proofs.Plans.{plan_laws}
use Rattle.rel_plan.specs.Pushes.{moves_to, stays, with_moved, moved, pushed}
use Rattle.plan_laws.specs.PlanAnswers.{clauses_of_plan, plan_answer}
use Rattle.plan_laws.specs.Laws.{asks, is_over, PushLaw}
use Rattle.plan_laws.proofs.FittingRows.{AllOf, all_with, in_places, FitsAt, no_row_fits, tables_fit, from_row_fits}
use Rattle.plan_laws.proofs.Moves.{moves, left, named_there, left_stay, moving, staying}

-- ---- one condition

-- on a row that fits, one that cannot overflow is not Over
not_over : (row : FromRow) (e : TypedExpr) → cannot_overflow e ≡ true → fits (column_value row) e ≡ true → is_err (value (on_row row) e) ≡ false
not_over row e narrow f = by (value (on_row row) e) (never_over (column_value row) e narrow f)
  where
    by : (r : Valued) → r ≢ Err over → is_err r ≡ false
    by (Ok v) h = refl
    by (Err x) h = absurd (h refl)

-- one that asks of a source alone has its value on that source's row
alone : NamesLaw → (k : ℕ) (row : FromRow) (e : TypedExpr) → asks k e ≡ true → value (on_row row) e ≡ value_on_row (on_source k row) e
alone names_law k row e a = names_law (on_row row) (record { column = on_source k row; aggregate = λ n. Ok null }) e (record {
  columns = λ c named. ap (λ (n : ℕ). value_at c.column (get_or row n [])) (named_there k e c a named);
  aggregates = λ n named. refl;
})

-- tests that agree at each of some elements
filter_agree_on : {A : Type 0} (P : A → Type 0) (f g : A → Bool) → ((x : A) → P x → f x ≡ g x) → (xs : List A) → AllByRecursion P xs → filter f xs ≡ filter g xs
filter_agree_on P f g same [] h = refl
filter_agree_on {A} P f g same (x ∷ xs) h = ap (λ (b : Bool). cond b (x ∷ filter f xs) (filter f xs)) (same x h.0) ∙ ap (λ (l : List A). cond (g x) (x ∷ l) l) (filter_agree_on P f g same xs h.1)

-- ---- all conditions, over so many sources

module _ (names_law : NamesLaw) (tables : List Table) (count : ℕ) (parts : List TypedExpr) (q : Clauses) (narrow : All (λ e. cannot_overflow e ≡ true) parts) (within : All (λ e. is_over count e ≡ true) parts) where
  abbrev TablesFit : List PlanSource → Type 0
  TablesFit sources = AllOf tables (FitsAt parts) 0 sources

  quiet : (sources : List PlanSource) → TablesFit sources → (k : ℕ) (row : FromRow) → Contains (from_rows tables sources) row → list_any (λ e. is_err (value (on_row row) e)) (filter (left count k) parts) ≡ false
  quiet sources f k row h =
      list_any_none (λ e. is_err (value (on_row row) e)) (filter (left count k) parts)
      (All-filter (left count k) (λ e. is_err (value (on_row row) e) ≡ false) parts (λ i d l. not_over row (get_or parts i d) (narrow i d l) (from_row_fits row (get_or parts i d) (λ n. in_places tables (FitsAt parts) (no_row_fits parts) sources f row h n i d l))))

  there : AllByRecursion (λ e. is_over count e ≡ true) parts
  there = recursion_from_All (λ e. is_over count e ≡ true) parts within

  moved_parts : (k : ℕ) → k < count → filter (moves count k) (filter (left count k) parts) ≡ filter (moves_to count k) parts
  moved_parts k l = sym (filter_both (left count k) (moves count k) parts) ∙ filter_agree_on (λ e. is_over count e ≡ true) (λ e. left count k e && moves count k e) (moves_to count k) (λ e w. moving count e w k l) parts there

  left_parts : (k : ℕ) → k < count → filter (λ e. not (moves count k e)) (filter (left count k) parts) ≡ filter (left count (suc k)) parts
  left_parts k l = sym (filter_both (left count k) (λ e. not (moves count k e)) parts) ∙ filter_agree_on (λ e. is_over count e ≡ true) (λ e. left count k e && not (moves count k e)) (left count (suc k)) (λ e w. staying count e w k l) parts there

  -- one source has its conditions
  one_source : (k : ℕ) (front : List PlanSource) (s : PlanSource) (others : List PlanSource) → length front ≡ k → k < count → TablesFit (front ++ s ∷ others)
      → answer tables (over_sources (front ++ with_parts (filter (moves_to count k) parts) s ∷ others) (filter (left count (suc k)) parts) q) ≡ answer tables (over_sources (front ++ s ∷ others) (filter (left count k) parts) q)
  one_source k front s others e l f =
      (λ i. answer tables (over_sources (front ++ with_parts (sym (moved_parts k l) i) s ∷ others) (sym (left_parts k l) i) q))
      ∙ plan_laws.moved tables front s others (moves count k) (filter (left count k) parts) q (λ row h. quiet (front ++ s ∷ others) f k row h)
      (λ row x m. subst (λ (n : ℕ). value (on_row row) x ≡ value_on_row (on_source n row) x) (sym e) (alone names_law k row x ((and_parts (moves_to count k x) (asks k x) m).1)))

  -- each source from this one on has its conditions
  all_sources : (k : ℕ) (front others : List PlanSource) → length front ≡ k → k + length others ≡ count → TablesFit (front ++ others)
      → answer tables (over_sources (front ++ map (with_moved count parts) (enumerate_from k others)) (filter (left count count) parts) q) ≡ answer tables (over_sources (front ++ others) (filter (left count k) parts) q)
  all_sources k front [] e c f = let is : count ≡ k = omega arith in ap (λ (n : ℕ). answer tables (over_sources (front ++ []) (filter (left count n) parts) q)) is
  all_sources k front (s ∷ others) e c f =
      let t = with_parts (filter (moves_to count k) parts) s in
      let next : k + 1 ≡ suc k = omega arith in
      let rest : k + 1 + length others ≡ count = omega arith in
      let inside : k < count = omega arith in
      let together : (l : List PlanSource) → (front ++ t ∷ []) ++ l ≡ front ++ t ∷ l = λ l. append_assoc front (t ∷ []) l in
      let fit : TablesFit (front ++ t ∷ others) = all_with tables (FitsAt parts) 0 front s others (filter (moves_to count k) parts) f in
      let later = all_sources (k + 1) (front ++ t ∷ []) others (length_push front t ∙ ap (λ (n : ℕ). n + 1) e) rest (subst TablesFit (sym (together others)) fit) in
      ap (λ (l : List PlanSource). answer tables (over_sources l (filter (left count count) parts) q)) (sym (together (map (with_moved count parts) (enumerate_from (k + 1) others))))
      ∙ (later
      ∙ ((λ i. answer tables (over_sources (together others i) (filter (left count (next i)) parts) q))
      ∙ one_source k front s others e inside f))

-- ---- a plan

all_left : (parts : List TypedExpr) → AllByRecursion (λ e. true ≡ true) parts
all_left [] = tt
all_left (e ∷ parts) = (refl, all_left parts)

pub push_law : NamesLaw → PushLaw
unfolding pushed
push_law names_law tables p within fit = by (list_all cannot_overflow p.filter) refl
  where
    moved_answer : list_all cannot_overflow p.filter ≡ true → plan_answer tables (moved p) ≡ plan_answer tables p
    moved_answer narrow =
        let count = length p.sources in
        let none : 0 + count ≡ count = omega arith in
        ap (λ (l : List TypedExpr). answer tables (over_sources (map (with_moved count p.filter) (enumerate_from 0 p.sources)) l (clauses_of_plan p))) (sym (filter_agree (left count count) (stays count) (λ e. left_stay count e) p.filter))
        ∙ (all_sources names_law tables count p.filter (clauses_of_plan p) (AllPass-from_list_all cannot_overflow p.filter narrow) within 0 [] p.sources refl none (tables_fit tables p.sources p.filter fit)
        ∙ ap (λ (l : List TypedExpr). answer tables (over_sources p.sources l (clauses_of_plan p))) (filter_all (left count 0) p.filter (all_left p.filter)))

    by : (b : Bool) → list_all cannot_overflow p.filter ≡ b → plan_answer tables (if b then moved p else p) ≡ plan_answer tables p
    by true h = moved_answer h
    by false h = refl
