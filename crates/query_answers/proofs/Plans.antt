-- What a plan may do to a query: ask conditions of one source's rows alone, and leave columns out.
use Rattle.std.proofs.Common.{◌≡◌, ◌∙◌, ℕ, Bool, true, false, cond, not, ◌&&◌, ◌||◌, if◌then◌else◌, List, [], ◌∷◌, ◌++◌, length, map, get_or, Result, Ok, Err, is_err, refl, sym, ap}
use Rattle.std.specs.Prelude.{filter}
use Rattle.std.specs.List.{Contains, list_all, list_any}
use Rattle.std.proofs.lemmas.Bool.{false≢true}
use Rattle.std.proofs.lemmas.List.Elements.{filter_agree}
use Rattle.dict_codes.proofs.Members.{here, there}
use Rattle.control_vectors.specs.declared.Over.{Over}
use Rattle.control_vectors.specs.Slots.{over}
use Rattle.table_load.specs.Values.{Table}
use Rattle.typed_trees.specs.declared.typed.PlanSource.{PlanSource}
use Rattle.typed_trees.specs.declared.typed.TypedExpr.{TypedExpr}
use Rattle.typed_values.specs.Values.{value, value_on_row}
use Rattle.query_answers.specs.Clauses.{Clauses}
use Rattle.query_answers.specs.Overs.{◌>>=◌, each, is_met, kept}
use Rattle.query_answers.specs.Answers.{Row, FromRow, meets, from_rows, on_row, condition, kept_rows, selected, output_row, in_order, answer}
use Rattle.query_answers.specs.Laws.{with_parts, with_columns, over_sources, on_source, PlanLaws}
use Rattle.query_answers.proofs.Lists.{filter_both, kept_within}
use Rattle.query_answers.proofs.Strict.{kept_are, condition_met, condition_over}
use Rattle.query_answers.proofs.Joins.{pushed, narrowed}

-- ---- tests of all, and of some

neither : (a b : Bool) → (a || b) ≡ false → (a ≡ false) × (b ≡ false)
neither true b e = absurd (false≢true (sym e))
neither false b e = (refl, e)

module _ {A : Type 0} where
  -- a test of the elements that pass another, and of those that fail it
  all_split : (t p : A → Bool) (xs : List A) → (list_all t (filter p xs) && list_all t (filter (λ x. not (p x)) xs)) ≡ list_all t xs
  all_split t p [] = refl
  all_split t p (x ∷ xs) = by (p x) (all_split t p xs)
    where
      first : (a b c : Bool) → ((a && b) && c) ≡ (a && (b && c))
      first true b c = refl
      first false b c = refl

      second : (a b c : Bool) → (b && (a && c)) ≡ (a && (b && c))
      second true b c = refl
      second false true c = refl
      second false false c = refl

      by : (b : Bool) → (list_all t (filter p xs) && list_all t (filter (λ y. not (p y)) xs)) ≡ list_all t xs
          → (list_all t (cond b (x ∷ filter p xs) (filter p xs)) && list_all t (cond (not b) (x ∷ filter (λ y. not (p y)) xs) (filter (λ y. not (p y)) xs))) ≡ (t x && list_all t xs)
      by true h = first (t x) (list_all t (filter p xs)) (list_all t (filter (λ y. not (p y)) xs)) ∙ ap (λ (b : Bool). t x && b) h
      by false h = second (t x) (list_all t (filter p xs)) (list_all t (filter (λ y. not (p y)) xs)) ∙ ap (λ (b : Bool). t x && b) h

  -- two tests that agree where a third passes
  all_agree : (f g p : A → Bool) → ((x : A) → p x ≡ true → f x ≡ g x) → (xs : List A) → list_all f (filter p xs) ≡ list_all g (filter p xs)
  all_agree f g p same [] = refl
  all_agree f g p same (x ∷ xs) = by (p x) (same x) (all_agree f g p same xs)
    where
      by : (b : Bool) → (b ≡ true → f x ≡ g x) → list_all f (filter p xs) ≡ list_all g (filter p xs) → list_all f (cond b (x ∷ filter p xs) (filter p xs)) ≡ list_all g (cond b (x ∷ filter p xs) (filter p xs))
      by true e h = ap (λ (b : Bool). b && list_all f (filter p xs)) (e refl) ∙ ap (λ (b : Bool). g x && b) h
      by false e h = h

  none_kept : (f p : A → Bool) (xs : List A) → list_any f xs ≡ false → list_any f (filter p xs) ≡ false
  none_kept f p [] h = refl
  none_kept f p (x ∷ xs) h = let n = neither (f x) (list_any f xs) h in by (p x) n.0 (none_kept f p xs n.1)
    where
      by : (b : Bool) → f x ≡ false → list_any f (filter p xs) ≡ false → list_any f (cond b (x ∷ filter p xs) (filter p xs)) ≡ false
      by true e h = ap (λ (b : Bool). b || list_any f (filter p xs)) e ∙ h
      by false e h = h

  none_of : (f : A → Bool) (xs : List A) → ((x : A) → Contains xs x → f x ≡ false) → list_any f xs ≡ false
  none_of f [] h = refl
  none_of f (x ∷ xs) h = ap (λ (b : Bool). b || list_any f xs) (h x (here x xs)) ∙ none_of f xs (λ y g. h y (there x y xs g))

-- ---- parts of WHERE that ask of one source alone

-- what a query makes of its kept rows
abbrev rest_of : Clauses → Result (List FromRow) Over → Result (List Row) Over
rest_of q kept_rows = kept_rows >>= λ rows. selected q q.grouped rows >>= λ places. each (output_row q) places >>= λ outputs. Ok (map (λ o. o.items) (in_order q.order outputs))

module _ (tables : List Table) (front : List PlanSource) (s : PlanSource) (others : List PlanSource) (moves : TypedExpr → Bool) (parts : List TypedExpr) where
  abbrev all_rows : List FromRow
  all_rows = from_rows tables (front ++ s ∷ others)

  abbrev stay : List TypedExpr
  stay = filter (λ e. not (moves e)) parts

  abbrev asked : FromRow → Bool
  asked row = meets (filter moves parts) (get_or row (length front) [])

  module _ (narrow : (row : FromRow) → Contains all_rows row → list_any (λ e. is_err (value (on_row row) e)) parts ≡ false)
      (alone : (row : FromRow) (e : TypedExpr) → moves e ≡ true → value (on_row row) e ≡ value_on_row (on_source (length front) row) e) where
    -- a row is kept by the parts that moved and by those that stay, or by all
    same_test : (row : FromRow) → (asked row && is_met (condition stay (on_row row))) ≡ is_met (condition parts (on_row row))
    same_test row =
        let met : TypedExpr → Bool = λ e. is_met (value (on_row row) e) in
        let there : TypedExpr → Bool = λ e. is_met (value_on_row (on_source (length front) row) e) in
        let moved : asked row ≡ list_all met (filter moves parts) = sym (all_agree met there moves (λ e m. ap is_met (alone row e m)) parts) in
        (λ i. moved i && condition_met (on_row row) stay i) ∙ (all_split met moves parts ∙ sym (condition_met (on_row row) parts))

    never : list_any (λ row. is_err (condition parts (on_row row))) all_rows ≡ false
    never = none_of (λ row. is_err (condition parts (on_row row))) all_rows (λ row h. condition_over (on_row row) parts ∙ narrow row h)

    still_never : list_any (λ row. is_err (condition stay (on_row row))) (filter asked all_rows) ≡ false
    still_never = none_of (λ row. is_err (condition stay (on_row row))) (filter asked all_rows)
        (λ row h. condition_over (on_row row) stay ∙ none_kept (λ e. is_err (value (on_row row) e)) (λ e. not (moves e)) parts (narrow row (kept_within asked row all_rows h)))

    same_kept : kept (λ row. condition stay (on_row row)) (filter asked all_rows) ≡ kept (λ row. condition parts (on_row row)) all_rows
    same_kept =
        let met_all : FromRow → Bool = λ row. is_met (condition parts (on_row row)) in
        let met_stay : FromRow → Bool = λ row. is_met (condition stay (on_row row)) in
        kept_are (λ row. condition stay (on_row row)) (filter asked all_rows)
        ∙ (ap (λ (b : Bool). if b then Err over else Ok (filter met_stay (filter asked all_rows))) still_never
        ∙ (ap (λ (l : List FromRow). Ok l) (sym (filter_both asked met_stay all_rows) ∙ filter_agree (λ row. asked row && met_stay row) met_all same_test all_rows)
        ∙ (sym (ap (λ (b : Bool). if b then Err over else Ok (filter met_all all_rows)) never) ∙ sym (kept_are (λ row. condition parts (on_row row)) all_rows))))

    moved : (q : Clauses) → answer tables (over_sources (front ++ with_parts (filter moves parts) s ∷ others) stay q) ≡ answer tables (over_sources (front ++ s ∷ others) parts q)
    unfolding answer
    moved q = ap (rest_of q) (ap (kept (λ row. condition stay (on_row row))) (pushed tables front s others (filter moves parts)) ∙ same_kept)

-- ---- columns

fewer : (tables : List Table) (columns : PlanSource → List ℕ) (q : Clauses) → answer tables (record q { sources = map (λ s. with_columns (columns s) s) q.sources }) ≡ answer tables q
unfolding answer
fewer tables columns q = ap (λ (rows : List FromRow). rest_of q (kept (λ row. condition q.filter (on_row row)) rows)) (narrowed tables columns ([] ∷ []) q.sources)

pub plan_laws : PlanLaws
plan_laws = record { narrowed = fewer; moved = λ tables front s others moves parts q narrow alone. moved tables front s others moves parts narrow alone q }
