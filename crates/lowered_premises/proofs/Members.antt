-- What is kept of rows and groups, and what is made of them.
use Rattle.std.proofs.Common.{◌≡◌, ℕ, zero, suc, List, [], ◌∷◌, map, get_or, Some, Result, Ok, Err, refl, subst, ⊎_elim}
use Rattle.std.specs.Prelude.{All, filter, slice_get}
use Rattle.std.specs.List.{Contains}
use Rattle.std.proofs.lemmas.List.Elements.{All-nil, All-cons, All-filter, All-map, All-weaker, Contains-get_or}
use Rattle.control_vectors.specs.declared.Over.{Over}
use Rattle.dict_codes.proofs.Members.{first_or_later, here, nothing_in, there}
use Rattle.table_load.specs.Values.{Table}
use Rattle.typed_trees.specs.declared.typed.PlanSource.{PlanSource}
use Rattle.typed_values.specs.Values.{Valued}
use Rattle.query_answers.specs.Answers.{groups_of, meets, on_group}
use Rattle.query_answers.specs.Overs.{◌>>=◌, each, is_met, kept}
use Rattle.query_answers.proofs.Lists.{kept_within}
use Rattle.plan_laws.specs.PlanAnswers.{clauses_of_plan}
use Rattle.lowered_premises.specs.Sources.{alone, met_rows, IsRowOf, IsGroupOf}
use Rattle.lowered_premises.specs.Laws.{MemberLaws}

pub ok_same : {A : Type 0} (a b : A) → ◌≡◌ {A = Result A Over} (Ok a) (Ok b) → a ≡ b
ok_same a b e = cc

-- what comes of two steps
pub both_ok : {A B : Type 0} (r : Result A Over) (f : A → Result B Over) (y : B) → (r >>= f) ≡ Ok y → (x : A) × (r ≡ Ok x) × (f x ≡ Ok y)
both_ok (Ok x) f y e = (x, refl, e)
both_ok (Err z) f y e = absurd cc

pub kept_stay : {A : Type 0} (P : A → Type 0) (c : A → Valued) (xs left : List A) → kept c xs ≡ Ok left → All P xs → All P left
kept_stay {A} P c xs left e h =
    let made = both_ok (each c xs) (λ truths. Ok (filter (λ x. is_met (c x)) xs)) left e in
    subst (All P) (ok_same (filter (λ x. is_met (c x)) xs) left made.2) (All-filter (λ (x : A). is_met (c x)) P xs h)

-- what a list is made of
abbrev pub IsMade : {A B : Type 0} → (A → Result B Over) → List A → B → Type 0
IsMade {A} f xs y = (x : A) × Contains xs x × (f x ≡ Ok y)

pub each_made : {A B : Type 0} (f : A → Result B Over) (xs : List A) (ys : List B) → each f xs ≡ Ok ys → All (IsMade f xs) ys
each_made {A} {B} f [] ys e = subst (All (IsMade f [])) (ok_same [] ys e) (All-nil (IsMade f []))
each_made {A} {B} f (x ∷ xs) ys e =
    let first = both_ok (f x) (λ y. each f xs >>= λ zs. Ok (y ∷ zs)) ys e in
    let others = both_ok (each f xs) (λ zs. Ok (first.0 ∷ zs)) ys first.2 in
    let later = All-weaker (IsMade f xs) (IsMade f (x ∷ xs)) (λ y m. (m.0, there x m.0 xs m.1, m.2)) others.0 (each_made f xs others.0 others.1) in
    subst (All (IsMade f (x ∷ xs))) (ok_same (first.0 ∷ others.0) ys others.2) (All-cons (IsMade f (x ∷ xs)) first.0 others.0 (x, here x xs, first.1) later)

-- the element that is made of the one in a place
pub each_at : {A B : Type 0} (f : A → Result B Over) (xs : List A) (ys : List B) (n : ℕ) (x : A) (d : B) → each f xs ≡ Ok ys → slice_get xs n ≡ Some x → f x ≡ Ok (get_or ys n d)
each_at f [] ys n x d e at = absurd cc
each_at {A} {B} f (w ∷ xs) ys n x d e at =
    let first = both_ok (f w) (λ y. each f xs >>= λ zs. Ok (y ∷ zs)) ys e in
    let others = both_ok (each f xs) (λ zs. Ok (first.0 ∷ zs)) ys first.2 in
    subst (λ (l : List B). f x ≡ Ok (get_or l n d)) (ok_same (first.0 ∷ others.0) ys others.2) (by n first.0 others.0 first.1 (λ m rest. each_at f xs others.0 m x d others.1 rest) at)
  where
    by : (n : ℕ) (y : B) (zs : List B) → f w ≡ Ok y → ((m : ℕ) → slice_get xs m ≡ Some x → f x ≡ Ok (get_or zs m d)) → slice_get (w ∷ xs) n ≡ Some x → f x ≡ Ok (get_or (y ∷ zs) n d)
    by zero y zs first later at = let same : w ≡ x = cc in subst (λ (v : A). f v ≡ Ok y) same first
    by (suc n) y zs first later at = later n at

-- an element of a mapped list
pub mapped_from : {A B : Type 0} (f : A → B) (xs : List A) (y : B) → Contains (map f xs) y → (x : A) × Contains xs x × (f x ≡ y)
mapped_from f [] y h = absurd (nothing_in y h)
mapped_from f (x ∷ xs) y h =
    ⊎_elim (λ e. (x, here x xs, e)) (λ m. let g = mapped_from f xs y m in (g.0, there x g.0 xs g.1, g.2)) (first_or_later (f x) y (map f xs) h)

met : (t : Table) (s : PlanSource) → All (IsRowOf t) (map alone (met_rows s t))
met t s = All-map (IsRowOf t) alone (met_rows s t) (λ k d l. let r = get_or (met_rows s t) k d in (r, kept_within (meets s.filter) r t.rows (Contains-get_or (met_rows s t) k d l), refl))

pub member_laws : MemberLaws
member_laws = record {
  rows = met;
  kept_rows = λ t c rows left e h. kept_stay (IsRowOf t) c rows left e h;
  groups = λ p rows groups e. each_made (on_group (clauses_of_plan p)) (groups_of p.groups rows) groups e;
  kept_groups = λ p rows c groups left e h. kept_stay (IsGroupOf (clauses_of_plan p) rows) c groups left e h;
}
