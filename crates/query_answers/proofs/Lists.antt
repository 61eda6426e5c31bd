-- Filters of maps, of filters and of lists made of lists.
use Rattle.std.proofs.Common.{◌≡◌, ◌∙◌, Bool, true, false, cond, ◌&&◌, List, [], ◌∷◌, ◌++◌, map, refl, sym, ap, subst, ⊎_elim}
use Rattle.std.specs.Prelude.{filter, flat_map}
use Rattle.std.specs.List.{AllByRecursion, Contains}
use Rattle.dict_codes.proofs.Members.{first_or_later, here, there}
use Rattle.std.proofs.lemmas.List.Elements.{filter-append, filter_agree}

pub filter_map : {A B : Type 0} (q : B → Bool) (f : A → B) (xs : List A) → filter q (map f xs) ≡ map f (filter (λ x. q (f x)) xs)
filter_map q f [] = refl
filter_map {A} {B} q f (x ∷ xs) = by (q (f x)) (filter_map q f xs)
  where
    by : (b : Bool) → filter q (map f xs) ≡ map f (filter (λ x. q (f x)) xs) → cond b (f x ∷ filter q (map f xs)) (filter q (map f xs)) ≡ map f (cond b (x ∷ filter (λ x. q (f x)) xs) (filter (λ x. q (f x)) xs))
    by true h = ap (λ (l : List B). f x ∷ l) h
    by false h = h

module _ {A : Type 0} where
  -- what passes two tests, in one turn or in two
  pub filter_both : (p q : A → Bool) (xs : List A) → filter (λ x. p x && q x) xs ≡ filter q (filter p xs)
  filter_both p q [] = refl
  filter_both p q (x ∷ xs) = by (p x) (filter_both p q xs)
    where
      by : (a : Bool) → filter (λ x. p x && q x) xs ≡ filter q (filter p xs) → cond (a && q x) (x ∷ filter (λ x. p x && q x) xs) (filter (λ x. p x && q x) xs) ≡ filter q (cond a (x ∷ filter p xs) (filter p xs))
      by false h = h
      by true h = ap (λ (l : List A). cond (q x) (x ∷ l) l) h

  pub filter_swap : (p q : A → Bool) (xs : List A) → filter p (filter q xs) ≡ filter q (filter p xs)
  filter_swap p q xs = sym (filter_both q p xs) ∙ (agree xs ∙ filter_both p q xs)
    where
      turned : (a b : Bool) → (a && b) ≡ (b && a)
      turned true true = refl
      turned true false = refl
      turned false true = refl
      turned false false = refl

      agree : (ys : List A) → filter (λ x. q x && p x) ys ≡ filter (λ x. p x && q x) ys
      agree ys = filter_agree (λ x. q x && p x) (λ x. p x && q x) (λ x. turned (q x) (p x)) ys

  -- a test that is the same of each of some elements
  pub filter_all : (p : A → Bool) (xs : List A) → AllByRecursion (λ x. p x ≡ true) xs → filter p xs ≡ xs
  filter_all p [] h = refl
  filter_all p (x ∷ xs) h = ap (λ (b : Bool). cond b (x ∷ filter p xs) (filter p xs)) h.0 ∙ ap (λ (l : List A). x ∷ l) (filter_all p xs h.1)

  pub filter_none : (p : A → Bool) (xs : List A) → AllByRecursion (λ x. p x ≡ false) xs → filter p xs ≡ []
  filter_none p [] h = refl
  filter_none p (x ∷ xs) h = ap (λ (b : Bool). cond b (x ∷ filter p xs) (filter p xs)) h.0 ∙ filter_none p xs h.1

  pub all_weaker : (P Q : A → Type 0) → ((x : A) → P x → Q x) → (xs : List A) → AllByRecursion P xs → AllByRecursion Q xs
  all_weaker P Q f [] h = tt
  all_weaker P Q f (x ∷ xs) h = (f x h.0, all_weaker P Q f xs h.1)

  pub all_append : (P : A → Type 0) (xs ys : List A) → AllByRecursion P xs → AllByRecursion P ys → AllByRecursion P (xs ++ ys)
  all_append P [] ys h g = g
  all_append P (x ∷ xs) ys h g = (h.0, all_append P xs ys h.1 g)

module _ {A B : Type 0} where
  pub filter_flat_map : (q : B → Bool) (f : A → List B) (xs : List A) → filter q (flat_map f xs) ≡ flat_map (λ x. filter q (f x)) xs
  filter_flat_map q f [] = refl
  filter_flat_map q f (x ∷ xs) = filter-append q (f x) (flat_map f xs) ∙ ap (λ (l : List B). filter q (f x) ++ l) (filter_flat_map q f xs)

  -- pieces that agree wherever a premise holds
  pub flat_map_agree : (P : A → Type 0) (f g : A → List B) → ((x : A) → P x → f x ≡ g x) → (xs : List A) → AllByRecursion P xs → flat_map f xs ≡ flat_map g xs
  flat_map_agree P f g same [] h = refl
  flat_map_agree P f g same (x ∷ xs) h = ap (λ (l : List B). l ++ flat_map f xs) (same x h.0) ∙ ap (λ (l : List B). g x ++ l) (flat_map_agree P f g same xs h.1)

  pub all_flat_map : (P : A → Type 0) (Q : B → Type 0) (f : A → List B) → ((x : A) → P x → AllByRecursion Q (f x)) → (xs : List A) → AllByRecursion P xs → AllByRecursion Q (flat_map f xs)
  all_flat_map P Q f each [] h = tt
  all_flat_map P Q f each (x ∷ xs) h = all_append Q (f x) (flat_map f xs) (each x h.0) (all_flat_map P Q f each xs h.1)

  pub all_map : (Q : B → Type 0) (f : A → B) → ((x : A) → Q (f x)) → (xs : List A) → AllByRecursion Q (map f xs)
  all_map Q f each [] = tt
  all_map Q f each (x ∷ xs) = (each x, all_map Q f each xs)

  -- of the elements that a test passes, and of all with nothing for the others
  pub flat_map_filter : (p : A → Bool) (f : A → List B) (xs : List A) → flat_map f (filter p xs) ≡ flat_map (λ x. cond (p x) (f x) []) xs
  flat_map_filter p f [] = refl
  flat_map_filter p f (x ∷ xs) = by (p x) (flat_map_filter p f xs)
    where
      by : (b : Bool) → flat_map f (filter p xs) ≡ flat_map (λ x. cond (p x) (f x) []) xs → flat_map f (cond b (x ∷ filter p xs) (filter p xs)) ≡ cond b (f x) [] ++ flat_map (λ x. cond (p x) (f x) []) xs
      by true h = ap (λ (l : List B). f x ++ l) h
      by false h = h

-- what a test keeps of a list is in it
pub kept_within : {A : Type 0} (p : A → Bool) (x : A) (xs : List A) → Contains (filter p xs) x → Contains xs x
kept_within p x [] h = h
kept_within p x (y ∷ ys) h = by (p y) (λ g. kept_within p x ys g) h
  where
    by : (b : Bool) → (Contains (filter p ys) x → Contains ys x) → Contains (cond b (y ∷ filter p ys) (filter p ys)) x → Contains (y ∷ ys) x
    by true further g = ⊎_elim (λ e. subst (Contains (y ∷ ys)) e (here y ys)) (λ l. there y x ys (further l)) (first_or_later y x (filter p ys) g)
    by false further g = there y x ys (further g)
