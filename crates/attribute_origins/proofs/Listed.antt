-- Lists of traces: their paths, and what holds of each.
use Rattle.std.proofs.Common.{◌≡◌, Bool, true, false, List, [], ◌∷◌, map, refl, ap, if◌then◌else◌}
use Rattle.std.specs.Prelude.{All, filter}
use Rattle.std.proofs.lemmas.List.Elements.{All-cons, All-head, All-tail}
use Rattle.programs.specs.Merges.{entered, merged}

-- ---- merged lists

entered_map : {A B : Type 0} (f : A → B) (before : B → B → Bool) (x : A) (rest : List A → List A) (more : List B → List B) → ((zs : List A) → map f (rest zs) ≡ more (map f zs)) → (ys : List A) → map f (entered (λ a b. before (f a) (f b)) x rest ys) ≡ entered before (f x) more (map f ys)
entered_map f before x rest more each [] = ap (λ l. f x ∷ l) (each [])
entered_map f before x rest more each (y ∷ ys) = by (before (f y) (f x)) (entered_map f before x rest more each ys)
  where
    by : (b : Bool) → map f (entered (λ a b. before (f a) (f b)) x rest ys) ≡ entered before (f x) more (map f ys) → map f (if b then y ∷ entered (λ a b. before (f a) (f b)) x rest ys else x ∷ rest (y ∷ ys)) ≡ (if b then f y ∷ entered before (f x) more (map f ys) else f x ∷ more (f y ∷ map f ys))
    by true e = ap (λ l. f y ∷ l) e
    by false e = ap (λ l. f x ∷ l) (each (y ∷ ys))

pub merged_map : {A B : Type 0} (f : A → B) (before : B → B → Bool) (xs ys : List A) → map f (merged (λ a b. before (f a) (f b)) xs ys) ≡ merged before (map f xs) (map f ys)
merged_map f before [] ys = refl
merged_map f before (x ∷ xs) ys = entered_map f before x (merged (λ a b. before (f a) (f b)) xs) (merged before (map f xs)) (λ zs. merged_map f before xs zs) ys

entered_all : {A : Type 0} (P : A → Type 0) (before : A → A → Bool) (x : A) (rest : List A → List A) → P x → ((zs : List A) → All P zs → All P (rest zs)) → (ys : List A) → All P ys → All P (entered before x rest ys)
entered_all P before x rest h each [] ys = All-cons P x (rest []) h (each [] ys)
entered_all P before x rest h each (y ∷ zs) ys = by (before y x) (entered_all P before x rest h each zs (All-tail P y zs ys))
  where
    by : (b : Bool) → All P (entered before x rest zs) → All P (if b then y ∷ entered before x rest zs else x ∷ rest (y ∷ zs))
    by true e = All-cons P y (entered before x rest zs) (All-head P y zs ys) e
    by false e = All-cons P x (rest (y ∷ zs)) h (each (y ∷ zs) ys)

pub merged_all : {A : Type 0} (P : A → Type 0) (before : A → A → Bool) (xs ys : List A) → All P xs → All P ys → All P (merged before xs ys)
merged_all P before [] ys a b = b
merged_all P before (x ∷ xs) ys a b = entered_all P before x (merged before xs) (All-head P x xs a) (λ zs c. merged_all P before xs zs (All-tail P x xs a) c) ys b

-- ---- filtered lists

pub filter_map : {A B : Type 0} (f : A → B) (keeps : B → Bool) (xs : List A) → map f (filter (λ a. keeps (f a)) xs) ≡ filter keeps (map f xs)
filter_map f keeps [] = refl
filter_map f keeps (x ∷ xs) = by (keeps (f x)) (filter_map f keeps xs)
  where
    by : (b : Bool) → map f (filter (λ a. keeps (f a)) xs) ≡ filter keeps (map f xs) → map f (if b then x ∷ filter (λ a. keeps (f a)) xs else filter (λ a. keeps (f a)) xs) ≡ (if b then f x ∷ filter keeps (map f xs) else filter keeps (map f xs))
    by true e = ap (λ l. f x ∷ l) e
    by false e = e

pub map_twice : {A B C : Type 0} (g : B → C) (f : A → B) (xs : List A) → map g (map f xs) ≡ map (λ x. g (f x)) xs
map_twice g f [] = refl
map_twice g f (x ∷ xs) = ap (λ l. g (f x) ∷ l) (map_twice g f xs)

pub map_itself : {A : Type 0} (xs : List A) → map (λ x. x) xs ≡ xs
map_itself [] = refl
map_itself (x ∷ xs) = ap (λ l. x ∷ l) (map_itself xs)
