-- Two ascending lists as one.
use Rattle.std.proofs.Common.{◌≡◌, ℕ, zero, suc, ◌+◌, ◌<◌, ◌≤◌, Bool, true, false, List, [], ◌∷◌, length, get_or, drop, map, refl, sym, ap, ◌∙◌, arith, if◌then◌else◌}
use Rattle.std.specs.Prelude.{All}
use Rattle.std.proofs.lemmas.List.{drop_more, drop_all}
use Rattle.std.proofs.lemmas.List.Elements.{All-nil, All-cons, All-head, All-tail}
use Rattle.key_paths.specs.Substructures.{is_before, IsAscending}
use Rattle.key_paths.proofs.Orders.{not_before_back}
use Rattle.programs.specs.Merges.{entered, merged}
use Rattle.programs.specs.Orders.{Rises}

-- ---- the next item

pub merged_second : {A : Type 0} (before : A → A → Bool) (xs ys : List A) (y : A) → ((x : A) (rest : List A) → xs ≡ x ∷ rest → before y x ≡ true) → merged before xs (y ∷ ys) ≡ y ∷ merged before xs ys
merged_second before [] ys y h = refl
merged_second before (x ∷ xs) ys y h = ap (λ (b : Bool). if b then y ∷ entered before x (merged before xs) ys else x ∷ merged before xs (y ∷ ys)) (h x xs refl)

pub merged_first : {A : Type 0} (before : A → A → Bool) (xs ys : List A) (x : A) → ((y : A) (rest : List A) → ys ≡ y ∷ rest → before y x ≡ false) → merged before (x ∷ xs) ys ≡ x ∷ merged before xs ys
merged_first before xs [] x h = refl
merged_first before xs (y ∷ ys) x h = ap (λ (b : Bool). if b then y ∷ entered before x (merged before xs) ys else x ∷ merged before xs (y ∷ ys)) (h y ys refl)

head_of : {A : Type 0} (xs : List A) (i : ℕ) (d x : A) (rest : List A) → drop i xs ≡ x ∷ rest → (i < length xs) × (get_or xs i d ≡ x)
head_of [] zero d x rest e = absurd cc
head_of [] (suc i) d x rest e = absurd cc
head_of (y ∷ xs) zero d x rest e = (omega arith, cc)
head_of (y ∷ xs) (suc i) d x rest e = let h = head_of xs i d x rest e in (omega (arith, h.0), h.1)

pub next_second : {A : Type 0} (before : A → A → Bool) (xs ys : List A) (i j : ℕ) (d : A) → j < length ys → (i < length xs → before (get_or ys j d) (get_or xs i d) ≡ true) → merged before (drop i xs) (drop j ys) ≡ get_or ys j d ∷ merged before (drop i xs) (drop (j + 1) ys)
next_second before xs ys i j d h first =
    ap (merged before (drop i xs)) (drop_more ys j d h)
    ∙ merged_second before (drop i xs) (drop (j + 1) ys) (get_or ys j d) (λ x rest e. let k = head_of xs i d x rest e in ap (before (get_or ys j d)) (sym k.1) ∙ first k.0)

pub next_first : {A : Type 0} (before : A → A → Bool) (xs ys : List A) (i j : ℕ) (d : A) → i < length xs → (j < length ys → before (get_or ys j d) (get_or xs i d) ≡ false) → merged before (drop i xs) (drop j ys) ≡ get_or xs i d ∷ merged before (drop (i + 1) xs) (drop j ys)
next_first before xs ys i j d h second =
    ap (λ (l : List _). merged before l (drop j ys)) (drop_more xs i d h)
    ∙ merged_first before (drop (i + 1) xs) (drop j ys) (get_or xs i d) (λ y rest e. let k = head_of ys j d y rest e in ap (λ z. before z (get_or xs i d)) (sym k.1) ∙ second k.0)

pub no_more : {A : Type 0} (before : A → A → Bool) (xs ys : List A) (i j : ℕ) → length xs ≤ i → length ys ≤ j → merged before (drop i xs) (drop j ys) ≡ []
no_more before xs ys i j h k = rw (drop_all i xs h, drop_all j ys k) refl

-- ---- what holds of both

entered-map : {A B : Type 0} (f : A → B) (before : A → A → Bool) (now : B → B → Bool) → ((x y : A) → now (f x) (f y) ≡ before x y) → (x : A) (rest : List A → List A) (others : List B → List B) → ((zs : List A) → map f (rest zs) ≡ others (map f zs)) → (ys : List A) → map f (entered before x rest ys) ≡ entered now (f x) others (map f ys)
entered-map f before now same x rest others each [] = ap (λ l. f x ∷ l) (each [])
entered-map f before now same x rest others each (y ∷ ys) = by (before y x) (now (f y) (f x)) (same y x) (entered-map f before now same x rest others each ys)
  where
    by : (b c : Bool) → c ≡ b → map f (entered before x rest ys) ≡ entered now (f x) others (map f ys) → map f (if b then y ∷ entered before x rest ys else x ∷ rest (y ∷ ys)) ≡ (if c then f y ∷ entered now (f x) others (map f ys) else f x ∷ others (f y ∷ map f ys))
    by true true e r = ap (λ l. f y ∷ l) r
    by true false e r = absurd cc
    by false true e r = absurd cc
    by false false e r = ap (λ l. f x ∷ l) (each (y ∷ ys))

pub merged-map : {A B : Type 0} (f : A → B) (before : A → A → Bool) (now : B → B → Bool) → ((x y : A) → now (f x) (f y) ≡ before x y) → (xs ys : List A) → map f (merged before xs ys) ≡ merged now (map f xs) (map f ys)
merged-map f before now same [] ys = refl
merged-map f before now same (x ∷ xs) ys = entered-map f before now same x (merged before xs) (merged now (map f xs)) (λ zs. merged-map f before now same xs zs) ys

entered-all : {A : Type 0} (P : A → Type 0) (before : A → A → Bool) (x : A) (rest : List A → List A) (ys : List A) → ((zs : List A) → All P zs → All P (rest zs)) → P x → All P ys → All P (entered before x rest ys)
entered-all P before x rest [] each h k = All-cons P x (rest []) h (each [] (All-nil P))
entered-all P before x rest (y ∷ ys) each h k = by (before y x) (entered-all P before x rest ys each h (All-tail P y ys k))
  where
    by : (b : Bool) → All P (entered before x rest ys) → All P (if b then y ∷ entered before x rest ys else x ∷ rest (y ∷ ys))
    by true r = All-cons P y (entered before x rest ys) (All-head P y ys k) r
    by false r = All-cons P x (rest (y ∷ ys)) h (each (y ∷ ys) k)

pub merged-all : {A : Type 0} (P : A → Type 0) (before : A → A → Bool) (xs ys : List A) → All P xs → All P ys → All P (merged before xs ys)
merged-all P before [] ys h k = k
merged-all P before (x ∷ xs) ys h k = entered-all P before x (merged before xs) ys (λ zs each. merged-all P before xs zs (All-tail P x xs h) each) (All-head P x xs h) k

entered-length : {A : Type 0} (before : A → A → Bool) (x : A) (rest : List A → List A) (n : ℕ) (ys : List A) → ((zs : List A) → length (rest zs) ≡ n + length zs) → length (entered before x rest ys) ≡ suc (n + length ys)
entered-length before x rest n [] each = ap suc (each [])
entered-length before x rest n (y ∷ ys) each = by (before y x) (entered-length before x rest n ys each) (each (y ∷ ys))
  where
    by : (b : Bool) → length (entered before x rest ys) ≡ suc (n + length ys) → length (rest (y ∷ ys)) ≡ n + suc (length ys) → length (if b then y ∷ entered before x rest ys else x ∷ rest (y ∷ ys)) ≡ suc (n + suc (length ys))
    by true r e = omega arith
    by false r e = omega arith

pub merged-length : {A : Type 0} (before : A → A → Bool) (xs ys : List A) → length (merged before xs ys) ≡ length xs + length ys
merged-length before [] ys = omega arith
merged-length before (x ∷ xs) ys = omega (arith, entered-length before x (merged before xs) (length xs) ys (λ zs. merged-length before xs zs))

-- ---- paths in order

-- the first of some paths does not come before p
abbrev From : List ℕ → List (List ℕ) → Type 0
From p [] = Unit {0}
From p (q ∷ rest) = is_before q p ≡ false

rises_cons : (p : List ℕ) (rest : List (List ℕ)) → From p rest → Rises rest → Rises (p ∷ rest)
rises_cons p [] h r = tt
rises_cons p (q ∷ rest) h r = (h, r)

rises_from : (p : List ℕ) (rest : List (List ℕ)) → Rises (p ∷ rest) → From p rest
rises_from p [] h = tt
rises_from p (q ∷ rest) h = h.0

pub rises_tail : (p : List ℕ) (rest : List (List ℕ)) → Rises (p ∷ rest) → Rises rest
rises_tail p [] h = tt
rises_tail p (q ∷ rest) h = h.1

from_entered : (p x : List ℕ) (rest : List (List ℕ) → List (List ℕ)) (ys : List (List ℕ)) → is_before x p ≡ false → From p ys → From p (entered is_before x rest ys)
from_entered p x rest [] h k = h
from_entered p x rest (y ∷ ys) h k = by (is_before y x)
  where
    by : (b : Bool) → From p (if b then y ∷ entered is_before x rest ys else x ∷ rest (y ∷ ys))
    by true = k
    by false = h

from_merged : (p : List ℕ) (xs ys : List (List ℕ)) → From p xs → From p ys → From p (merged is_before xs ys)
from_merged p [] ys h k = k
from_merged p (x ∷ xs) ys h k = from_entered p x (merged is_before xs) ys h k

rises_entered : (x : List ℕ) (xs ys : List (List ℕ)) → ((zs : List (List ℕ)) → Rises zs → Rises (merged is_before xs zs)) → From x xs → Rises ys → Rises (entered is_before x (merged is_before xs) ys)
rises_entered x xs [] each h k = rises_cons x (merged is_before xs []) (from_merged x xs [] h tt) (each [] tt)
rises_entered x xs (y ∷ ys) each h k = by (is_before y x) refl (rises_entered x xs ys each h (rises_tail y ys k))
  where
    by : (b : Bool) → is_before y x ≡ b → Rises (entered is_before x (merged is_before xs) ys) → Rises (if b then y ∷ entered is_before x (merged is_before xs) ys else x ∷ merged is_before xs (y ∷ ys))
    by true e r = rises_cons y (entered is_before x (merged is_before xs) ys) (from_entered y x (merged is_before xs) ys (not_before_back y x e) (rises_from y ys k)) r
    by false e r = rises_cons x (merged is_before xs (y ∷ ys)) (from_merged x xs (y ∷ ys) h e) (each (y ∷ ys) k)

pub rises_merged : (xs ys : List (List ℕ)) → Rises xs → Rises ys → Rises (merged is_before xs ys)
rises_merged [] ys h k = k
rises_merged (x ∷ xs) ys h k = rises_entered x xs ys (λ zs r. rises_merged xs zs (rises_tail x xs h) r) (rises_from x xs h) k

pub rises_ascending : (paths : List (List ℕ)) → IsAscending paths → Rises paths
rises_ascending [] h = tt
rises_ascending (p ∷ []) h = tt
rises_ascending (p ∷ q ∷ rest) h =
    (not_before_back p q (h 0 1 [] (omega arith) (omega arith)), rises_ascending (q ∷ rest) (λ i j d l k. h (suc i) (suc j) d (omega arith) (omega arith)))
