-- Items that are found by the places of their names.
use Rattle.std.proofs.Common.{◌≡◌, ℕ, zero, suc, ◌<◌, Bool, true, false, List, [], ◌∷◌, ◌++◌, length, refl, ap, ◌∙◌, arith, if◌then◌else◌, Option, Some, None}
use Rattle.std.specs.Prelude.{slice_get, is_some}
use Rattle.std.specs.Str.{bytes_eq}
use Rattle.std.proofs.Math.Path.{fun_ext}
use Rattle.programs.specs.Mentions.{Label}
use Rattle.programs.specs.Outlines.{Outline, no_outline}
use Rattle.programs.specs.Check.{at_start, with_vector, with_result}
use Rattle.programs.specs.Indexes.{Places, no_places, noted, item_at, AreWithin}
use Rattle.programs.specs.Parts.{known_of}

slice_get_end : {A : Type 0} (xs : List A) (x : A) → slice_get (xs ++ x ∷ []) (length xs) ≡ Some x
slice_get_end [] x = refl
slice_get_end (y ∷ xs) x = slice_get_end xs x

slice_get_front : {A : Type 0} (xs : List A) (x : A) (i : ℕ) → i < length xs → slice_get (xs ++ x ∷ []) i ≡ slice_get xs i
slice_get_front [] x i h = absurd (omega arith)
slice_get_front (y ∷ xs) x zero h = refl
slice_get_front (y ∷ xs) x (suc i) h = slice_get_front xs x i (omega arith)

length_end : {A : Type 0} (xs : List A) (x : A) → length (xs ++ x ∷ []) ≡ suc (length xs)
length_end [] x = refl
length_end (y ∷ xs) x = ap suc (length_end xs x)

stays : {A : Type 0} (xs : List A) (x : A) (places : Places) (m : List ℕ) (o : Option ℕ) → AreWithin (length xs) places → places m ≡ o → item_at (xs ++ x ∷ []) o ≡ item_at xs o
stays xs x places m None within e = refl
stays xs x places m (Some i) within e = slice_get_front xs x i (within m i e)

-- one item more, at the end, for a name
pub item_more : {A : Type 0} (xs : List A) (x : A) (places : Places) (n m : List ℕ) → AreWithin (length xs) places → item_at (xs ++ x ∷ []) (noted places n (length xs) m) ≡ (if bytes_eq n m then Some x else item_at xs (places m))
item_more xs x places n m within = by (bytes_eq n m)
  where
    by : (b : Bool) → item_at (xs ++ x ∷ []) (if b then Some (length xs) else places m) ≡ (if b then Some x else item_at xs (places m))
    by true = slice_get_end xs x
    by false = stays xs x places m (places m) within refl

pub within_more : {A : Type 0} (xs : List A) (x : A) (places : Places) → AreWithin (length xs) places → AreWithin (length (xs ++ x ∷ [])) places
within_more xs x places h m i e = omega (arith, h m i e, length_end xs x)

pub within_noted : {A : Type 0} (xs : List A) (x : A) (places : Places) (n : List ℕ) → AreWithin (length xs) places → AreWithin (length (xs ++ x ∷ [])) (noted places n (length xs))
within_noted xs x places n h m i = by (bytes_eq n m)
  where
    by : (b : Bool) → (if b then Some (length xs) else places m) ≡ Some i → i < length (xs ++ x ∷ [])
    by true e = let same : length xs ≡ i = cc in omega (arith, length_end xs x)
    by false e = omega (arith, h m i e, length_end xs x)

pub within_none : (n : ℕ) (places : Places) → places ≡ no_places → AreWithin n places
within_none n places e m i h = let none : places m ≡ None = ap (λ (p : Places). p m) e in absurd cc

-- ---- what is known

pub known_at_start : (shape : List Outline) (vectors results : Places) → shape ≡ [] → vectors ≡ no_places → results ≡ no_places → known_of shape vectors results ≡ at_start
known_at_start shape vectors results s v r = rw (s, v, r) refl

pub known_vector : (shape more : List Outline) (vectors now results : Places) (n : Label) (outline : Outline) → more ≡ shape ++ outline ∷ [] → AreWithin (length shape) vectors → now ≡ noted vectors n (length shape) → known_of more now results ≡ with_vector (known_of shape vectors results) n outline
known_vector shape more vectors now results n outline m within e =
    let same : (λ (k : Label). item_at (shape ++ outline ∷ []) (noted vectors n (length shape) k)) ≡ (λ (k : Label). if bytes_eq n k then Some outline else item_at shape (vectors k)) = fun_ext (λ k. item_more shape outline vectors n k within) in
    rw (m, e) (ap (λ (f : Label → Option Outline). record { shape = shape ++ outline ∷ []; vectors = f; results = λ k. is_some (results k) }) same)

is_some_if : (b : Bool) (i : ℕ) (o : Option ℕ) → is_some (if b then Some i else o) ≡ (if b then true else is_some o)
is_some_if true i o = refl
is_some_if false i o = refl

pub known_result : (shape more : List Outline) (vectors results now : Places) (n : Label) (i : ℕ) → more ≡ shape ++ no_outline ∷ [] → AreWithin (length shape) vectors → now ≡ noted results n i → known_of more vectors now ≡ with_result (known_of shape vectors results) n
known_result shape more vectors results now n i m within e =
    let same : (λ (k : Label). item_at (shape ++ no_outline ∷ []) (vectors k)) ≡ (λ (k : Label). item_at shape (vectors k)) = fun_ext (λ k. stays shape no_outline vectors k (vectors k) within refl) in
    let names : (λ (k : Label). is_some (noted results n i k)) ≡ (λ (k : Label). if bytes_eq n k then true else is_some (results k)) = fun_ext (λ k. is_some_if (bytes_eq n k) i (results k)) in
    rw (m, e) (ap (λ (f : Label → Option Outline). record { shape = shape ++ no_outline ∷ []; vectors = f; results = λ k. is_some (noted results n i k) }) same
    ∙ ap (λ (g : Label → Bool). record { shape = shape ++ no_outline ∷ []; vectors = λ k. item_at shape (vectors k); results = g }) names)

pub within_pushed : {A : Type 0} (xs more : List A) (x : A) (places now : Places) (n : List ℕ) → more ≡ xs ++ x ∷ [] → now ≡ noted places n (length xs) → AreWithin (length xs) places → AreWithin (length more) now
within_pushed xs more x places now n m e h = rw (m, e) (within_noted xs x places n h)

pub within_kept : {A : Type 0} (xs more : List A) (x : A) (places : Places) → more ≡ xs ++ x ∷ [] → AreWithin (length xs) places → AreWithin (length more) places
within_kept xs more x places m h = rw m (within_more xs x places h)
