-- Tests of all bytes.
use Rattle.std.proofs.Common.{◌≡◌, ℕ, ◌<◌, Bool, true, false, not, List, [], ◌∷◌, ◌++◌, refl, ◌∙◌, arith}
use Rattle.std.specs.List.{All, list_all}
use Rattle.std.specs.Str.{IsAscii}
use Rattle.std.proofs.lemmas.Str.Ascii.{IsAscii-nil, IsAscii-cons}
use Rattle.std.proofs.lemmas.Bool.{and_parts, and_from, not-true}
use Rattle.std.proofs.lemmas.List.Folds.{list_all-append}

pub all_weaker : (p q : ℕ → Bool) → ((b : ℕ) → p b ≡ true → q b ≡ true) → (xs : List ℕ) → list_all p xs ≡ true → list_all q xs ≡ true
all_weaker p q weaker [] h = refl
all_weaker p q weaker (b ∷ xs) h =
    let both = and_parts (p b) (list_all p xs) h in
    and_from (q b) (list_all q xs) (weaker b both.0) (all_weaker p q weaker xs both.1)

pub all_both : (p : ℕ → Bool) (xs ys : List ℕ) → list_all p xs ≡ true → list_all p ys ≡ true → list_all p (xs ++ ys) ≡ true
all_both p xs ys h k = list_all-append p xs ys ∙ and_from (list_all p xs) (list_all p ys) h k

-- none of the bytes is one that passes
pub none_passes : (p : ℕ → Bool) (xs : List ℕ) → list_all (λ b. not (p b)) xs ≡ true → All (λ b. p b ≡ false) xs
none_passes p [] h = λ k d below. absurd (omega arith)
none_passes p (b ∷ xs) h =
    let both = and_parts (not (p b)) (list_all (λ b. not (p b)) xs) h in
    grind (arith, not-true (p b) both.0, none_passes p xs both.1)

-- bytes that pass a test of ASCII are ASCII
pub all_ascii : (p : ℕ → Bool) → ((b : ℕ) → p b ≡ true → b < 128) → (xs : List ℕ) → list_all p xs ≡ true → IsAscii xs
all_ascii p small [] h = IsAscii-nil
all_ascii p small (b ∷ xs) h =
    let both = and_parts (p b) (list_all p xs) h in
    IsAscii-cons b xs (small b both.0) (all_ascii p small xs both.1)

pub no_true : {b : Bool} → b ≡ false → b ≡ true → ⊥
no_true h k = cc
