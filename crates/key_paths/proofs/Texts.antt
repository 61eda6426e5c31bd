-- The texts of paths.
use Rattle.std.proofs.Common.{◌≡◌, ℕ, ◌+◌, true, false, List, [], ◌∷◌, ◌++◌, refl, ap, sym, ◌∙◌, append_assoc, append-nil, arith}
use Rattle.std.proofs.lemmas.List.{reverse-append}
use Rattle.std.proofs.lemmas.Bool.Decides.{nat_tests}
use Rattle.key_paths.specs.Paths.{is_dot, begins_segment, is_in_segment, dotted_text, path_text, last_width}

-- one segment more
pub dotted_text-push : (segments : List (List ℕ)) (segment : List ℕ) → dotted_text (segments ++ segment ∷ []) ≡ dotted_text segments ++ 46 ∷ segment
dotted_text-push [] segment = ap (λ (l : List ℕ). 46 ∷ l) (append-nil segment)
dotted_text-push (s ∷ segments) segment =
    ap (λ (l : List ℕ). 46 ∷ (s ++ l)) (dotted_text-push segments segment) ∙ ap (λ (l : List ℕ). 46 ∷ l) (sym (append_assoc s (dotted_text segments) (46 ∷ segment)))

pub path_text-push : (segments : List (List ℕ)) (segment : List ℕ) → path_text (segments ++ segment ∷ []) ≡ dotted_text (segments ++ segment ∷ [])
path_text-push [] segment = refl
path_text-push (s ∷ segments) segment = refl

-- how many bytes stand after the last dot, with one byte more
pub last_width_dot : (text : List ℕ) (b : ℕ) → is_dot b ≡ true → last_width (text ++ b ∷ []) ≡ 0
last_width_dot text b h = rw (reverse-append text (b ∷ []), h) refl

pub last_width_inside : (text : List ℕ) (b : ℕ) → is_dot b ≡ false → last_width (text ++ b ∷ []) ≡ last_width text + 1
last_width_inside text b h = rw (reverse-append text (b ∷ []), h) (omega arith)

-- the bytes of segments
pub not_dot_from_begins : (b : ℕ) → begins_segment b ≡ true → is_dot b ≡ false
not_dot_from_begins b h = grind (arith, nat_tests)

pub not_dot_from_inside : (b : ℕ) → is_in_segment b ≡ true → is_dot b ≡ false
not_dot_from_inside b h = grind (arith, nat_tests)
