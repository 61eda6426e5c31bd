-- The paths of the columns that are asked for: none is at or below another, or the mark.
use Rattle.std.proofs.Common.{◌≡◌, ◌∙◌, ℕ, ◌<◌, ◌^◌, Bool, true, false, ◌&&◌, List, [], ◌∷◌, ◌++◌, length, take, drop, refl, sym, ap, subst, arith}
use Rattle.std.specs.Prelude.{codes}
use Rattle.std.specs.Char.{is_ascii_digit}
use Rattle.std.specs.Fmt.{decimal}
use Rattle.std.specs.List.{list_all}
use Rattle.std.specs.Str.{bytes_eq}
use Rattle.std.proofs.lemmas.Bool.Decides.{nat_tests}
use Rattle.std.proofs.lemmas.Fmt.{decimal_injective}
use Rattle.std.proofs.lemmas.List.{take-append-drop}
use Rattle.std.proofs.lemmas.List.Folds.{list_all-append}
use Rattle.std.proofs.lemmas.Slice.Eq.{bytes_eq-Decides}
use Rattle.key_paths.specs.Paths.{is_dot}
use Rattle.key_paths.specs.Substructures.{is_at_or_below, begins_segment_or_ends}
use Rattle.program_writers.proofs.Digits.{all_digits, printed}
use Rattle.plan_programs.specs.Rows.{value_path}

and_parts : (a b : Bool) → (a && b) ≡ true → (a ≡ true) × (b ≡ true)
and_parts true b h = (refl, h)
and_parts false b h = absurd cc

not_true : (b : Bool) → (b ≡ true → ⊥) → b ≡ false
not_true true h = absurd (h refl)
not_true false h = refl

decimal_digits : (n : ℕ) → n < 2 ^ 64 → list_all is_ascii_digit (decimal n) ≡ true
decimal_digits n h = subst (λ (ds : List ℕ). list_all is_ascii_digit ds ≡ true) (printed n h) (all_digits n)

no_dot : (b : ℕ) → is_ascii_digit b ≡ true → is_dot b ≡ true → ⊥
no_dot b h e = grind (arith, nat_tests)

ended : (rest : List ℕ) → list_all is_ascii_digit rest ≡ true → begins_segment_or_ends rest ≡ true → rest ≡ []
ended [] h e = refl
ended (b ∷ rest) h e = absurd (no_dot b (and_parts (is_ascii_digit b) _ h).0 e)

-- digits behind one beginning: one path is below another only where they are the same
same_digits : (xs ys : List ℕ) → list_all is_ascii_digit xs ≡ true → is_at_or_below (46 ∷ 118 ∷ xs) (46 ∷ 118 ∷ ys) ≡ true → xs ≡ ys
same_digits xs ys h e =
    let path : List ℕ = 46 ∷ 118 ∷ xs in
    let above : List ℕ = 46 ∷ 118 ∷ ys in
    let parts = and_parts (bytes_eq above (take (length above) path)) (begins_segment_or_ends (drop (length above) path)) e in
    let front : 46 ∷ 118 ∷ ys ≡ 46 ∷ 118 ∷ take (length ys) xs = (bytes_eq-Decides above (take (length above) path)).0 parts.0 in
    let ys_are : ys ≡ take (length ys) xs = cc in
    let whole = take-append-drop (length ys) xs in
    let digits : list_all is_ascii_digit (take (length ys) xs ++ drop (length ys) xs) ≡ true = subst (λ (l : List ℕ). list_all is_ascii_digit l ≡ true) (sym whole) h in
    let behind = (and_parts (list_all is_ascii_digit (take (length ys) xs)) _ (sym (list_all-append is_ascii_digit (take (length ys) xs) (drop (length ys) xs)) ∙ digits)).1 in
    let rest : drop (length ys) xs ≡ [] = ended (drop (length ys) xs) behind parts.1 in
    sym whole ∙ ap (λ (l : List ℕ). take (length ys) xs ++ l) rest ∙ append_nil (take (length ys) xs) ∙ sym ys_are
  where
    append_nil : (l : List ℕ) → l ++ [] ≡ l
    append_nil [] = refl
    append_nil (x ∷ l) = ap (λ (m : List ℕ). x ∷ m) (append_nil l)

pub values_apart : (j n : ℕ) → j < n → n < 2 ^ 64 → is_at_or_below (value_path j) (value_path n) ≡ false
values_apart j n less small = not_true _ (λ e.
    let same = same_digits (decimal j) (decimal n) (decimal_digits j (omega (arith, less, small))) e in
    let one = decimal_injective j n (omega (arith, less, small)) small same in
    omega (arith, less, one))

pub mark_apart : (n : ℕ) → is_at_or_below (codes ".mark") (value_path n) ≡ false
mark_apart n = refl
