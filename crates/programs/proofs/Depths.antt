-- How many segments a path has, and how long it is.
use Rattle.std.proofs.Common.{◌≡◌, ℕ, ◌+◌, ◌*◌, ◌≤◌, true, false, ◌&&◌, List, [], ◌∷◌, ◌++◌, length, refl, sym, ap, ◌∙◌, arith, nat_lt, if◌then◌else◌, length-append}
use Rattle.std.specs.Prelude.{All, nat_le}
use Rattle.std.specs.List.{count_by, list_all, list_any}
use Rattle.std.proofs.lemmas.Bool.{and_parts}
use Rattle.std.proofs.lemmas.Bool.Decides.{nat_tests}
use Rattle.std.proofs.lemmas.List.Sums.{sum_by-cons, sum_by-append}
use Rattle.std.proofs.lemmas.List.Folds.{list_any_none}
use Rattle.key_paths.specs.Paths.{is_dot, begins_segment, is_in_segment, is_segment, dotted_text, path_text, IsPath}
use Rattle.key_paths.proofs.Texts.{not_dot_from_begins, not_dot_from_inside}
use Rattle.programs.specs.Moves.{is_deep}

-- ---- dots

count_cons : (b : ℕ) (text : List ℕ) → count_by is_dot (b ∷ text) ≡ (if is_dot b then 1 else 0) + count_by is_dot text
count_cons b text = sum_by-cons (λ y. if is_dot y then 1 else 0) b text

count_other : (b : ℕ) (text : List ℕ) → is_dot b ≡ false → count_by is_dot (b ∷ text) ≡ count_by is_dot text
count_other b text h = count_cons b text ∙ rw h (omega arith)

count_append : (a b : List ℕ) → count_by is_dot (a ++ b) ≡ count_by is_dot a + count_by is_dot b
count_append a b = sum_by-append (λ y. if is_dot y then 1 else 0) a b

no_dots : (xs : List ℕ) → list_all is_in_segment xs ≡ true → count_by is_dot xs ≡ 0
no_dots [] h = refl
no_dots (x ∷ xs) h =
    let p = and_parts (is_in_segment x) (list_all is_in_segment xs) h in
    count_other x xs (not_dot_from_inside x p.0) ∙ no_dots xs p.1

segment_dots : (s : List ℕ) → is_segment s ≡ true → count_by is_dot s ≡ 0
segment_dots [] h = refl
segment_dots (x ∷ xs) h =
    let p = and_parts (begins_segment x) (list_all is_in_segment xs && nat_le (length xs) 63) h in
    let q = and_parts (list_all is_in_segment xs) (nat_le (length xs) 63) p.1 in
    count_other x xs (not_dot_from_begins x p.0) ∙ no_dots xs q.0

pub dotted_text_dots : (ss : List (List ℕ)) → list_all is_segment ss ≡ true → count_by is_dot (dotted_text ss) ≡ length ss
dotted_text_dots [] h = refl
dotted_text_dots (s ∷ ss) h =
    let p = and_parts (is_segment s) (list_all is_segment ss) h in
    let first : count_by is_dot (dotted_text (s ∷ ss)) ≡ 1 + count_by is_dot (s ++ dotted_text ss) = count_cons 46 (s ++ dotted_text ss) in
    omega (arith, first, count_append s (dotted_text ss), segment_dots s p.0, dotted_text_dots ss p.1)

few_is : (n : ℕ) → n ≤ 8 → nat_lt 8 n ≡ false
few_is n h = grind (arith, nat_tests)

is_few : (n : ℕ) → nat_lt 8 n ≡ false → n ≤ 8
is_few n h = grind (arith, nat_tests)

-- a text of at most eight segments is not deep, and the converse
pub shallow_text : (ss : List (List ℕ)) → list_all is_segment ss ≡ true → length ss ≤ 8 → is_deep (path_text ss) ≡ false
shallow_text [] h few = refl
shallow_text (s ∷ ss) h few = ap (nat_lt 8) (dotted_text_dots (s ∷ ss) h) ∙ few_is (length (s ∷ ss)) few

pub few_segments : (ss : List (List ℕ)) → list_all is_segment ss ≡ true → is_deep (path_text ss) ≡ false → length ss ≤ 8
few_segments [] h d = omega arith
few_segments (s ∷ ss) h d = is_few (length (s ∷ ss)) (ap (nat_lt 8) (sym (dotted_text_dots (s ∷ ss) h)) ∙ d)

pub path_shallow : (p : List ℕ) → IsPath p → is_deep p ≡ false
path_shallow p h = ap is_deep h.is ∙ shallow_text h.segments h.each h.few

pub none_deep : (paths : List (List ℕ)) → All IsPath paths → list_any is_deep paths ≡ false
none_deep paths h = list_any_none is_deep paths (λ k d l. path_shallow _ (h k d l))

-- ---- bytes

segment_short : (s : List ℕ) → is_segment s ≡ true → length s ≤ 64
segment_short [] h = omega arith
segment_short (x ∷ xs) h =
    let p = and_parts (begins_segment x) (list_all is_in_segment xs && nat_le (length xs) 63) h in
    let q = and_parts (list_all is_in_segment xs) (nat_le (length xs) 63) p.1 in
    omega (arith, within (length xs) q.1)
  where
    within : (n : ℕ) → nat_le n 63 ≡ true → n + 1 ≤ 64
    within n e = grind (arith, nat_tests)

dotted_text_short : (ss : List (List ℕ)) → list_all is_segment ss ≡ true → length (dotted_text ss) ≤ 65 * length ss
dotted_text_short [] h = omega arith
dotted_text_short (s ∷ ss) h =
    let p = and_parts (is_segment s) (list_all is_segment ss) h in
    omega (arith, length-append s (dotted_text ss), segment_short s p.0, dotted_text_short ss p.1)

text_short : (ss : List (List ℕ)) → list_all is_segment ss ≡ true → length ss ≤ 8 → length (path_text ss) ≤ 520
text_short [] h few = omega arith
text_short (s ∷ ss) h few = omega (arith, dotted_text_short (s ∷ ss) h)

pub path_short : (p : List ℕ) → IsPath p → length p ≤ 520
path_short p h = omega (arith, ap (λ (l : List ℕ). length l) h.is, text_short h.segments h.each h.few)
