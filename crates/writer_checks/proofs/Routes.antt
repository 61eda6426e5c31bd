-- The paths that parts give to attributes: numbers behind words.
use Rattle.std.proofs.Common.{◌≡◌, ◌≢◌, ℕ, ◌<◌, ◌^◌, Bool, true, false, cond, not, ◌&&◌, [], ◌∷◌, ◌++◌, length, refl, sym, ap, ◌∙◌, subst, arith, decimal}
use Rattle.std.specs.List.{list_all}
use Rattle.std.specs.Char.{is_ascii_digit}
use Rattle.std.proofs.lemmas.Bool.{and_parts, false≢true}
use Rattle.std.proofs.lemmas.Bool.Decides.{nat_tests}
use Rattle.std.proofs.lemmas.Fmt.{decimal_injective}
use Rattle.std.proofs.lemmas.List.{append_cancel_left}
use Rattle.std.proofs.lemmas.List.Folds.{list_all-append}
use Rattle.key_paths.specs.Paths.{is_dot}
use Rattle.key_paths.proofs.Bools.{all_weaker}
use Rattle.programs.specs.Mentions.{Label}
use Rattle.program_writers.specs.Names.{is_word}
use Rattle.program_writers.proofs.Digits.{printed, all_digits, some_digit}
use Rattle.writer_checks.specs.Paths.{is_flat, PathLaws}
use Rattle.writer_checks.proofs.Segments.{attribute_one, attribute_two, ones_apart, one_apart, two_apart, twos_apart}
use Rattle.writer_checks.proofs.Above.{none_above_one, none_above_two}

digits_of : (k : ℕ) → k < 2 ^ 64 → list_all is_ascii_digit (decimal k) ≡ true
digits_of k small = subst (λ (ds : Label). list_all is_ascii_digit ds ≡ true) (printed k small) (all_digits k)

some_of : (k : ℕ) → k < 2 ^ 64 → 0 < length (decimal k)
some_of k small = subst (λ (ds : Label). 0 < length ds) (printed k small) (some_digit k)

digit_no_dot : (x : ℕ) → is_ascii_digit x ≡ true → not (is_dot x) ≡ true
digit_no_dot x h = grind (arith, nat_tests)

both : (a b : Bool) → a ≡ true → b ≡ true → (a && b) ≡ true
both a b e f = rw (e, f) refl

numbered_flat : (word : Label) (k : ℕ) → is_flat word ≡ true → k < 2 ^ 64 → is_flat (word ++ decimal k) ≡ true
numbered_flat word k f small =
    list_all-append (λ (b : ℕ). not (is_dot b)) word (decimal k) ∙ both (is_flat word) (is_flat (decimal k)) f (all_weaker is_ascii_digit (λ (b : ℕ). not (is_dot b)) digit_no_dot (decimal k) (digits_of k small))

numbers_differ : (word : Label) (j k : ℕ) → j < 2 ^ 64 → k < 2 ^ 64 → j ≢ k → word ++ decimal j ≢ word ++ decimal k
numbers_differ word j k small low ne e = ne (decimal_injective j k small low (append_cancel_left word (decimal j) (decimal k) e))

-- what stands before the first digit
abbrev front : Label → Label
front [] = []
front (b ∷ rest) = cond (is_ascii_digit b) [] (b ∷ front rest)

not_true : (b : Bool) → not b ≡ true → b ≡ false
not_true true e = absurd cc
not_true false e = refl

front_word : (w ds : Label) → is_word w ≡ true → list_all is_ascii_digit ds ≡ true → 0 < length ds → front (w ++ ds) ≡ w
front_word [] [] h d some = absurd (omega arith)
front_word [] (x ∷ ds) h d some = ap (λ t. cond t [] (x ∷ front ds)) (and_parts (is_ascii_digit x) (list_all is_ascii_digit ds) d).0
front_word (b ∷ w) ds h d some =
    let p = and_parts (not (is_ascii_digit b)) (is_word w) h in
    ap (λ t. cond t [] (b ∷ front (w ++ ds))) (not_true (is_ascii_digit b) p.0) ∙ ap (λ (l : Label). b ∷ l) (front_word w ds p.1 d some)

words_differ : (v w : Label) (j k : ℕ) → is_word v ≡ true → is_word w ≡ true → j < 2 ^ 64 → k < 2 ^ 64 → v ≢ w → v ++ decimal j ≢ w ++ decimal k
words_differ v w j k h g small low ne e =
    ne (sym (front_word v (decimal j) h (digits_of j small) (some_of j small)) ∙ ap front e ∙ front_word w (decimal k) g (digits_of k low) (some_of k low))

no_word : (ds : Label) → list_all is_ascii_digit ds ≡ true → 0 < length ds → is_word ds ≡ true → ⊥
no_word [] d some h = omega arith
no_word (x ∷ ds) d some h =
    false≢true (sym (not_true (is_ascii_digit x) (and_parts (not (is_ascii_digit x)) (is_word ds) h).0) ∙ (and_parts (is_ascii_digit x) (list_all is_ascii_digit ds) d).0)

numbered_no_word : (v w : Label) (j : ℕ) → is_word w ≡ true → j < 2 ^ 64 → v ++ decimal j ≢ w
numbered_no_word v w j h small e =
    let all : is_word (v ++ decimal j) ≡ true = subst (λ (x : Label). is_word x ≡ true) (sym e) h in
    no_word (decimal j) (digits_of j small) (some_of j small) (and_parts (is_word v) (is_word (decimal j)) (sym (list_all-append (λ (b : ℕ). not (is_ascii_digit b)) v (decimal j)) ∙ all)).1

pub path_laws : PathLaws
path_laws = record {
  attribute_one = attribute_one;
  attribute_two = attribute_two;
  ones_apart = ones_apart;
  one_apart = one_apart;
  two_apart = two_apart;
  twos_apart = twos_apart;
  numbered_flat = numbered_flat;
  numbers_differ = numbers_differ;
  words_differ = words_differ;
  numbered_no_word = numbered_no_word;
  none_above_one = none_above_one;
  none_above_two = none_above_two;
}
