-- The one number of a name.
use Rattle.std.proofs.Common.{◌≡◌, ◌≢◌, ℕ, ◌+◌, ◌<◌, ◌≤◌, Bool, true, false, cond, not, ◌&&◌, [], ◌∷◌, ◌++◌, length, refl, sym, ap, ◌∙◌, subst, arith, append-nil, append_assoc, Decides}
use Rattle.std.specs.List.{list_all}
use Rattle.std.specs.Char.{is_ascii_digit}
use Rattle.std.specs.Str.{bytes_eq}
use Rattle.std.proofs.lemmas.Slice.Eq.{bytes_eq-Decides}
use Rattle.programs.specs.Mentions.{Label}
use Rattle.program_writers.specs.Numerals.{numeral}
use Rattle.program_writers.specs.Names.{is_word, ends_number, HasNumber, IsBelow, IsFrom}
use Rattle.program_writers.specs.Writers.{numbered}
use Rattle.program_writers.proofs.Digits.{all_digits, some_digit, distinct}

-- the digits with which a text begins, and the first digits of a text
abbrev leading : Label → Label
leading [] = []
leading (b ∷ rest) = cond (is_ascii_digit b) (b ∷ leading rest) []

abbrev first_digits : Label → Label
first_digits [] = []
first_digits (b ∷ rest) = cond (is_ascii_digit b) (leading (b ∷ rest)) (first_digits rest)

and_true : (a b : Bool) → (a && b) ≡ true → (a ≡ true) × (b ≡ true)
and_true true b e = (refl, e)
and_true false b e = absurd cc

not_true : (a : Bool) → not a ≡ true → a ≡ false
not_true true e = absurd cc
not_true false e = refl

leading_rest : (rest : Label) → ends_number rest ≡ true → leading rest ≡ []
leading_rest [] e = refl
leading_rest (b ∷ rest) e = ap (λ t. cond t (b ∷ leading rest) []) (not_true (is_ascii_digit b) e)

leading_digits : (ds rest : Label) → list_all is_ascii_digit ds ≡ true → ends_number rest ≡ true → leading (ds ++ rest) ≡ ds
leading_digits [] rest h e = leading_rest rest e
leading_digits (d ∷ ds) rest h e =
    let both = and_true (is_ascii_digit d) (list_all is_ascii_digit ds) h in
    ap (λ t. cond t (d ∷ leading (ds ++ rest)) []) both.0 ∙ ap (λ (l : Label). d ∷ l) (leading_digits ds rest both.1 e)

behind_word : (word ds rest : Label) → is_word word ≡ true → list_all is_ascii_digit ds ≡ true → 0 < length ds → ends_number rest ≡ true → first_digits (word ++ (ds ++ rest)) ≡ ds
behind_word [] [] rest w h some e = absurd (omega arith)
behind_word [] (d ∷ ds) rest w h some e =
    let both = and_true (is_ascii_digit d) (list_all is_ascii_digit ds) h in
    ap (λ t. cond t (leading (d ∷ (ds ++ rest))) (first_digits (ds ++ rest))) both.0 ∙ leading_digits (d ∷ ds) rest h e
behind_word (b ∷ word) ds rest w h some e =
    let both = and_true (not (is_ascii_digit b)) (is_word word) w in
    ap (λ t. cond t (leading (b ∷ (word ++ (ds ++ rest)))) (first_digits (word ++ (ds ++ rest)))) (not_true (is_ascii_digit b) both.0) ∙ behind_word word ds rest both.1 h some e

digits_of_name : (k : ℕ) (name : Label) → HasNumber k name → first_digits name ≡ numeral k
digits_of_name k name h = ap first_digits h.is ∙ behind_word h.word (numeral k) h.rest h.apart (all_digits k) (some_digit k) h.ends

-- ---- laws

pub one_number : (j k : ℕ) (name : Label) → HasNumber j name → HasNumber k name → j ≡ k
one_number j k name g h = distinct j k (sym (digits_of_name j name g) ∙ digits_of_name k name h)

pub texts_differ : (m n : Label) → m ≢ n → bytes_eq m n ≡ false
texts_differ m n ne = by (bytes_eq m n) (bytes_eq-Decides m n)
  where
    by : (b : Bool) → Decides b (m ≡ n) → b ≡ false
    by true d = absurd (ne (d.0 refl))
    by false d = refl

pub differ : (j k : ℕ) (m n : Label) → HasNumber j m → HasNumber k n → j ≢ k → bytes_eq m n ≡ false
differ j k m n g h ne = texts_differ m n (λ e. ne (one_number j k n (subst (HasNumber j) e g) h))

pub below_differs : (k l : ℕ) (m n : Label) → IsBelow k m → IsFrom k l n → bytes_eq m n ≡ false
below_differs k l m n b f = differ b.number f.number m n b.has f.has (λ e. omega (arith, b.less, f.least))

pub from_differs : (k l : ℕ) (m n : Label) → IsBelow k m → IsFrom k l n → bytes_eq n m ≡ false
from_differs k l m n b f = differ f.number b.number n m f.has b.has (λ e. omega (arith, b.less, f.least))

pub numbered_has : (word : Label) (k : ℕ) → is_word word ≡ true → HasNumber k (numbered word k)
numbered_has word k h = record { word = word; rest = []; is = ap (λ (l : Label). word ++ l) (sym (append-nil (numeral k))); apart = h; ends = refl }

pub followed_has : (word rest : Label) (k : ℕ) → is_word word ≡ true → ends_number rest ≡ true → HasNumber k (numbered word k ++ rest)
followed_has word rest k h e = record { word = word; rest = rest; is = append_assoc word (numeral k) rest; apart = h; ends = e }

pub below_more : (k l : ℕ) (name : Label) → k ≤ l → IsBelow k name → IsBelow l name
below_more k l name h b = record { number = b.number; has = b.has; less = omega (arith, b.less) }

pub below_next : (k : ℕ) (name : Label) → HasNumber k name → IsBelow (k + 1) name
below_next k name h = record { number = k; has = h; less = omega arith }

pub from_is_below : (k l : ℕ) (name : Label) → IsFrom k l name → IsBelow l name
from_is_below k l name f = record { number = f.number; has = f.has; less = f.less }
