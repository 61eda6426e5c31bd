-- The tokens of a line, one after the other, and the form of each.
use Rattle.std.proofs.Common.{◌≡◌, ℕ, zero, suc, ◌+◌, ◌-◌, ◌≤◌, ◌<◌, Bool, true, false, List, [], ◌∷◌, length, take, drop, refl, ap, ◌∙◌, arith}
use Rattle.std.specs.Prelude.{if◌then◌else◌, nat_le, ◌==◌, slice_index}
use Rattle.std.specs.Char.{is_ascii_digit}
use Rattle.std.specs.List.{list_all, prefix_len}
use Rattle.std.proofs.lemmas.Bool.{and_from, leb-true, le-leb}
use Rattle.std.proofs.lemmas.List.{take_rest}
use Rattle.std.proofs.lemmas.List.Folds.{length-prefix_len}
use Rattle.key_paths.specs.Paths.{is_dot, begins_segment, is_in_segment, is_path}
use Rattle.voodoo_text.specs.declared.kind.Kind.{Kind}
use Rattle.voodoo_text.specs.declared.kind.Kind.TheVariants as k
use Rattle.voodoo_text.specs.declared.lexis.Piece.{Piece}
use Rattle.voodoo_text.specs.Values.{Bytes}
use Rattle.voodoo_text.specs.Lexis.{is_blank, piece, name, path, path_kind, begins_digits, digits, minus, sign, front, after_dot_len}
use Rattle.voodoo_text.specs.Tokens.{Token, token, is_name, tokens_from, HasForm, BeginsToken}
use Rattle.key_paths.proofs.Forms.{begins_inside, path_from_test}

pub tokens-drop : (after_name : Bool) (n : ℕ) (z : Bytes) → tokens_from after_name n z ≡ tokens_from after_name 0 (drop n z)
tokens-drop after_name zero z = refl
tokens-drop after_name (suc n) [] = refl
tokens-drop after_name (suc n) (b ∷ z) = tokens-drop after_name n z

drop-cons : (n b : ℕ) (z : Bytes) → 1 ≤ n → drop (n - 1) z ≡ drop n (b ∷ z)
drop-cons zero b z h = absurd (omega arith)
drop-cons (suc n) b z h = let e : suc n - 1 ≡ n = omega arith in ap (λ k. drop k z) e

-- the token at the front, and those behind it
pub tokens_go : (after_name : Bool) (z : Bytes) → 0 < length z → BeginsToken z → 1 ≤ (front after_name z).len
    → tokens_from after_name 0 z ≡ token (front after_name z).kind (take (front after_name z).len z) ∷ tokens_from (is_name (front after_name z).kind) 0 (drop (front after_name z).len z)
tokens_go after_name [] some begins moves = absurd (omega arith)
tokens_go after_name (b ∷ z) some begins moves =
    let p = front after_name (b ∷ z) in
    rw (begins.0, begins.1)
    (ap (λ ts. token p.kind (take p.len (b ∷ z)) ∷ ts) (tokens-drop (is_name p.kind) (p.len - 1) z ∙ ap (tokens_from (is_name p.kind) 0) (drop-cons p.len b z moves)))

if_both : {A : Type 0} (P : A → Type 0) (t : Bool) (a b : A) → (t ≡ true → P a) → P b → P (if t then a else b)
if_both P true a b h k = h refl
if_both P false a b h k = k

-- at most as many tokens as bytes
pub tokens_few : (after_name : Bool) (n : ℕ) (z : Bytes) → length (tokens_from after_name n z) ≤ length z
tokens_few after_name n [] = omega arith
tokens_few after_name (suc n) (b ∷ z) = omega (arith, tokens_few after_name n z)
tokens_few after_name zero (b ∷ z) =
    let P : List Token → Type 0 = λ ts. length ts ≤ length (b ∷ z) in
    let p = front after_name (b ∷ z) in
    if_both P (is_blank b) _ _ (λ h. omega (arith, tokens_few false zero z))
    (if_both P (b == 35) [] _ (λ h. omega arith) (omega (arith, tokens_few (is_name p.kind) (p.len - 1) z)))

pub taken : (view : List Token) (z : Bytes) (after_name next : Bool) (p : Piece) → view ≡ tokens_from after_name 0 z → 0 < length z → BeginsToken z → p ≡ front after_name z → 1 ≤ p.len → next ≡ is_name p.kind
    → view ≡ token p.kind (take p.len z) ∷ tokens_from next 0 (take (length z - p.len) (drop p.len z))
taken view z after_name next p same some begins is moves named =
    let moves_front : 1 ≤ (front after_name z).len = rw (← is) moves in
    same ∙ tokens_go after_name z some begins moves_front ∙ rw (take_rest z p.len, named, is) refl

-- ---- forms

suc_is : (n : ℕ) → 1 + n ≡ suc n
suc_is n = omega arith

front_passes : (z : Bytes) → list_all is_in_segment (take (prefix_len is_in_segment z) z) ≡ true
front_passes [] = refl
front_passes (b ∷ z) = by_test (is_in_segment b) refl (front_passes z)
  where
    by_test : (t : Bool) → is_in_segment b ≡ t → list_all is_in_segment (take (prefix_len is_in_segment z) z) ≡ true → list_all is_in_segment (take (if t then 1 + prefix_len is_in_segment z else 0) (b ∷ z)) ≡ true
    by_test true h more = rw (suc_is (prefix_len is_in_segment z)) (and_from (is_in_segment b) _ h more)
    by_test false h more = refl

abbrev Formed : Bytes → Piece → Type 0
Formed z p = HasForm p.kind (take p.len z)

path_formed : (after_name : Bool) (z : Bytes) → Formed z (path after_name z)
path_formed after_name z = by_test (is_path (take (after_dot_len (drop 1 z) + 1) z)) after_name refl
  where
    by_test : (t : Bool) (a : Bool) → is_path (take (after_dot_len (drop 1 z) + 1) z) ≡ t → HasForm (if t then path_kind a else k.Bad) (take (after_dot_len (drop 1 z) + 1) z)
    by_test true true h = path_from_test _ h
    by_test true false h = path_from_test _ h
    by_test false a h = tt

sign_formed : (b : ℕ) (w : Bytes) → HasForm (sign b) w
unfolding sign
sign_formed b w =
    let P : Kind → Type 0 = λ kind. HasForm kind w in
    if_both P (b == 61) k.Equal (if b == 40 then k.Open else (if b == 41 then k.Close else (if b == 44 then k.Comma else (if b == 43 then k.Plus else k.Bad)))) (λ h. tt)
    (if_both P (b == 40) k.Open (if b == 41 then k.Close else (if b == 44 then k.Comma else (if b == 43 then k.Plus else k.Bad))) (λ h. tt)
    (if_both P (b == 41) k.Close (if b == 44 then k.Comma else (if b == 43 then k.Plus else k.Bad)) (λ h. tt)
    (if_both P (b == 44) k.Comma (if b == 43 then k.Plus else k.Bad) (λ h. tt)
    (if_both P (b == 43) k.Plus k.Bad (λ h. tt) tt))))

name_formed : (z : Bytes) → begins_segment (slice_index z 0) ≡ true → Formed z (name z)
name_formed [] h = cc
name_formed (b ∷ z) h = rw (begins_inside b h, suc_is (prefix_len is_in_segment z)) (by_test (nat_le (suc (prefix_len is_in_segment z)) 64) refl)
  where
    by_test : (t : Bool) → nat_le (suc (prefix_len is_in_segment z)) 64 ≡ t → HasForm (if t then k.Name else k.Bad) (b ∷ take (prefix_len is_in_segment z) z)
    by_test true few =
        let short : length (take (prefix_len is_in_segment z) z) ≤ 63 = omega (arith, leb-true (suc (prefix_len is_in_segment z)) 64 few, length-prefix_len is_in_segment z) in
        and_from (begins_segment b) _ h (and_from (list_all is_in_segment (take (prefix_len is_in_segment z) z)) _ (front_passes z) (le-leb (length (take (prefix_len is_in_segment z) z)) 63 short))
    by_test false few = tt

minus_formed : (z : Bytes) → Formed z (minus z)
minus_formed z = by_test (begins_digits (drop 1 z))
  where
    by_test : (t : Bool) → Formed z (if t then piece k.Number (prefix_len is_ascii_digit (drop 1 z) + 1) else piece k.Minus 1)
    by_test true = tt
    by_test false = tt

pub front_formed : (after_name : Bool) (z : Bytes) → Formed z (front after_name z)
unfolding front
front_formed after_name z =
    let P : Piece → Type 0 = Formed z in
    let b = slice_index z 0 in
    if_both P (begins_segment b) (name z) (if is_dot b then path after_name z else (if is_ascii_digit b then digits z else (if b == 45 then minus z else piece (sign b) 1))) (name_formed z)
    (if_both P (is_dot b) (path after_name z) (if is_ascii_digit b then digits z else (if b == 45 then minus z else piece (sign b) 1)) (λ h. path_formed after_name z)
    (if_both P (is_ascii_digit b) (digits z) (if b == 45 then minus z else piece (sign b) 1) (λ h. tt)
    (if_both P (b == 45) (minus z) (piece (sign b) 1) (λ h. minus_formed z)
    (sign_formed b (take 1 z)))))
