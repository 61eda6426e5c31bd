-- Names, paths, numbers and signs in front of a text are read as the tokens that they are.
use Rattle.std.proofs.Common.{◌≡◌, ℕ, ◌+◌, ◌≤◌, ◌<◌, Bool, true, false, List, [], ◌∷◌, ◌++◌, length, drop, refl, ap, sym, ◌∙◌, arith, append_assoc}
use Rattle.std.specs.Prelude.{◌==◌}
use Rattle.std.specs.Char.{is_ascii_digit}
use Rattle.std.specs.List.{list_all, prefix_len}
use Rattle.std.proofs.lemmas.Bool.{and_parts, le-leb}
use Rattle.std.proofs.lemmas.Bool.Decides.{nat_tests}
use Rattle.std.proofs.lemmas.List.{take_at, drop_at, length-append}
use Rattle.key_paths.specs.Paths.{is_dot, begins_segment, is_in_segment, is_segment, dotted_text, path_text, IsPath, is_path}
use Rattle.voodoo_text.specs.declared.kind.Kind.{Kind}
use Rattle.voodoo_text.specs.declared.kind.Kind.TheVariants as k
use Rattle.voodoo_text.specs.Values.{Bytes}
use Rattle.voodoo_text.specs.Lexis.{is_blank, piece, path, path_kind, begins_name, inner_len, after_dot_len, sign, front}
use Rattle.voodoo_text.specs.Tokens.{token, is_name, tokens_from, BeginsToken}
use Rattle.key_paths.proofs.Forms.{segment_inside, segment_short, test_from_path}
use Rattle.voodoo_text.proofs.Tokens.{tokens_go}

-- ---- one token in front

-- a byte that goes on neither a name, a path nor digits
pub record Ends (b : ℕ) : Type 0 where
  pub segment : is_in_segment b ≡ false
  pub dot : is_dot b ≡ false
  pub same : (rest : Bytes) → tokens_from true 0 (b ∷ rest) ≡ tokens_from false 0 (b ∷ rest)

no_begin : (b : ℕ) → is_in_segment b ≡ false → begins_segment b ≡ false
no_begin b h = grind (arith, nat_tests)

no_digit : (b : ℕ) → is_in_segment b ≡ false → is_ascii_digit b ≡ false
no_digit b h = grind (arith, nat_tests)

pub token_then : (after_name : Bool) (w rest : Bytes) (kind : Kind) → front after_name (w ++ rest) ≡ piece kind (length w) → 1 ≤ length w → BeginsToken (w ++ rest)
    → tokens_from after_name 0 (w ++ rest) ≡ token kind w ∷ tokens_from (is_name kind) 0 rest
token_then after_name w rest kind is some begins =
    let long : 0 < length (w ++ rest) = omega (arith, length-append w rest) in
    let moves : 1 ≤ (front after_name (w ++ rest)).len = rw is some in
    tokens_go after_name (w ++ rest) long begins moves
    ∙ rw (is, take_at w rest (length w) refl, drop_at w rest (length w) refl) refl

-- where no byte passes before the end, the test stops there
stops : (p : ℕ → Bool) (w : Bytes) (b : ℕ) (rest : Bytes) → list_all p w ≡ true → p b ≡ false → prefix_len p (w ++ b ∷ rest) ≡ length w
stops p [] b rest h e = rw e refl
stops p (c ∷ w) b rest h e =
    let both = and_parts (p c) (list_all p w) h in
    rw both.0 (omega (arith, stops p w b rest both.1 e))

-- ---- names

begins_no_blank : (b : ℕ) → begins_segment b ≡ true → (is_blank b ≡ false) × ((b == 35) ≡ false)
begins_no_blank b h = (grind (arith, nat_tests), grind (arith, nat_tests))

name_front : (after_name : Bool) (n : Bytes) (b : ℕ) (rest : Bytes) → is_segment n ≡ true → is_in_segment b ≡ false → front after_name (n ++ b ∷ rest) ≡ piece k.Name (length n)
unfolding front
name_front after_name [] b rest h e = cc
name_front after_name (c ∷ n) b rest h e =
    let first = and_parts (begins_segment c) _ h in
    let len = stops is_in_segment (c ∷ n) b rest (segment_inside (c ∷ n) h) e in
    rw (first.0, len, le-leb (length (c ∷ n)) 64 (segment_short (c ∷ n) h)) refl

name_begins : (n rest : Bytes) → is_segment n ≡ true → BeginsToken (n ++ rest)
name_begins [] rest h = cc
name_begins (b ∷ n) rest h = begins_no_blank b (and_parts (begins_segment b) _ h).0

name_some : (n : Bytes) → is_segment n ≡ true → 1 ≤ length n
name_some [] h = cc
name_some (b ∷ n) h = omega arith

pub name_then : (after_name : Bool) (n : Bytes) (b : ℕ) (rest : Bytes) → is_segment n ≡ true → is_in_segment b ≡ false
    → tokens_from after_name 0 (n ++ b ∷ rest) ≡ token k.Name n ∷ tokens_from true 0 (b ∷ rest)
name_then after_name n b rest h e = token_then after_name n (b ∷ rest) k.Name (name_front after_name n b rest h e) (name_some n h) (name_begins n (b ∷ rest) h)

-- ---- paths

inner_segment : (s z : Bytes) → list_all is_in_segment s ≡ true → inner_len (s ++ z) ≡ length s + inner_len z
inner_segment [] z h = omega arith
inner_segment (b ∷ s) z h =
    let both = and_parts (is_in_segment b) (list_all is_in_segment s) h in
    rw both.0 (omega (arith, inner_segment s z both.1))

begins_with : (s z : Bytes) → is_segment s ≡ true → begins_name (s ++ z) ≡ true
begins_with [] z h = cc
begins_with (b ∷ s) z h = (and_parts (begins_segment b) _ h).0

inner_dotted_text : (segments : List Bytes) (b : ℕ) (rest : Bytes) → list_all is_segment segments ≡ true → Ends b → inner_len (dotted_text segments ++ b ∷ rest) ≡ length (dotted_text segments)
inner_dotted_text [] b rest h ends = rw (ends.segment, ends.dot) refl
inner_dotted_text (s ∷ segments) b rest h ends =
    let both = and_parts (is_segment s) (list_all is_segment segments) h in
    let tail = dotted_text segments ++ b ∷ rest in
    let inner = inner_segment s tail (segment_inside s both.0) in
    let others = inner_dotted_text segments b rest both.1 ends in
    rw (append_assoc s (dotted_text segments) (b ∷ rest), begins_with s tail both.0) (omega (arith, inner, others, length-append s (dotted_text segments)))

path_len : (segments : List Bytes) (b : ℕ) (rest : Bytes) → list_all is_segment segments ≡ true → Ends b → after_dot_len (drop 1 (path_text segments ++ b ∷ rest)) + 1 ≡ length (path_text segments)
path_len [] b rest h ends = rw (no_begin b ends.segment) refl
path_len (s ∷ segments) b rest h ends =
    let both = and_parts (is_segment s) (list_all is_segment segments) h in
    let tail = dotted_text segments ++ b ∷ rest in
    let inner = inner_segment s tail (segment_inside s both.0) in
    let others = inner_dotted_text segments b rest both.1 ends in
    rw (append_assoc s (dotted_text segments) (b ∷ rest), begins_with s tail both.0) (omega (arith, inner, others, length-append s (dotted_text segments)))

path_dot : (segments : List Bytes) → (rest : Bytes) × (path_text segments ≡ 46 ∷ rest)
path_dot [] = ([], refl)
path_dot (s ∷ segments) = (s ++ dotted_text segments, refl)

path_front : (after_name : Bool) (p : Bytes) (b : ℕ) (rest : Bytes) → IsPath p → Ends b → front after_name (p ++ b ∷ rest) ≡ piece (path_kind after_name) (length p)
unfolding front
path_front after_name p b rest is ends = at_dot p tail dotted len (test_from_path p is)
  where
    len : after_dot_len (drop 1 (p ++ b ∷ rest)) + 1 ≡ length p
    len = rw (is.is) (path_len is.segments b rest is.each ends)

    tail : Bytes
    tail = (path_dot is.segments).0

    dotted : p ≡ 46 ∷ tail
    dotted = is.is ∙ (path_dot is.segments).1

    at_dot : (p tail : Bytes) → p ≡ 46 ∷ tail → after_dot_len (drop 1 (p ++ b ∷ rest)) + 1 ≡ length p → is_path p ≡ true → front after_name (p ++ b ∷ rest) ≡ piece (path_kind after_name) (length p)
    at_dot p tail e l passes =
        let whole : front after_name (p ++ b ∷ rest) ≡ path after_name (p ++ b ∷ rest) = rw e refl in
        whole ∙ rw (l, take_at p (b ∷ rest) (length p) refl, passes) refl

path_begins : (p rest : Bytes) → IsPath p → BeginsToken (p ++ rest)
path_begins p rest is = rw (is.is) (rw ((path_dot is.segments).1) (refl, refl))

path_some : (p : Bytes) → IsPath p → 1 ≤ length p
path_some p is = rw (is.is) (rw ((path_dot is.segments).1) (omega arith))

pub path_then : (after_name : Bool) (p : Bytes) (b : ℕ) (rest : Bytes) → IsPath p → Ends b
    → tokens_from after_name 0 (p ++ b ∷ rest) ≡ token (path_kind after_name) p ∷ tokens_from false 0 (b ∷ rest)
path_then true p b rest is ends = token_then true p (b ∷ rest) k.Attached (path_front true p b rest is ends) (path_some p is) (path_begins p (b ∷ rest) is)
path_then false p b rest is ends = token_then false p (b ∷ rest) k.Path (path_front false p b rest is ends) (path_some p is) (path_begins p (b ∷ rest) is)

-- ---- numbers

digit_first : (b : ℕ) → is_ascii_digit b ≡ true → (begins_segment b ≡ false) × (is_dot b ≡ false) × (is_blank b ≡ false) × ((b == 35) ≡ false)
digit_first b h = (grind (arith, nat_tests), grind (arith, nat_tests), grind (arith, nat_tests), grind (arith, nat_tests))

pub digits_then : (after_name : Bool) (ds : Bytes) (b : ℕ) (rest : Bytes) → list_all is_ascii_digit ds ≡ true → 1 ≤ length ds → Ends b
    → tokens_from after_name 0 (ds ++ b ∷ rest) ≡ token k.Number ds ∷ tokens_from false 0 (b ∷ rest)
unfolding front
digits_then after_name [] b rest h some ends = absurd (omega arith)
digits_then after_name (d ∷ ds) b rest h some ends = token_then after_name (d ∷ ds) (b ∷ rest) k.Number (at_front after_name) some (first.2, first.3)
  where
    digit : is_ascii_digit d ≡ true
    digit = (and_parts (is_ascii_digit d) (list_all is_ascii_digit ds) h).0

    first : (begins_segment d ≡ false) × (is_dot d ≡ false) × (is_blank d ≡ false) × ((d == 35) ≡ false)
    first = digit_first d digit

    at_front : (after_name : Bool) → front after_name (d ∷ (ds ++ b ∷ rest)) ≡ piece k.Number (length (d ∷ ds))
    at_front after_name =
        let len : 1 + prefix_len is_ascii_digit (ds ++ b ∷ rest) ≡ length (d ∷ ds) = omega (arith, stops is_ascii_digit ds b rest (and_parts (is_ascii_digit d) (list_all is_ascii_digit ds) h).1 (no_digit b ends.segment)) in
        rw (first.0, first.1, digit) (ap (piece k.Number) len)

pub minus_then : (after_name : Bool) (ds : Bytes) (b : ℕ) (rest : Bytes) → list_all is_ascii_digit ds ≡ true → 1 ≤ length ds → Ends b
    → tokens_from after_name 0 (45 ∷ (ds ++ b ∷ rest)) ≡ token k.Number (45 ∷ ds) ∷ tokens_from false 0 (b ∷ rest)
unfolding front
minus_then after_name [] b rest h some ends = absurd (omega arith)
minus_then after_name (d ∷ ds) b rest h some ends = token_then after_name (45 ∷ d ∷ ds) (b ∷ rest) k.Number (at_front after_name) (omega arith) (refl, refl)
  where
    at_front : (after_name : Bool) → front after_name (45 ∷ d ∷ (ds ++ b ∷ rest)) ≡ piece k.Number (length (45 ∷ d ∷ ds))
    at_front after_name =
        let digit = (and_parts (is_ascii_digit d) (list_all is_ascii_digit ds) h).0 in
        let len : 1 + prefix_len is_ascii_digit (ds ++ b ∷ rest) + 1 ≡ length (45 ∷ d ∷ ds) = omega (arith, stops is_ascii_digit ds b rest (and_parts (is_ascii_digit d) (list_all is_ascii_digit ds) h).1 (no_digit b ends.segment)) in
        rw digit (ap (piece k.Number) len)

-- ---- signs

pub comma_then : (after_name : Bool) (rest : Bytes) → tokens_from after_name 0 (44 ∷ rest) ≡ token k.Comma (44 ∷ []) ∷ tokens_from false 0 rest
unfolding front sign
comma_then after_name rest = refl

pub close_then : (after_name : Bool) (rest : Bytes) → tokens_from after_name 0 (41 ∷ rest) ≡ token k.Close (41 ∷ []) ∷ tokens_from false 0 rest
unfolding front sign
close_then after_name rest = refl

pub open_then : (after_name : Bool) (rest : Bytes) → tokens_from after_name 0 (40 ∷ rest) ≡ token k.Open (40 ∷ []) ∷ tokens_from false 0 rest
unfolding front sign
open_then after_name rest = refl

pub equal_then : (after_name : Bool) (rest : Bytes) → tokens_from after_name 0 (61 ∷ rest) ≡ token k.Equal (61 ∷ []) ∷ tokens_from false 0 rest
unfolding front sign
equal_then after_name rest = refl

pub plus_then : (after_name : Bool) (rest : Bytes) → tokens_from after_name 0 (43 ∷ rest) ≡ token k.Plus (43 ∷ []) ∷ tokens_from false 0 rest
unfolding front sign
plus_then after_name rest = refl

-- a `-` in front of a path
pub sign_then : (after_name : Bool) (p rest : Bytes) → IsPath p → tokens_from after_name 0 (45 ∷ (p ++ rest)) ≡ token k.Minus (45 ∷ []) ∷ tokens_from false 0 (p ++ rest)
unfolding front
sign_then after_name p rest is = at_dot p (path_dot is.segments).0 (is.is ∙ (path_dot is.segments).1)
  where
    at_dot : (p tail : Bytes) → p ≡ 46 ∷ tail → tokens_from after_name 0 (45 ∷ (p ++ rest)) ≡ token k.Minus (45 ∷ []) ∷ tokens_from false 0 (p ++ rest)
    at_dot p tail e = rw e refl

-- a path that directly follows a name
pub attached_then : (n p : Bytes) (b : ℕ) (rest : Bytes) → is_segment n ≡ true → IsPath p → Ends b
    → tokens_from false 0 (n ++ (p ++ b ∷ rest)) ≡ token k.Name n ∷ token k.Attached p ∷ tokens_from false 0 (b ∷ rest)
attached_then n p b rest h is ends =
    at_dot p (path_dot is.segments).0 (is.is ∙ (path_dot is.segments).1) ∙ ap (λ ts. token k.Name n ∷ ts) (path_then true p b rest is ends)
  where
    at_dot : (p tail : Bytes) → p ≡ 46 ∷ tail → tokens_from false 0 (n ++ (p ++ b ∷ rest)) ≡ token k.Name n ∷ tokens_from true 0 (p ++ b ∷ rest)
    at_dot p tail e = rw e (name_then false n 46 (tail ++ b ∷ rest) h refl)

pub comma_ends : Ends 44
comma_ends = record { segment = refl; dot = refl; same = λ rest. comma_then true rest ∙ sym (comma_then false rest) }

pub close_ends : Ends 41
close_ends = record { segment = refl; dot = refl; same = λ rest. close_then true rest ∙ sym (close_then false rest) }

-- a name that ends
pub name_ends : (n : Bytes) (b : ℕ) (rest : Bytes) → is_segment n ≡ true → Ends b → tokens_from false 0 (n ++ b ∷ rest) ≡ token k.Name n ∷ tokens_from false 0 (b ∷ rest)
name_ends n b rest h ends = name_then false n b rest h ends.segment ∙ ap (λ ts. token k.Name n ∷ ts) (ends.same rest)
