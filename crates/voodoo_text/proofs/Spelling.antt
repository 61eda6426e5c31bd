-- What each place prints is read by it again, and stands on one line.
use Rattle.std.proofs.Common.{◌≡◌, ℕ, ℤ, pos, negsuc, zero, suc, ◌^◌, ◌+◌, ◌-◌, ◌≤◌, ◌<◌, Bool, true, false, not, ◌&&◌, List, [], ◌∷◌, ◌++◌, length, map, refl, ap, sym, ◌∙◌, lit<, arith, append_assoc, append-nil}
use Rattle.std.specs.Prelude.{◌==◌, ◌||◌, nat_lt, Option, Some, Ok, Err}
use Rattle.std.specs.Char.{is_ascii_digit}
use Rattle.std.specs.Fmt.{decimal, signed_decimal}
use Rattle.std.specs.List.{list_all, flat_map}
use Rattle.std.proofs.lemmas.Bool.Decides.{nat_tests}
use Rattle.std.proofs.lemmas.Int.{ints}
use Rattle.std.proofs.lemmas.Fmt.{decimal_is_IsNumeral_wide}
use Rattle.phrases.specs.Parsers.{Outcome, and_then, pure, turns, ◌>>=◌}
use Rattle.key_paths.specs.Paths.{is_dot, is_in_segment, is_segment, IsPath}
use Rattle.programs.specs.declared.op.Size.{Size}
use Rattle.programs.specs.declared.op.Size.TheVariants as sizes
use Rattle.programs.specs.declared.op.Operand.{Operand}
use Rattle.programs.specs.declared.op.Operand.TheVariants as operands
use Rattle.programs.specs.declared.order_keys.OrderPath.{OrderPath}
use Rattle.voodoo_text.specs.declared.kind.Kind.TheVariants as k
use Rattle.voodoo_text.specs.declared.places.VectorPath.{VectorPath}
use Rattle.voodoo_text.specs.declared.refusal.TextKind.{TextKind}
use Rattle.voodoo_text.specs.Kinds.{same_kind}
use Rattle.voodoo_text.specs.Values.{Bytes, integer_within, natural_within}
use Rattle.voodoo_text.specs.Tokens.{Token, token, tokens_from}
use Rattle.voodoo_text.specs.Places.{Parser, is, expect, name, path, attribute, attribute_of, number, operand, size, key, column, descends, another_key, keys, next}
use Rattle.voodoo_text.specs.Canonical.{size_text, operand_text, key_text, after_comma, listed}
use Rattle.voodoo_text.specs.Spelled.{IsName, SizeHasName, OperandHasName, SizeInRange, OperandInRange, KeysInRange}
use Rattle.key_paths.proofs.Bools.{all_weaker, all_both}
use Rattle.key_paths.proofs.Forms.{segment_inside, path_inside}
use Rattle.voodoo_text.proofs.Numbers.{Within, decimal_digits, natural_read, integer_read, digits_unsigned}
use Rattle.voodoo_text.proofs.Lexing.{Ends, comma_ends, close_ends, name_ends, attached_then, path_then, digits_then, minus_then, comma_then, close_then, plus_then, sign_then}

-- ASCII, and no line feed
abbrev pub is_plain : ℕ → Bool
is_plain b = nat_lt b 128 && not (b == 10)

-- a text that a place reads as a value, whatever argument stands behind it
pub record Spells {A : Type 0} (p : Parser A) (w : Bytes) (value : A) : Type 0 where
  pub reads : (b : ℕ) (rest : Bytes) → Ends b → p (tokens_from false 0 (w ++ b ∷ rest)) ≡ Ok (value, tokens_from false 0 (b ∷ rest))
  pub inside : list_all is_plain w ≡ true

-- ---- names and paths

plain_segment : (b : ℕ) → is_in_segment b ≡ true → is_plain b ≡ true
plain_segment b h = grind (arith, nat_tests)

pub plain_name : (n : Bytes) → is_segment n ≡ true → list_all is_plain n ≡ true
plain_name n h = all_weaker is_in_segment is_plain plain_segment n (segment_inside n h)

plain_path_byte : (b : ℕ) → (is_in_segment b || is_dot b) ≡ true → is_plain b ≡ true
plain_path_byte b h = grind (arith, nat_tests)

pub plain_path : (p : Bytes) → IsPath p → list_all is_plain p ≡ true
plain_path p is = all_weaker (λ b. is_in_segment b || is_dot b) is_plain plain_path_byte p (path_inside p is)

pub name_spells : (n : Bytes) → IsName n → Spells name n n
unfolding expect same_kind
name_spells n h = record { reads = λ b rest ends. ap name (name_ends n b rest h ends); inside = plain_name n h }

pub path_spells : (p : Bytes) → IsPath p → Spells path p p
unfolding expect same_kind
path_spells p is = record { reads = λ b rest ends. ap path (path_then false p b rest is ends); inside = plain_path p is }

-- ---- numbers

plain_digit : (b : ℕ) → is_ascii_digit b ≡ true → is_plain b ≡ true
plain_digit b h = grind (arith, nat_tests)

digits_some : (n : ℕ) → n < 10 ^ 64 → 1 ≤ length (decimal n)
digits_some n h = let some = (decimal_is_IsNumeral_wide n h).0.0 in omega arith

plain_decimal : (n : ℕ) → n < 10 ^ 64 → list_all is_plain (decimal n) ≡ true
plain_decimal n h = all_weaker is_ascii_digit is_plain plain_digit (decimal n) (decimal_digits n h)

-- a number is one token
pub record IsNumber (w : Bytes) : Type 0 where
  pub token_is : (b : ℕ) (rest : Bytes) → Ends b → tokens_from false 0 (w ++ b ∷ rest) ≡ token k.Number w ∷ tokens_from false 0 (b ∷ rest)
  pub inside : list_all is_plain w ≡ true

decimal_number : (n : ℕ) → n < 10 ^ 64 → IsNumber (decimal n)
decimal_number n h = record { token_is = λ b rest ends. digits_then false (decimal n) b rest (decimal_digits n h) (digits_some n h) ends; inside = plain_decimal n h }

signed_number : (least most : ℕ) (z : ℤ) → least < 10 ^ 64 → most < 10 ^ 64 → Within least most z → IsNumber (signed_decimal z)
signed_number least most (pos n) small large h = decimal_number n (omega arith)
signed_number least most (negsuc n) small large h =
    let small_n : suc n < 10 ^ 64 = omega arith in
    record { token_is = λ b rest ends. minus_then false (decimal (suc n)) b rest (decimal_digits (suc n) small_n) (digits_some (suc n) small_n) ends; inside = plain_decimal (suc n) small_n }

number_takes : {A : Type 0} (within : Bytes → Option A) (w : Bytes) (a : A) (ts : List Token) → within w ≡ Some a → number within (token k.Number w ∷ ts) ≡ Ok (a, ts)
unfolding number same_kind
number_takes within w a ts h = rw h refl

number_spells : {A : Type 0} (within : Bytes → Option A) (w : Bytes) (a : A) → IsNumber w → within w ≡ Some a → Spells (number within) w a
number_spells within w a is h = record {
  reads = λ b rest ends. ap (number within) (is.token_is b rest ends) ∙ number_takes within w a (tokens_from false 0 (b ∷ rest)) h;
  inside = is.inside;
}

pub integer_spells : (least most : ℕ) (z : ℤ) → least < 10 ^ 64 → most < 10 ^ 64 → Within least most z → Spells (number (integer_within least most)) (signed_decimal z) z
integer_spells least most z small large h = number_spells (integer_within least most) (signed_decimal z) z (signed_number least most z small large h) (integer_read least most z small large h)

natural_unsigned : (most n : ℕ) → n ≤ most → n < 10 ^ 64 → natural_within most (decimal n) ≡ Some n
natural_unsigned most n below h = rw (digits_unsigned (decimal n) (decimal_digits n h)) (natural_read most n below h)

pub natural_spells : (most n : ℕ) → most < 10 ^ 64 → n ≤ most → Spells (number (natural_within most)) (decimal n) n
natural_spells most n large h =
    let small_n : n < 10 ^ 64 = omega arith in
    number_spells (natural_within most) (decimal n) n (decimal_number n small_n) (natural_unsigned most n h small_n)

-- ---- operands and sizes

column_reads : (n p : Bytes) (b : ℕ) (rest : Bytes) → IsName n → IsPath p → Ends b → operand (tokens_from false 0 ((n ++ p) ++ b ∷ rest)) ≡ Ok (operands.Column n p, tokens_from false 0 (b ∷ rest))
unfolding operand column expect same_kind
column_reads n p b rest h is ends = ap (λ (z : Bytes). operand (tokens_from false 0 z)) (append_assoc n p (b ∷ rest)) ∙ ap operand (attached_then n p b rest h is ends)

within_number : (z : ℤ) → OperandInRange (operands.Number z) → Within (2 ^ 127) (2 ^ 127 - 1) z
within_number (pos n) h = omega (arith, ints)
within_number (negsuc n) h = omega (arith, ints)

operand_takes : (w : Bytes) (z : ℤ) (ts : List Token) → integer_within (2 ^ 127) (2 ^ 127 - 1) w ≡ Some z → operand (token k.Number w ∷ ts) ≡ Ok (operands.Number z, ts)
unfolding operand number same_kind
operand_takes w z ts h = rw h refl

pub operand_spells : (o : Operand) → OperandHasName o → OperandInRange o → Spells operand (operand_text o) o
operand_spells (operands.Column n p) h is = record {
  reads = λ b rest ends. column_reads n p b rest h is ends;
  inside = all_both is_plain n p (plain_name n h) (plain_path p is);
}
operand_spells (operands.Number z) h range =
    let within = within_number z range in
    let number = signed_number (2 ^ 127) (2 ^ 127 - 1) z (lit< tt) (lit< tt) within in
    record {
      reads = λ b rest ends. ap operand (number.token_is b rest ends) ∙ operand_takes (signed_decimal z) z (tokens_from false 0 (b ∷ rest)) (integer_read (2 ^ 127) (2 ^ 127 - 1) z (lit< tt) (lit< tt) within);
      inside = number.inside;
    }

size_takes : (w : Bytes) (n : ℕ) (ts : List Token) → natural_within (2 ^ 32 - 1) w ≡ Some n → size (token k.Number w ∷ ts) ≡ Ok (sizes.Number n, ts)
unfolding size number same_kind
size_takes w n ts h = rw h refl

pub size_spells : (s : Size) → SizeHasName s → SizeInRange s → Spells size (size_text s) s
unfolding size expect same_kind
size_spells (sizes.Of n) h range = record { reads = λ b rest ends. ap size (name_ends n b rest h ends); inside = plain_name n h }
size_spells (sizes.Number n) h below =
    let small_n : n < 10 ^ 64 = omega arith in
    let number = decimal_number n small_n in
    record {
      reads = λ b rest ends. ap size (number.token_is b rest ends) ∙ size_takes (decimal n) n (tokens_from false 0 (b ∷ rest)) (natural_unsigned (2 ^ 32 - 1) n (omega arith) small_n);
      inside = number.inside;
    }

-- ---- keys

sign_kind : Bool → Token
sign_kind true = token k.Minus (45 ∷ [])
sign_kind false = token k.Plus (43 ∷ [])

key_tokens : (down : Bool) (p : Bytes) (b : ℕ) (rest : Bytes) → IsPath p → Ends b
    → tokens_from false 0 (key_text (record { path = p; descending = down }) ++ b ∷ rest) ≡ sign_kind down ∷ token k.Path p ∷ tokens_from false 0 (b ∷ rest)
unfolding sign_kind
key_tokens true p b rest is ends = sign_then false p (b ∷ rest) is ∙ ap (λ ts. token k.Minus (45 ∷ []) ∷ ts) (path_then false p b rest is ends)
key_tokens false p b rest is ends = plus_then false (p ++ b ∷ rest) ∙ ap (λ ts. token k.Plus (43 ∷ []) ∷ ts) (path_then false p b rest is ends)

key_takes : (down : Bool) (p : Bytes) (ts : List Token) → key (sign_kind down ∷ token k.Path p ∷ ts) ≡ Ok (record { path = p; descending = down }, ts)
unfolding sign_kind key descends expect same_kind
key_takes true p ts = refl
key_takes false p ts = refl

plain_key : (down : Bool) (p : Bytes) → IsPath p → list_all is_plain (key_text (record { path = p; descending = down })) ≡ true
plain_key true p is = plain_path p is
plain_key false p is = plain_path p is

pub key_spells : (x : OrderPath) → IsPath x.path → Spells key (key_text x) x
key_spells x is = record {
  reads = λ b rest ends. ap key (key_tokens x.descending x.path b rest is ends) ∙ key_takes x.descending x.path (tokens_from false 0 (b ∷ rest));
  inside = plain_key x.descending x.path is;
}

-- ---- arguments behind a comma, up to the parenthesis that closes them

abbrev pub tail_of : List Bytes → Bytes → Bytes
tail_of ws rest = flat_map after_comma ws ++ 41 ∷ rest

pub record Others {A : Type 0} (q : Parser A) (ws : List Bytes) (value : A) : Type 0 where
  pub reads : (rest : Bytes) → q (tokens_from false 0 (tail_of ws rest)) ≡ Ok (value, tokens_from false 0 (41 ∷ rest))
  pub inside : list_all is_plain (flat_map after_comma ws) ≡ true

pub nothing_more : {A : Type 0} (value : A) → Others (pure value) [] value
nothing_more value = record { reads = λ rest. refl; inside = refl }

tail_assoc : (w : Bytes) (ws : List Bytes) (rest : Bytes) → tail_of (w ∷ ws) rest ≡ 44 ∷ 32 ∷ (w ++ tail_of ws rest)
tail_assoc w ws rest = ap (λ (t : Bytes). 44 ∷ 32 ∷ t) (append_assoc w (flat_map after_comma ws) (41 ∷ rest))

record Ended (z : Bytes) : Type 0 where
  b : ℕ
  rest : Bytes
  is : z ≡ b ∷ rest
  ends : Ends b

tail_ends : (ws : List Bytes) (rest : Bytes) → Ended (tail_of ws rest)
tail_ends [] rest = record { b = 41; rest = rest; is = refl; ends = close_ends }
tail_ends (w ∷ ws) rest = record { b = 44; rest = 32 ∷ (w ++ tail_of ws rest); is = tail_assoc w ws rest; ends = comma_ends }

then_ended : {A : Type 0} (p : Parser A) (w : Bytes) (a : A) (z : Bytes) → Spells p w a → Ended z → p (tokens_from false 0 (w ++ z)) ≡ Ok (a, tokens_from false 0 z)
then_ended p w a z s e =
    ap (λ (y : Bytes). p (tokens_from false 0 (w ++ y))) e.is ∙ s.reads e.b e.rest e.ends ∙ ap (λ (y : Bytes). Ok (a, tokens_from false 0 y)) (sym e.is)

comma_blank : (z : Bytes) → tokens_from false 0 (44 ∷ 32 ∷ z) ≡ token k.Comma (44 ∷ []) ∷ tokens_from false 0 z
comma_blank z = comma_then false (32 ∷ z)

after_next : {A : Type 0} (p : Parser A) (z : Bytes) → next p (tokens_from false 0 (44 ∷ 32 ∷ z)) ≡ p (tokens_from false 0 z)
unfolding expect same_kind
after_next p z = ap (next p) (comma_blank z)

pub one_more : {A B : Type 0} (p : Parser A) (q : A → Parser B) (w : Bytes) (ws : List Bytes) (a : A) (b : B) → Spells p w a → Others (q a) ws b → Others (next p >>= q) (w ∷ ws) b
one_more p q w ws a b s others = record {
  reads = λ rest.
      ap (λ (z : Bytes). and_then (next p (tokens_from false 0 z)) q) (tail_assoc w ws rest)
      ∙ ap (λ r. and_then r q) (after_next p (w ++ tail_of ws rest) ∙ then_ended p w a (tail_of ws rest) s (tail_ends ws rest))
      ∙ others.reads rest;
  inside = all_both is_plain w (flat_map after_comma ws) s.inside others.inside;
}

-- ---- arguments from the first one on

pub record Listed {A : Type 0} (q : Parser A) (ws : List Bytes) (value : A) : Type 0 where
  pub reads : (rest : Bytes) → q (tokens_from false 0 (listed ws ++ 41 ∷ rest)) ≡ Ok (value, tokens_from false 0 (41 ∷ rest))
  pub inside : list_all is_plain (listed ws) ≡ true

pub first_one : {A B : Type 0} (p : Parser A) (q : A → Parser B) (w : Bytes) (ws : List Bytes) (a : A) (b : B) → Spells p w a → Others (q a) ws b → Listed (p >>= q) (w ∷ ws) b
first_one p q w ws a b s others = record {
  reads = λ rest.
      ap (λ (z : Bytes). and_then (p (tokens_from false 0 z)) q) (append_assoc w (flat_map after_comma ws) (41 ∷ rest))
      ∙ ap (λ r. and_then r q) (then_ended p w a (tail_of ws rest) s (tail_ends ws rest))
      ∙ others.reads rest;
  inside = all_both is_plain w (flat_map after_comma ws) s.inside others.inside;
}

pub and_made : {A B : Type 0} (p : Parser A) (f : A → B) (ws : List Bytes) (a : A) → Listed p ws a → Listed (p >>= (λ a. pure (f a))) ws (f a)
and_made p f ws a l = record { reads = λ rest. ap (λ r. and_then r (λ a. pure (f a))) (l.reads rest); inside = l.inside }

-- ---- arguments in groups

grouped : {A B C : Type 0} (x : Outcome Token TextKind A) (f : A → Parser B) (g : B → Parser C) → and_then (and_then x f) g ≡ and_then x (λ a. f a >>= g)
grouped (Ok y) f g = refl
grouped (Err e) f g = refl

grouped_next : {A B C : Type 0} (x : Outcome Token TextKind Bytes) (p : Parser A) (f : A → Parser B) (g : B → Parser C) → and_then (and_then x (λ _. p >>= f)) g ≡ and_then (and_then x (λ _. p)) (λ a. f a >>= g)
grouped_next (Ok y) p f g = grouped (p y.1) f g
grouped_next (Err e) p f g = refl

listed_group : {A B C : Type 0} (p : Parser A) (f : A → Parser B) (g : B → Parser C) (ws : List Bytes) (c : C) → Listed (p >>= (λ a. f a >>= g)) ws c → Listed ((p >>= f) >>= g) ws c
listed_group p f g ws c l = record { reads = λ rest. grouped (p (tokens_from false 0 (listed ws ++ 41 ∷ rest))) f g ∙ l.reads rest; inside = l.inside }

pub others_group : {A B C : Type 0} (p : Parser A) (f : A → Parser B) (g : B → Parser C) (ws : List Bytes) (c : C) → Others (p >>= (λ a. f a >>= g)) ws c → Others ((p >>= f) >>= g) ws c
others_group p f g ws c l = record { reads = λ rest. grouped (p (tokens_from false 0 (tail_of ws rest))) f g ∙ l.reads rest; inside = l.inside }

pub next_group : {A B C : Type 0} (p : Parser A) (f : A → Parser B) (g : B → Parser C) (ws : List Bytes) (c : C) → Others (next p >>= (λ a. f a >>= g)) ws c → Others (next (p >>= f) >>= g) ws c
next_group p f g ws c l = record { reads = λ rest. grouped_next (expect k.Comma (tokens_from false 0 (tail_of ws rest))) p f g ∙ l.reads rest; inside = l.inside }

-- an attribute is two arguments
of_vector : Bytes → Parser VectorPath
of_vector a = next path >>= (λ p. pure (attribute_of a p))

path_more : {B : Type 0} (q : VectorPath → Parser B) (a p : Bytes) (ws : List Bytes) (b : B) → IsPath p → Others (q (attribute_of a p)) ws b → Others (of_vector a >>= q) (p ∷ ws) b
unfolding of_vector
path_more q a p ws b is others = others_group (next path) (λ p. pure (attribute_of a p)) q (p ∷ ws) b (one_more path (λ p. q (attribute_of a p)) p ws p b (path_spells p is) others)

pub first_attribute : {B : Type 0} (q : VectorPath → Parser B) (a p : Bytes) (ws : List Bytes) (b : B) → IsName a → IsPath p → Others (q (attribute_of a p)) ws b → Listed (attribute >>= q) (a ∷ p ∷ ws) b
unfolding attribute of_vector
first_attribute q a p ws b h is others = listed_group name of_vector q (a ∷ p ∷ ws) b (first_one name (λ a. of_vector a >>= q) a (p ∷ ws) a b (name_spells a h) (path_more q a p ws b is others))

pub next_attribute : {B : Type 0} (q : VectorPath → Parser B) (a p : Bytes) (ws : List Bytes) (b : B) → IsName a → IsPath p → Others (q (attribute_of a p)) ws b → Others (next attribute >>= q) (a ∷ p ∷ ws) b
unfolding attribute of_vector
next_attribute q a p ws b h is others = next_group name of_vector q (a ∷ p ∷ ws) b (one_more name (λ a. of_vector a >>= q) a (p ∷ ws) a b (name_spells a h) (path_more q a p ws b is others))

-- ---- the keys of an Order

keys_turns : (n : ℕ) (done xs : List OrderPath) (rest : Bytes) → length xs ≤ n → KeysInRange xs
    → turns (is k.Comma) another_key n done (tokens_from false 0 (tail_of (map key_text xs) rest)) ≡ Ok (done ++ xs, tokens_from false 0 (41 ∷ rest))
unfolding turns another_key expect same_kind
keys_turns zero done [] rest room ranges = ap (λ (d : List OrderPath). Ok (d, tokens_from false 0 (41 ∷ rest))) (sym (append-nil done))
keys_turns (suc n) done [] rest room ranges =
    ap (turns (is k.Comma) another_key (suc n) done) (close_then false rest)
    ∙ ap (λ (ts : List Token). Ok (done, ts)) (sym (close_then false rest))
    ∙ ap (λ (d : List OrderPath). Ok (d, tokens_from false 0 (41 ∷ rest))) (sym (append-nil done))
keys_turns zero done (x ∷ xs) rest room ranges = absurd (omega arith)
keys_turns (suc n) done (x ∷ xs) rest room ranges =
    let ws = map key_text xs in
    let z = key_text x ++ tail_of ws rest in
    ap (turns (is k.Comma) another_key (suc n) done) (ap (tokens_from false 0) (tail_assoc (key_text x) ws rest) ∙ comma_blank z)
    ∙ ap (λ r. and_then (and_then r (λ last. pure (done ++ last ∷ []))) (turns (is k.Comma) another_key n)) (then_ended key (key_text x) x (tail_of ws rest) (key_spells x ranges.0) (tail_ends ws rest))
    ∙ keys_turns n (done ++ x ∷ []) xs rest (omega arith) ranges.1
    ∙ ap (λ (d : List OrderPath). Ok (d, tokens_from false 0 (41 ∷ rest))) (append_assoc done (x ∷ []) xs)

keys_room : (xs : List OrderPath) (rest : Bytes) → KeysInRange xs → length xs ≤ length (tokens_from false 0 (tail_of (map key_text xs) rest))
keys_room [] rest ranges = omega arith
keys_room (x ∷ xs) rest ranges =
    let ws = map key_text xs in
    let e = tail_ends ws rest in
    let behind : tokens_from false 0 (key_text x ++ tail_of ws rest) ≡ sign_kind x.descending ∷ token k.Path x.path ∷ tokens_from false 0 (tail_of ws rest) =
    ap (λ (y : Bytes). tokens_from false 0 (key_text x ++ y)) e.is ∙ key_tokens x.descending x.path e.b e.rest ranges.0 e.ends ∙ ap (λ (y : Bytes). sign_kind x.descending ∷ token k.Path x.path ∷ tokens_from false 0 y) (sym e.is) in
    let whole = ap (tokens_from false 0) (tail_assoc (key_text x) ws rest) ∙ comma_blank (key_text x ++ tail_of ws rest) ∙ ap (λ ts. token k.Comma (44 ∷ []) ∷ ts) behind in
    let more = keys_room xs rest ranges.1 in
    let count : length (tokens_from false 0 (tail_of (map key_text (x ∷ xs)) rest)) ≡ 3 + length (tokens_from false 0 (tail_of ws rest)) = ap length whole ∙ omega arith in
    omega (arith, count, more)

plain_keys : (xs : List OrderPath) → KeysInRange xs → list_all is_plain (flat_map after_comma (map key_text xs)) ≡ true
plain_keys [] ranges = refl
plain_keys (x ∷ xs) ranges = all_both is_plain (key_text x) (flat_map after_comma (map key_text xs)) (plain_key x.descending x.path ranges.0) (plain_keys xs ranges.1)

pub keys_more : {B : Type 0} (f : List OrderPath → B) (xs : List OrderPath) → KeysInRange xs → Others (keys >>= (λ ks. pure (f ks))) (map key_text xs) (f xs)
unfolding keys
keys_more f xs ranges = record {
  reads = λ rest.
      ap (λ r. and_then r (λ ks. pure (f ks)))
      (keys_turns (length (tokens_from false 0 (tail_of (map key_text xs) rest))) [] xs rest (keys_room xs rest ranges) ranges);
  inside = plain_keys xs ranges;
}
