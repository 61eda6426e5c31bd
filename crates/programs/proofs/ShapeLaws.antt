-- Shapes: how many outlines there are, and the first that is too long.
use Rattle.std.proofs.Common.{◌≡◌, ℕ, zero, suc, ◌+◌, ◌^◌, ◌<◌, ◌≤◌, Bool, true, false, List, [], ◌∷◌, ◌++◌, length, get_or, drop, refl, arith, nat_lt, if◌then◌else◌, Option, Some, None}
use Rattle.std.proofs.lemmas.Bool.Decides.{nat_tests}
use Rattle.std.proofs.lemmas.List.{drop_more}
use Rattle.programs.specs.declared.op.Op.{Op}
use Rattle.programs.specs.Mentions.{Label, is_persist}
use Rattle.programs.specs.Outlines.{Outline, no_outline}
use Rattle.programs.specs.Check.{Known, with_result, with_vector, known_behind, limit_from}

length_end : (xs : List Outline) (x : Outline) → length (xs ++ x ∷ []) ≡ length xs + 1
length_end [] x = refl
length_end (y ∷ xs) x = omega (arith, length_end xs x)

pub length_behind : (known : Known) (n : Label) (op : Op) (made : Outline) → length (known_behind known n op made).shape ≡ length known.shape + 1
length_behind known n op made = by (is_persist op)
  where
    by : (b : Bool) → length (if b then with_result known n else with_vector known n made).shape ≡ length known.shape + 1
    by true = length_end known.shape no_outline
    by false = length_end known.shape made

-- ---- limits

not_long : (n : ℕ) → nat_lt (2 ^ 22) n ≡ false → n ≤ 2 ^ 22
not_long n e = grind (arith, nat_tests)

is_long : (n : ℕ) → 2 ^ 22 < n → nat_lt (2 ^ 22) n ≡ true
is_long n h = grind (arith, nat_tests)

short_is : (n : ℕ) → n ≤ 2 ^ 22 → nat_lt (2 ^ 22) n ≡ false
short_is n h = grind (arith, nat_tests)

pub none_of_if : (b : Bool) (x : ℕ × ℕ) (o : Option (ℕ × ℕ)) → (if b then Some x else o) ≡ None → (b ≡ false) × (o ≡ None)
none_of_if true x o e = absurd cc
none_of_if false x o e = (refl, e)

pub all_short : (k : ℕ) (shape : List Outline) → limit_from k shape ≡ None → (i : ℕ) (d : Outline) → i < length shape → (get_or shape i d).len ≤ 2 ^ 22
all_short k [] e i d h = absurd (omega arith)
all_short k (o ∷ shape) e zero d h = not_long o.len (none_of_if (nat_lt (2 ^ 22) o.len) (k, o.len) (limit_from (k + 1) shape) e).0
all_short k (o ∷ shape) e (suc i) d h = all_short (k + 1) shape (none_of_if (nat_lt (2 ^ 22) o.len) (k, o.len) (limit_from (k + 1) shape) e).1 i d (omega arith)

pub limit_here : (shape : List Outline) (i : ℕ) (o : Outline) → i < length shape → o ≡ get_or shape i o → 2 ^ 22 < o.len → limit_from (i + 1) (drop i shape) ≡ Some (i + 1, o.len)
limit_here shape i o h e long = rw (drop_more shape i o h, ← e, is_long o.len long) refl

pub limit_next : (shape : List Outline) (i : ℕ) (o : Outline) → i < length shape → o ≡ get_or shape i o → o.len ≤ 2 ^ 22 → limit_from (i + 1) (drop i shape) ≡ limit_from (i + 1 + 1) (drop (i + 1) shape)
limit_next shape i o h e short = rw (drop_more shape i o h, ← e, short_is o.len short) refl
