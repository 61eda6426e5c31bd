-- The names of an expression's statements: each has the number of its part, and no two are one.
use Rattle.std.proofs.Common.{◌≡◌, ◌≢◌, ℕ, ◌+◌, ◌<◌, ◌≤◌, ◌^◌, ◌==◌, Bool, true, false, if◌then◌else◌, [], ◌∷◌, ◌++◌, refl, sym, ap, ◌∙◌, arith, codes}
use Rattle.std.specs.Fmt.{decimal}
use Rattle.std.specs.Str.{bytes_eq}
use Rattle.std.proofs.lemmas.Bool.{eq-eqb, eqb-true}
use Rattle.std.proofs.lemmas.Fmt.{decimal_injective}
use Rattle.std.proofs.lemmas.List.{append_cancel_left}
use Rattle.std.proofs.lemmas.Slice.Eq.{bytes_eq-Decides}
use Rattle.programs.specs.Mentions.{Label}
use Rattle.expr_lower.specs.Statements.{numbered, value_name, name_of}
use Rattle.program_writers.specs.Names.{is_word, HasNumber, IsBelow, IsFrom}
use Rattle.program_writers.specs.Writers.{numbered as part_name}
use Rattle.program_writers.proofs.Numbers.{followed_has, texts_differ, from_differs}

-- ---- the number of the part

pub step_has : (word : Label) (k j : ℕ) → is_word word ≡ true → HasNumber k (numbered (part_name word k) j)
step_has word k j w = followed_has word (codes "_n" ++ decimal j) k w refl

pub value_has : (word : Label) (k : ℕ) → is_word word ≡ true → HasNumber k (value_name (part_name word k))
value_has word k w = followed_has word (codes "_value") k w refl

named_if : (b : Bool) (word : Label) (k j : ℕ) → is_word word ≡ true → HasNumber k (if b then value_name (part_name word k) else numbered (part_name word k) j)
named_if true word k j w = value_has word k w
named_if false word k j w = step_has word k j w

pub name_has : (word : Label) (k last j : ℕ) → is_word word ≡ true → HasNumber k (name_of (part_name word k) last j)
name_has word k last j w = named_if (j == last) word k j w

pub from_here : (k : ℕ) (name : Label) → HasNumber k name → IsFrom k (k + 1) name
from_here k name h = record { number = k; has = h; least = omega arith; less = omega arith }

-- a name below is none of them
pub not_below : (k : ℕ) (name m : Label) → HasNumber k name → IsBelow k m → bytes_eq name m ≡ false
not_below k name m h b = from_differs k (k + 1) m name b (from_here k name h)

-- ---- no two are one

pub named_step : (stem : Label) (last j : ℕ) → j < last → name_of stem last j ≡ numbered stem j
named_step stem last j h = by (j == last) refl
  where
    by : (b : Bool) → (j == last) ≡ b → (if b then value_name stem else numbered stem j) ≡ numbered stem j
    by true e = let same = eqb-true j last e in absurd (omega (arith, h, same))
    by false e = refl

pub named_last : (stem : Label) (last j : ℕ) → j ≡ last → name_of stem last j ≡ value_name stem
named_last stem last j h = ap (λ (b : Bool). if b then value_name stem else numbered stem j) (eq-eqb j last h)

steps_apart : (stem : Label) (i j : ℕ) → i < j → j < 2 ^ 64 → numbered stem i ≢ numbered stem j
steps_apart stem i j h small e =
    let rest : codes "_n" ++ decimal i ≡ codes "_n" ++ decimal j = append_cancel_left stem (codes "_n" ++ decimal i) (codes "_n" ++ decimal j) e in
    let digits = append_cancel_left (codes "_n") (decimal i) (decimal j) rest in
    let same = decimal_injective i j (omega (arith, h, small)) small digits in
    omega (arith, h, same)

abbrev second_is : Label → ℕ → Bool
second_is [] b = false
second_is (a ∷ []) b = false
second_is (a ∷ (c ∷ rest)) b = c == b

value_apart : (stem : Label) (i : ℕ) → numbered stem i ≢ value_name stem
value_apart stem i e =
    let rest : codes "_n" ++ decimal i ≡ codes "_value" = append_cancel_left stem (codes "_n" ++ decimal i) (codes "_value") e in
    let letters : true ≡ false = ap (λ (l : Label). second_is l 110) rest in
    cc

-- an earlier step's name is none of those behind it
pub later_differs : (stem : Label) (last i j : ℕ) → i < j → j ≤ last → last < 2 ^ 64 → bytes_eq (name_of stem last j) (numbered stem i) ≡ false
later_differs stem last i j h l small = texts_differ (name_of stem last j) (numbered stem i) (by (j == last) refl)
  where
    by : (b : Bool) → (j == last) ≡ b → name_of stem last j ≢ numbered stem i
    by true e = λ n. value_apart stem i (sym n ∙ named_last stem last j (eqb-true j last e))
    by false e = λ n. steps_apart stem i j h (omega (arith, l, small)) (sym n ∙ ap (λ (b : Bool). if b then value_name stem else numbered stem j) e)

pub earlier_differs : (stem : Label) (last i j : ℕ) → i < j → j ≤ last → last < 2 ^ 64 → bytes_eq (numbered stem i) (name_of stem last j) ≡ false
earlier_differs stem last i j h l small = texts_differ (numbered stem i) (name_of stem last j) (λ e. apart (later_differs stem last i j h l small) e)
  where
    apart : bytes_eq (name_of stem last j) (numbered stem i) ≡ false → numbered stem i ≢ name_of stem last j
    apart f e = let same : bytes_eq (name_of stem last j) (numbered stem i) ≡ true = (bytes_eq-Decides (name_of stem last j) (numbered stem i)).1 (sym e) in absurd cc
