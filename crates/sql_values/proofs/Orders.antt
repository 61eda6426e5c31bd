-- The orders of texts and of values.
use Rattle.std.proofs.Common.{◌≡◌, ◌∙◌, ℕ, ℤ, pos, Bool, true, false, List, [], refl, sym, ap, subst, arith}
use Rattle.std.specs.declared.cmp.Ordering.{Ordering}
use Rattle.std.specs.declared.cmp.Ordering.TheVariants.{Less, Equal, Greater}
use Rattle.std.specs.Ordering.{is_eq, nat_cmp, int_cmp, bool_cmp, ordering_then, then_cmp, on}
use Rattle.std.specs.Cmp.{IsTotalOrder, bool_cmp_total}
use Rattle.std.proofs.lemmas.Cmp.{nat_list_cmp_total, nat_cmp_total, int_cmp_total, on_total, then_total}
use Rattle.std.proofs.lemmas.Map.Text.{is_eq-slice_cmp}
use Rattle.std.proofs.lemmas.Slice.Eq.{bytes_eq-Decides}
use Rattle.sql_values.specs.Texts.{by_bytes}
use Rattle.sql_values.specs.Values.{Value, number, text, truth, null, by_value}
use Rattle.sql_values.specs.Laws.{TextOrder, ValueOrder}

-- ---- texts

alike_texts : (a b : List ℕ) → by_bytes a b ≡ Equal → a ≡ b
alike_texts a b e = (bytes_eq-Decides a b).0 (sym (is_eq-slice_cmp a b) ∙ ap is_eq e)

pub text_order : TextOrder
text_order = record { total = nat_list_cmp_total; alike = alike_texts }

-- ---- values: by kind, and within a kind by what they are

rank : Value → ℕ
rank null = 0
rank (number x) = 1
rank (text x) = 2
rank (truth x) = 3

number_of : Value → ℤ
number_of (number x) = x
number_of v = pos 0

text_of : Value → List ℕ
text_of (text x) = x
text_of v = []

truth_of : Value → Bool
truth_of (truth x) = x
truth_of v = false

abbrev by_parts : Value → Value → Ordering
by_parts = then_cmp (on rank nat_cmp) (then_cmp (on number_of int_cmp) (then_cmp (on text_of by_bytes) (on truth_of bool_cmp)))

parts_total : IsTotalOrder by_parts
parts_total = then_total (on_total rank nat_cmp_total) (then_total (on_total number_of int_cmp_total) (then_total (on_total text_of nat_list_cmp_total) (on_total truth_of bool_cmp_total)))

then_equal : (r : Ordering) → ordering_then r Equal ≡ r
then_equal Less = refl
then_equal Equal = refl
then_equal Greater = refl

same_order : (a b : Value) → by_parts a b ≡ by_value a b
unfolding rank number_of text_of truth_of
same_order null null = refl
same_order null (number y) = refl
same_order null (text y) = refl
same_order null (truth y) = refl
same_order (number x) null = refl
same_order (number x) (number y) = then_equal (int_cmp x y)
same_order (number x) (text y) = refl
same_order (number x) (truth y) = refl
same_order (text x) null = refl
same_order (text x) (number y) = refl
same_order (text x) (text y) = then_equal (by_bytes x y)
same_order (text x) (truth y) = refl
same_order (truth x) null = refl
same_order (truth x) (number y) = refl
same_order (truth x) (text y) = refl
same_order (truth x) (truth y) = refl

alike_numbers : (x y : ℤ) → int_cmp x y ≡ Equal → x ≡ y
alike_numbers x y e = grind arith

alike_truths : (x y : Bool) → bool_cmp x y ≡ Equal → x ≡ y
alike_truths false false e = refl
alike_truths false true e = cc
alike_truths true false e = cc
alike_truths true true e = refl

alike_values : (a b : Value) → by_value a b ≡ Equal → a ≡ b
alike_values null null e = refl
alike_values null (number y) e = cc
alike_values null (text y) e = cc
alike_values null (truth y) e = cc
alike_values (number x) null e = cc
alike_values (number x) (number y) e = ap (λ z. number z) (alike_numbers x y e)
alike_values (number x) (text y) e = cc
alike_values (number x) (truth y) e = cc
alike_values (text x) null e = cc
alike_values (text x) (number y) e = cc
alike_values (text x) (text y) e = ap (λ t. text t) (alike_texts x y e)
alike_values (text x) (truth y) e = cc
alike_values (truth x) null e = cc
alike_values (truth x) (number y) e = cc
alike_values (truth x) (text y) e = cc
alike_values (truth x) (truth y) e = ap (λ b. truth b) (alike_truths x y e)

pub value_order : ValueOrder
value_order = record { total = subst IsTotalOrder (λ i a b. same_order a b i) parts_total; alike = alike_values }
