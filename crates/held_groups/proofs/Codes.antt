-- Values of one kind compare as the slots that stand for them: a text's code is the number of texts below it.
use Rattle.std.proofs.Common.{Ordering, ◌≡◌, ◌∙◌, ℕ, ◌+◌, ◌<◌, ◌≤◌, ℤ, pos, ◌<ℤ◌, Bool, true, false, cond, ◌||◌, List, [], ◌∷◌, refl, sym, ap, arith}
use Rattle.std.specs.declared.cmp.Ordering.TheVariants.{Less, Equal, Greater}
use Rattle.std.specs.Cmp.{int_cmp_is}
use Rattle.std.specs.Ordering.{int_cmp, is_lt, ordering_reverse}
use Rattle.std.specs.Str.{bytes_eq}
use Rattle.std.proofs.lemmas.Bool.{false≢true}
use Rattle.std.proofs.lemmas.Cmp.{tied_itself, int_cmp_total}
use Rattle.std.proofs.lemmas.Int.{ints}
use Rattle.std.proofs.lemmas.List.Sums.{sum_by-cons}
use Rattle.std.proofs.lemmas.Slice.Eq.{bytes_eq-Decides}
use Rattle.dict_codes.specs.Dictionaries.{is_among, rank_in}
use Rattle.sql_values.specs.Texts.{by_bytes, is_below}
use Rattle.sql_values.specs.Values.{number, text, truth, null}
use Rattle.sql_values.proofs.Orders.{text_order}
use Rattle.typed_trees.specs.declared.kinds.Kind.{Kind}
use Rattle.typed_trees.specs.declared.kinds.Kind.TheVariants.{Number, Date, Text, Truth}
use Rattle.value_laws.specs.Laws.{is_of}
use Rattle.held_groups.specs.Groups.{CodeLaw}

-- ---- texts

less_is : (c : Ordering) → is_lt c ≡ true → c ≡ Less
less_is Less e = refl
less_is Equal e = absurd cc
less_is Greater e = absurd cc

module _ (a b : List ℕ) (less : by_bytes a b ≡ Less) where
  below_both : (t : List ℕ) → is_below t a ≡ true → is_below t b ≡ true
  below_both t h = ap is_lt (text_order.total.trans t a b (less_is (by_bytes t a) h) less)

  step_le : (t : List ℕ) → cond (is_below t a) 1 0 ≤ cond (is_below t b) 1 0
  step_le t = by (is_below t a) (is_below t b) (below_both t)
    where
      by : (p q : Bool) → (p ≡ true → q ≡ true) → cond p 1 0 ≤ cond q 1 0
      by true true h = omega arith
      by true false h = absurd (false≢true (h refl))
      by false true h = omega arith
      by false false h = omega arith

  rank_le : (texts : List (List ℕ)) → rank_in texts a ≤ rank_in texts b
  rank_le [] = omega arith
  rank_le (t ∷ ts) = omega (arith, sum_by-cons (λ u. cond (is_below u a) 1 0) t ts, sum_by-cons (λ u. cond (is_below u b) 1 0) t ts, step_le t, rank_le ts)

  -- a text is not below itself, and is below the greater one
  here_less : (t : List ℕ) → a ≡ t → cond (is_below t a) 1 0 < cond (is_below t b) 1 0
  here_less t e =
      let low : is_below t a ≡ false = ap (λ u. is_below u a) (sym e) ∙ ap is_lt (tied_itself text_order.total a) in
      let high : is_below t b ≡ true = ap (λ u. is_below u b) (sym e) ∙ ap is_lt less in
      rw (low, high) (omega arith)

  rank_less : (texts : List (List ℕ)) → is_among texts a ≡ true → rank_in texts a < rank_in texts b
  rank_less [] h = absurd (false≢true h)
  rank_less (t ∷ ts) h = by (bytes_eq a t) refl h (rank_less ts)
    where
      first : rank_in (t ∷ ts) a ≡ cond (is_below t a) 1 0 + rank_in ts a
      first = sum_by-cons (λ u. cond (is_below u a) 1 0) t ts

      second : rank_in (t ∷ ts) b ≡ cond (is_below t b) 1 0 + rank_in ts b
      second = sum_by-cons (λ u. cond (is_below u b) 1 0) t ts

      by : (c : Bool) → bytes_eq a t ≡ c → (c || is_among ts a) ≡ true → (is_among ts a ≡ true → rank_in ts a < rank_in ts b) → rank_in (t ∷ ts) a < rank_in (t ∷ ts) b
      by true e g further = omega (arith, first, second, here_less t ((bytes_eq-Decides a t).0 e), rank_le ts)
      by false e g further = omega (arith, first, second, step_le t, further g)

below_cmp : (x y : ℕ) → x < y → int_cmp (pos x) (pos y) ≡ Less
below_cmp x y h = let less : pos x <ℤ pos y = omega (arith, ints, h) in sym (int_cmp_is (pos x) (pos y) Less less)

turned : (a b : List ℕ) → by_bytes a b ≡ Greater → by_bytes b a ≡ Less
turned a b e = text_order.total.antisymm b a ∙ ap ordering_reverse e

-- codes compare as their texts do
ranks_cmp : (texts : List (List ℕ)) (a b : List ℕ) → is_among texts a ≡ true → is_among texts b ≡ true → int_cmp (pos (rank_in texts a)) (pos (rank_in texts b)) ≡ by_bytes a b
ranks_cmp texts a b h g = by (by_bytes a b) refl
  where
    by : (c : Ordering) → by_bytes a b ≡ c → int_cmp (pos (rank_in texts a)) (pos (rank_in texts b)) ≡ c
    by Less e = below_cmp (rank_in texts a) (rank_in texts b) (rank_less a b e texts h)
    by Equal e =
        let same : a ≡ b = text_order.alike a b e in
        ap (λ (t : List ℕ). int_cmp (pos (rank_in texts a)) (pos (rank_in texts t))) (sym same) ∙ tied_itself int_cmp_total (pos (rank_in texts a))
    by Greater e =
        int_cmp_total.antisymm (pos (rank_in texts a)) (pos (rank_in texts b)) ∙ ap ordering_reverse (below_cmp (rank_in texts b) (rank_in texts a) (rank_less b a (turned a b e) texts g))

-- ---- values of one kind

number_text : (k : Kind) (z : ℤ) (t : List ℕ) → is_of k (number z) ≡ true → is_of k (text t) ≡ true → ⊥
number_text Number z t h g = false≢true g
number_text Date z t h g = false≢true g
number_text Text z t h g = false≢true h
number_text Truth z t h g = false≢true h

number_truth : (k : Kind) (z : ℤ) (b : Bool) → is_of k (number z) ≡ true → is_of k (truth b) ≡ true → ⊥
number_truth Number z t h g = false≢true g
number_truth Date z t h g = false≢true g
number_truth Text z t h g = false≢true h
number_truth Truth z t h g = false≢true h

text_truth : (k : Kind) (t : List ℕ) (b : Bool) → is_of k (text t) ≡ true → is_of k (truth b) ≡ true → ⊥
text_truth Number z t h g = false≢true h
text_truth Date z t h g = false≢true h
text_truth Text z t h g = false≢true g
text_truth Truth z t h g = false≢true h

pub code_law : CodeLaw
code_law texts k null null h g = refl
code_law texts k null (number z) h g = refl
code_law texts k null (text t) h g = refl
code_law texts k null (truth true) h g = refl
code_law texts k null (truth false) h g = refl
code_law texts k (number z) null h g = refl
code_law texts k (number z) (number y) h g = refl
code_law texts k (number z) (text t) h g = absurd (number_text k z t h.is g.is)
code_law texts k (number z) (truth b) h g = absurd (number_truth k z b h.is g.is)
code_law texts k (text t) null h g = refl
code_law texts k (text t) (number z) h g = absurd (number_text k z t g.is h.is)
code_law texts k (text t) (text u) h g = ranks_cmp texts t u h.known g.known
code_law texts k (text t) (truth b) h g = absurd (text_truth k t b h.is g.is)
code_law texts k (truth true) null h g = refl
code_law texts k (truth false) null h g = refl
code_law texts k (truth b) (number z) h g = absurd (number_truth k z b g.is h.is)
code_law texts k (truth b) (text t) h g = absurd (text_truth k t b g.is h.is)
code_law texts k (truth true) (truth true) h g = refl
code_law texts k (truth true) (truth false) h g = refl
code_law texts k (truth false) (truth true) h g = refl
code_law texts k (truth false) (truth false) h g = refl
