-- Comparisons of two operands, each an expression's value or a text literal, by the slots that stand for them.
use Rattle.std.proofs.Common.{Ordering, ◌≡◌, ℕ, ◌-◌, ◌*◌, ◌^◌, ◌<◌, ◌≤◌, ◌==◌, max, ℤ, pos, ◌-ℤ◌, Bool, true, false, not, nat_le, List, length, Option, Some, None, Ok, refl, sym, ap, ◌∙◌, subst, arith}
use Rattle.std.proofs.lemmas.Bool.{leb-true, eqb-true}
use Rattle.std.specs.Ordering.{int_cmp}
use Rattle.control_vectors.specs.Slots.{Slot, Cell}
use Rattle.control_vectors.specs.declared.PairKind.TheVariants as pair
use Rattle.slot_wise.specs.Pairs.{pair_slot}
use Rattle.expr_steps.specs.Codes.{one}
use Rattle.sql_values.specs.Texts.{by_bytes}
use Rattle.sql_values.specs.Values.{Value, number, text, truth, null}
use Rattle.query_trees.specs.declared.expr.BinaryOp.{BinaryOp}
use Rattle.typed_trees.specs.declared.kinds.Kind.{Kind}
use Rattle.typed_trees.specs.declared.kinds.Kind.TheVariants.{Number, Date, Text, Truth}
use Rattle.typed_trees.specs.Kinds.{is_truth}
use Rattle.table_load.specs.Databases.{coded}
use Rattle.dict_codes.specs.Dictionaries.{rank_in, is_among}
use Rattle.typed_values.specs.Narrow.{counted}
use Rattle.typed_values.specs.Values.{Valued, with_both, holds, comparison, rescaled}
use Rattle.value_laws.specs.Laws.{is_of}
use Rattle.expr_steps.specs.declared.steps.Factors.{Factors}
use Rattle.expr_steps.specs.declared.steps.Source.{Source}
use Rattle.expr_steps.specs.Lowered.{Bytes, text_number, raise, scale_factors, factors_of, steps_a_code, comparing, compared_as, truth_source, known}
use Rattle.expr_values.specs.Laws.{is_known, value_cell}
use Rattle.expr_values.specs.Places.{Place}
use Rattle.expr_values.specs.Written.{kind_scale}
use Rattle.expr_values.proofs.Codes.{Stands, Begins, Gives, then_cell, one_gives, then_gives}
use Rattle.expr_values.proofs.Cells.{times_cell, brought_cell, brought_gives, comparing_cell, comparing_gives}
use Rattle.expr_values.proofs.Numbers.{two_cells, numeric, IsNumeric, times_numeric, rescaled_numeric, comparing_numbers, comparing_numeric, none_left, none_right}
use Rattle.expr_values.proofs.Texts.{codes_compare, halves_compare, halves_beside, doubled, number_among, number_absent}

-- ---- what an operand's code gives

-- the slot of a value, or the number of a text literal
abbrev pub side_slot : List Bytes → Option Bytes → Value → Slot
side_slot texts (Some t) v = Some (text_number texts t)
side_slot texts None v = coded texts v

-- a text literal's value is its text, and any other value's text is one of the dictionary
abbrev pub IsTextOf : List Bytes → Option Bytes → Value → Type 0
IsTextOf texts (Some t) v = v ≡ text t
IsTextOf texts None v = is_known texts v ≡ true

-- the value of a side of a comparison
pub record IsSide (texts : List Bytes) (k : Kind) (literal : Option Bytes) (scale : ℕ) (v : Value) : Type 0 where
  pub of : is_of k v ≡ true
  pub text : IsTextOf texts literal v
  pub fits : kind_scale k scale ≡ true

abbrev pub compare_cell : List Bytes → BinaryOp → Option Bytes → Option Bytes → ℕ → ℕ → Slot → Slot → Cell
compare_cell texts o (Some s) (Some t) m n u v = value_cell texts (Ok (truth (holds o (by_bytes s t))))
compare_cell texts o (Some s) None m n u v = brought_cell (factors_of texts (Some s) None m n) u v (comparing_cell o)
compare_cell texts o None (Some t) m n u v = brought_cell (factors_of texts None (Some t) m n) u v (comparing_cell o)
compare_cell texts o None None m n u v = brought_cell (factors_of texts None None m n) u v (comparing_cell o)

-- two literals are read, and the truth stays
known_gives : (texts : List Bytes) (p : Place) (l : List Slot) (is : Bool) (a b : Source) (u v : Slot) → Begins p l → Stands p l a u → Stands p l b v → Gives p l (known is a b) (value_cell texts (Ok (truth is)))
known_gives texts p l true a b u v h g k =
    then_gives p l (one pair.Fill (truth_source true) a) (λ x. one pair.Fill x b) (pair_slot pair.Fill (Some (pos 1)) u) (λ t. pair_slot pair.Fill t v) (one_gives p l pair.Fill (truth_source true) a (Some (pos 1)) u h.unit g)
    (λ m later y t e i. one_gives p m pair.Fill y b t v i (later b v k))
known_gives texts p l false a b u v h g k =
    then_gives p l (one pair.Fill (truth_source false) a) (λ x. one pair.Fill x b) (pair_slot pair.Fill (Some (pos 0)) u) (λ t. pair_slot pair.Fill t v) (one_gives p l pair.Fill (truth_source false) a (Some (pos 0)) u h.zero g)
    (λ m later y t e i. one_gives p m pair.Fill y b t v i (later b v k))

pub compare_gives : (texts : List Bytes) (p : Place) (l : List Slot) (o : BinaryOp) (s t : Option Bytes) (m n : ℕ) (a b : Source) (u v : Slot) → Begins p l → Stands p l a u → Stands p l b v →
    Gives p l (compared_as o s t (factors_of texts s t m n) a b) (compare_cell texts o s t m n u v)
compare_gives texts p l o (Some s) (Some t) m n a b u v h g k = known_gives texts p l (holds o (by_bytes s t)) a b u v h g k
compare_gives texts p l o (Some s) None m n a b u v h g k = brought_gives p l (factors_of texts (Some s) None m n) a b u v (comparing o) (comparing_cell o) g k (λ j x y q r. comparing_gives p j o x y q r)
compare_gives texts p l o None (Some t) m n a b u v h g k = brought_gives p l (factors_of texts None (Some t) m n) a b u v (comparing o) (comparing_cell o) g k (λ j x y q r. comparing_gives p j o x y q r)
compare_gives texts p l o None None m n a b u v h g k = brought_gives p l (factors_of texts None None m n) a b u v (comparing o) (comparing_cell o) g k (λ j x y q r. comparing_gives p j o x y q r)

-- ---- the values that are compared

-- what is compared is at the greater of two scales
abbrev pub compared_at : BinaryOp → ℕ → ℕ → Value → Value → Valued
compared_at o m n v w = with_both (rescaled (max m n - m) v) (rescaled (max m n - n) w) (λ x y. Ok (comparison o x y))

-- ---- numbers and dates

pub scale_counted : (n : ℕ) → nat_le n 36 ≡ true → counted n ≡ n
scale_counted n h = let few : n ≤ 36 = leb-true n 36 h in omega arith

pub factors_at : (m n : ℕ) → nat_le m 36 ≡ true → nat_le n 36 ≡ true → scale_factors m n ≡ record { x = raise (max m n) m; y = raise (max m n) n }
factors_at m n h k = (λ i. record { x = raise (max (scale_counted m h i) (scale_counted n k i)) (scale_counted m h i); y = raise (max (scale_counted m h i) (scale_counted n k i)) (scale_counted n k i) })

-- two operands at one scale
pub brought_numeric : (texts : List Bytes) (m n : ℕ) (a b : Option ℤ) (g : Slot → Slot → Cell) (f : Value → Value → Valued) → nat_le m 36 ≡ true → nat_le n 36 ≡ true →
    ((c d : Option ℤ) → g (coded texts (numeric c)) (coded texts (numeric d)) ≡ value_cell texts (f (numeric c) (numeric d))) →
    brought_cell (scale_factors m n) (coded texts (numeric a)) (coded texts (numeric b)) g ≡ value_cell texts (with_both (rescaled (max m n - m) (numeric a)) (rescaled (max m n - n) (numeric b)) f)
brought_numeric texts m n a b g f h k same =
    ap (λ (c : Factors). brought_cell c (coded texts (numeric a)) (coded texts (numeric b)) g) (factors_at m n h k)
    ∙ ((λ i. then_cell (times_numeric texts (max m n - m) a i) (λ u. then_cell (times_numeric texts (max m n - n) b i) (g u)))
    ∙ two_cells texts IsNumeric IsNumeric (rescaled (max m n - m) (numeric a)) (rescaled (max m n - n) (numeric b)) g f (rescaled_numeric (max m n - m) a) (rescaled_numeric (max m n - n) b) both)
  where
    both : (v w : Value) → IsNumeric v → IsNumeric w → g (coded texts v) (coded texts w) ≡ value_cell texts (f v w)
    both v w c d =
        subst (λ (x : Value). g (coded texts x) (coded texts w) ≡ value_cell texts (f x w)) c.1
        (subst (λ (y : Value). g (coded texts (numeric c.0)) (coded texts y) ≡ value_cell texts (f (numeric c.0) y)) d.1 (same c.0 d.0))

-- a number or a date is no text literal
abbrev pub plain_kind : Kind → Bool
plain_kind Number = true
plain_kind Date = true
plain_kind k = false

pub plain_scale : (k : Kind) (n : ℕ) → plain_kind k ≡ true → kind_scale k n ≡ true → nat_le n 36 ≡ true
plain_scale Number n h e = e
plain_scale Date n h e = e
plain_scale Text n h e = absurd (cc)
plain_scale Truth n h e = absurd (cc)

pub plain_value : (k : Kind) (v : Value) → plain_kind k ≡ true → is_of k v ≡ true → IsNumeric v
plain_value k null h e = (None, refl)
plain_value k (number z) h e = (Some z, refl)
plain_value Number (text t) h e = absurd (cc)
plain_value Date (text t) h e = absurd (cc)
plain_value Text (text t) h e = absurd (cc)
plain_value Truth (text t) h e = absurd (cc)
plain_value Number (truth b) h e = absurd (cc)
plain_value Date (truth b) h e = absurd (cc)
plain_value Text (truth b) h e = absurd (cc)
plain_value Truth (truth b) h e = absurd (cc)

no_number : (k : Kind) (t : Bytes) → plain_kind k ≡ true → is_of k (text t) ≡ true → false ≡ true
no_number Number t h e = e
no_number Date t h e = e
no_number Text t h e = h
no_number Truth t h e = h

not_literal : (texts : List Bytes) (k : Kind) (t : Bytes) (v : Value) → plain_kind k ≡ true → is_of k v ≡ true → v ≡ text t → false ≡ true
not_literal texts k t v h e is = no_number k t h (sym (ap (is_of k) is) ∙ e)

plain_compare : (texts : List Bytes) (o : BinaryOp) (k : Kind) (s t : Option Bytes) (m n : ℕ) (v w : Value) → plain_kind k ≡ true → IsSide texts k s m v → IsSide texts k t n w → compare_cell texts o s t m n (side_slot texts s v) (side_slot texts t w) ≡ value_cell texts (compared_at o m n v w)
plain_compare texts o k (Some s) t m n v w h a b = absurd (let no = not_literal texts k s v h a.of a.text in cc)
plain_compare texts o k None (Some t) m n v w h a b = absurd (let no = not_literal texts k t w h b.of b.text in cc)
plain_compare texts o k None None m n v w h a b =
    let x = plain_value k v h a.of in
    let y = plain_value k w h b.of in
    subst (λ (z : Value). brought_cell (scale_factors m n) (coded texts z) (coded texts w) (comparing_cell o) ≡ value_cell texts (compared_at o m n z w)) x.1
    (subst (λ (z : Value). brought_cell (scale_factors m n) (coded texts (numeric x.0)) (coded texts z) (comparing_cell o) ≡ value_cell texts (compared_at o m n (numeric x.0) z)) y.1
    (brought_numeric texts m n x.0 y.0 (comparing_cell o) (λ c d. Ok (comparison o c d)) (plain_scale k m h a.fits) (plain_scale k n h b.fits) (comparing_numeric texts o)))

-- ---- texts

-- a literal, a text of the dictionary, or null
abbrev textual : Option Bytes → Value
textual None = null
textual (Some t) = text t

as_textual : (v : Value) → is_of Text v ≡ true → (o : Option Bytes) × (textual o ≡ v)
as_textual null h = (None, refl)
as_textual (text t) h = (Some t, refl)
as_textual (truth b) h = absurd (cc)
as_textual (number z) h = absurd (cc)

texts_compared : (texts : List Bytes) (o : BinaryOp) (s t : Bytes) (a b : ℤ) → by_bytes s t ≡ int_cmp a b → comparing_cell o (Some a) (Some b) ≡ value_cell texts (Ok (comparison o (text s) (text t)))
texts_compared texts o s t a b e = comparing_numbers texts o a b ∙ ap (λ (r : Ordering). value_cell texts (Ok (truth (holds o r)))) (sym e)

known_compared : (texts : List Bytes) (o : BinaryOp) (a b : Option Bytes) → is_known texts (textual a) ≡ true → is_known texts (textual b) ≡ true → comparing_cell o (coded texts (textual a)) (coded texts (textual b)) ≡ value_cell texts (Ok (comparison o (textual a) (textual b)))
known_compared texts o None b h k = none_left o (coded texts (textual b))
known_compared texts o (Some s) None h k = none_right o (Some (pos (rank_in texts s)))
known_compared texts o (Some s) (Some t) h k = texts_compared texts o s t (pos (rank_in texts s)) (pos (rank_in texts t)) (codes_compare texts s t h k)

-- a literal on the left
left_compared : (texts : List Bytes) (o : BinaryOp) (s : Bytes) (b : Option Bytes) → length texts < 2 ^ 32 → is_known texts (textual b) ≡ true →
    then_cell (times_cell (steps_a_code (is_among texts s)) (coded texts (textual b))) (comparing_cell o (Some (text_number texts s))) ≡ value_cell texts (Ok (comparison o (text s) (textual b)))
left_compared texts o s b few k = by (is_among texts s) refl b k
  where
    by : (c : Bool) → is_among texts s ≡ c → (b : Option Bytes) → is_known texts (textual b) ≡ true → then_cell (times_cell (steps_a_code c) (coded texts (textual b))) (comparing_cell o (Some (text_number texts s))) ≡ value_cell texts (Ok (comparison o (text s) (textual b)))
    by true e None k = none_right o (Some (text_number texts s))
    by false e None k = none_right o (Some (text_number texts s))
    by true e (Some t) k = rw (number_among texts s e) (texts_compared texts o s t (pos (rank_in texts s)) (pos (rank_in texts t)) (codes_compare texts s t e k))
    by false e (Some t) k =
        ap (λ (c : Cell). then_cell c (comparing_cell o (Some (text_number texts s)))) (doubled texts t few)
        ∙ (ap (λ (z : ℤ). comparing_cell o (Some z) (Some (pos (2 * rank_in texts t)))) (number_absent texts s e) ∙ texts_compared texts o s t (pos (2 * rank_in texts s) -ℤ pos 1) (pos (2 * rank_in texts t)) (halves_beside texts s t e k))

-- a literal on the right
right_compared : (texts : List Bytes) (o : BinaryOp) (a : Option Bytes) (t : Bytes) → length texts < 2 ^ 32 → is_known texts (textual a) ≡ true →
    then_cell (times_cell (steps_a_code (is_among texts t)) (coded texts (textual a))) (λ u. comparing_cell o u (Some (text_number texts t))) ≡ value_cell texts (Ok (comparison o (textual a) (text t)))
right_compared texts o a t few k = by (is_among texts t) refl a k
  where
    by : (c : Bool) → is_among texts t ≡ c → (a : Option Bytes) → is_known texts (textual a) ≡ true → then_cell (times_cell (steps_a_code c) (coded texts (textual a))) (λ u. comparing_cell o u (Some (text_number texts t))) ≡ value_cell texts (Ok (comparison o (textual a) (text t)))
    by true e None k = none_left o (Some (text_number texts t))
    by false e None k = none_left o (Some (text_number texts t))
    by true e (Some s) k = rw (number_among texts t e) (texts_compared texts o s t (pos (rank_in texts s)) (pos (rank_in texts t)) (codes_compare texts s t k e))
    by false e (Some s) k =
        ap (λ (c : Cell). then_cell c (λ u. comparing_cell o u (Some (text_number texts t)))) (doubled texts s few)
        ∙ (ap (λ (z : ℤ). comparing_cell o (Some (pos (2 * rank_in texts s))) (Some z)) (number_absent texts t e) ∙ texts_compared texts o s t (pos (2 * rank_in texts s)) (pos (2 * rank_in texts t) -ℤ pos 1) (halves_compare texts s t k e))

-- texts have no scale
pub text_scale : (n : ℕ) → (n == 0) ≡ true → n ≡ 0
text_scale n h = eqb-true n 0 h

text_cells : (texts : List Bytes) (o : BinaryOp) (s t : Option Bytes) (a b : Option Bytes) → length texts < 2 ^ 32 → IsTextOf texts s (textual a) → IsTextOf texts t (textual b) →
    compare_cell texts o s t 0 0 (side_slot texts s (textual a)) (side_slot texts t (textual b)) ≡ value_cell texts (Ok (comparison o (textual a) (textual b)))
text_cells texts o None None a b few h k = known_compared texts o a b h k
text_cells texts o (Some s) None a b few h k = left_compared texts o s b few k ∙ ap (λ (v : Value). value_cell texts (Ok (comparison o v (textual b)))) (sym h)
text_cells texts o None (Some t) a b few h k = right_compared texts o a t few h ∙ ap (λ (v : Value). value_cell texts (Ok (comparison o (textual a) v))) (sym k)
text_cells texts o (Some s) (Some t) a b few h k = (λ i. value_cell texts (Ok (comparison o (sym h i) (sym k i))))

text_compare : (texts : List Bytes) (o : BinaryOp) (s t : Option Bytes) (m n : ℕ) (v w : Value) → length texts < 2 ^ 32 → IsSide texts Text s m v → IsSide texts Text t n w → compare_cell texts o s t m n (side_slot texts s v) (side_slot texts t w) ≡ value_cell texts (compared_at o m n v w)
text_compare texts o s t m n v w few a b =
    let x = as_textual v a.of in
    let y = as_textual w b.of in
    at_zero (text_scale m a.fits) (text_scale n b.fits)
    (of_values v x.0 w y.0 x.1 y.1 a.text b.text)
  where
    of_values : (v : Value) (a : Option Bytes) (w : Value) (b : Option Bytes) → textual a ≡ v → textual b ≡ w → IsTextOf texts s v → IsTextOf texts t w → compare_cell texts o s t 0 0 (side_slot texts s v) (side_slot texts t w) ≡ value_cell texts (Ok (comparison o v w))
    of_values v a w b e f =
        subst (λ (x : Value). IsTextOf texts s x → IsTextOf texts t w → compare_cell texts o s t 0 0 (side_slot texts s x) (side_slot texts t w) ≡ value_cell texts (Ok (comparison o x w))) e
        (subst (λ (y : Value). IsTextOf texts s (textual a) → IsTextOf texts t y → compare_cell texts o s t 0 0 (side_slot texts s (textual a)) (side_slot texts t y) ≡ value_cell texts (Ok (comparison o (textual a) y))) f (text_cells texts o s t a b few))

    at_zero : m ≡ 0 → n ≡ 0 → compare_cell texts o s t 0 0 (side_slot texts s v) (side_slot texts t w) ≡ value_cell texts (compared_at o 0 0 v w) → compare_cell texts o s t m n (side_slot texts s v) (side_slot texts t w) ≡ value_cell texts (compared_at o m n v w)
    at_zero e f h =
        subst (λ (i : ℕ). compare_cell texts o s t i n (side_slot texts s v) (side_slot texts t w) ≡ value_cell texts (compared_at o i n v w)) (sym e)
        (subst (λ (j : ℕ). compare_cell texts o s t 0 j (side_slot texts s v) (side_slot texts t w) ≡ value_cell texts (compared_at o 0 j v w)) (sym f) h)

-- ---- all kinds that are compared

pub sides_compare : (texts : List Bytes) (o : BinaryOp) (k : Kind) (s t : Option Bytes) (m n : ℕ) (v w : Value) → length texts < 2 ^ 32 → not (is_truth k) ≡ true → IsSide texts k s m v → IsSide texts k t n w →
    compare_cell texts o s t m n (side_slot texts s v) (side_slot texts t w) ≡ value_cell texts (compared_at o m n v w)
sides_compare texts o Number s t m n v w few h a b = plain_compare texts o Number s t m n v w refl a b
sides_compare texts o Date s t m n v w few h a b = plain_compare texts o Date s t m n v w refl a b
sides_compare texts o Text s t m n v w few h a b = text_compare texts o s t m n v w few a b
sides_compare texts o Truth s t m n v w few h a b = absurd (cc)
