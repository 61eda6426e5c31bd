-- Texts as codes: a text of the dictionary compares by its code, and any other stands half a step below the first code above it.
use Rattle.std.proofs.Common.{Ordering, ◌≡◌, ℕ, zero, suc, ◌+◌, ◌*◌, ◌^◌, ◌<◌, ◌≤◌, pos, ◌-ℤ◌, ◌<ℤ◌, cond, Bool, true, false, ◌||◌, if◌then◌else◌, List, [], ◌∷◌, length, Some, None, Ok, refl, sym, ap, ◌∙◌, arith}
use Rattle.std.specs.declared.cmp.Ordering.TheVariants.{Less, Equal, Greater}
use Rattle.std.specs.Ordering.{int_cmp, is_lt, is_eq, ordering_reverse, MatchOrdering}
use Rattle.std.specs.Cmp.{int_cmp_is}
use Rattle.std.specs.List.{list_any}
use Rattle.std.specs.Str.{bytes_eq}
use Rattle.std.proofs.lemmas.Cmp.{nat_list_cmp_total}
use Rattle.std.proofs.lemmas.Bool.{lt-ltb}
use Rattle.std.proofs.lemmas.Int.{ints}
use Rattle.std.proofs.lemmas.List.Sums.{sum_by-cons, count_by-le-length}
use Rattle.std.proofs.lemmas.Map.Text.{is_eq-slice_cmp}
use Rattle.control_vectors.specs.Slots.{in_128_bits, or_over}
use Rattle.sql_values.specs.Texts.{by_bytes, is_below}
use Rattle.sql_values.proofs.Orders.{text_order}
use Rattle.dict_codes.specs.Dictionaries.{rank_in, is_among}
use Rattle.dict_codes.proofs.DictionaryLaws.{lt_less}
use Rattle.expr_steps.specs.Lowered.{Bytes, text_number}
use Rattle.expr_values.proofs.Cells.{times_cell}

-- ---- ranks

one_if : Bool → ℕ
one_if b = cond b 1 0

rank_more : (x : Bytes) (texts : List Bytes) (t : Bytes) → rank_in (x ∷ texts) t ≡ one_if (is_below x t) + rank_in texts t
unfolding one_if
rank_more x texts t = sum_by-cons (λ u. cond (is_below u t) 1 0) x texts

below_next : (u s t : Bytes) → by_bytes s t ≡ Less → is_below u s ≡ true → is_below u t ≡ true
below_next u s t h b = ap is_lt (nat_list_cmp_total.trans u s t (lt_less (by_bytes u s) b) h)

fewer : (a b : Bool) → (a ≡ true → b ≡ true) → one_if a ≤ one_if b
unfolding one_if
fewer true true h = omega arith
fewer true false h = absurd (let e : false ≡ true = h refl in cc)
fewer false b h = omega arith

pub rank_up : (texts : List Bytes) (s t : Bytes) → by_bytes s t ≡ Less → rank_in texts s ≤ rank_in texts t
rank_up [] s t h = omega arith
rank_up (x ∷ texts) s t h =
    let first = fewer (is_below x s) (is_below x t) (below_next x s t h) in
    let rest = rank_up texts s t h in
    let left = rank_more x texts s in
    let right = rank_more x texts t in
    omega arith

same_text : (s x : Bytes) → bytes_eq s x ≡ true → by_bytes x s ≡ Equal
same_text s x e = nat_list_cmp_total.antisymm x s ∙ ap ordering_reverse (equal_is (by_bytes s x) (is_eq-slice_cmp s x ∙ e))
  where
    equal_is : (c : Ordering) → is_eq c ≡ true → c ≡ Equal
    equal_is Less h = absurd (cc)
    equal_is Equal h = refl
    equal_is Greater h = absurd (cc)

pub rank_above : (texts : List Bytes) (s t : Bytes) → by_bytes s t ≡ Less → is_among texts s ≡ true → rank_in texts s < rank_in texts t
unfolding one_if
rank_above [] s t h m = absurd (cc)
rank_above (x ∷ texts) s t h m = by (rank_above texts s t h) (bytes_eq s x) refl
  where
    left : rank_in (x ∷ texts) s ≡ one_if (is_below x s) + rank_in texts s
    left = rank_more x texts s

    right : rank_in (x ∷ texts) t ≡ one_if (is_below x t) + rank_in texts t
    right = rank_more x texts t

    by : (is_among texts s ≡ true → rank_in texts s < rank_in texts t) → (b : Bool) → bytes_eq s x ≡ b → rank_in (x ∷ texts) s < rank_in (x ∷ texts) t
    by later true e =
        let same = same_text s x e in
        let none : one_if (is_below x s) ≡ 0 = ap (λ (c : Ordering). one_if (is_lt c)) same in
        let one : one_if (is_below x t) ≡ 1 = ap (λ (c : Ordering). one_if (is_lt c)) (nat_list_cmp_total.congr x s t same ∙ h) in
        let rest = rank_up texts s t h in
        omega (arith, left, right)
    by later false e =
        let first = fewer (is_below x s) (is_below x t) (below_next x s t h) in
        let rest = later (sym (ap (λ (c : Bool). c || list_any (bytes_eq s) texts) e) ∙ m) in
        omega (arith, left, right)

-- ---- two texts of the dictionary

turned : (s t : Bytes) → by_bytes s t ≡ Greater → by_bytes t s ≡ Less
turned s t e = nat_list_cmp_total.antisymm t s ∙ ap ordering_reverse e

pub codes_compare : (texts : List Bytes) (s t : Bytes) → is_among texts s ≡ true → is_among texts t ≡ true → by_bytes s t ≡ int_cmp (pos (rank_in texts s)) (pos (rank_in texts t))
codes_compare texts s t h k = int_cmp_is (pos (rank_in texts s)) (pos (rank_in texts t)) (by_bytes s t) (by (by_bytes s t) refl)
  where
    by : (r : Ordering) → by_bytes s t ≡ r → MatchOrdering r (pos (rank_in texts s) <ℤ pos (rank_in texts t)) (pos (rank_in texts s) ≡ pos (rank_in texts t)) (pos (rank_in texts t) <ℤ pos (rank_in texts s))
    by Less e = let up = rank_above texts s t e h in omega (arith, ints)
    by Equal e = ap (λ (u : Bytes). pos (rank_in texts u)) (text_order.alike s t e)
    by Greater e = let up = rank_above texts t s (turned s t e) k in omega (arith, ints)

-- ---- a text of the dictionary beside one that is none of it, in halves

absent : (texts : List Bytes) (s t : Bytes) → is_among texts s ≡ true → is_among texts t ≡ false → by_bytes s t ≡ Equal → true ≡ false
absent texts s t h k e = sym h ∙ ap (is_among texts) (text_order.alike s t e) ∙ k

pub halves_compare : (texts : List Bytes) (s t : Bytes) → is_among texts s ≡ true → is_among texts t ≡ false → by_bytes s t ≡ int_cmp (pos (2 * rank_in texts s)) (pos (2 * rank_in texts t) -ℤ pos 1)
halves_compare texts s t h k = int_cmp_is (pos (2 * rank_in texts s)) (pos (2 * rank_in texts t) -ℤ pos 1) (by_bytes s t) (by (by_bytes s t) refl)
  where
    by : (r : Ordering) → by_bytes s t ≡ r → MatchOrdering r (pos (2 * rank_in texts s) <ℤ (pos (2 * rank_in texts t) -ℤ pos 1)) (pos (2 * rank_in texts s) ≡ pos (2 * rank_in texts t) -ℤ pos 1) ((pos (2 * rank_in texts t) -ℤ pos 1) <ℤ pos (2 * rank_in texts s))
    by Less e = let up = rank_above texts s t e h in omega (arith, ints)
    by Equal e = absurd (let same = absent texts s t h k e in cc)
    by Greater e = let up = rank_up texts t s (turned s t e) in omega (arith, ints)

pub halves_beside : (texts : List Bytes) (s t : Bytes) → is_among texts s ≡ false → is_among texts t ≡ true → by_bytes s t ≡ int_cmp (pos (2 * rank_in texts s) -ℤ pos 1) (pos (2 * rank_in texts t))
halves_beside texts s t h k = int_cmp_is (pos (2 * rank_in texts s) -ℤ pos 1) (pos (2 * rank_in texts t)) (by_bytes s t) (by (by_bytes s t) refl)
  where
    by : (r : Ordering) → by_bytes s t ≡ r → MatchOrdering r ((pos (2 * rank_in texts s) -ℤ pos 1) <ℤ pos (2 * rank_in texts t)) (pos (2 * rank_in texts s) -ℤ pos 1 ≡ pos (2 * rank_in texts t)) (pos (2 * rank_in texts t) <ℤ (pos (2 * rank_in texts s) -ℤ pos 1))
    by Less e = let up = rank_up texts s t e in omega (arith, ints)
    by Equal e = absurd (let same = absent texts t s k h (nat_list_cmp_total.antisymm t s ∙ ap ordering_reverse e) in cc)
    by Greater e = let up = rank_above texts t s (turned s t e) k in omega (arith, ints)

-- ---- codes have room for halves

rank_below : (texts : List Bytes) (t : Bytes) → length texts < 2 ^ 32 → rank_in texts t < 2 ^ 32
rank_below texts t h = let most = count_by-le-length (λ u. is_below u t) texts in omega arith

pub doubled : (texts : List Bytes) (t : Bytes) → length texts < 2 ^ 32 → times_cell (pos 2) (Some (pos (rank_in texts t))) ≡ Ok (Some (pos (2 * rank_in texts t)))
doubled texts t h =
    let least = rank_below texts t h in
    let fits : rank_in texts t * 2 < 2 ^ 127 = omega arith in
    let twice : rank_in texts t * 2 ≡ 2 * rank_in texts t = omega arith in
    ap (λ (b : Bool). or_over (if b then Some (pos (rank_in texts t * 2)) else None)) (lt-ltb (rank_in texts t * 2) (2 ^ 127) fits) ∙ ap (λ (n : ℕ). Ok (Some (pos n))) twice

-- ---- the number of a literal

pub number_among : (texts : List Bytes) (t : Bytes) → is_among texts t ≡ true → text_number texts t ≡ pos (rank_in texts t)
number_among texts t e = ap (λ (b : Bool). if b then pos (rank_in texts t) else pos (2 * rank_in texts t) -ℤ pos 1) e

pub number_absent : (texts : List Bytes) (t : Bytes) → is_among texts t ≡ false → text_number texts t ≡ pos (2 * rank_in texts t) -ℤ pos 1
number_absent texts t e = ap (λ (b : Bool). if b then pos (rank_in texts t) else pos (2 * rank_in texts t) -ℤ pos 1) e

-- it has 128 bits
pub number_fits : (texts : List Bytes) (t : Bytes) → length texts < 2 ^ 32 → in_128_bits (text_number texts t) ≡ Some (text_number texts t)
number_fits texts t h = by (is_among texts t) refl
  where
    plain : (n : ℕ) → n < 2 ^ 127 → in_128_bits (pos n) ≡ Some (pos n)
    plain n h = ap (λ (b : Bool). if b then Some (pos n) else None) (lt-ltb n (2 ^ 127) h)

    small : (n : ℕ) → n < 2 ^ 32 → in_128_bits (pos (2 * n) -ℤ pos 1) ≡ Some (pos (2 * n) -ℤ pos 1)
    small zero h = refl
    small (suc n) h =
        let is : pos (2 * suc n) -ℤ pos 1 ≡ pos (2 * n + 1) = omega (arith, ints) in
        rw is (plain (2 * n + 1) (omega arith))

    by : (b : Bool) → is_among texts t ≡ b → in_128_bits (text_number texts t) ≡ Some (text_number texts t)
    by true e = rw (number_among texts t e) (plain (rank_in texts t) (let least = rank_below texts t h in omega arith))
    by false e = rw (number_absent texts t e) (small (rank_in texts t) (rank_below texts t h))
