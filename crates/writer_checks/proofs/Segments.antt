-- What stands at or below a path of one segment or two.
use Rattle.std.proofs.Common.{◌≡◌, ◌≢◌, ℕ, ◌+◌, ◌<◌, Bool, true, false, not, ◌||◌, ◌&&◌, ◌⊎◌, inl, inr, [], ◌∷◌, ◌++◌, length, drop, length-append, refl, sym, ap, ◌∙◌, subst, arith, nat_eq, nat_lt, cond, fold}
use Rattle.std.specs.List.{starts_with}
use Rattle.std.proofs.lemmas.Bool.{and_parts, false≢true}
use Rattle.std.proofs.lemmas.Bool.Decides.{nat_tests}
use Rattle.std.proofs.lemmas.List.{append_cancel_left}
use Rattle.key_paths.specs.Paths.{is_dot}
use Rattle.key_paths.specs.Substructures.{is_root, begins_segment_or_ends, is_at_or_below}
use Rattle.key_paths.proofs.Orders.{goes_on}
use Rattle.programs.specs.Mentions.{Label}
use Rattle.writer_checks.specs.Laws.{IsAttribute}
use Rattle.writer_checks.specs.Paths.{is_flat, one, two}

same_byte : (x y : ℕ) → nat_eq x y ≡ true → x ≡ y
same_byte x y h = grind (arith, nat_tests)

same_test : (x : ℕ) → nat_eq x x ≡ true
same_test x = grind (arith, nat_tests)

both : (a b : Bool) → a ≡ true → b ≡ true → (a && b) ≡ true
both a b e f = rw (e, f) refl

no_dot : (x : ℕ) → not (is_dot x) ≡ true → is_dot x ≡ true → ⊥
no_dot x h e = false≢true (sym (ap not e) ∙ h)

on_parts : (x y : ℕ) (w v : Label) → goes_on (x ∷ w) (y ∷ v) ≡ true → (y ≡ x) × (goes_on w v ≡ true)
on_parts x y w v h =
    let p = and_parts (nat_eq y x && starts_with nat_eq w v) (begins_segment_or_ends (drop (length v) w)) h in
    let q = and_parts (nat_eq y x) (starts_with nat_eq w v) p.0 in
    (same_byte y x q.0, both (starts_with nat_eq w v) (begins_segment_or_ends (drop (length v) w)) q.1 p.1)

-- one segment goes on from itself alone
flat_on : (w v : Label) → is_flat w ≡ true → goes_on w v ≡ true → v ≡ w
flat_on [] [] f h = refl
flat_on [] (y ∷ v) f h = absurd cc
flat_on (x ∷ w) [] f h = absurd (no_dot x (and_parts (not (is_dot x)) (is_flat w) f).0 h)
flat_on (x ∷ w) (y ∷ v) f h =
    let p = on_parts x y w v h in
    ap (λ (z : ℕ). z ∷ v) p.0 ∙ ap (λ (l : Label). x ∷ l) (flat_on w v (and_parts (not (is_dot x)) (is_flat w) f).1 p.1)

-- two segments go on from the first, or from themselves
pub two_on : (a b v : Label) → is_flat a ≡ true → is_flat b ≡ true → goes_on (a ++ (46 ∷ b)) v ≡ true → (v ≡ a) ⊎ (v ≡ a ++ (46 ∷ b))
two_on [] b [] f g h = inl refl
two_on [] b (y ∷ v) f g h = let p = on_parts 46 y b v h in inr (ap (λ (z : ℕ). z ∷ v) p.0 ∙ ap (λ (l : Label). 46 ∷ l) (flat_on b v g p.1))
two_on (x ∷ a) b [] f g h = absurd (no_dot x (and_parts (not (is_dot x)) (is_flat a) f).0 h)
two_on (x ∷ a) b (y ∷ v) f g h =
    let p = on_parts x y (a ++ (46 ∷ b)) v h in
    elim (two_on a b v (and_parts (not (is_dot x)) (is_flat a) f).1 g p.1) [
      | inl e ↦ inl (ap (λ (z : ℕ). z ∷ v) p.0 ∙ ap (λ (l : Label). x ∷ l) e)
      | inr e ↦ inr (ap (λ (z : ℕ). z ∷ v) p.0 ∙ ap (λ (l : Label). x ∷ l) e)
    ]

-- ---- below a path that is not the root

or_rest : (a b : Bool) → a ≡ false → (a || b) ≡ true → b ≡ true
or_rest true b e h = absurd cc
or_rest false b e h = h

below_on : (p v : Label) (y : ℕ) → is_root (y ∷ v) ≡ false → is_at_or_below (46 ∷ p) (y ∷ v) ≡ true → (y ≡ 46) × (goes_on p v ≡ true)
below_on p v y root h = on_parts 46 y p v (or_rest (is_root (y ∷ v)) (goes_on (46 ∷ p) (y ∷ v)) root h)

pub one_below : (w v : Label) (y : ℕ) → is_flat w ≡ true → is_root (y ∷ v) ≡ false → is_at_or_below (one w) (y ∷ v) ≡ true → y ∷ v ≡ one w
one_below w v y f root h = let p = below_on w v y root h in ap (λ (z : ℕ). z ∷ v) p.0 ∙ ap (λ (l : Label). 46 ∷ l) (flat_on w v f p.1)

pub two_below : (a b v : Label) (y : ℕ) → is_flat a ≡ true → is_flat b ≡ true → is_root (y ∷ v) ≡ false → is_at_or_below (two a b) (y ∷ v) ≡ true → (y ∷ v ≡ one a) ⊎ (y ∷ v ≡ two a b)
two_below a b v y f g root h =
    let p = below_on (a ++ (46 ∷ b)) v y root h in
    elim (two_on a b v f g p.1) [
      | inl e ↦ inl (ap (λ (z : ℕ). z ∷ v) p.0 ∙ ap (λ (l : Label). 46 ∷ l) e)
      | inr e ↦ inr (ap (λ (z : ℕ). z ∷ v) p.0 ∙ ap (λ (l : Label). 46 ∷ l) e)
    ]

-- ---- no root

pub one_no_root : (w : Label) → 0 < length w → is_root (one w) ≡ false
one_no_root [] h = absurd (omega arith)
one_no_root (x ∷ w) h = refl

pub two_no_root : (a b : Label) → is_root (two a b) ≡ false
two_no_root [] b = refl
two_no_root (x ∷ a) b = refl

-- ---- apart

false_from : (b : Bool) → (b ≡ true → ⊥) → b ≡ false
false_from true h = absurd (h refl)
false_from false h = refl

tail_same : (v w : Label) → one v ≡ one w → v ≡ w
tail_same v w e = ap (drop 1) e

pub ones_apart : (v w : Label) → is_flat v ≡ true → 0 < length w → v ≢ w → is_at_or_below (one v) (one w) ≡ false
ones_apart v w f some ne = false_from (is_at_or_below (one v) (one w)) (λ h. ne (sym (tail_same w v (one_below v w 46 f (one_no_root w some) h))))

flat_no_two : (w a b : Label) → is_flat w ≡ true → a ++ (46 ∷ b) ≢ w
flat_no_two w a b f e = dotted a b (subst (λ x. is_flat x ≡ true) (sym e) f)
  where
    dotted : (a b : Label) → is_flat (a ++ (46 ∷ b)) ≡ true → ⊥
    dotted [] b h = absurd cc
    dotted (x ∷ a) b h = dotted a b (and_parts (not (is_dot x)) (is_flat (a ++ (46 ∷ b))) h).1

pub one_apart : (w a b : Label) → is_flat w ≡ true → is_at_or_below (one w) (two a b) ≡ false
one_apart w a b f = false_from (is_at_or_below (one w) (two a b)) (λ h. flat_no_two w a b f (tail_same (a ++ (46 ∷ b)) w (one_below w (a ++ (46 ∷ b)) 46 f (two_no_root a b) h)))

pub two_apart : (a b w : Label) → is_flat a ≡ true → is_flat b ≡ true → is_flat w ≡ true → 0 < length w → a ≢ w → is_at_or_below (two a b) (one w) ≡ false
two_apart a b w f g k some ne = false_from (is_at_or_below (two a b) (one w)) (λ h. elim (two_below a b w 46 f g (one_no_root w some) h) [
  | inl e ↦ ne (sym (tail_same w a e))
  | inr e ↦ flat_no_two w a b k (sym (tail_same w (a ++ (46 ∷ b)) e))
])

pub longer : (a c : Label) → a ++ (46 ∷ c) ≢ a
longer a c e = let n : length (a ++ (46 ∷ c)) ≡ length a = ap length e in omega (arith, n, length-append a (46 ∷ c))

pub twos_apart : (a b c : Label) → is_flat a ≡ true → is_flat b ≡ true → b ≢ c → is_at_or_below (two a b) (two a c) ≡ false
twos_apart a b c f g ne = false_from (is_at_or_below (two a b) (two a c)) (λ h. elim (two_below a b (a ++ (46 ∷ c)) 46 f g (two_no_root a c) h) [
  | inl e ↦ longer a c (tail_same (a ++ (46 ∷ c)) a e)
  | inr e ↦ ne (sym (ap (drop 1) (append_cancel_left a (46 ∷ c) (46 ∷ b) (tail_same (a ++ (46 ∷ c)) (a ++ (46 ∷ b)) e))))
])

-- ---- attributes

abbrev dots : ℕ → Label → ℕ
dots n w = fold (λ (a x : ℕ). a + cond (is_dot x) 1 0) n w

not_true : (b : Bool) → not b ≡ true → b ≡ false
not_true true e = absurd cc
not_true false e = refl

flat_dots : (w : Label) (n : ℕ) → is_flat w ≡ true → dots n w ≡ n
flat_dots [] n f = refl
flat_dots (x ∷ w) n f =
    let p = and_parts (not (is_dot x)) (is_flat w) f in
    let same : n + 0 ≡ n = omega arith in
    ap (λ (b : Bool). dots (n + cond b 1 0) w) (not_true (is_dot x) p.0) ∙ flat_dots w (n + 0) p.1 ∙ same

two_dots : (a b : Label) (n : ℕ) → is_flat a ≡ true → is_flat b ≡ true → dots n (a ++ (46 ∷ b)) ≡ n + 1
two_dots [] b n f g = flat_dots b (n + 1) g
two_dots (x ∷ a) b n f g =
    let p = and_parts (not (is_dot x)) (is_flat a) f in
    let same : n + 0 + 1 ≡ n + 1 = omega arith in
    ap (λ (t : Bool). dots (n + cond t 1 0) (a ++ (46 ∷ b))) (not_true (is_dot x) p.0) ∙ two_dots a b (n + 0) p.1 g ∙ same

pub attribute_one : (w : Label) → is_flat w ≡ true → 0 < length w → IsAttribute (one w)
attribute_one w f some = record { some = omega arith; below_root = one_no_root w some; shallow = ap (λ (n : ℕ). nat_lt 8 n) (flat_dots w 1 f) }

pub attribute_two : (a b : Label) → is_flat a ≡ true → is_flat b ≡ true → IsAttribute (two a b)
attribute_two a b f g = record { some = omega arith; below_root = two_no_root a b; shallow = ap (λ (n : ℕ). nat_lt 8 n) (two_dots a b 1 f g) }
