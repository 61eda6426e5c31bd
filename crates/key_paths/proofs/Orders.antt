-- The order of paths by bytes, and what stands at or below a path in it.
use Rattle.std.proofs.Common.{◌≡◌, ℕ, ◌<◌, Bool, true, false, ◌&&◌, ◌||◌, List, [], ◌∷◌, ◌++◌, length, drop, refl, ap, sym, ◌∙◌, arith, ◌⊎◌, inl, inr}
use Rattle.std.specs.Prelude.{nat_le, nat_eq}
use Rattle.std.specs.List.{list_all, starts_with}
use Rattle.std.specs.Ordering.{nat_cmp, is_lt, is_eq, ordering_reverse}
use Rattle.std.proofs.lemmas.Map.Text.{is_eq-slice_cmp}
use Rattle.std.specs.declared.cmp.Ordering.{Ordering}
use Rattle.std.specs.declared.cmp.Ordering.TheVariants.{Less, Equal, Greater}
use Rattle.std.specs.Cmp.Lexicographic.{slice_cmp}
use Rattle.std.proofs.lemmas.Cmp.{nat_list_cmp_total}
use Rattle.std.proofs.lemmas.Bool.{and_parts, cases_order}
use Rattle.std.proofs.lemmas.Bool.Decides.{nat_tests}
use Rattle.std.proofs.lemmas.Slice.Eq.{bytes_eq-Decides}
use Rattle.key_paths.specs.Paths.{is_dot, dotted_text, path_text, IsPath}
use Rattle.key_paths.specs.Substructures.{is_root, begins_segment_or_ends, is_at_or_below, is_before}
use Rattle.key_paths.proofs.Bools.{no_true, all_weaker}
use Rattle.key_paths.proofs.Forms.{is_in_path, path_inside}

-- ---- the bytes of a path: the first is a dot, and none is below it

in_path_from_dot : (b : ℕ) → is_in_path b ≡ true → nat_le 46 b ≡ true
in_path_from_dot b h = grind (arith, nat_tests)

pub path_from_dot : (text : List ℕ) → IsPath text → list_all (λ b. nat_le 46 b) text ≡ true
path_from_dot text h = all_weaker is_in_path (λ b. nat_le 46 b) in_path_from_dot text (path_inside text h)

-- ---- orders

below_dot : (a b : ℕ) → a < b → is_dot b ≡ true → nat_le 46 a ≡ true → ⊥
below_dot a b l d h = grind (arith, nat_tests)

-- how two bytes stand
data Ordered (a b : ℕ) : Type 0 where
  less : a < b → nat_cmp a b ≡ Less → Ordered a b
  same : a ≡ b → nat_cmp a b ≡ Equal → Ordered a b
  more : b < a → nat_cmp a b ≡ Greater → Ordered a b

nat_cmp_less : (a b : ℕ) → a < b → nat_cmp a b ≡ Less
nat_cmp_less a b h = grind (arith, nat_tests)

nat_cmp_same : (a b : ℕ) → a ≡ b → nat_cmp a b ≡ Equal
nat_cmp_same a b h = grind (arith, nat_tests)

nat_cmp_more : (a b : ℕ) → b < a → nat_cmp a b ≡ Greater
nat_cmp_more a b h = grind (arith, nat_tests)

ordered : (a b : ℕ) → Ordered a b
ordered a b = elim (cases_order a b) [ inl e ↦ same e (nat_cmp_same a b e) | inr h ↦ elim h [ inl l ↦ less l (nat_cmp_less a b l) | inr k ↦ more k (nat_cmp_more a b k) ] ]

same_test : (x y : ℕ) → x ≡ y → nat_eq x y ≡ true
same_test x y h = grind (arith, nat_tests)

and_both : (a b : Bool) → a ≡ true → b ≡ true → (a && b) ≡ true
and_both a b h k = rw (h, k) refl

or_more : (a b c : Bool) → (a || b) ≡ true → (b ≡ true → c ≡ true) → (a || c) ≡ true
or_more true b c h f = refl
or_more false b c h f = f h

less_from_test : (o : Ordering) → is_lt o ≡ true → o ≡ Less
less_from_test Less h = refl
less_from_test Equal h = cc
less_from_test Greater h = cc

same_byte : (x y : ℕ) → nat_eq x y ≡ true → x ≡ y
same_byte x y h = grind (arith, nat_tests)

-- a text that begins with another does not come before it
pub not_before_its_front : (text front : List ℕ) → starts_with nat_eq text front ≡ true → is_before text front ≡ false
not_before_its_front [] [] h = refl
not_before_its_front (x ∷ text) [] h = refl
not_before_its_front [] (y ∷ front) h = cc
not_before_its_front (x ∷ text) (y ∷ front) h =
    let p = and_parts (nat_eq y x) (starts_with nat_eq text front) h in
    rw (nat_cmp_same x y (sym (same_byte y x p.0))) (not_before_its_front text front p.1)

-- what stands between a text and one that goes on from it with a dot goes on from it with a dot too
abbrev pub goes_on : List ℕ → List ℕ → Bool
goes_on text front = starts_with nat_eq text front && begins_segment_or_ends (drop (length front) text)

dot_between : (x y : List ℕ) → is_before x y ≡ true → begins_segment_or_ends y ≡ true → list_all (λ b. nat_le 46 b) x ≡ true → begins_segment_or_ends x ≡ true
dot_between [] y h d from = refl
dot_between (a ∷ x) [] h d from = cc
dot_between (a ∷ x) (b ∷ y) h d from =
    let p = and_parts (nat_le 46 a) (list_all (λ c. nat_le 46 c) x) from in
    elim (ordered a b) [ less l e ↦ absurd (below_dot a b l d p.0) | same e c ↦ rw e d | more l e ↦ absurd (cc (rw e at h)) ]

pub goes_on_between : (above x y : List ℕ) → is_before x above ≡ false → is_before x y ≡ true → goes_on y above ≡ true → list_all (λ b. nat_le 46 b) x ≡ true → goes_on x above ≡ true
goes_on_between [] x y h k g from = dot_between x y k g from
goes_on_between (a ∷ above) x [] h k g from = cc
goes_on_between (a ∷ above) [] (b ∷ y) h k g from = cc
goes_on_between (a ∷ above) (c ∷ x) (b ∷ y) h k g from =
    let p = and_parts (nat_eq a b && starts_with nat_eq y above) (begins_segment_or_ends (drop (length above) y)) g in
    let q = and_parts (nat_eq a b) (starts_with nat_eq y above) p.0 in
    let f = and_parts (nat_le 46 c) (list_all (λ d. nat_le 46 d) x) from in
    let ab : a ≡ b = same_byte a b q.0 in
    elim (ordered c a) [
      | less l e ↦ absurd (cc (rw e at h))
      | same ca e ↦
          let here : nat_eq a c ≡ true = same_test a c (sym ca) in
          let later : goes_on x above ≡ true = goes_on_between above x y (rw e at h) (rw (ap (λ n. nat_cmp c n) (sym ab) ∙ e) at k) (and_both _ _ q.1 p.1) f.1 in
          rw here later
      | more l e ↦ absurd (cc (rw (ap (λ n. nat_cmp c n) (sym ab) ∙ e) at k))
    ]

-- ---- the stretch at or below a path

not_before_nothing : (text : List ℕ) → is_lt (slice_cmp nat_cmp text []) ≡ false
not_before_nothing [] = refl
not_before_nothing (x ∷ text) = refl

not_before_root : (ss : List (List ℕ)) → is_before (path_text ss) (46 ∷ []) ≡ false
not_before_root [] = refl
not_before_root (s ∷ ss) = not_before_nothing (s ++ dotted_text ss)

either_or : (a b : Bool) → (a || b) ≡ true → (a ≡ true) ⊎ (b ≡ true)
either_or true b h = inl refl
either_or false b h = inr h

-- a path at or below another does not come before it
pub below_not_before : (p above : List ℕ) → IsPath p → is_at_or_below p above ≡ true → is_before p above ≡ false
below_not_before p above h b =
    elim (either_or (is_root above) (goes_on p above) b) [
      | inl root ↦ rw ((bytes_eq-Decides above (46 ∷ [])).0 root, h.is) (not_before_root h.segments)
      | inr on ↦ not_before_its_front p above (and_parts (starts_with nat_eq p above) (begins_segment_or_ends (drop (length above) p)) on).0
    ]

-- what stands between a path and one at or below it is at or below it too
pub below_between : (above x y : List ℕ) → IsPath x → is_before x above ≡ false → is_before x y ≡ true → is_at_or_below y above ≡ true → is_at_or_below x above ≡ true
below_between above x y h k l b = or_more (is_root above) (goes_on y above) (goes_on x above) b (λ g. goes_on_between above x y k l g (path_from_dot x h))

pub before_trans : (x y z : List ℕ) → is_before x y ≡ true → is_before y z ≡ true → is_before x z ≡ true
before_trans x y z h k = rw (nat_list_cmp_total.trans x y z (less_from_test _ h) (less_from_test _ k)) refl

or_second : (a b : Bool) → b ≡ true → (a || b) ≡ true
or_second true b h = refl
or_second false b h = h

starts_with_itself : (p : List ℕ) → starts_with nat_eq p p ≡ true
starts_with_itself [] = refl
starts_with_itself (x ∷ p) = rw (same_test x x refl) (starts_with_itself p)

ends_itself : (p : List ℕ) → begins_segment_or_ends (drop (length p) p) ≡ true
ends_itself [] = refl
ends_itself (x ∷ p) = ends_itself p

goes_on_itself : (p : List ℕ) → goes_on p p ≡ true
goes_on_itself p = and_both _ _ (starts_with_itself p) (ends_itself p)

-- a path is at or below itself
pub at_or_below_itself : (p : List ℕ) → is_at_or_below p p ≡ true
at_or_below_itself p = or_second (is_root p) (goes_on p p) (goes_on_itself p)

-- an order goes one way
pub not_before_back : (p q : List ℕ) → is_before p q ≡ true → is_before q p ≡ false
not_before_back p q h = rw (nat_list_cmp_total.antisymm q p, less_from_test (slice_cmp nat_cmp p q) h) refl

equal_from_cmp : (p q : List ℕ) → slice_cmp nat_cmp p q ≡ Equal → p ≡ q
equal_from_cmp p q e = (bytes_eq-Decides p q).0 (sym (is_eq-slice_cmp p q) ∙ ap is_eq e)

three_ways : (p q : List ℕ) (o : Ordering) → slice_cmp nat_cmp p q ≡ o → is_before q p ≡ false → (is_before p q ≡ true) ⊎ (p ≡ q)
three_ways p q Less e h = inl (ap is_lt e)
three_ways p q Equal e h = inr (equal_from_cmp p q e)
three_ways p q Greater e h = absurd (no_true h (ap is_lt (nat_list_cmp_total.antisymm q p ∙ ap ordering_reverse e)))

-- a path that does not come before another comes after it, or is equal
pub before_or_equal : (p q : List ℕ) → is_before q p ≡ false → (is_before p q ≡ true) ⊎ (p ≡ q)
before_or_equal p q h = three_ways p q (slice_cmp nat_cmp p q) refl h
