-- Beside a path that is known, nothing stands above another of one segment, or of two.
use Rattle.std.proofs.Common.{◌≡◌, ◌≢◌, ℕ, zero, suc, ◌<◌, Bool, true, false, not, ◌||◌, inl, inr, List, [], ◌∷◌, ◌++◌, length, drop, get_or, refl, sym, ap, ◌∙◌, subst, arith, nat_eq, Some}
use Rattle.std.specs.List.{list_all, list_any}
use Rattle.std.specs.Str.{bytes_eq}
use Rattle.std.proofs.lemmas.Bool.{and_parts, false≢true}
use Rattle.std.proofs.lemmas.Slice.Eq.{bytes_eq-Decides}
use Rattle.key_paths.specs.Substructures.{is_root, is_at_or_below}
use Rattle.key_paths.proofs.Orders.{goes_on, at_or_below_itself}
use Rattle.programs.specs.Faults.{apart, all_apart, path_clash}
use Rattle.programs.specs.Mentions.{Label, has_name}
use Rattle.programs.specs.Outlines.{Outline, Shapes, known_outline}
use Rattle.programs.proofs.Projections.{apart_clear}
use Rattle.writer_checks.specs.Checks.{HasShape}
use Rattle.writer_checks.specs.Laws.{NoneAbove}
use Rattle.writer_checks.specs.Paths.{is_flat, one, two}
use Rattle.writer_checks.proofs.Outlined.{any_member, has_path, first_name, later_name}
use Rattle.writer_checks.proofs.Attributes.{apart_parts, all_member}
use Rattle.writer_checks.proofs.Segments.{one_below, two_below, longer}

-- two of some paths that are apart
members_apart : (xs : List Label) (x y : Label) → all_apart xs ≡ true → has_name xs x ≡ true → has_name xs y ≡ true → x ≢ y → is_at_or_below x y ≡ false
members_apart [] x y e h g ne = absurd cc
members_apart (z ∷ zs) x y e h g ne =
    let parts = and_parts (list_all (apart z) zs) (all_apart zs) e in
    by parts.0 (λ s t. members_apart zs x y parts.1 s t ne) (bytes_eq z x) refl (bytes_eq z y) refl h g
  where
    by : list_all (apart z) zs ≡ true → (has_name zs x ≡ true → has_name zs y ≡ true → is_at_or_below x y ≡ false) → (b : Bool) → bytes_eq z x ≡ b → (c : Bool) → bytes_eq z y ≡ c → (b || has_name zs x) ≡ true → (c || has_name zs y) ≡ true → is_at_or_below x y ≡ false
    by first rest true p true q s t = absurd (ne (sym ((bytes_eq-Decides z x).0 p) ∙ (bytes_eq-Decides z y).0 q))
    by first rest true p false q s t = subst (λ (v : Label). is_at_or_below v y ≡ false) ((bytes_eq-Decides z x).0 p) (apart_parts z y (all_member (apart z) zs y first t)).0
    by first rest false p true q s t = subst (λ (v : Label). is_at_or_below x v ≡ false) ((bytes_eq-Decides z y).0 q) (apart_parts z x (all_member (apart z) zs x first s)).1
    by first rest false p false q s t = rest s t

has_at : (xs : List Label) (k : ℕ) (d : Label) → k < length xs → has_name xs (get_or xs k d) ≡ true
has_at [] k d h = absurd (omega arith)
has_at (x ∷ xs) zero d h = first_name x xs
has_at (x ∷ xs) (suc k) d h = later_name x xs (get_or xs k d) (has_at xs k d (omega arith))

or_false : (a b : Bool) → (a || b) ≡ false → a ≡ false
or_false true b e = absurd cc
or_false false b e = refl

no_root_in : (o : Outline) (q : Label) → path_clash o ≡ false → has_name o.paths q ≡ true → is_root q ≡ false
no_root_in o q clear h = by (is_root q) refl
  where
    by : (b : Bool) → is_root q ≡ b → b ≡ false
    by false e = refl
    by true e = absurd (false≢true (sym (or_false (list_any is_root o.paths) (not (all_apart o.paths)) clear) ∙ any_member is_root o.paths q e h))

-- ---- what stands above

nothing_above : (o : Outline) (r q : Label) → path_clash o ≡ false → has_name o.paths (one r) ≡ true → has_name o.paths q ≡ true → q ≢ []
nothing_above o r q clear known h e =
    let there : has_name o.paths [] ≡ true = subst (λ (x : Label). has_name o.paths x ≡ true) e h in
    let off : is_at_or_below (one r) [] ≡ false = members_apart o.paths (one r) [] (apart_clear o clear) known there (λ t. absurd cc) in
    absurd cc

one_case : (o : Outline) (w r q : Label) → is_flat w ≡ true → path_clash o ≡ false → has_name o.paths (one r) ≡ true → has_name o.paths q ≡ true → is_at_or_below (one w) q ≡ true → is_at_or_below q (one w) ≡ true
one_case o w r [] f clear known h below = absurd (nothing_above o r [] clear known h refl)
one_case o w r (y ∷ v) f clear known h below =
    let same : y ∷ v ≡ one w = one_below w v y f (no_root_in o (y ∷ v) clear h) below in
    subst (λ (x : Label). is_at_or_below x (one w) ≡ true) (sym same) (at_or_below_itself (one w))

goes_on_front : (a c : Label) → goes_on (a ++ (46 ∷ c)) a ≡ true
goes_on_front [] c = refl
goes_on_front (x ∷ a) c = let e : nat_eq x x ≡ true = (nat_same x) in rw e (goes_on_front a c)
  where
    nat_same : (x : ℕ) → nat_eq x x ≡ true
    nat_same x = grind arith

below_first : (a c : Label) → is_at_or_below (two a c) (one a) ≡ true
below_first a c = by (is_root (one a))
  where
    by : (b : Bool) → (b || goes_on (two a c) (one a)) ≡ true
    by true = refl
    by false = goes_on_front (46 ∷ a) c

two_case : (o : Outline) (s b c q : Label) → is_flat s ≡ true → is_flat b ≡ true → path_clash o ≡ false → has_name o.paths (two s c) ≡ true → has_name o.paths q ≡ true → is_at_or_below (two s b) q ≡ true → is_at_or_below q (two s b) ≡ true
two_case o s b c [] f g clear known h below = absurd (nothing_above o (s ++ (46 ∷ c)) [] clear known h refl)
two_case o s b c (y ∷ v) f g clear known h below = elim (two_below s b v y f g (no_root_in o (y ∷ v) clear h) below) [
  | inl e ↦
      let there : has_name o.paths (one s) ≡ true = subst (λ (x : Label). has_name o.paths x ≡ true) e h in
      let off : is_at_or_below (two s c) (one s) ≡ false = members_apart o.paths (two s c) (one s) (apart_clear o clear) known there (λ t. longer s c (ap (drop 1) t)) in
      absurd (false≢true (sym off ∙ below_first s c))
  | inr e ↦ subst (λ (x : Label). is_at_or_below x (two s b) ≡ true) (sym e) (at_or_below_itself (two s b))
]

-- ---- laws

same_outline : (shapes : Shapes) (a : Label) (len : ℕ) (paths : List Label) (h : HasShape shapes a len paths) (o : Outline) → shapes a ≡ Some o → h.outline ≡ o
same_outline shapes a len paths h o e = ap known_outline (sym h.known ∙ e)

pub none_above_one : (shapes : Shapes) (a w r : Label) (len : ℕ) (paths : List Label) → is_flat w ≡ true → HasShape shapes a len (one r ∷ paths) → NoneAbove shapes a (one w)
none_above_one shapes a w r len paths f h o e k d l =
    let same : h.outline ≡ o = same_outline shapes a len (one r ∷ paths) h o e in
    let clear : path_clash o ≡ false = subst (λ (x : Outline). path_clash x ≡ false) same h.clear in
    let known : has_name o.paths (one r) ≡ true = subst (λ (x : Outline). has_name x.paths (one r) ≡ true) same (has_path shapes a len (one r ∷ paths) h (one r) (first_name (one r) paths)) in
    one_case o w r (get_or o.paths k d) f clear known (has_at o.paths k d l)

pub none_above_two : (shapes : Shapes) (a s b c : Label) (len : ℕ) (paths : List Label) → is_flat s ≡ true → is_flat b ≡ true → HasShape shapes a len (two s c ∷ paths) → NoneAbove shapes a (two s b)
none_above_two shapes a s b c len paths f g h o e k d l =
    let same : h.outline ≡ o = same_outline shapes a len (two s c ∷ paths) h o e in
    let clear : path_clash o ≡ false = subst (λ (x : Outline). path_clash x ≡ false) same h.clear in
    let known : has_name o.paths (two s c) ≡ true = subst (λ (x : Outline). has_name x.paths (two s c) ≡ true) same (has_path shapes a len (two s c ∷ paths) h (two s c) (first_name (two s c) paths)) in
    two_case o s b c (get_or o.paths k d) f g clear known (has_at o.paths k d l)
