-- The paths of a projection: they ascend, and where one of them is too deep, none clash.
use Rattle.std.proofs.Common.{◌≡◌, ℕ, ◌+◌, ◌<◌, ◌≤◌, Bool, true, false, ◌&&◌, ◌||◌, not, List, [], ◌∷◌, ◌++◌, length, drop, get_or, map, arith, refl, sym, ap, ◌∙◌, append_assoc, append-nil, if◌then◌else◌, None}
use Rattle.std.specs.Prelude.{All, filter}
use Rattle.std.specs.List.{list_all, list_any}
use Rattle.std.proofs.lemmas.Bool.{and_parts, false≢true}
use Rattle.std.proofs.lemmas.Slice.Eq.{bytes_eq-Decides}
use Rattle.std.proofs.lemmas.List.{drop_more, drop_all}
use Rattle.std.proofs.lemmas.List.Elements.{All-head, All-tail, All-filter, filter_passes}
use Rattle.std.proofs.lemmas.List.Folds.{list_any-append}
use Rattle.std.proofs.lemmas.List.Kept.{AllPairs-filter}
use Rattle.key_paths.specs.Paths.{IsPath}
use Rattle.key_paths.specs.Substructures.{is_root, is_at_or_below, is_before, IsAscending}
use Rattle.struct_vectors.proofs.ArrangeLaws.{chain_ascending}
use Rattle.programs.specs.Mentions.{Label}
use Rattle.programs.specs.Moves.{moved, projected, is_deep}
use Rattle.programs.specs.Orders.{Rises}
use Rattle.programs.specs.Outlines.{Outline, outlined}
use Rattle.programs.specs.Faults.{apart, all_apart, path_clash, IsClear}
use Rattle.programs.specs.Parts.{Drafts}
use Rattle.programs.proofs.Beginnings.{Split, split_at, below_moved, before_moved}
use Rattle.programs.proofs.Merging.{rises_ascending}
use Rattle.programs.proofs.Nesting.{chain_without_clash}

-- two paths p and q, and paths at or below p
pub record Under (p q : Label) (paths : List Label) : Type 0 where
  pub p_path : IsPath p
  pub q_path : IsPath q
  pub each : All IsPath paths
  pub below : All (λ x. is_at_or_below x p ≡ true) paths

abbrev under_tail : (p q x : Label) (rest : List Label) → Under p q (x ∷ rest) → Under p q rest
under_tail p q x rest u = record { p_path = u.p_path; q_path = u.q_path; each = All-tail IsPath x rest u.each; below = All-tail (λ y. is_at_or_below y p ≡ true) x rest u.below }

under_head : (p q x : Label) (rest : List Label) (u : Under p q (x ∷ rest)) → Split u.p_path.segments u.q_path.segments x (moved p q x)
under_head p q x rest u = split_at p q x u.p_path u.q_path (All-head IsPath x rest u.each) (All-head (λ y. is_at_or_below y p ≡ true) x rest u.below)

-- ---- order

rises_map : (p q : Label) (paths : List Label) → Under p q paths → Rises paths → Rises (map (moved p q) paths)
rises_map p q [] u r = tt
rises_map p q (x ∷ []) u r = tt
rises_map p q (x ∷ y ∷ rest) u r = (
  before_moved u.p_path.segments u.q_path.segments y x (moved p q y) (moved p q x) (under_head p q y rest (under_tail p q x (y ∷ rest) u)) (under_head p q x (y ∷ rest) u) ∙ r.0,
  rises_map p q (y ∷ rest) (under_tail p q x (y ∷ rest) u) r.1,
)

under_filter : (p q : Label) (paths : List Label) → IsPath p → IsPath q → All IsPath paths → Under p q (filter (λ x. is_at_or_below x p) paths)
under_filter p q paths hp hq each = record {
  p_path = hp;
  q_path = hq;
  each = All-filter (λ x. is_at_or_below x p) IsPath paths each;
  below = filter_passes (λ x. is_at_or_below x p) paths;
}

pub rises_filter : (f : Label → Bool) (o : Outline) → IsClear o → Rises (filter f o.paths)
rises_filter f o c =
    let ascending : IsAscending o.paths = chain_ascending o.paths (chain_without_clash o c.rises c.paths c.clear) in
    rises_ascending (filter f o.paths) (AllPairs-filter (λ x y. is_before x y ≡ true) f o.paths ascending)

pub rises_projected : (p q : Label) (o : Outline) → IsPath p → IsPath q → IsClear o → Rises (projected p q o.paths)
rises_projected p q o hp hq c = rises_map p q (filter (λ x. is_at_or_below x p) o.paths) (under_filter p q o.paths hp hq c.paths) (rises_filter (λ x. is_at_or_below x p) o c)

-- what rises where it has a member rises
pub rises_some : (xs : List Label) → (0 < length xs → Rises xs) → Rises xs
rises_some [] h = tt
rises_some (x ∷ xs) h = h (omega arith)

-- ---- clashes

apart_moved : (p q x y : Label) (ps qs : List (List ℕ)) → Split ps qs x (moved p q x) → Split ps qs y (moved p q y) → apart (moved p q x) (moved p q y) ≡ apart x y
apart_moved p q x y ps qs a b =
    ap (λ (t : Bool). not (t || is_at_or_below (moved p q y) (moved p q x))) (below_moved ps qs x y (moved p q x) (moved p q y) a b)
    ∙ ap (λ (t : Bool). not (is_at_or_below x y || t)) (below_moved ps qs y x (moved p q y) (moved p q x) b a)

apart_map : (p q x : Label) (rest : List Label) (u : Under p q rest) → Split u.p_path.segments u.q_path.segments x (moved p q x) → list_all (apart (moved p q x)) (map (moved p q) rest) ≡ list_all (apart x) rest
apart_map p q x [] u s = refl
apart_map p q x (y ∷ rest) u s = rw (apart_moved p q x y _ _ s (under_head p q y rest u), apart_map p q x rest (under_tail p q y rest u) s) refl

all_apart_map : (p q : Label) (paths : List Label) → Under p q paths → all_apart (map (moved p q) paths) ≡ all_apart paths
all_apart_map p q [] u = refl
all_apart_map p q (x ∷ rest) u = rw (apart_map p q x rest (under_tail p q x rest u) (under_head p q x rest u), all_apart_map p q rest (under_tail p q x rest u)) refl

and_true : (a b : Bool) → a ≡ true → b ≡ true → (a && b) ≡ true
and_true a b h k = rw (h, k) refl

list_all_filter : (g f : Label → Bool) (xs : List Label) → list_all g xs ≡ true → list_all g (filter f xs) ≡ true
list_all_filter g f [] h = refl
list_all_filter g f (x ∷ xs) h = by (f x) (and_parts (g x) (list_all g xs) h).0 (list_all_filter g f xs (and_parts (g x) (list_all g xs) h).1)
  where
    by : (b : Bool) → g x ≡ true → list_all g (filter f xs) ≡ true → list_all g (if b then x ∷ filter f xs else filter f xs) ≡ true
    by true k l = and_true (g x) (list_all g (filter f xs)) k l
    by false k l = l

pub all_apart_filter : (f : Label → Bool) (xs : List Label) → all_apart xs ≡ true → all_apart (filter f xs) ≡ true
all_apart_filter f [] h = refl
all_apart_filter f (x ∷ xs) h = by (f x) (list_all_filter (apart x) f xs (and_parts (list_all (apart x) xs) (all_apart xs) h).0) (all_apart_filter f xs (and_parts (list_all (apart x) xs) (all_apart xs) h).1)
  where
    by : (b : Bool) → list_all (apart x) (filter f xs) ≡ true → all_apart (filter f xs) ≡ true → all_apart (if b then x ∷ filter f xs else filter f xs) ≡ true
    by true k l = and_true (list_all (apart x) (filter f xs)) (all_apart (filter f xs)) k l
    by false k l = l

or_left : (a b : Bool) → a ≡ true → (a || b) ≡ true
or_left a b h = rw h refl

or_right : (a b : Bool) → b ≡ true → (a || b) ≡ true
or_right true b h = refl
or_right false b h = h

-- what is apart from another is not moved to the root, since everything stands below that
rootless_second : (p q x y : Label) (ps qs : List (List ℕ)) → Split ps qs x (moved p q x) → Split ps qs y (moved p q y) → apart x y ≡ true → is_root (moved p q y) ≡ false
rootless_second p q x y ps qs a b e = by (is_root (moved p q y)) refl
  where
    by : (t : Bool) → is_root (moved p q y) ≡ t → t ≡ false
    by false r = refl
    by true r =
        let below : is_at_or_below x y ≡ true = sym (below_moved ps qs x y (moved p q x) (moved p q y) a b) ∙ or_left (is_root (moved p q y)) _ r in
        absurd (false≢true (sym (ap not (or_left (is_at_or_below x y) (is_at_or_below y x) below)) ∙ e))

rootless_first : (p q x y : Label) (ps qs : List (List ℕ)) → Split ps qs x (moved p q x) → Split ps qs y (moved p q y) → apart x y ≡ true → is_root (moved p q x) ≡ false
rootless_first p q x y ps qs a b e = by (is_root (moved p q x)) refl
  where
    by : (t : Bool) → is_root (moved p q x) ≡ t → t ≡ false
    by false r = refl
    by true r =
        let below : is_at_or_below y x ≡ true = sym (below_moved ps qs y x (moved p q y) (moved p q x) b a) ∙ or_left (is_root (moved p q x)) _ r in
        absurd (false≢true (sym (ap not (or_right (is_at_or_below x y) (is_at_or_below y x) below)) ∙ e))

rootless_rest : (p q x : Label) (rest : List Label) (u : Under p q rest) → Split u.p_path.segments u.q_path.segments x (moved p q x) → list_all (apart x) rest ≡ true → list_any is_root (map (moved p q) rest) ≡ false
rootless_rest p q x [] u s e = refl
rootless_rest p q x (y ∷ rest) u s e =
    let parts = and_parts (apart x y) (list_all (apart x) rest) e in
    rw (rootless_second p q x y _ _ s (under_head p q y rest u) parts.0) (rootless_rest p q x rest (under_tail p q y rest u) s parts.1)

root_shallow : (p : Label) → is_root p ≡ true → is_deep p ≡ false
root_shallow p e = ap is_deep ((bytes_eq-Decides p (46 ∷ [])).0 e)

pub rootless : (p q : Label) (paths : List Label) → Under p q paths → all_apart paths ≡ true → list_any is_deep (map (moved p q) paths) ≡ true → list_any is_root (map (moved p q) paths) ≡ false
rootless p q [] u e d = refl
rootless p q (x ∷ []) u e d = by (is_root (moved p q x)) refl d
  where
    by : (t : Bool) → is_root (moved p q x) ≡ t → (is_deep (moved p q x) || false) ≡ true → (t || false) ≡ false
    by false r k = refl
    by true r k = absurd (false≢true (sym (ap (λ (b : Bool). b || false) (root_shallow (moved p q x) r)) ∙ k))
rootless p q (x ∷ y ∷ rest) u e d =
    let later = under_tail p q x (y ∷ rest) u in
    let s = under_head p q x (y ∷ rest) u in
    let parts = and_parts (list_all (apart x) (y ∷ rest)) (all_apart (y ∷ rest)) e in
    let first = and_parts (apart x y) (list_all (apart x) rest) parts.0 in
    rw (rootless_first p q x y _ _ s (under_head p q y rest later) first.0) (rootless_rest p q x (y ∷ rest) later s parts.0)

or_false : (a b : Bool) → (a || b) ≡ false → (a ≡ false) × (b ≡ false)
or_false true b e = absurd cc
or_false false b e = (refl, e)

not_false : (b : Bool) → not b ≡ false → b ≡ true
not_false true e = refl
not_false false e = absurd cc

pub apart_clear : (o : Outline) → path_clash o ≡ false → all_apart o.paths ≡ true
apart_clear o e = not_false (all_apart o.paths) (or_false (list_any is_root o.paths) (not (all_apart o.paths)) e).1

-- where a path of a projection is too deep, none clash
pub deep_clear : (p q : Label) (o : Outline) (n : ℕ) → IsPath p → IsPath q → IsClear o → list_any is_deep (projected p q o.paths) ≡ true → Drafts None (outlined n (projected p q o.paths))
deep_clear p q o n hp hq c d =
    let kept = filter (λ x. is_at_or_below x p) o.paths in
    let u = under_filter p q o.paths hp hq c.paths in
    let apart = all_apart_filter (λ x. is_at_or_below x p) o.paths (apart_clear o c.clear) in
    (rw (rootless p q kept u apart d, all_apart_map p q kept u, apart) refl, d)

-- ---- one by one

pub projected_here : (p q x : Label) (xs : List Label) (i : ℕ) → i < length xs → x ≡ get_or xs i x → is_at_or_below x p ≡ true → projected p q (drop i xs) ≡ moved p q x ∷ projected p q (drop (i + 1) xs)
projected_here p q x xs i h e b =
    let here : drop i xs ≡ x ∷ drop (i + 1) xs = drop_more xs i x h ∙ ap (λ (y : Label). y ∷ drop (i + 1) xs) (sym e) in
    rw (here, b) refl

pub projected_next : (p q x : Label) (xs : List Label) (i : ℕ) → i < length xs → x ≡ get_or xs i x → is_at_or_below x p ≡ false → projected p q (drop i xs) ≡ projected p q (drop (i + 1) xs)
projected_next p q x xs i h e b =
    let here : drop i xs ≡ x ∷ drop (i + 1) xs = drop_more xs i x h ∙ ap (λ (y : Label). y ∷ drop (i + 1) xs) (sym e) in
    rw (here, b) refl

or_middle : (a b c : Bool) → b ≡ true → (a || (b || c)) ≡ true
or_middle a b c h = or_right a (b || c) (or_left b c h)

pub deep_here : (p q x : Label) (xs so_far : List Label) (i : ℕ) → i < length xs → x ≡ get_or xs i x → is_at_or_below x p ≡ true → so_far ++ projected p q (drop i xs) ≡ projected p q xs → is_deep (moved p q x) ≡ true → list_any is_deep (projected p q xs) ≡ true
deep_here p q x xs so_far i h e b all d =
    ap (list_any is_deep) (sym all ∙ ap (λ (l : List Label). so_far ++ l) (projected_here p q x xs i h e b))
    ∙ list_any-append is_deep so_far (moved p q x ∷ projected p q (drop (i + 1) xs))
    ∙ or_middle (list_any is_deep so_far) (is_deep (moved p q x)) (list_any is_deep (projected p q (drop (i + 1) xs))) d

pub projected_on : (p q x now : Label) (xs so_far more : List Label) (i : ℕ) → i < length xs → x ≡ get_or xs i x → is_at_or_below x p ≡ true → now ≡ moved p q x → more ≡ so_far ++ now ∷ [] → so_far ++ projected p q (drop i xs) ≡ projected p q xs → more ++ projected p q (drop (i + 1) xs) ≡ projected p q xs
projected_on p q x now xs so_far more i h e b n m all =
    ap (λ (l : List Label). l ++ projected p q (drop (i + 1) xs)) (m ∙ ap (λ (y : Label). so_far ++ y ∷ []) n)
    ∙ append_assoc so_far (moved p q x ∷ []) (projected p q (drop (i + 1) xs))
    ∙ ap (λ (l : List Label). so_far ++ l) (sym (projected_here p q x xs i h e b)) ∙ all

pub projected_off : (p q x : Label) (xs so_far more : List Label) (i : ℕ) → i < length xs → x ≡ get_or xs i x → is_at_or_below x p ≡ false → more ≡ so_far → so_far ++ projected p q (drop i xs) ≡ projected p q xs → more ++ projected p q (drop (i + 1) xs) ≡ projected p q xs
projected_off p q x xs so_far more i h e b m all =
    ap (λ (l : List Label). l ++ projected p q (drop (i + 1) xs)) m ∙ ap (λ (l : List Label). so_far ++ l) (sym (projected_next p q x xs i h e b)) ∙ all

pub projected_end : (p q : Label) (xs so_far : List Label) (i : ℕ) → length xs ≤ i → so_far ++ projected p q (drop i xs) ≡ projected p q xs → so_far ≡ projected p q xs
projected_end p q xs so_far i h all =
    sym (append-nil so_far) ∙ ap (λ (l : List Label). so_far ++ projected p q l) (sym (drop_all i xs h)) ∙ all
