-- An attribute more, and an attribute alone: where nothing stands above it, the paths are apart as before.
use Rattle.std.proofs.Common.{◌≡◌, ℕ, ◌<◌, Bool, true, false, not, ◌||◌, ◌&&◌, List, [], ◌∷◌, ◌++◌, length, drop, drop_of_length-le, map, filter, get_or, refl, sym, ap, ◌∙◌, subst, arith, append-nil, le_refl, if◌then◌else◌}
use Rattle.std.specs.Prelude.{All}
use Rattle.std.specs.List.{list_any, list_all}
use Rattle.std.specs.Str.{bytes_eq}
use Rattle.std.proofs.lemmas.Bool.{and_parts, false≢true}
use Rattle.std.proofs.lemmas.Slice.Eq.{bytes_eq-Decides}
use Rattle.std.proofs.lemmas.List.Elements.{All-head, All-tail, All-cons}
use Rattle.key_paths.specs.Substructures.{is_root, is_at_or_below, is_before}
use Rattle.key_paths.proofs.Orders.{at_or_below_itself}
use Rattle.programs.specs.Faults.{apart, all_apart, path_clash, too_deep}
use Rattle.programs.specs.Mentions.{Label, has_name}
use Rattle.programs.specs.Merges.{entered, merged}
use Rattle.programs.specs.Moves.{stem, path_of, moved, projected, others, upserted, is_deep}
use Rattle.programs.specs.Outlines.{Outline, outlined}
use Rattle.programs.proofs.Projections.{all_apart_filter, apart_clear}
use Rattle.programs.proofs.Unions.{merge_laws}
use Rattle.writer_checks.proofs.Outlined.{same_name}

both : (a b : Bool) → a ≡ true → b ≡ true → (a && b) ≡ true
both a b e f = rw (e, f) refl

neither : (a b : Bool) → a ≡ false → b ≡ false → (a || b) ≡ false
neither a b e f = rw (e, f) refl

or_false : (a b : Bool) → (a || b) ≡ false → (a ≡ false) × (b ≡ false)
or_false true b e = absurd cc
or_false false b e = (refl, e)

pub apart_parts : (p q : Label) → apart p q ≡ true → (is_at_or_below p q ≡ false) × (is_at_or_below q p ≡ false)
apart_parts p q e = by (is_at_or_below p q) (is_at_or_below q p) e
  where
    by : (a b : Bool) → not (a || b) ≡ true → (a ≡ false) × (b ≡ false)
    by true b t = absurd cc
    by false true t = absurd cc
    by false false t = (refl, refl)

pub apart_from : (p q : Label) → is_at_or_below p q ≡ false → is_at_or_below q p ≡ false → apart p q ≡ true
apart_from p q e f = ap not (neither (is_at_or_below p q) (is_at_or_below q p) e f)

apart_back : (p q : Label) → apart p q ≡ true → apart q p ≡ true
apart_back p q e = let h = apart_parts p q e in apart_from q p h.1 h.0

-- ---- a path in its place among others

abbrev placed : Label → List Label → List Label
placed p ys = entered is_before p (merged is_before []) ys

placed_all : (f : Label → Bool) (p : Label) (ys : List Label) → f p ≡ true → list_all f ys ≡ true → list_all f (placed p ys) ≡ true
placed_all f p [] h e = both (f p) true h refl
placed_all f p (y ∷ ys) h e = let parts = and_parts (f y) (list_all f ys) e in by parts.0 (placed_all f p ys h parts.1) (is_before y p)
  where
    by : f y ≡ true → list_all f (placed p ys) ≡ true → (b : Bool) → list_all f (if b then y ∷ placed p ys else p ∷ (y ∷ ys)) ≡ true
    by first rest true = both (f y) (list_all f (placed p ys)) first rest
    by first rest false = both (f p) (list_all f (y ∷ ys)) h e

placed_any : (f : Label → Bool) (p : Label) (ys : List Label) → f p ≡ false → list_any f ys ≡ false → list_any f (placed p ys) ≡ false
placed_any f p [] h e = neither (f p) false h refl
placed_any f p (y ∷ ys) h e = let parts = or_false (f y) (list_any f ys) e in by parts.0 (placed_any f p ys h parts.1) (is_before y p)
  where
    by : f y ≡ false → list_any f (placed p ys) ≡ false → (b : Bool) → list_any f (if b then y ∷ placed p ys else p ∷ (y ∷ ys)) ≡ false
    by first rest true = neither (f y) (list_any f (placed p ys)) first rest
    by first rest false = neither (f p) (list_any f (y ∷ ys)) h e

placed_apart : (p : Label) (ys : List Label) → list_all (apart p) ys ≡ true → all_apart ys ≡ true → all_apart (placed p ys) ≡ true
placed_apart p [] h e = refl
placed_apart p (y ∷ ys) h e =
    let beside = and_parts (apart p y) (list_all (apart p) ys) h in
    let parts = and_parts (list_all (apart y) ys) (all_apart ys) e in
    by (placed_all (apart y) p ys (apart_back p y beside.0) parts.0) (placed_apart p ys beside.1 parts.1) (is_before y p)
  where
    by : list_all (apart y) (placed p ys) ≡ true → all_apart (placed p ys) ≡ true → (b : Bool) → all_apart (if b then y ∷ placed p ys else p ∷ (y ∷ ys)) ≡ true
    by first rest true = both (list_all (apart y) (placed p ys)) (all_apart (placed p ys)) first rest
    by first rest false = both (list_all (apart p) (y ∷ ys)) (all_apart (y ∷ ys)) h e

-- ---- the others

filter_any : (g f : Label → Bool) (xs : List Label) → list_any g xs ≡ false → list_any g (filter f xs) ≡ false
filter_any g f [] e = refl
filter_any g f (x ∷ xs) e = let parts = or_false (g x) (list_any g xs) e in by parts.0 (filter_any g f xs parts.1) (f x)
  where
    by : g x ≡ false → list_any g (filter f xs) ≡ false → (b : Bool) → list_any g (if b then x ∷ filter f xs else filter f xs) ≡ false
    by first rest true = neither (g x) (list_any g (filter f xs)) first rest
    by first rest false = rest

others_apart : (p : Label) (xs : List Label) → All (λ q. is_at_or_below p q ≡ true → is_at_or_below q p ≡ true) xs → list_all (apart p) (others p xs) ≡ true
others_apart p [] h = refl
others_apart p (y ∷ ys) h = by (All-head (λ q. is_at_or_below p q ≡ true → is_at_or_below q p ≡ true) y ys h) (others_apart p ys (All-tail (λ q. is_at_or_below p q ≡ true → is_at_or_below q p ≡ true) y ys h)) (is_at_or_below y p) refl (is_at_or_below p y) refl
  where
    by : (is_at_or_below p y ≡ true → is_at_or_below y p ≡ true) → list_all (apart p) (others p ys) ≡ true → (b : Bool) → is_at_or_below y p ≡ b → (c : Bool) → is_at_or_below p y ≡ c → list_all (apart p) (if not b then y ∷ others p ys else others p ys) ≡ true
    by above rest true e c f = rest
    by above rest false e true f = absurd (false≢true (sym e ∙ above f))
    by above rest false e false f = both (apart p y) (list_all (apart p) (others p ys)) (apart_from p y f e) rest

others_has : (p : Label) (xs : List Label) (r : Label) → is_at_or_below r p ≡ false → has_name xs r ≡ true → has_name (others p xs) r ≡ true
others_has p [] r e h = absurd cc
others_has p (y ∷ ys) r e h = by (λ t. others_has p ys r e t) (bytes_eq y r) refl (is_at_or_below y p) refl h
  where
    by : (has_name ys r ≡ true → has_name (others p ys) r ≡ true) → (b : Bool) → bytes_eq y r ≡ b → (c : Bool) → is_at_or_below y p ≡ c → (b || has_name ys r) ≡ true → has_name (if not c then y ∷ others p ys else others p ys) r ≡ true
    by rest true is true f t = absurd (false≢true (sym e ∙ ap (λ (z : Label). is_at_or_below z p) (sym ((bytes_eq-Decides y r).0 is)) ∙ f))
    by rest true is false f t = ap (λ (b : Bool). b || has_name (others p ys) r) is
    by rest false is true f t = rest t
    by rest false is false f t = ap (λ (b : Bool). b || has_name (others p ys) r) is ∙ rest t

-- ---- an attribute more

abbrev pub upserted_clear_of : Label → Outline → Type 0
upserted_clear_of p o = All (λ q. is_at_or_below p q ≡ true → is_at_or_below q p ≡ true) o.paths

pub upserted_clear : (len : ℕ) (p : Label) (o : Outline) → is_root p ≡ false → upserted_clear_of p o → path_clash o ≡ false → path_clash (outlined len (upserted p o.paths)) ≡ false
upserted_clear len p o root above clear =
    let parts = or_false (list_any is_root o.paths) (not (all_apart o.paths)) clear in
    neither (list_any is_root (upserted p o.paths)) (not (all_apart (upserted p o.paths)))
    (placed_any is_root p (others p o.paths) root (filter_any is_root (λ x. not (is_at_or_below x p)) o.paths parts.0))
    (ap not (placed_apart p (others p o.paths) (others_apart p o.paths above) (all_apart_filter (λ x. not (is_at_or_below x p)) o.paths (apart_clear o clear))))

pub upserted_shallow : (len : ℕ) (p : Label) (o : Outline) → is_deep p ≡ false → too_deep o ≡ false → too_deep (outlined len (upserted p o.paths)) ≡ false
upserted_shallow len p o at shallow = placed_any is_deep p (others p o.paths) at (filter_any is_deep (λ x. not (is_at_or_below x p)) o.paths shallow)

or_left : (a b : Bool) → a ≡ true → (a || b) ≡ true
or_left a b h = rw h refl

or_right : (a b : Bool) → b ≡ true → (a || b) ≡ true
or_right true b h = refl
or_right false b h = h

pub upserted_first : (p : Label) (xs : List Label) → has_name (upserted p xs) p ≡ true
upserted_first p xs = merge_laws.union (p ∷ []) (others p xs) p ∙ or_left (has_name (p ∷ []) p) (has_name (others p xs) p) (ap (λ (b : Bool). b || false) (same_name p))

pub upserted_other : (p : Label) (xs : List Label) (r : Label) → is_at_or_below r p ≡ false → has_name xs r ≡ true → has_name (upserted p xs) r ≡ true
upserted_other p xs r e h = merge_laws.union (p ∷ []) (others p xs) r ∙ or_right (has_name (p ∷ []) r) (has_name (others p xs) r) (others_has p xs r e h)

pub upserted_names : (p : Label) (xs paths : List Label) → All (λ r. has_name xs r ≡ true) paths → All (λ r. is_at_or_below r p ≡ false) paths → All (λ r. has_name (upserted p xs) r ≡ true) (p ∷ paths)
upserted_names p xs paths each off = All-cons (λ r. has_name (upserted p xs) r ≡ true) p paths (upserted_first p xs) (λ k d l. upserted_other p xs (get_or paths k d) (off k d l) (each k d l))

-- ---- an attribute alone

none_below : (p : Label) (xs : List Label) → list_all (apart p) xs ≡ true → filter (λ x. is_at_or_below x p) xs ≡ []
none_below p [] e = refl
none_below p (x ∷ xs) e =
    let parts = and_parts (apart p x) (list_all (apart p) xs) e in
    ap (λ (b : Bool). if b then x ∷ filter (λ y. is_at_or_below y p) xs else filter (λ y. is_at_or_below y p) xs) (apart_parts p x parts.0).1 ∙ none_below p xs parts.1

pub all_member : (f : Label → Bool) (xs : List Label) (x : Label) → list_all f xs ≡ true → has_name xs x ≡ true → f x ≡ true
all_member f [] x e h = absurd cc
all_member f (y ∷ ys) x e h = let parts = and_parts (f y) (list_all f ys) e in by parts.0 (λ t. all_member f ys x parts.1 t) (bytes_eq y x) refl h
  where
    by : f y ≡ true → (has_name ys x ≡ true → f x ≡ true) → (b : Bool) → bytes_eq y x ≡ b → (b || has_name ys x) ≡ true → f x ≡ true
    by first rest true is t = ap f (sym ((bytes_eq-Decides y x).0 is)) ∙ first
    by first rest false is t = rest t

pub alone : (p : Label) (xs : List Label) → all_apart xs ≡ true → has_name xs p ≡ true → filter (λ x. is_at_or_below x p) xs ≡ p ∷ []
alone p [] e h = absurd cc
alone p (y ∷ ys) e h = let parts = and_parts (list_all (apart y) ys) (all_apart ys) e in by parts.0 (λ t. alone p ys parts.1 t) (bytes_eq y p) refl h
  where
    by : list_all (apart y) ys ≡ true → (has_name ys p ≡ true → filter (λ x. is_at_or_below x p) ys ≡ p ∷ []) → (b : Bool) → bytes_eq y p ≡ b → (b || has_name ys p) ≡ true → filter (λ x. is_at_or_below x p) (y ∷ ys) ≡ p ∷ []
    by first rest true is t =
        let same : y ≡ p = (bytes_eq-Decides y p).0 is in
        ap (λ (z : Label). filter (λ x. is_at_or_below x p) (z ∷ ys)) same
        ∙ ap (λ (b : Bool). if b then p ∷ filter (λ x. is_at_or_below x p) ys else filter (λ x. is_at_or_below x p) ys) (at_or_below_itself p)
        ∙ ap (λ (l : List Label). p ∷ l) (none_below p ys (subst (λ z. list_all (apart z) ys ≡ true) same first))
    by first rest false is t =
        ap (λ (b : Bool). if b then y ∷ filter (λ x. is_at_or_below x p) ys else filter (λ x. is_at_or_below x p) ys) (apart_parts y p (all_member (apart y) ys p first t)).0 ∙ rest t

path_of_some : (q : Label) → 0 < length q → path_of q ≡ q
path_of_some [] h = absurd (omega arith)
path_of_some (b ∷ q) h = refl

stem_of : (p : Label) → is_root p ≡ false → stem p ≡ p
stem_of p e = ap (λ (b : Bool). if b then [] else p) e

moved_alone : (p q : Label) → is_root p ≡ false → is_root q ≡ false → 0 < length q → moved p q p ≡ q
moved_alone p q root below some =
    ap (λ (x : Label). path_of (stem q ++ drop (length x) x)) (stem_of p root)
    ∙ ap (λ (x : Label). path_of (stem q ++ x)) (drop_of_length-le p (le_refl (length p)))
    ∙ ap path_of (append-nil (stem q) ∙ stem_of q below) ∙ path_of_some q some

pub projected_alone : (p q : Label) (xs : List Label) → all_apart xs ≡ true → has_name xs p ≡ true → is_root p ≡ false → is_root q ≡ false → 0 < length q → projected p q xs ≡ q ∷ []
projected_alone p q xs e h root below some = ap (map (moved p q)) (alone p xs e h) ∙ ap (λ (x : Label). x ∷ []) (moved_alone p q root below some)
