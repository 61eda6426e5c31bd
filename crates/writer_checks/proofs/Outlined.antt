-- Outlines of one path, and those that a vector of some shape has.
use Rattle.std.proofs.Common.{◌≡◌, ℕ, Bool, true, false, not, ◌||◌, List, [], ◌∷◌, refl, ap, ◌∙◌, subst, is_none}
use Rattle.std.specs.Prelude.{All}
use Rattle.std.specs.List.{list_any}
use Rattle.std.specs.Str.{bytes_eq}
use Rattle.std.proofs.lemmas.Slice.Eq.{bytes_eq-Decides}
use Rattle.std.proofs.lemmas.List.Elements.{All-head, All-tail, All-cons, All-nil}
use Rattle.key_paths.specs.Substructures.{is_root, is_at_or_below}
use Rattle.programs.specs.Faults.{path_clash, too_deep, lacks_path, lacks_below}
use Rattle.programs.specs.Mentions.{Label, has_name}
use Rattle.programs.specs.Moves.{is_deep}
use Rattle.programs.specs.Outlines.{Outline, outlined, known_outline, Shapes, len_in, paths_in}
use Rattle.writer_checks.specs.Checks.{HasShape}

-- ---- one path

pub one_clear : (len : ℕ) (p : Label) → is_root p ≡ false → path_clash (outlined len (p ∷ [])) ≡ false
one_clear len p e = rw e refl

pub one_shallow : (len : ℕ) (p : Label) → is_deep p ≡ false → too_deep (outlined len (p ∷ [])) ≡ false
one_shallow len p e = rw e refl

pub same_name : (p : Label) → bytes_eq p p ≡ true
same_name p = (bytes_eq-Decides p p).1 refl

pub names_one : (p : Label) → All (λ q. has_name (p ∷ []) q ≡ true) (p ∷ [])
names_one p = All-cons (λ q. has_name (p ∷ []) q ≡ true) p [] (ap (λ (b : Bool). b || false) (same_name p)) (All-nil (λ q. has_name (p ∷ []) q ≡ true))

-- ---- a vector that is known

pub is_known : (shapes : Shapes) (a : Label) (len : ℕ) (paths : List Label) → HasShape shapes a len paths → is_none (shapes a) ≡ false
is_known shapes a len paths h = ap is_none h.known

pub outline_in : (shapes : Shapes) (a : Label) (len : ℕ) (paths : List Label) (h : HasShape shapes a len paths) → known_outline (shapes a) ≡ h.outline
outline_in shapes a len paths h = ap known_outline h.known

pub len_of : (shapes : Shapes) (a : Label) (len : ℕ) (paths : List Label) → HasShape shapes a len paths → len_in shapes a ≡ len
len_of shapes a len paths h = ap (λ (o : Outline). o.len) (outline_in shapes a len paths h) ∙ h.len_is

pub paths_of : (shapes : Shapes) (a : Label) (len : ℕ) (paths : List Label) (h : HasShape shapes a len paths) → paths_in shapes a ≡ h.outline.paths
paths_of shapes a len paths h = ap (λ (o : Outline). o.paths) (outline_in shapes a len paths h)

-- any of its paths
member_step : (f : Label → Bool) (y : Label) (xs : List Label) (x : Label) → f y ≡ true → (has_name xs x ≡ true → f x ≡ true) → (b : Bool) → bytes_eq y x ≡ b → (b || has_name xs x) ≡ true → f x ≡ true
member_step f y xs x first rest true is t = subst (λ z. f z ≡ true) ((bytes_eq-Decides y x).0 is) first
member_step f y xs x first rest false is t = rest t

pub member : (f : Label → Bool) (xs : List Label) (x : Label) → All (λ p. f p ≡ true) xs → has_name xs x ≡ true → f x ≡ true
member f [] x each e = absurd cc
member f (y ∷ xs) x each e = member_step f y xs x (All-head (λ p. f p ≡ true) y xs each) (λ t. member f xs x (All-tail (λ p. f p ≡ true) y xs each) t) (bytes_eq y x) refl e

any_step : (f : Label → Bool) (y : Label) (xs : List Label) (x : Label) → f x ≡ true → (has_name xs x ≡ true → list_any f xs ≡ true) → (b : Bool) → bytes_eq y x ≡ b → (b || has_name xs x) ≡ true → (f y || list_any f xs) ≡ true
any_step f y xs x here rest true is t = ap (λ (b : Bool). b || list_any f xs) (ap f ((bytes_eq-Decides y x).0 is) ∙ here)
any_step f y xs x here rest false is t = by (f y)
  where
    by : (b : Bool) → (b || list_any f xs) ≡ true
    by true = refl
    by false = rest t

pub any_member : (f : Label → Bool) (xs : List Label) (x : Label) → f x ≡ true → has_name xs x ≡ true → list_any f xs ≡ true
any_member f [] x here e = absurd cc
any_member f (y ∷ xs) x here e = any_step f y xs x here (λ t. any_member f xs x here t) (bytes_eq y x) refl e

pub has_path : (shapes : Shapes) (a : Label) (len : ℕ) (paths : List Label) (h : HasShape shapes a len paths) (p : Label) → has_name paths p ≡ true → has_name h.outline.paths p ≡ true
has_path shapes a len paths h p e = member (has_name h.outline.paths) paths p h.each e

pub lacks_none : (shapes : Shapes) (a : Label) (len : ℕ) (paths : List Label) → HasShape shapes a len paths → (p : Label) → has_name paths p ≡ true → lacks_path shapes a p ≡ false
lacks_none shapes a len paths h p e = ap (λ (l : List Label). not (has_name l p)) (paths_of shapes a len paths h) ∙ ap not (has_path shapes a len paths h p e)

pub lacks_none_below : (shapes : Shapes) (a : Label) (len : ℕ) (paths : List Label) → HasShape shapes a len paths → (r p : Label) → has_name paths r ≡ true → is_at_or_below r p ≡ true → lacks_below shapes a p ≡ false
lacks_none_below shapes a len paths h r p e below =
    ap (λ (l : List Label). not (list_any (λ q. is_at_or_below q p) l)) (paths_of shapes a len paths h) ∙ ap not (any_member (λ q. is_at_or_below q p) h.outline.paths r below (has_path shapes a len paths h r e))

pub first_name : (p : Label) (paths : List Label) → has_name (p ∷ paths) p ≡ true
first_name p paths = ap (λ (b : Bool). b || has_name paths p) (same_name p)

pub later_name : (p : Label) (paths : List Label) (q : Label) → has_name paths q ≡ true → has_name (p ∷ paths) q ≡ true
later_name p paths q e = by (bytes_eq p q)
  where
    by : (b : Bool) → (b || has_name paths q) ≡ true
    by true = refl
    by false = e
