-- Two ascending lists as one are their sorted union.
use Rattle.std.proofs.Common.{◌≡◌, List, [], ◌∷◌, Bool, true, false, ◌||◌, refl, ap, ◌∙◌, if◌then◌else◌}
use Rattle.std.specs.List.{list_any}
use Rattle.std.specs.Str.{bytes_eq}
use Rattle.key_paths.specs.Substructures.{is_before}
use Rattle.programs.specs.Merges.{entered, merged}
use Rattle.programs.specs.Laws.{MergeLaws}
use Rattle.programs.proofs.Merging.{merged-length, rises_merged}

or_assoc : (a b c : Bool) → (a || (b || c)) ≡ ((a || b) || c)
or_assoc true b c = refl
or_assoc false b c = refl

or_swap : (a b c : Bool) → (a || (b || c)) ≡ (b || (a || c))
or_swap true true c = refl
or_swap true false c = refl
or_swap false b c = refl

entered-any : {A : Type 0} (t : A → Bool) (before : A → A → Bool) (x : A) (rest : List A → List A) (r : Bool) → ((zs : List A) → list_any t (rest zs) ≡ (r || list_any t zs)) → (ys : List A) → list_any t (entered before x rest ys) ≡ ((t x || r) || list_any t ys)
entered-any t before x rest r each [] = ap (λ (b : Bool). t x || b) (each []) ∙ or_assoc (t x) r false
entered-any t before x rest r each (y ∷ ys) = by (before y x) (entered-any t before x rest r each ys)
  where
    by : (b : Bool) → list_any t (entered before x rest ys) ≡ ((t x || r) || list_any t ys) → list_any t (if b then y ∷ entered before x rest ys else x ∷ rest (y ∷ ys)) ≡ ((t x || r) || (t y || list_any t ys))
    by true e = ap (λ (b : Bool). t y || b) e ∙ or_swap (t y) (t x || r) (list_any t ys)
    by false e = ap (λ (b : Bool). t x || b) (each (y ∷ ys)) ∙ or_assoc (t x) r (t y || list_any t ys)

merged-any : {A : Type 0} (t : A → Bool) (before : A → A → Bool) (xs ys : List A) → list_any t (merged before xs ys) ≡ (list_any t xs || list_any t ys)
merged-any t before [] ys = refl
merged-any t before (x ∷ xs) ys = entered-any t before x (merged before xs) (list_any t xs) (merged-any t before xs) ys

pub merge_laws : MergeLaws
merge_laws = record {
  order = rises_merged;
  union = λ xs ys p. merged-any (λ m. bytes_eq m p) is_before xs ys;
  count = merged-length is_before;
}
