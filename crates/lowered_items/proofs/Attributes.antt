-- The attributes of a vector that a run made, by the paths that a check knows.
use Rattle.std.proofs.Common.{◌≡◌, ◌∙◌, ◌+◌, Bool, true, false, cond, List, [], ◌∷◌, map, Option, Some, is_some, refl, sym, ap, subst, ⊎_elim}
use Rattle.std.specs.Map.{lookup}
use Rattle.std.specs.Option.{option_map}
use Rattle.std.specs.Str.{bytes_eq}
use Rattle.std.proofs.lemmas.Bool.{false≢true, or_cases}
use Rattle.std.proofs.lemmas.List.Elements.{All-head}
use Rattle.std.proofs.lemmas.Slice.Eq.{bytes_eq-Decides}
use Rattle.programs.specs.Mentions.{Label, has_name}
use Rattle.programs.specs.Outlines.{Outline, outline_of, outlines}
use Rattle.programs.specs.Vectors.{Attribute, Vector}
use Rattle.program_writers.specs.Statements.{mark}
use Rattle.plan_programs.specs.Items.{item_path}
use Rattle.lowered_items.specs.Items.{PathLaw}

same_name : (p q : Label) → bytes_eq q p ≡ true → bytes_eq p q ≡ true
same_name p q h = (bytes_eq-Decides p q).1 (sym ((bytes_eq-Decides q p).0 h))

-- a path that is among those of some attributes is found there
there_is : (p : Label) (attributes : List Attribute) → has_name (map (λ t. t.0) attributes) p ≡ true → is_some (lookup (bytes_eq p) attributes) ≡ true
there_is p [] h = absurd (false≢true h)
there_is p (t ∷ more) h = by (bytes_eq p t.0) refl (λ later. there_is p more later)
  where
    by : (b : Bool) → bytes_eq p t.0 ≡ b → (has_name (map (λ t. t.0) more) p ≡ true → is_some (lookup (bytes_eq p) more) ≡ true) → is_some (cond b (Some t.1) (lookup (bytes_eq p) more)) ≡ true
    by true e further = refl
    by false e further = ⊎_elim (λ (g : bytes_eq t.0 p ≡ true). absurd (false≢true (sym e ∙ same_name p t.0 g))) further (or_cases (bytes_eq t.0 p) (has_name (map (λ t. t.0) more) p) h)

pub path_law : PathLaw
path_law items v env shapes name len sees same h =
    let seen : outlines env name ≡ Some (outline_of v) = ap (λ (o : Option Vector). option_map outline_of o) sees in
    let both : Some h.shape.outline ≡ Some (outline_of v) = sym h.shape.known ∙ sym same ∙ seen in
    let is : h.shape.outline ≡ outline_of v = cc in
    let Has : Label → Type 0 = λ p. has_name h.shape.outline.paths p ≡ true in
    let found : (p : Label) → Has p → is_some (lookup (bytes_eq p) v.attributes) ≡ true = λ p n. there_is p v.attributes (subst (λ (o : Outline). has_name o.paths p ≡ true) is n) in
    record {
      items = λ k l. found (item_path (k + 1)) (h.named k l);
      mark_is = found mark (All-head Has mark [] h.shape.each);
    }
