-- What an attribute more and an attribute alone need, so that nothing is wrong with them.
use Rattle.std.proofs.Common.{◌≡◌, ℕ, Bool, false, ◌||◌, List, [], ◌∷◌, refl, ap, ◌∙◌}
use Rattle.programs.specs.Families.{Project, Upsert}
use Rattle.programs.specs.Mentions.{Label}
use Rattle.programs.specs.Moves.{projected, upserted}
use Rattle.programs.specs.Outlines.{outlined, Shapes, paths_in}
use Rattle.programs.proofs.Projections.{apart_clear}
use Rattle.key_paths.proofs.Orders.{at_or_below_itself}
use Rattle.writer_checks.specs.Checks.{HasShape}
use Rattle.writer_checks.specs.Laws.{IsAttribute, NoneAbove}
use Rattle.writer_checks.proofs.Making.{Fine}
use Rattle.writer_checks.proofs.Outlined.{one_clear, one_shallow, is_known, len_of, paths_of, has_path, lacks_none, lacks_none_below, first_name}
use Rattle.writer_checks.proofs.Attributes.{upserted_clear, upserted_shallow, projected_alone}

one_none : (a : Bool) → a ≡ false → (a || false) ≡ false
one_none a e = rw e refl

both_none : (a b : Bool) → a ≡ false → b ≡ false → (a || b) ≡ false
both_none a b e f = rw (e, f) refl

pub upsert_fine : (tables vectors : Shapes) (a p b q : Label) (len : ℕ) (paths : List Label) (other : ℕ) → IsAttribute p → (h : HasShape vectors a len paths) → HasShape vectors b other (q ∷ []) → NoneAbove vectors a p → Fine tables vectors (Upsert a p b q) (outlined len (upserted p h.outline.paths))
upsert_fine tables vectors a p b q len paths other at h g above = record {
  names = both_none _ _ (is_known vectors a len paths h) (one_none _ (is_known vectors b other (q ∷ []) g));
  paths = lacks_none vectors b other (q ∷ []) g q (first_name q []);
  long = refl;
  makes = ap (λ (n : ℕ). outlined n (upserted p (paths_in vectors a))) (len_of vectors a len paths h) ∙ ap (λ (l : List Label). outlined len (upserted p l)) (paths_of vectors a len paths h);
  clear = upserted_clear len p h.outline at.below_root (above h.outline h.known) h.clear;
  shallow = upserted_shallow len p h.outline at.shallow h.shallow;
  keys = refl;
  shows = refl;
}

pub project_fine : (tables vectors : Shapes) (a p q : Label) (len : ℕ) → IsAttribute p → IsAttribute q → HasShape vectors a len (p ∷ []) → Fine tables vectors (Project a p q) (outlined len (q ∷ []))
project_fine tables vectors a p q len from to h = record {
  names = one_none _ (is_known vectors a len (p ∷ []) h);
  paths = lacks_none_below vectors a len (p ∷ []) h p p (first_name p []) (at_or_below_itself p);
  long = refl;
  makes =
      ap (λ (n : ℕ). outlined n (projected p q (paths_in vectors a))) (len_of vectors a len (p ∷ []) h) ∙ ap (λ (l : List Label). outlined len (projected p q l)) (paths_of vectors a len (p ∷ []) h)
      ∙ ap (outlined len) (projected_alone p q h.outline.paths (apart_clear h.outline h.clear) (has_path vectors a len (p ∷ []) h p (first_name p [])) from.below_root to.below_root to.some);
  clear = one_clear len q to.below_root;
  shallow = one_shallow len q to.shallow;
  keys = refl;
  shows = refl;
}
