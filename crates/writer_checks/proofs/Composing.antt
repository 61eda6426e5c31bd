-- Parts that pass compose, and what is known of a vector stays known.
use Rattle.std.proofs.Common.{ℕ, refl, ap, ◌∙◌, le_refl, le_trans}
use Rattle.programs.specs.Check.{Known, Checked, check_from, then_check}
use Rattle.programs.specs.Outlines.{Shapes}
use Rattle.programs.proofs.CheckLemmas.{check_from-append}
use Rattle.program_writers.specs.Writers.{Writer, tell, ◌>>=◌}
use Rattle.program_writers.proofs.Numbers.{below_more}
use Rattle.writer_checks.specs.Checks.{IsFresh, Passes}
use Rattle.writer_checks.specs.Laws.{ComposeLaws, KeptLaw}

pub tell_passes : (A : Type 0) (tables : Shapes) (a : A) (k : ℕ) (known : Known) (P : A → Shapes → Type 0) → IsFresh k known.vectors → P a known.vectors → Passes tables (tell a) k known P
tell_passes A tables a k known P fresh holds = record {
  after = known;
  passes = refl;
  holds = holds;
  fresh = fresh;
  kept = λ name b. refl;
  results = refl;
  small = λ s. s;
  ascends = le_refl k;
}

pub behind_passes : (A B : Type 0) (tables : Shapes) (m : Writer A) (f : A → Writer B) (k : ℕ) (known : Known) (P : A → Shapes → Type 0) (Q : B → Shapes → Type 0) (g : Passes tables m k known P) → Passes tables (f (m k).told) (m k).next g.after Q → Passes tables (m >>= f) k known Q
behind_passes A B tables m f k known P Q g h = record {
  after = h.after;
  passes = check_from-append tables (m k).statements (f (m k).told (m k).next).statements known ∙ ap (λ (r : Checked). then_check r (check_from tables (f (m k).told (m k).next).statements)) g.passes ∙ h.passes;
  holds = h.holds;
  fresh = h.fresh;
  kept = λ name b. h.kept name (below_more k (m k).next name g.ascends b) ∙ g.kept name b;
  results = h.results ∙ g.results;
  small = λ s. h.small (g.small s);
  ascends = le_trans g.ascends h.ascends;
}

pub compose_laws : ComposeLaws
compose_laws = record {
  tell = tell_passes;
  bind = λ A B tables m f k known P Q g each. behind_passes A B tables m f k known P Q g (each (m k).told (m k).next g.after g.ascends g.fresh g.holds g.kept);
}

pub kept_law : KeptLaw
kept_law before after name len paths same h = record { outline = h.outline; known = same ∙ h.known; len_is = h.len_is; clear = h.clear; shallow = h.shallow; each = h.each }
