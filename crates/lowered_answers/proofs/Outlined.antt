-- What a check knows of the vectors that a part makes.
use Rattle.std.proofs.Common.{◌≡◌, ℕ, ◌+◌, ◌≤◌, ◌^◌, Bool, false, List, [], ◌∷◌, nat_lt, refl, sym, ap, ◌∙◌, subst, if◌then◌else◌, Some, None, Result, Ok, Err}
use Rattle.std.proofs.lemmas.Bool.{le-ltb}
use Rattle.control_vectors.specs.declared.Over.{Over}
use Rattle.programs.specs.Check.{Known, limit_from}
use Rattle.programs.specs.Outlines.{Outline, Shapes, outlines}
use Rattle.programs.specs.Vectors.{Env}
use Rattle.program_writers.specs.Writers.{Writer}
use Rattle.voodoo_ops.specs.Laws.{MeaningLaws}
use Rattle.writer_checks.specs.Checks.{AreSmall, IsFresh, Passes}
use Rattle.writer_runs.specs.Runs.{Delivers}
use Rattle.lowered_answers.proofs.Lists.{all_head, all_tail}

pub no_limit : (k : ℕ) (shape : List Outline) → AreSmall shape → limit_from k shape ≡ None
no_limit k [] h = refl
no_limit k (o ∷ shape) h = ap (λ (b : Bool). if b then Some (k, o.len) else limit_from (k + 1) shape) (not_past o.len (all_head (λ o. o.len ≤ 2 ^ 22) o shape h)) ∙ no_limit (k + 1) shape (all_tail (λ o. o.len ≤ 2 ^ 22) o shape h)
  where
    not_past : (n : ℕ) → n ≤ 2 ^ 22 → nat_lt (2 ^ 22) n ≡ false
    not_past n small = le-ltb (2 ^ 22) n small

-- a part that passes behind what is known of the vectors there, and that delivers
pub outlined : {A B : Type 0} (meanings : MeaningLaws) (store : Env) (m : Writer A) (k : ℕ) (env : Env) (known : Known) (r : Result B Over) (P : B → A → ℕ → Env → Type 0) (Q : A → Shapes → Type 0)
    → outlines env ≡ known.vectors → AreSmall known.shape → Passes (outlines store) m k known Q → Delivers store m k env r P
    → Delivers store m k env r (λ b a next after. P b a next after × (IsFresh next (outlines after) × Q a (outlines after)))
outlined meanings store m k env known (Ok b) P Q same small p made =
    let is : outlines made.after ≡ p.after.vectors = meanings.outline store (m k).statements known p.after env made.after (no_limit 1 p.after.shape (p.small small)) same p.passes made.ran in
    record {
      after = made.after;
      ran = made.ran;
      holds = (made.holds, (subst (IsFresh (m k).next) (sym is) p.fresh, subst (Q (m k).told) (sym is) p.holds));
      kept = made.kept;
      ascends = made.ascends;
    }
outlined meanings store m k env known (Err e) P Q same small p failed = failed
