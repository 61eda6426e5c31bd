-- Programs compose, and statements leave other names alone.
use Rattle.std.proofs.Common.{◌≡◌, List, [], ◌∷◌, ◌++◌, Bool, true, false, refl, sym, ap, ◌∙◌, Option, Some, None, Result, Ok, Err, if◌then◌else◌}
use Rattle.std.specs.Str.{bytes_eq}
use Rattle.control_vectors.specs.declared.Over.{Over}
use Rattle.programs.specs.declared.op.Statement.{Statement}
use Rattle.programs.specs.Mentions.{Label}
use Rattle.programs.specs.Vectors.{Vector, Env, nothing, put}
use Rattle.programs.specs.Laws.{Avoids, Keeps}
use Rattle.voodoo_ops.specs.Meaning.{Run, effect, after_effect, step, then_run, run_from, shown, meaning}
use Rattle.voodoo_ops.specs.Laws.{MeaningLaws}
use Rattle.voodoo_ops.proofs.Outlined.{outlines_hold}

then_same : (r : Run) (f g : Env → Run) → ((e : Env) → f e ≡ g e) → then_run r f ≡ then_run r g
then_same (Err e) f g same = refl
then_same (Ok env) f g same = same env

then_then : (r : Run) (f g : Env → Run) → then_run (then_run r f) g ≡ then_run r (λ e. then_run (f e) g)
then_then (Err e) f g = refl
then_then (Ok env) f g = refl

pub run_from-append : (store : Env) (a b : List Statement) (env : Env) → run_from store (a ++ b) env ≡ then_run (run_from store a env) (run_from store b)
run_from-append store [] b env = refl
run_from-append store (s ∷ a) b env =
    then_same (step store env s.name s.op) _ _ (λ e. run_from-append store a b e)
    ∙ sym (then_then (step store env s.name s.op) (run_from store a) (run_from store b))

pub put_other : (env : Env) (n m : Label) (v : Vector) → bytes_eq n m ≡ false → put env n v m ≡ env m
put_other env n m v e = ap (λ (b : Bool). if b then Some v else env m) e

pub put_same : (env : Env) (n m : Label) (v : Vector) → bytes_eq n m ≡ true → put env n v m ≡ Some v
put_same env n m v e = ap (λ (b : Bool). if b then Some v else env m) e

effect_frame : (env after : Env) (n m : Label) (r : Option (Result Vector Over)) → bytes_eq n m ≡ false → after_effect env n r ≡ Ok after → after m ≡ env m
effect_frame env after n m None other e = let same : env ≡ after = cc in ap (λ (f : Env). f m) (sym same)
effect_frame env after n m (Some (Err o)) other e = absurd cc
effect_frame env after n m (Some (Ok v)) other e =
    let same : put env n v ≡ after = cc in ap (λ (f : Env). f m) (sym same) ∙ put_other env n m v other

-- statements leave the vectors of other names as they were
pub run_from-frame : (store : Env) (a : List Statement) (env after : Env) (m : Label) → Avoids m a → run_from store a env ≡ Ok after → after m ≡ env m
run_from-frame store [] env after m other e = let same : env ≡ after = cc in ap (λ (f : Env). f m) (sym same)
run_from-frame store (s ∷ a) env after m other e =
    more (λ middle h. run_from-frame store a middle after m other.1 h) (step store env s.name s.op) refl e
  where
    more : ((middle : Env) → run_from store a middle ≡ Ok after → after m ≡ middle m) → (r : Run) → step store env s.name s.op ≡ r → then_run r (run_from store a) ≡ Ok after → after m ≡ env m
    more rest (Err o) q h = absurd cc
    more rest (Ok middle) q h =
        rest middle h ∙ effect_frame env middle s.name m (effect store env s.op) other.0 q

pub runs_whole : (store : Env) (program : List Statement) → Keeps [] program → meaning store program ≡ shown (run_from store program nothing) program
runs_whole store program h = ap (λ (kept : List Statement). shown (run_from store kept nothing) kept) h.kept

pub meaning_laws : MeaningLaws
meaning_laws = record {
  composes = run_from-append;
  frame = run_from-frame;
  whole = runs_whole;
  outline = outlines_hold;
}
