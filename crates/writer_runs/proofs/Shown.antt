-- A program with one result, at its end, means the vector that its result shows.
use Rattle.std.proofs.Common.{◌≡◌, List, [], ◌∷◌, refl, sym, ap, ◌∙◌, Option, Ok, Err}
use Rattle.std.specs.List.{list_any}
use Rattle.control_vectors.specs.Slots.{over}
use Rattle.programs.specs.declared.op.Op.TheVariants as op
use Rattle.programs.specs.declared.op.Statement.{Statement}
use Rattle.programs.specs.Families.{family}
use Rattle.programs.specs.Mentions.{Label, is_persist}
use Rattle.programs.specs.Vectors.{Vector, Env, Named, nothing, known}
use Rattle.voodoo_ops.specs.Meaning.{Run, then_run, run_from, results, shown, meaning}
use Rattle.voodoo_ops.proofs.Compositions.{run_from-append}
use Rattle.program_writers.specs.Writers.{statement}
use Rattle.writer_runs.specs.Laws.{with_result, ResultLaws}
use Rattle.writer_runs.specs.Runs.{Sees}
use Rattle.writer_runs.specs.Uses.{AreUsed, Uses, ShowsNothing}
use Rattle.writer_runs.proofs.Alike.{no_result, use_law}
use Rattle.writer_runs.proofs.Standing.{or_none, at_end}
use Rattle.writer_runs.proofs.Used.{result, append}

used : (a : List Statement) (front : List Label) (name p : Label) → Uses (p ∷ []) front a → AreUsed [] (with_result a name p)
used a front name p u = (append [] (p ∷ []) front a (statement name (op.Persist p) ∷ []) u (result [] (statement name (op.Persist p)) refl)).used

in_order : (store : Env) (a : List Statement) (front : List Label) (name p : Label) → ShowsNothing a → Uses (p ∷ []) front a
    → meaning store (with_result a name p) ≡ shown (run_from store (with_result a name p) nothing) (with_result a name p)
in_order store a front name p none u = use_law store (with_result a name p) (used a front name p u) (at_end a (statement name (op.Persist p)) none)

last_result : (env : Env) (a : List Statement) (name p : Label) → ShowsNothing a → results env (with_result a name p) ≡ (name, known (env p)) ∷ []
last_result env [] name p none = refl
last_result env (s ∷ a) name p none =
    let both = or_none (is_persist s.op) (list_any (λ s. is_persist s.op) a) none in
    sym (no_result (family s.op) s.name env (results env (with_result a name p)) both.0) ∙ last_result env a name p both.1

shows : (store : Env) (a : List Statement) (front : List Label) (name p : Label) (after : Env) (v : Vector) → ShowsNothing a → Uses (p ∷ []) front a → run_from store a nothing ≡ Ok after → Sees after p v
    → meaning store (with_result a name p) ≡ Ok ((name, v) ∷ [])
shows store a front name p after v none u ran sees =
    in_order store a front name p none u
    ∙ ap (λ (r : Run). shown r (with_result a name p)) (run_from-append store a (statement name (op.Persist p) ∷ []) nothing ∙ ap (λ (r : Run). then_run r (run_from store (statement name (op.Persist p) ∷ []))) ran)
    ∙ ap (λ (l : Named). Ok l) (last_result after a name p none ∙ ap (λ (o : Option Vector). (name, known o) ∷ []) sees)

fails : (store : Env) (a : List Statement) (front : List Label) (name p : Label) → ShowsNothing a → Uses (p ∷ []) front a → run_from store a nothing ≡ Err over → meaning store (with_result a name p) ≡ Err over
fails store a front name p none u ran =
    in_order store a front name p none u
    ∙ ap (λ (r : Run). shown r (with_result a name p)) (run_from-append store a (statement name (op.Persist p) ∷ []) nothing ∙ ap (λ (r : Run). then_run r (run_from store (statement name (op.Persist p) ∷ []))) ran)

pub result_laws : ResultLaws
result_laws = record { shows = shows; fails = fails }
