-- The laws of a program's meaning: programs compose, statements leave other names alone, a program all of whose statements are reached means what they make in order, and the outlines that a check gives are those of the vectors that a run makes.
use Rattle.std.specs.Prelude.{◌≡◌, ◌++◌, List, [], None, Ok}
use Rattle.programs.specs.declared.op.Statement.{Statement}
use Rattle.programs.specs.Mentions.{Label}
use Rattle.programs.specs.Vectors.{Env, nothing}
use Rattle.programs.specs.Outlines.{outlines}
use Rattle.programs.specs.Check.{Known, check_from, limit_of}
use Rattle.programs.specs.Laws.{Avoids, Keeps}
use Rattle.voodoo_ops.specs.Meaning.{run_from, then_run, shown, meaning}

pub record MeaningLaws : Type 0 where
  pub composes : (store : Env) (a b : List Statement) (env : Env) → run_from store (a ++ b) env ≡ then_run (run_from store a env) (run_from store b)
  pub frame : (store : Env) (a : List Statement) (env after : Env) (m : Label) → Avoids m a → run_from store a env ≡ Ok after → after m ≡ env m
  -- a program all of whose statements are reached means what they make in order
  pub whole : (store : Env) (program : List Statement) → Keeps [] program → meaning store program ≡ shown (run_from store program nothing) program
  -- what is known of the vectors by name, once all statements of a program without a limit are run, is their outlines
  pub outline : (store : Env) (a : List Statement) (known after : Known) (env made : Env) → limit_of after.shape ≡ None → outlines env ≡ known.vectors → check_from (outlines store) a known ≡ Ok after → run_from store a env ≡ Ok made → outlines made ≡ after.vectors
