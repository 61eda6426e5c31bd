-- What is made from what the first part has made.
use Rattle.std.proofs.Common.{◌≡◌, ℕ, ap, ◌∙◌, arith}
use Rattle.programs.specs.Mentions.{Label}
use Rattle.programs.specs.Vectors.{Env}
use Rattle.voodoo_ops.specs.Meaning.{Run, then_run, run_from}
use Rattle.voodoo_ops.proofs.Compositions.{run_from-append}
use Rattle.program_writers.specs.Names.{IsBelow}
use Rattle.program_writers.specs.Writers.{Writer, ◌>>=◌}
use Rattle.program_writers.proofs.Numbers.{below_more}
use Rattle.writer_runs.specs.Runs.{Makes}

pub makes_behind : (A B : Type 0) (store : Env) (m : Writer A) (f : A → Writer B) (k : ℕ) (env : Env) (P : A → ℕ → Env → Type 0) (Q : B → ℕ → Env → Type 0) (made : Makes store m k env P)
    → Makes store (f (m k).told) (m k).next made.after Q → Makes store (m >>= f) k env Q
makes_behind A B store m f k env P Q made rest = record {
  after = rest.after;
  ran =
      run_from-append store (m k).statements (f (m k).told (m k).next).statements env
      ∙ ap (λ (r : Run). then_run r (run_from store (f (m k).told (m k).next).statements)) made.ran
      ∙ rest.ran;
  holds = rest.holds;
  kept = λ name below. rest.kept name (below_more k (m k).next name made.ascends below) ∙ made.kept name below;
  ascends = omega (arith, made.ascends, rest.ascends);
}

pub makes_less : (A : Type 0) (store : Env) (m : Writer A) (k : ℕ) (env : Env) (P Q : A → ℕ → Env → Type 0) → Makes store m k env P
    → ((after : Env) → ((name : Label) → IsBelow k name → after name ≡ env name) → P (m k).told (m k).next after → Q (m k).told (m k).next after) → Makes store m k env Q
makes_less A store m k env P Q made less = record { after = made.after; ran = made.ran; holds = less made.after made.kept made.holds; kept = made.kept; ascends = made.ascends }
