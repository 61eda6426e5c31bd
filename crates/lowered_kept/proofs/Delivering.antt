-- Parts that deliver, one behind another: what each makes of a value, or Over where the first of them is.
use Rattle.std.proofs.Common.{◌≡◌, ℕ, ◌≤◌, Result, Ok, Err}
use Rattle.control_vectors.specs.declared.Over.{Over}
use Rattle.programs.specs.Mentions.{Label}
use Rattle.programs.specs.Vectors.{Env}
use Rattle.program_writers.specs.Names.{IsBelow}
use Rattle.program_writers.specs.Writers.{Writer, ◌>>=◌}
use Rattle.writer_runs.specs.Runs.{Makes, Delivers}
use Rattle.writer_runs.proofs.Composed.{makes_bind, fails_first, fails_behind}
use Rattle.lowered_kept.proofs.Bound.{bound}

pub makes_more : {A : Type 0} (store : Env) (m : Writer A) (k : ℕ) (env : Env) (P Q : A → ℕ → Env → Type 0) → ((a : A) (next : ℕ) (after : Env) → P a next after → Q a next after) → Makes store m k env P → Makes store m k env Q
makes_more store m k env P Q more h = record { after = h.after; ran = h.ran; holds = more (m k).told (m k).next h.after h.holds; kept = h.kept; ascends = h.ascends }

module _ {A B : Type 0} (store : Env) (m : Writer A) (f : A → Writer B) (k : ℕ) (env : Env) where
  -- a part that makes what it tells, and one behind it that delivers
  pub makes_delivers : {Y : Type 0} (P : A → ℕ → Env → Type 0) (t : Result Y Over) (Q : Y → B → ℕ → Env → Type 0) → Makes store m k env P
      → ((a : A) (next : ℕ) (between : Env) → k ≤ next → P a next between → ((name : Label) → IsBelow k name → between name ≡ env name) → Delivers store (f a) next between t Q)
      → Delivers store (m >>= f) k env t Q
  makes_delivers P (Ok y) Q made more = makes_bind A B store m f k env P (Q y) made more
  makes_delivers P (Err e) Q made more = fails_behind A B store m f k env P made more

  pub delivers_bind : {X Y : Type 0} (r : Result X Over) (s : X → Result Y Over) (P : X → A → ℕ → Env → Type 0) (Q : Y → B → ℕ → Env → Type 0) → Delivers store m k env r P
      → ((x : X) (a : A) (next : ℕ) (between : Env) → k ≤ next → P x a next between → ((name : Label) → IsBelow k name → between name ≡ env name) → Delivers store (f a) next between (s x) Q)
      → Delivers store (m >>= f) k env (bound r s) Q
  delivers_bind (Ok x) s P Q made more = makes_delivers (P x) (s x) Q made (more x)
  delivers_bind (Err e) s P Q failed more = fails_first A B store m f k env failed

  -- and one behind it that makes what it tells
  pub delivers_makes : {X : Type 0} (r : Result X Over) (P : X → A → ℕ → Env → Type 0) (Q : X → B → ℕ → Env → Type 0) → Delivers store m k env r P
      → ((x : X) (a : A) (next : ℕ) (between : Env) → k ≤ next → P x a next between → ((name : Label) → IsBelow k name → between name ≡ env name) → Makes store (f a) next between (Q x))
      → Delivers store (m >>= f) k env r Q
  delivers_makes (Ok x) P Q made more = makes_bind A B store m f k env (P x) (Q x) made (more x)
  delivers_makes (Err e) P Q failed more = fails_first A B store m f k env failed

pub delivers_more : {A X : Type 0} (store : Env) (m : Writer A) (k : ℕ) (env : Env) (r : Result X Over) (P Q : X → A → ℕ → Env → Type 0)
    → ((x : X) (a : A) (next : ℕ) (after : Env) → P x a next after → Q x a next after) → Delivers store m k env r P → Delivers store m k env r Q
delivers_more store m k env (Ok x) P Q more h = makes_more store m k env (P x) (Q x) (more x) h
delivers_more store m k env (Err e) P Q more h = h
