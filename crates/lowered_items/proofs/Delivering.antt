-- What is delivered of one value, and of another that is Over where the first is.
use Rattle.std.proofs.Common.{◌≡◌, ℕ, ◌≤◌, is_ok, Result, Ok, Err}
use Rattle.control_vectors.specs.declared.Over.{Over}
use Rattle.programs.specs.Vectors.{Env}
use Rattle.program_writers.specs.Writers.{Writer, ◌>>=◌}
use Rattle.writer_runs.specs.Runs.{Delivers}
use Rattle.writer_runs.proofs.Composed.{makes_bind, fails_first, fails_behind}
use Rattle.lowered_kept.proofs.Bound.{bound}
use Rattle.lowered_items.proofs.Parts.{Kept}

module _ {A B : Type 0} (store : Env) (m : Writer A) (f : A → Writer B) (k : ℕ) (env : Env) where
  -- one behind another, where both tell the same of all values
  pub delivers_both : {X Y Z : Type 0} (r : Result X Over) (s : Result Y Over) (join : X → Y → Z) (P : A → ℕ → Env → Type 0) (Q : B → ℕ → Env → Type 0) → Delivers store m k env r (λ x. P)
      → ((a : A) (next : ℕ) (between : Env) → k ≤ next → P a next between → Kept k env between → Delivers store (f a) next between s (λ y. Q))
      → Delivers store (m >>= f) k env (bound r (λ x. bound s (λ y. Ok (join x y)))) (λ z. Q)
  delivers_both (Err e) s join P Q failed more = fails_first A B store m f k env failed
  delivers_both (Ok x) (Ok y) join P Q made more = makes_bind A B store m f k env P Q made more
  delivers_both (Ok x) (Err e) join P Q made more = fails_behind A B store m f k env P made more

-- what two values tell alike, where they are Over alike
pub delivers_alike : {A X Y : Type 0} (store : Env) (m : Writer A) (k : ℕ) (env : Env) (r : Result X Over) (s : Result Y Over) (P : A → ℕ → Env → Type 0) → is_ok r ≡ is_ok s
    → Delivers store m k env r (λ x. P) → Delivers store m k env s (λ y. P)
delivers_alike store m k env (Ok x) (Ok y) P e h = h
delivers_alike store m k env (Ok x) (Err f) P e h = absurd cc
delivers_alike store m k env (Err f) (Ok y) P e h = absurd cc
delivers_alike store m k env (Err f) (Err g) P e h = h
