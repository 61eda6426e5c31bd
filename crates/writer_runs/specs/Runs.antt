-- What parts of a program make, behind any statements whose names have lesser numbers.
use Rattle.std.specs.Prelude.{◌≡◌, ℕ, ◌≤◌, Some, Result, Ok, Err}
use Rattle.control_vectors.specs.Slots.{over}
use Rattle.control_vectors.specs.declared.Over.{Over}
use Rattle.programs.specs.Mentions.{Label}
use Rattle.programs.specs.Vectors.{Vector, Env}
use Rattle.voodoo_ops.specs.Meaning.{run_from}
use Rattle.program_writers.specs.Names.{IsBelow}
use Rattle.program_writers.specs.Writers.{Writer}

-- the part makes what it tells, by the number of the next name, and leaves what was there
pub record Makes {A : Type 0} (store : Env) (m : Writer A) (k : ℕ) (env : Env) (P : A → ℕ → Env → Type 0) : Type 0 where
  pub after : Env
  pub ran : run_from store (m k).statements env ≡ Ok after
  pub holds : P (m k).told (m k).next after
  pub kept : (name : Label) → IsBelow k name → after name ≡ env name
  pub ascends : k ≤ (m k).next

-- some statement of the part is Over
abbrev pub Fails : {A : Type 0} → Env → Writer A → ℕ → Env → Type 0
Fails store m k env = run_from store (m k).statements env ≡ Err over

-- the part makes what it tells of a value, or both are Over
abbrev pub Delivers : {A B : Type 0} → Env → Writer A → ℕ → Env → Result B Over → (B → A → ℕ → Env → Type 0) → Type 0
Delivers store m k env (Ok b) P = Makes store m k env (P b)
Delivers store m k env (Err e) P = Fails store m k env

-- the vector of a name
abbrev pub Sees : Env → Label → Vector → Type 0
Sees env name v = env name ≡ Some v
