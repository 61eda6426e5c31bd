-- Parts of a program that pass its check behind any statements whose names have lesser numbers.
use Rattle.std.specs.Prelude.{◌≡◌, ◌≢◌, ℕ, ◌≤◌, ◌^◌, true, false, List, All, Some, None, Ok}
use Rattle.programs.specs.Check.{Known, check_from}
use Rattle.programs.specs.Faults.{path_clash, too_deep}
use Rattle.programs.specs.Mentions.{Label, has_name}
use Rattle.programs.specs.Outlines.{Outline, Shapes}
use Rattle.program_writers.specs.Names.{IsBelow}
use Rattle.program_writers.specs.Writers.{Writer}

-- vectors of at most 2^22 places
abbrev pub AreSmall : List Outline → Type 0
AreSmall shape = All (λ o. o.len ≤ 2 ^ 22) shape

-- the names of all vectors are below k
abbrev pub IsFresh : ℕ → Shapes → Type 0
IsFresh k shapes = (name : Label) → shapes name ≢ None → IsBelow k name

-- a vector of this length that has these paths among its own, which do not clash
pub record HasShape (shapes : Shapes) (name : Label) (len : ℕ) (paths : List Label) : Type 0 where
  pub outline : Outline
  pub known : shapes name ≡ Some outline
  pub len_is : outline.len ≡ len
  pub clear : path_clash outline ≡ false
  pub shallow : too_deep outline ≡ false
  pub each : All (λ p. has_name outline.paths p ≡ true) paths

-- the part passes, makes what it tells, and leaves what was known
pub record Passes {A : Type 0} (tables : Shapes) (m : Writer A) (k : ℕ) (known : Known) (P : A → Shapes → Type 0) : Type 0 where
  pub after : Known
  pub passes : check_from tables (m k).statements known ≡ Ok after
  pub holds : P (m k).told after.vectors
  pub fresh : IsFresh (m k).next after.vectors
  pub kept : (name : Label) → IsBelow k name → after.vectors name ≡ known.vectors name
  pub results : after.results ≡ known.results
  pub small : AreSmall known.shape → AreSmall after.shape
  pub ascends : k ≤ (m k).next

-- behind any statements where something holds of the vectors that are known
abbrev pub PassesFrom : {A : Type 0} → Shapes → Writer A → (Shapes → Type 0) → (A → Shapes → Type 0) → Type 0
PassesFrom tables m before P = (k : ℕ) (known : Known) → IsFresh k known.vectors → before known.vectors → Passes tables m k known P
