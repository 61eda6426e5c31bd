-- Steps that are numbered from some number on, and where they leave their result.
use Rattle.std.specs.Prelude.{◌≡◌, ℕ, ◌+◌, List, [], ◌∷◌, ◌++◌, length}
use Rattle.control_vectors.specs.declared.PairKind.{PairKind}
use Rattle.expr_steps.specs.declared.steps.Source.{Source}
use Rattle.expr_steps.specs.declared.steps.Source.TheVariants.{Made}
use Rattle.expr_steps.specs.declared.steps.Step.{Step}

pub record Coded : Type 0 where
  pub steps : List Step
  pub result : Source

-- a piece of code, by the number of its first step
abbrev pub Code : Type 0
Code = ℕ → Coded

-- no step: what stands somewhere already
abbrev pub from_source : Source → Code
from_source x k = record { steps = []; result = x }

abbrev pub pair_step : PairKind → Source → Source → Step
pair_step kind x y = record { kind = kind; x = x; y = y }

-- one step
abbrev pub one : PairKind → Source → Source → Code
one kind x y k = record { steps = pair_step kind x y ∷ []; result = Made k }

-- one piece, and behind it another that reads its result
abbrev pub followed : Coded → (Source → Code) → ℕ → Coded
followed a f k = record { steps = a.steps ++ (f a.result (k + length a.steps)).steps; result = (f a.result (k + length a.steps)).result }

abbrev pub and_then : Code → (Source → Code) → Code
and_then m f k = followed (m k) f k

-- some steps are appended to others, and leave this result
pub record Appends (m : Code) (old new : List Step) (x : Source) : Type 0 where
  pub steps : new ≡ old ++ (m (length old)).steps
  pub result : x ≡ (m (length old)).result
