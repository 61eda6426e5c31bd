-- The laws of an expression's steps: they read only what stands before them, and each but the first two is read.
use Rattle.std.specs.Prelude.{ℕ, ◌+◌, ◌≤◌, ◌==◌, List, length}
use Rattle.typed_trees.specs.declared.typed.TypedExpr.{TypedExpr}
use Rattle.expr_steps.specs.declared.steps.Source.{Source}
use Rattle.expr_steps.specs.declared.steps.Source.TheVariants.{Number}
use Rattle.expr_steps.specs.declared.steps.Step.{Step}
use Rattle.expr_steps.specs.Codes.{Coded, one, and_then}
use Rattle.expr_steps.specs.Lowered.{Bytes, lowered, steps_of}
use Rattle.control_vectors.specs.declared.PairKind.TheVariants as pair
use Rattle.expr_scopes.specs.Scopes.{Names, names_in, IsBefore, AreScoped, is_made, AreRead}

-- where a value stands, before the step of number k
abbrev pub Stands : Names → ℕ → Source → Type 0
Stands names k (Number z) = ⊥
Stands names k x = IsBefore names k x

-- steps that are numbered from k on, and where they leave their result
pub record IsSound (names : Names) (k : ℕ) (c : Coded) : Type 0 where
  pub scoped : AreScoped names k c.steps
  pub result : Stands names (k + length c.steps) c.result
  pub read : AreRead (λ j. is_made j c.result) k c.steps

-- the code of an expression behind the first two steps
abbrev pub CodeLaw : Type 0
CodeLaw = (texts : List Bytes) (e : TypedExpr) (k : ℕ) → 2 ≤ k → IsSound (names_in e) k (lowered texts e k)

-- ---- the whole

-- the steps behind the first two
abbrev pub later_steps : List Bytes → TypedExpr → List Step
later_steps texts e = (and_then (lowered texts e) (λ x. one pair.Fill x x) 2).steps

abbrev pub ScopeLaw : Type 0
ScopeLaw = (texts : List Bytes) (e : TypedExpr) → AreScoped (names_in e) 0 (steps_of texts e)

-- each step behind the first two is read, or is the last
abbrev pub ReadLaw : Type 0
ReadLaw = (texts : List Bytes) (e : TypedExpr) → AreRead (λ j. j + 1 == length (steps_of texts e)) 2 (later_steps texts e)
