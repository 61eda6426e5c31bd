-- The laws of statements that are made of steps: they pass the check, they make the value, and each is used.
use Rattle.std.specs.Prelude.{◌≡◌, ℕ, ◌+◌, ◌^◌, ◌<◌, ◌≤◌, ◌==◌, true, List, [], ◌∷◌, ◌++◌, length}
use Rattle.control_vectors.specs.Slots.{Slot, all_slots}
use Rattle.programs.specs.Check.{Known}
use Rattle.programs.specs.Mentions.{Label}
use Rattle.programs.specs.Outlines.{Shapes}
use Rattle.programs.specs.Vectors.{Vector, Env, column}
use Rattle.typed_trees.specs.declared.typed.TypedExpr.{TypedExpr}
use Rattle.expr_steps.specs.declared.steps.Step.{Step}
use Rattle.expr_steps.specs.Lowered.{Bytes, constants, steps_of}
use Rattle.expr_lower.specs.Statements.{out}
use Rattle.expr_scopes.specs.Scopes.{Names, names_in, AreScoped, AreRead}
use Rattle.program_writers.specs.Names.{IsBelow, is_word}
use Rattle.writer_checks.specs.Checks.{IsFresh, Passes}
use Rattle.writer_checks.specs.Laws.{Shaped}
use Rattle.writer_runs.specs.Runs.{Delivers, Sees}
use Rattle.writer_runs.specs.Uses.{Uses}
use Rattle.expr_programs.specs.Values.{Base, steps_value, HasPlaces, value_cells}

-- some steps, which read only what stands before them; their numbers have 64 bits
pub record AreOrderly (names : Names) (steps : List Step) : Type 0 where
  pub some : 0 < length steps
  pub few : length steps < 2 ^ 64
  pub scoped : AreScoped names 0 steps

-- ---- any steps

-- they pass, and make a vector of the same length
abbrev pub CheckLaw : Type 0
CheckLaw =
    (tables : Shapes) (names : Names) (word : Label) (b : Base) (steps : List Step) (len k : ℕ) (known : Known) → is_word word ≡ true → AreOrderly names steps → len ≤ 2 ^ 22 → IsFresh k known.vectors → HasPlaces names known.vectors b len
    → Passes tables (steps_value word b steps) k known (Shaped len (out ∷ []))

-- the slots that the last step makes, under the name that is told
abbrev pub Holds : ℕ → List Slot → Label → ℕ → Env → Type 0
Holds len slots name next after = Sees after name (column out len slots) × IsBelow next name

abbrev pub RunLaw : Type 0
RunLaw =
    (store env : Env) (names : Names) (word : Label) (b : Base) (steps : List Step) (v : Vector) (k : ℕ) → is_word word ≡ true → AreOrderly names steps → IsBelow k b.vector → Sees env b.vector v
    → Delivers store (steps_value word b steps) k env (all_slots (value_cells b v steps)) (Holds v.len)

-- where each step behind the first two is read or is the last, each statement is used, and the vector that they read is wanted in front of them
abbrev pub UseLaw : Type 0
UseLaw =
    (names : Names) (word : Label) (b : Base) (later : List Step) (k : ℕ) → AreScoped names 0 (constants ++ later) → 0 < length later → AreRead (λ j. j + 1 == length (constants ++ later)) 2 later
    → Uses ((steps_value word b (constants ++ later) k).told ∷ []) (b.vector ∷ []) (steps_value word b (constants ++ later) k).statements

-- ---- the steps of an expression

-- their numbers have 64 bits: there are at most four for each node
abbrev pub IsShort : List Bytes → TypedExpr → Type 0
IsShort texts e = length (steps_of texts e) < 2 ^ 64

abbrev pub ExprCheckLaw : Type 0
ExprCheckLaw =
    (tables : Shapes) (texts : List Bytes) (e : TypedExpr) (word : Label) (b : Base) (len k : ℕ) (known : Known) → is_word word ≡ true → IsShort texts e → len ≤ 2 ^ 22 → IsFresh k known.vectors → HasPlaces (names_in e) known.vectors b len
    → Passes tables (steps_value word b (steps_of texts e)) k known (Shaped len (out ∷ []))

abbrev pub ExprRunLaw : Type 0
ExprRunLaw =
    (store env : Env) (texts : List Bytes) (e : TypedExpr) (word : Label) (b : Base) (v : Vector) (k : ℕ) → is_word word ≡ true → IsShort texts e → IsBelow k b.vector → Sees env b.vector v
    → Delivers store (steps_value word b (steps_of texts e)) k env (all_slots (value_cells b v (steps_of texts e))) (Holds v.len)

abbrev pub ExprUseLaw : Type 0
ExprUseLaw =
    (texts : List Bytes) (e : TypedExpr) (word : Label) (b : Base) (k : ℕ)
    → Uses ((steps_value word b (steps_of texts e) k).told ∷ []) (b.vector ∷ []) (steps_value word b (steps_of texts e) k).statements
