-- The statements that some Persist reaches through the names that they mention.
use Rattle.std.specs.Prelude.{◌≡◌, ℕ, ◌+◌, ◌<◌, Bool, true, false, ◌||◌, is_some, List, [], ◌∷◌, ◌++◌, length, drop, slice_index_or}
use Rattle.programs.specs.declared.op.Statement.{Statement}
use Rattle.programs.specs.Mentions.{Label, mentioned, is_persist, has_name}
use Rattle.programs.specs.Indexes.{Places}

-- the statements that are kept, and the names that they mention, where the names of `wanted` are mentioned behind them
pub record Reached : Type 0 where
  pub names : List Label
  pub kept : List Statement

abbrev pub reach_if : Bool → Statement → Reached → Reached
reach_if true s r = record { names = mentioned s.op ++ r.names; kept = s ∷ r.kept }
reach_if false s r = r

abbrev pub is_reached : List Label → Statement → Bool
is_reached names s = is_persist s.op || has_name names s.name

abbrev pub reach_one : Statement → Reached → Reached
reach_one s r = reach_if (is_reached r.names s) s r

abbrev pub reached : List Label → List Statement → Reached
reached wanted [] = record { names = wanted; kept = [] }
reached wanted (s ∷ rest) = reach_one s (reached wanted rest)

-- the statements that marks choose
abbrev pub chosen : List Bool → List Statement → List Statement
chosen [] statements = []
chosen (m ∷ marks) [] = []
chosen (true ∷ marks) (s ∷ rest) = s ∷ chosen marks rest
chosen (false ∷ marks) (s ∷ rest) = chosen marks rest

-- ---- marks and wanted names
-- one mark a statement: whether it is reached; so they choose the statements that are kept
pub record Chooses (marks : List Bool) (statements : List Statement) : Type 0 where
  pub each : length marks ≡ length statements
  pub kept : chosen marks statements ≡ (reached [] statements).kept
  pub at : (k : ℕ) (s : Statement) → k < length statements → s ≡ slice_index_or statements k s → slice_index_or marks k false ≡ is_reached (reached [] (drop (k + 1) statements)).names s

-- these names and what was wanted before
abbrev pub AlsoWants : Places → List Label → Places → Type 0
AlsoWants wanted names now = (m : Label) → is_some (now m) ≡ (has_name names m || is_some (wanted m))
