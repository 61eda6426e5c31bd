-- What a program means, told statement by statement: each result where its Persist is met, so that nothing of the statements before it is needed behind it.
use Rattle.std.specs.Prelude.{◌≡◌, List, [], ◌∷◌, ◌++◌, true, Result, Ok, Err}
use Rattle.control_vectors.specs.declared.Over.{Over}
use Rattle.programs.specs.Families.{family}
use Rattle.programs.specs.declared.op.Statement.{Statement}
use Rattle.programs.specs.Mentions.{Label, has_name}
use Rattle.programs.specs.Vectors.{Env, Named}
use Rattle.programs.specs.Reaching.{reached}
use Rattle.voodoo_ops.specs.Meaning.{Run, result_of, step}

-- some results, and those behind them
abbrev pub behind : Named → Result Named Over → Result Named Over
behind named (Err e) = Err e
behind named (Ok rest) = Ok (named ++ rest)

abbrev pub then_show : Run → (Env → Result Named Over) → Result Named Over
then_show (Err e) next = Err e
then_show (Ok env) next = next env

-- the results of some statements, from the vectors before them
abbrev pub results_from : Env → List Statement → Env → Result Named Over
results_from store [] env = Ok []
results_from store (s ∷ rest) env = behind (result_of env s.name (family s.op) []) (then_show (step store env s.name s.op) (results_from store rest))

-- ---- the vectors that are still needed
-- of the vectors before some statements, those that the reached ones among them mention
abbrev pub SameFor : List Statement → Env → Env → Type 0
SameFor rest env held = (m : Label) → has_name (reached [] rest).names m ≡ true → held m ≡ env m
