-- The laws of parts: they compose; each operator makes its vector; and a program whose statements are used means what they make in order.
use Rattle.std.specs.Prelude.{◌≡◌, ℕ, ◌≤◌, ◌+◌, true, List, [], ◌∷◌, ◌++◌, Some, Ok, Err}
use Rattle.control_vectors.specs.Slots.{over}
use Rattle.programs.specs.declared.op.Op.{Op}
use Rattle.programs.specs.declared.op.Op.TheVariants as op
use Rattle.programs.specs.declared.op.Statement.{Statement}
use Rattle.programs.specs.Check.{Known, check_from}
use Rattle.programs.specs.Mentions.{Label, mentioned, is_persist, has_name}
use Rattle.programs.specs.Outlines.{Shapes}
use Rattle.programs.specs.Vectors.{Vector, Env, nothing}
use Rattle.voodoo_ops.specs.Meaning.{effect, run_from, shown, meaning}
use Rattle.program_writers.specs.Names.{IsBelow, is_word}
use Rattle.program_writers.specs.Writers.{Writer, tell, ◌>>=◌, make, statement}
use Rattle.writer_runs.specs.Runs.{Makes, Fails, Sees}
use Rattle.writer_runs.specs.Uses.{never_over, AreUsed, Includes, Uses, ResultsStand, ShowsNothing}

-- ---- what parts make

pub record ComposeLaws : Type 1 where
  pub tell : (A : Type 0) (store : Env) (a : A) (k : ℕ) (env : Env) (P : A → ℕ → Env → Type 0) → P a k env → Makes store (tell a) k env P
  pub bind : (A B : Type 0) (store : Env) (m : Writer A) (f : A → Writer B) (k : ℕ) (env : Env) (P : A → ℕ → Env → Type 0) (Q : B → ℕ → Env → Type 0)
      → Makes store m k env P
      → ((a : A) (next : ℕ) (between : Env) → k ≤ next → P a next between → ((name : Label) → IsBelow k name → between name ≡ env name) → Makes store (f a) next between Q)
      → Makes store (m >>= f) k env Q
  pub fails_first : (A B : Type 0) (store : Env) (m : Writer A) (f : A → Writer B) (k : ℕ) (env : Env) → Fails store m k env → Fails store (m >>= f) k env
  pub fails_behind : (A B : Type 0) (store : Env) (m : Writer A) (f : A → Writer B) (k : ℕ) (env : Env) (P : A → ℕ → Env → Type 0)
      → Makes store m k env P
      → ((a : A) (next : ℕ) (between : Env) → k ≤ next → P a next between → ((name : Label) → IsBelow k name → between name ≡ env name) → Fails store (f a) next between)
      → Fails store (m >>= f) k env

-- one statement
pub record OperatorLaws : Type 0 where
  -- it makes its operator's vector, whose name is new
  pub makes : (store : Env) (word : Label) (op : Op) (k : ℕ) (env : Env) (v : Vector) → is_word word ≡ true → effect store env op ≡ Some (Ok v)
      → Makes store (make word op) k env (λ name next after. Sees after name v × IsBelow next name)
  pub fails : (store : Env) (word : Label) (op : Op) (k : ℕ) (env : Env) → effect store env op ≡ Some (Err over) → Fails store (make word op) k env

-- what is made stays where it is left alone
abbrev pub KeptLaw : Type 0
KeptLaw = (k : ℕ) (before after : Env) (name : Label) (v : Vector) → IsBelow k name → ((n : Label) → IsBelow k n → after n ≡ before n) → Sees before name v → Sees after name v

-- ---- what is used

-- a program whose statements are used means what they make in order: those that nothing reaches are never Over
abbrev pub UseLaw : Type 0
UseLaw = (store : Env) (program : List Statement) → AreUsed [] program → ResultsStand program → meaning store program ≡ shown (run_from store program nothing) program

pub record UsedLaws : Type 0 where
  -- no statement, and one that is wanted, that shows a result, or that is never Over
  pub none : (wanted : List Label) → Uses wanted wanted []
  pub one : (wanted : List Label) (s : Statement) → has_name wanted s.name ≡ true → Uses wanted (mentioned s.op ++ wanted) (s ∷ [])
  pub result : (wanted : List Label) (s : Statement) → is_persist s.op ≡ true → Uses wanted (mentioned s.op ++ wanted) (s ∷ [])
  pub idle : (wanted : List Label) (s : Statement) → never_over s.op ≡ true → Uses wanted wanted (s ∷ [])
  -- one part behind another
  pub append : (wanted between front : List Label) (a b : List Statement) → Uses between front a → Uses wanted between b → Uses wanted front (a ++ b)
  -- more names are wanted behind, and fewer in front
  pub more : (wanted others front fewer : List Label) (a : List Statement) → Includes others wanted → Includes front fewer → Uses wanted front a → Uses others fewer a
  -- names that are wanted behind are wanted in front
  pub beside : (wanted front others : List Label) (a : List Statement) → Uses wanted front a → Uses (wanted ++ others) (front ++ others) a

pub record StandLaws : Type 0 where
  -- results stand at the end
  pub at_end : (a : List Statement) (s : Statement) → ShowsNothing a → ResultsStand (a ++ s ∷ [])
  pub append : (a b : List Statement) → ShowsNothing a → ShowsNothing b → ShowsNothing (a ++ b)
  -- a check behind which the results are as before has seen none
  pub passed : (tables : Shapes) (a : List Statement) (known after : Known) → check_from tables a known ≡ Ok after → after.results ≡ known.results → ShowsNothing a

-- ---- a program with one result, at its end

abbrev pub with_result : List Statement → Label → Label → List Statement
with_result a name p = a ++ statement name (op.Persist p) ∷ []

-- it means the vector that its result shows, or is Over
pub record ResultLaws : Type 0 where
  pub shows : (store : Env) (a : List Statement) (front : List Label) (name p : Label) (after : Env) (v : Vector) → ShowsNothing a → Uses (p ∷ []) front a → run_from store a nothing ≡ Ok after → Sees after p v
      → meaning store (with_result a name p) ≡ Ok ((name, v) ∷ [])
  pub fails : (store : Env) (a : List Statement) (front : List Label) (name p : Label) → ShowsNothing a → Uses (p ∷ []) front a → run_from store a nothing ≡ Err over → meaning store (with_result a name p) ≡ Err over
