-- Parts that deliver a value, or are Over where it is, one behind another.
use Rattle.std.proofs.Common.{◌≡◌, ℕ, ◌≤◌, refl, Result, Ok, Err}
use Rattle.control_vectors.specs.declared.Over.{Over}
use Rattle.programs.specs.Mentions.{Label}
use Rattle.programs.specs.Vectors.{Env}
use Rattle.program_writers.specs.Names.{IsBelow}
use Rattle.program_writers.specs.Writers.{Writer, ◌>>=◌}
use Rattle.query_answers.specs.Overs as overs
use Rattle.writer_runs.specs.Runs.{Makes, Delivers}
use Rattle.writer_runs.proofs.Composed.{makes_bind, fails_first, fails_behind}

-- what stands behind a part that makes what it tells
abbrev pub Behind : {A B C : Type 0} → Env → (A → Writer B) → ℕ → Env → (A → ℕ → Env → Type 0) → Result C Over → (C → B → ℕ → Env → Type 0) → Type 0
Behind {A} store f k env P q Q = (a : A) (next : ℕ) (between : Env) → k ≤ next → P a next between → ((name : Label) → IsBelow k name → between name ≡ env name) → Delivers store (f a) next between q Q

pub makes_then : {A B C : Type 0} (store : Env) (m : Writer A) (f : A → Writer B) (k : ℕ) (env : Env) (P : A → ℕ → Env → Type 0) (q : Result C Over) (Q : C → B → ℕ → Env → Type 0)
    → Makes store m k env P → Behind store f k env P q Q → Delivers store (m >>= f) k env q Q
makes_then {A} {B} store m f k env P (Ok c) Q made more = makes_bind A B store m f k env P (Q c) made more
makes_then {A} {B} store m f k env P (Err e) Q made more = fails_behind A B store m f k env P made more

pub delivers_then : {A B C D : Type 0} (store : Env) (m : Writer A) (f : A → Writer B) (k : ℕ) (env : Env) (r : Result D Over) (P : D → A → ℕ → Env → Type 0) (g : D → Result C Over) (Q : C → B → ℕ → Env → Type 0)
    → Delivers store m k env r P → ((d : D) → r ≡ Ok d → Behind store f k env (P d) (g d) Q) → Delivers store (m >>= f) k env (overs.◌>>=◌ r g) Q
delivers_then {A} {B} store m f k env (Ok d) P g Q made more = makes_then store m f k env (P d) (g d) Q made (more d refl)
delivers_then {A} {B} store m f k env (Err e) P g Q failed more = fails_first A B store m f k env failed

-- ---- what is told may be less

pub makes_less : {A : Type 0} (store : Env) (m : Writer A) (k : ℕ) (env : Env) (P Q : A → ℕ → Env → Type 0) → ((a : A) (next : ℕ) (after : Env) → P a next after → Q a next after) → Makes store m k env P → Makes store m k env Q
makes_less store m k env P Q less made = record { after = made.after; ran = made.ran; holds = less (m k).told (m k).next made.after made.holds; kept = made.kept; ascends = made.ascends }

-- or of what is made of the value
pub delivers_less : {A C D : Type 0} (store : Env) (m : Writer A) (k : ℕ) (env : Env) (r : Result D Over) (g : D → C) (P : D → A → ℕ → Env → Type 0) (Q : C → A → ℕ → Env → Type 0)
    → ((d : D) (a : A) (next : ℕ) (after : Env) → r ≡ Ok d → P d a next after → Q (g d) a next after) → Delivers store m k env r P → Delivers store m k env (overs.◌>>=◌ r (λ d. Ok (g d))) Q
delivers_less store m k env (Ok d) g P Q less made = makes_less store m k env (P d) (Q (g d)) (λ a next after h. less d a next after refl h) made
delivers_less store m k env (Err e) g P Q less failed = failed

-- the same value
pub delivers_same : {A D : Type 0} (store : Env) (m : Writer A) (k : ℕ) (env : Env) (r : Result D Over) (P Q : D → A → ℕ → Env → Type 0)
    → ((d : D) (a : A) (next : ℕ) (after : Env) → r ≡ Ok d → P d a next after → Q d a next after) → Delivers store m k env r P → Delivers store m k env r Q
delivers_same store m k env (Ok d) P Q less made = makes_less store m k env (P d) (Q d) (λ a next after h. less d a next after refl h) made
delivers_same store m k env (Err e) P Q less failed = failed
