-- What parts make, one behind another, and what one statement makes.
use Rattle.std.proofs.Common.{◌≡◌, ℕ, ◌+◌, ◌≤◌, true, [], refl, ap, ◌∙◌, arith, Option, Some, Result, Ok, Err}
use Rattle.control_vectors.specs.Slots.{over}
use Rattle.control_vectors.specs.declared.Over.{Over}
use Rattle.programs.specs.declared.op.Op.{Op}
use Rattle.programs.specs.Mentions.{Label}
use Rattle.programs.specs.Vectors.{Vector, Env, put}
use Rattle.voodoo_ops.specs.Meaning.{Run, effect, after_effect, then_run, run_from}
use Rattle.voodoo_ops.proofs.Compositions.{run_from-append, put_other, put_same}
use Rattle.program_writers.specs.Names.{IsBelow, is_word}
use Rattle.program_writers.specs.Writers.{Writer, tell, ◌>>=◌, make, numbered}
use Rattle.writer_runs.specs.Laws.{ComposeLaws, OperatorLaws, KeptLaw}
use Rattle.writer_runs.specs.Runs.{Makes, Fails, Sees}
use Rattle.program_writers.proofs.Numbers.{below_more}
use Rattle.writer_runs.proofs.Names.{is_below, is_new, name_same}

pub makes_tell : (A : Type 0) (store : Env) (a : A) (k : ℕ) (env : Env) (P : A → ℕ → Env → Type 0) → P a k env → Makes store (tell a) k env P
makes_tell A store a k env P h = record { after = env; ran = refl; holds = h; kept = λ name below. refl; ascends = omega arith }

-- a part that makes what it tells runs, and then the part behind it
runs_on : (A B : Type 0) (store : Env) (m : Writer A) (f : A → Writer B) (k : ℕ) (env after : Env) → run_from store (m k).statements env ≡ Ok after
    → run_from store ((m >>= f) k).statements env ≡ run_from store (f (m k).told (m k).next).statements after
runs_on A B store m f k env after ran =
    run_from-append store (m k).statements (f (m k).told (m k).next).statements env
    ∙ ap (λ (r : Run). then_run r (run_from store (f (m k).told (m k).next).statements)) ran

pub makes_bind : (A B : Type 0) (store : Env) (m : Writer A) (f : A → Writer B) (k : ℕ) (env : Env) (P : A → ℕ → Env → Type 0) (Q : B → ℕ → Env → Type 0)
    → Makes store m k env P
    → ((a : A) (next : ℕ) (between : Env) → k ≤ next → P a next between → ((name : Label) → IsBelow k name → between name ≡ env name) → Makes store (f a) next between Q)
    → Makes store (m >>= f) k env Q
makes_bind A B store m f k env P Q made more =
    let rest = more (m k).told (m k).next made.after made.ascends made.holds made.kept in
    record {
      after = rest.after;
      ran = runs_on A B store m f k env made.after made.ran ∙ rest.ran;
      holds = rest.holds;
      kept = λ name below. rest.kept name (below_more k (m k).next name made.ascends below) ∙ made.kept name below;
      ascends = omega (arith, made.ascends, rest.ascends);
    }

pub fails_first : (A B : Type 0) (store : Env) (m : Writer A) (f : A → Writer B) (k : ℕ) (env : Env) → Fails store m k env → Fails store (m >>= f) k env
fails_first A B store m f k env failed =
    run_from-append store (m k).statements (f (m k).told (m k).next).statements env
    ∙ ap (λ (r : Run). then_run r (run_from store (f (m k).told (m k).next).statements)) failed

pub fails_behind : (A B : Type 0) (store : Env) (m : Writer A) (f : A → Writer B) (k : ℕ) (env : Env) (P : A → ℕ → Env → Type 0)
    → Makes store m k env P
    → ((a : A) (next : ℕ) (between : Env) → k ≤ next → P a next between → ((name : Label) → IsBelow k name → between name ≡ env name) → Fails store (f a) next between)
    → Fails store (m >>= f) k env
fails_behind A B store m f k env P made failed =
    runs_on A B store m f k env made.after made.ran ∙ failed (m k).told (m k).next made.after made.ascends made.holds made.kept

pub compose_laws : ComposeLaws
compose_laws = record { tell = makes_tell; bind = makes_bind; fails_first = fails_first; fails_behind = fails_behind }

-- ---- one statement

one_runs : (store : Env) (word : Label) (op : Op) (k : ℕ) (env : Env) (r : Option (Result Vector Over)) → effect store env op ≡ r
    → run_from store (make word op k).statements env ≡ then_run (after_effect env (numbered word k) r) (run_from store [])
one_runs store word op k env r e = ap (λ (o : Option (Result Vector Over)). then_run (after_effect env (numbered word k) o) (run_from store [])) e

pub makes_one : (store : Env) (word : Label) (op : Op) (k : ℕ) (env : Env) (v : Vector) → is_word word ≡ true → effect store env op ≡ Some (Ok v)
    → Makes store (make word op) k env (λ name next after. Sees after name v × IsBelow next name)
makes_one store word op k env v h e = record {
  after = put env (numbered word k) v;
  ran = one_runs store word op k env (Some (Ok v)) e;
  holds = (put_same env (numbered word k) (numbered word k) v (name_same (numbered word k)), is_below word k h);
  kept = λ name below. put_other env (numbered word k) name v (is_new word k name h below);
  ascends = omega arith;
}

pub fails_one : (store : Env) (word : Label) (op : Op) (k : ℕ) (env : Env) → effect store env op ≡ Some (Err over) → Fails store (make word op) k env
fails_one store word op k env e = one_runs store word op k env (Some (Err over)) e

pub operator_laws : OperatorLaws
operator_laws = record { makes = makes_one; fails = fails_one }

pub kept_law : KeptLaw
kept_law k before after name v below kept sees = kept name below ∙ sees
