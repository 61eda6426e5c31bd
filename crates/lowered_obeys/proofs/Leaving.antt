-- What parts of a program leave behind them: what holds of the vectors that they make, and of their statements, whatever stands behind.
use Rattle.std.proofs.Common.{◌≡◌, ℕ, ◌+◌, ◌≤◌, Bool, true, false, List, [], ◌∷◌, ◌++◌, refl, sym, ap, ◌∙◌, subst, arith, le_refl, le_trans, if◌then◌else◌}
use Rattle.std.specs.Prelude.{All}
use Rattle.std.proofs.lemmas.List.Elements.{All-nil, All-append}
use Rattle.programs.specs.declared.op.Op.{Op}
use Rattle.programs.specs.declared.op.Statement.{Statement}
use Rattle.programs.specs.Mentions.{Label, is_persist}
use Rattle.programs.specs.Outlines.{Shapes}
use Rattle.program_writers.specs.Names.{is_word, IsBelow, IsFrom}
use Rattle.program_writers.specs.Writers.{Writer, tell, ◌>>=◌, through, make, numbered, statement}
use Rattle.program_writers.proofs.Numbers.{numbered_has, below_more}
use Rattle.writer_runs.proofs.Names.{is_below, is_new}
use Rattle.attribute_origins.specs.Traces.{Traced, Traces, add_traced}
use Rattle.attribute_origins.specs.Origins.{traced, trace_one, traces_from}
use Rattle.attribute_origins.proofs.Composing.{traces_from-append, add_traced-other}
use Rattle.attribute_origins.proofs.Leading.{add_traced-same}
use Rattle.lowered_obeys.proofs.Traced.{Knows}

-- vectors whose names are below a number are the same
abbrev pub Agrees : ℕ → Traces → Traces → Type 0
Agrees k made final = (n : Label) → IsBelow k n → final n ≡ made n

-- what a part tells, behind it; what was there stays; and its statements, by the vectors of a program that goes on behind it
pub record Leaves {A : Type 0} (T : Shapes) (m : Writer A) (k : ℕ) (made : Traces) (P : A → ℕ → Traces → Type 0) (S : Traces → List Statement → Type 0) : Type 0 where
  pub holds : P (m k).told (m k).next (traces_from T (m k).statements made)
  pub kept : Agrees k made (traces_from T (m k).statements made)
  pub ascends : k ≤ (m k).next
  pub stands : (final : Traces) → Agrees (m k).next (traces_from T (m k).statements made) final → S final (m k).statements

pub knows_still : (k : ℕ) (made final : Traces) (n : Label) (v : Traced) → Agrees k made final → IsBelow k n → Knows made n v → Knows final n v
knows_still k made final n v same below e = same n below ∙ e

pub agrees_less : (k l : ℕ) (made final : Traces) → k ≤ l → Agrees l made final → Agrees k made final
agrees_less k l made final le same n below = same n (below_more k l n le below)

pub agrees_then : (k l : ℕ) (made between final : Traces) → k ≤ l → Agrees k made between → Agrees l between final → Agrees k made final
agrees_then k l made between final le first second n below = second n (below_more k l n le below) ∙ first n below

-- ---- parts compose

pub tell_leaves : {A : Type 0} (T : Shapes) (a : A) (k : ℕ) (made : Traces) (P : A → ℕ → Traces → Type 0) (S : Traces → List Statement → Type 0) → P a k made → ((final : Traces) → S final []) → Leaves T (tell a) k made P S
tell_leaves T a k made P S h none = record { holds = h; kept = λ n below. refl; ascends = le_refl k; stands = λ final same. none final }

pub behind_leaves : {A B : Type 0} (T : Shapes) (m : Writer A) (f : A → Writer B) (k : ℕ) (made : Traces) (P : A → ℕ → Traces → Type 0) (Q : B → ℕ → Traces → Type 0) (S S1 S2 : Traces → List Statement → Type 0)
    → ((final : Traces) (a b : List Statement) → S1 final a → S2 final b → S final (a ++ b))
    → Leaves T m k made P S1 → Leaves T (f (m k).told) (m k).next (traces_from T (m k).statements made) Q S2 → Leaves T (m >>= f) k made Q S
behind_leaves T m f k made P Q S S1 S2 both g h =
    let a = (m k).statements in
    let b = (f (m k).told (m k).next).statements in
    let is = traces_from-append T a b made in
    record {
      holds = subst (Q (f (m k).told (m k).next).told (f (m k).told (m k).next).next) (sym is) h.holds;
      kept = λ n below. ap (λ (t : Traces). t n) is ∙ agrees_then k (m k).next made (traces_from T a made) (traces_from T b (traces_from T a made)) g.ascends g.kept h.kept n below;
      ascends = le_trans g.ascends h.ascends;
      stands = λ final same.
          let again : Agrees (f (m k).told (m k).next).next (traces_from T b (traces_from T a made)) final = λ n below. same n below ∙ ap (λ (t : Traces). t n) is in
          both final a b (g.stands final (agrees_then (m k).next (f (m k).told (m k).next).next (traces_from T a made) (traces_from T b (traces_from T a made)) final h.ascends h.kept again)) (h.stands final again);
    }

pub then_leaves : {A B : Type 0} (T : Shapes) (m : Writer A) (f : A → Writer B) (k : ℕ) (made : Traces) (P : A → ℕ → Traces → Type 0) (Q : B → ℕ → Traces → Type 0) (S S1 S2 : Traces → List Statement → Type 0)
    → ((final : Traces) (a b : List Statement) → S1 final a → S2 final b → S final (a ++ b))
    → Leaves T m k made P S1
    → ((a : A) (next : ℕ) (between : Traces) → k ≤ next → P a next between → Agrees k made between → Leaves T (f a) next between Q S2)
    → Leaves T (m >>= f) k made Q S
then_leaves T m f k made P Q S S1 S2 both g each = behind_leaves T m f k made P Q S S1 S2 both g (each (m k).told (m k).next (traces_from T (m k).statements made) g.ascends g.holds g.kept)

-- what holds is less, and so is what is said of the statements
pub less_leaves : {A : Type 0} (T : Shapes) (m : Writer A) (k : ℕ) (made : Traces) (P Q : A → ℕ → Traces → Type 0) (S S1 : Traces → List Statement → Type 0)
    → ((a : A) (next : ℕ) (after : Traces) → k ≤ next → Agrees k made after → P a next after → Q a next after) → ((final : Traces) (l : List Statement) → S1 final l → S final l) → Leaves T m k made P S1 → Leaves T m k made Q S
less_leaves T m k made P Q S S1 f h g = record { holds = f (m k).told (m k).next (traces_from T (m k).statements made) g.ascends g.kept g.holds; kept = g.kept; ascends = g.ascends; stands = λ final same. h final (m k).statements (g.stands final same) }

-- ---- what holds of each statement

abbrev pub Each : (Traces → Statement → Type 0) → Traces → List Statement → Type 0
Each Q final l = All (Q final) l

pub each_none : (Q : Traces → Statement → Type 0) (final : Traces) → Each Q final []
each_none Q final = All-nil (Q final)

pub each_both : (Q : Traces → Statement → Type 0) (final : Traces) (a b : List Statement) → Each Q final a → Each Q final b → Each Q final (a ++ b)
each_both Q final a b h g = All-append (Q final) a b h g

module _ (T : Shapes) (Q : Traces → Statement → Type 0) where
  pub tells : {A : Type 0} (a : A) (k : ℕ) (made : Traces) (P : A → ℕ → Traces → Type 0) → P a k made → Leaves T (tell a) k made P (Each Q)
  tells a k made P h = tell_leaves T a k made P (Each Q) h (each_none Q)

  pub then_each : {A B : Type 0} (m : Writer A) (f : A → Writer B) (k : ℕ) (made : Traces) (P : A → ℕ → Traces → Type 0) (R : B → ℕ → Traces → Type 0) → Leaves T m k made P (Each Q)
      → ((a : A) (next : ℕ) (between : Traces) → k ≤ next → P a next between → Agrees k made between → Leaves T (f a) next between R (Each Q)) → Leaves T (m >>= f) k made R (Each Q)
  then_each m f k made P R g each = then_leaves T m f k made P R (Each Q) (Each Q) (Each Q) (each_both Q) g each

  -- a loop: what holds of what is told, and of the things that are left
  pub through_leaves : {A B : Type 0} (f : A → B → Writer A) (Holds : List B → A → ℕ → Traces → Type 0)
      → ((b : B) (rest : List B) (a : A) (k : ℕ) (made : Traces) → Holds (b ∷ rest) a k made → Leaves T (f a b) k made (Holds rest) (Each Q))
      → (bs : List B) (a : A) (k : ℕ) (made : Traces) → Holds bs a k made → Leaves T (through f a bs) k made (Holds []) (Each Q)
  through_leaves f Holds each [] a k made h = tells a k made (Holds []) h
  through_leaves f Holds each (b ∷ bs) a k made h =
      behind_leaves T (f a b) (λ next. through f next bs) k made (Holds bs) (Holds []) (Each Q) (Each Q) (Each Q) (each_both Q) (each b bs a k made h)
      (through_leaves f Holds each bs (f a b k).told (f a b k).next (traces_from T (f a b k).statements made) (each b bs a k made h).holds)

-- ---- one statement

pub trace_made : (T : Shapes) (made : Traces) (n : Label) (op : Op) → is_persist op ≡ false → trace_one T made n op ≡ add_traced made n (traced T made n op)
trace_made T made n op e = ap (λ (b : Bool). if b then made else add_traced made n (traced T made n op)) e

-- it makes this vector
pub record MakesIt (k : ℕ) (v : Label → Traced) (name : Label) (next : ℕ) (after : Traces) : Type 0 where
  pub known : Knows after name (v name)
  pub from : IsFrom k next name
  pub below : IsBelow next name

pub make_leaves : (T : Shapes) (word : Label) (op : Op) (k : ℕ) (made : Traces) (S : Traces → List Statement → Type 0) → is_word word ≡ true → is_persist op ≡ false
    → ((final : Traces) → Agrees k made final → Knows final (numbered word k) (traced T made (numbered word k) op) → S final (statement (numbered word k) op ∷ []))
    → Leaves T (make word op) k made (MakesIt k (λ name. traced T made name op)) S
make_leaves T word op k made S w shows stands =
    let name = numbered word k in
    let v = traced T made name op in
    let is = trace_made T made name op shows in
    let there : Knows (trace_one T made name op) name v = ap (λ (t : Traces). t name) is ∙ add_traced-same made name v in
    let still : Agrees k made (trace_one T made name op) = λ n below. ap (λ (t : Traces). t n) is ∙ add_traced-other made name n v (is_new word k n w below) in
    record {
      holds = record { known = there; from = record { number = k; has = numbered_has word k w; least = omega arith; less = omega arith }; below = is_below word k w };
      kept = still;
      ascends = omega arith;
      stands = λ final same. stands final (agrees_then k (k + 1) made (trace_one T made name op) final (omega arith) still same) (knows_still (k + 1) (trace_one T made name op) final name v same (is_below word k w) there);
    }
