-- Statements one by one.
use Rattle.std.proofs.Common.{◌≡◌, ℕ, ◌+◌, ◌<◌, ◌≤◌, List, [], ◌∷◌, ◌++◌, Bool, true, false, ◌||◌, refl, ap, sym, ◌∙◌, length, drop, get_or, append_assoc, Result, Ok, Err}
use Rattle.std.proofs.lemmas.List.{drop_more, drop_all}
use Rattle.control_vectors.specs.Slots.{over}
use Rattle.control_vectors.specs.declared.Over.{Over}
use Rattle.last_readers.specs.Readers.{AreLast, is_read}
use Rattle.last_readers.specs.declared.last.LastReaders.{LastReaders}
use Rattle.programs.specs.Families.{family}
use Rattle.programs.specs.declared.op.Statement.{Statement}
use Rattle.programs.specs.Mentions.{Label, is_persist}
use Rattle.programs.specs.Vectors.{Env, Named, nothing}
use Rattle.programs.specs.Outlines.{outlines}
use Rattle.programs.specs.Reaching.{Reached, reach_if, reached, is_reached}
use Rattle.slot_columns.specs.declared.stop.Stop.{Stop}
use Rattle.slot_columns.specs.declared.stop.Stop.TheVariants.{NoMemory, Overflow}
use Rattle.slot_columns.specs.Stops.{StopsAt}
use Rattle.voodoo_ops.specs.Later.{reads, Keeps, Advances}
use Rattle.voodoo_ops.specs.Meaning.{Run, result_of, step, meaning}
use Rattle.voodoo_ops.specs.Fits.{Fits, Runnable}
use Rattle.voodoo_ops.specs.Streams.{SameFor, behind, then_show, results_from}
use Rattle.voodoo_ops.specs.declared.later.Later.{Later}
use Rattle.voodoo_ops.proofs.Needed.{results_same, ready_same}
use Rattle.voodoo_ops.proofs.Ready.{Ready, ready_start, ready_fits, ready_next, ready_skip}
use Rattle.voodoo_ops.proofs.Settled.{settled, settled_kept, shown_settled}

-- ---- results, and those behind them
behind_none : (r : Result Named Over) → r ≡ behind [] r
behind_none (Err e) = refl
behind_none (Ok named) = refl

behind_both : (xs ys : Named) (r : Result Named Over) → behind xs (behind ys r) ≡ behind (xs ++ ys) r
behind_both xs ys (Err e) = refl
behind_both xs ys (Ok named) = ap (λ (l : Named). let r : Result Named Over = Ok l in r) (sym (append_assoc xs ys named))

append_empty : (xs : Named) → xs ++ [] ≡ xs
append_empty [] = refl
append_empty (x ∷ xs) = ap (λ (l : Named). x ∷ l) (append_empty xs)

-- ---- the statements from one on
here_is : (statements : List Statement) (i : ℕ) (s : Statement) → i < length statements → s ≡ get_or statements i s → drop i statements ≡ s ∷ drop (i + 1) statements
here_is statements i s h at = drop_more statements i s h ∙ ap (λ (x : Statement). x ∷ drop (i + 1) statements) (sym at)

reached_is : (statements : List Statement) (i : ℕ) (s : Statement) (b : Bool) → i < length statements → s ≡ get_or statements i s → is_reached (reached [] (drop (i + 1) statements)).names s ≡ b → reached [] (drop i statements) ≡ reach_if b s (reached [] (drop (i + 1) statements))
reached_is statements i s b h at e =
    ap (reached []) (here_is statements i s h at) ∙ ap (λ (c : Bool). reach_if c s (reached [] (drop (i + 1) statements))) e

-- by the last readers
reads_is : (r : LastReaders) (i : ℕ) (later : Later) (n : Label) → later.readers.now ≡ r → later.from ≡ i + 1 → reads later n ≡ is_read r (i + 1) n
reads_is r i later n same from = ap (λ (q : LastReaders). is_read q later.from n) same ∙ ap (λ (k : ℕ). is_read r k n) from

pub reached_as : (r : LastReaders) (statements : List Statement) (i : ℕ) (s : Statement) (b : Bool) → AreLast r statements → b ≡ (is_persist s.op || is_read r (i + 1) s.name) → is_reached (reached [] (drop (i + 1) statements)).names s ≡ b
reached_as r statements i s b last e = ap (λ (c : Bool). is_persist s.op || c) (last (i + 1) s.name) ∙ sym e

same_for : (r : LastReaders) (statements : List Statement) (i : ℕ) (later : Later) (env now : Env) → AreLast r statements → Keeps later env now → later.readers.now ≡ r → later.from ≡ i + 1 → SameFor (drop (i + 1) statements) env now
same_for r statements i later env now last keeps same from m e = keeps m (reads_is r i later m same from ∙ sym (last (i + 1) m) ∙ e)

-- ---- a run that has come to a statement
pub record Going (store env : Env) (statements : List Statement) (i : ℕ) (named : Named) : Type 0 where
  pub so_far : results_from store (reached [] statements).kept nothing ≡ behind named (results_from store (reached [] (drop i statements)).kept env)
  pub ready : Ready store env (drop i statements)

pub going_start : (store env : Env) (statements : List Statement) (named : Named) → env ≡ nothing → named ≡ [] → Runnable store statements → Going store env statements 0 named
going_start store env statements named e n r = rw (e, n) (record {
  so_far = behind_none (results_from store (reached [] statements).kept nothing);
  ready = ready_start store statements r;
})

pub going_fits : (store env : Env) (statements : List Statement) (i : ℕ) (s : Statement) (named : Named) → i < length statements → s ≡ get_or statements i s → is_reached (reached [] (drop (i + 1) statements)).names s ≡ true → Going store env statements i named → Fits (outlines store) (outlines env) (family s.op)
going_fits store env statements i s named h at on g = ready_fits store env s (drop (i + 1) statements) (rw (here_is statements i s h at) at g.ready) on

-- what the statement gives, and then those behind it
from_here : (store env : Env) (statements : List Statement) (i : ℕ) (s : Statement) (named : Named) (r : Run) → i < length statements → s ≡ get_or statements i s → is_reached (reached [] (drop (i + 1) statements)).names s ≡ true → step store env s.name s.op ≡ r → Going store env statements i named → results_from store (reached [] statements).kept nothing ≡ behind named (behind (result_of env s.name (family s.op) []) (then_show r (results_from store (reached [] (drop (i + 1) statements)).kept)))
from_here store env statements i s named r h at on made g =
    let rest = (reached [] (drop (i + 1) statements)).kept in
    g.so_far
    ∙ ap (λ (q : Reached). behind named (results_from store q.kept env)) (reached_is statements i s true h at on)
    ∙ ap (λ (x : Run). behind named (behind (result_of env s.name (family s.op) []) (then_show x (results_from store rest)))) made

pub going_on : (store env next now : Env) (statements : List Statement) (i : ℕ) (s : Statement) (named more : Named) → i < length statements → s ≡ get_or statements i s → is_reached (reached [] (drop (i + 1) statements)).names s ≡ true → step store env s.name s.op ≡ Ok next → SameFor (drop (i + 1) statements) next now → more ≡ named ++ result_of env s.name (family s.op) [] → Going store env statements i named → Going store now statements (i + 1) more
going_on store env next now statements i s named more h at on made same m g =
    let rest = drop (i + 1) statements in
    let shows = result_of env s.name (family s.op) [] in
    record {
      so_far = from_here store env statements i s named (Ok next) h at on made g
          ∙ behind_both named shows (results_from store (reached [] rest).kept next)
          ∙ ap (behind (named ++ shows)) (results_same store rest next now same)
          ∙ ap (λ (l : Named). behind l (results_from store (reached [] rest).kept now)) (sym m);
      ready = ready_same store next now rest same (ready_next store env next s rest (rw (here_is statements i s h at) at g.ready) on made);
    }

pub going_off : (store env : Env) (statements : List Statement) (i : ℕ) (s : Statement) (named : Named) → i < length statements → s ≡ get_or statements i s → is_reached (reached [] (drop (i + 1) statements)).names s ≡ false → Going store env statements i named → Going store env statements (i + 1) named
going_off store env statements i s named h at off g = record {
  so_far = g.so_far ∙ ap (λ (q : Reached). behind named (results_from store q.kept env)) (reached_is statements i s false h at off);
  ready = ready_skip store env s (drop (i + 1) statements) (rw (here_is statements i s h at) at g.ready) off;
}

-- ---- what the program means
pub means : (store : Env) (statements : List Statement) → Runnable store statements → meaning store statements ≡ results_from store (reached [] statements).kept nothing
means store statements r =
    let ready = ready_start store statements r in
    shown_settled store (reached [] statements).kept nothing (settled_kept [] statements (settled (outlines store) statements ready.known ready.after ready.passes))

pub going_end : (store env : Env) (statements : List Statement) (i : ℕ) (named : Named) → length statements ≤ i → Runnable store statements → Going store env statements i named → meaning store statements ≡ Ok named
going_end store env statements i named h r g =
    means store statements r ∙ g.so_far
    ∙ ap (λ (l : List Statement). behind named (results_from store (reached [] l).kept env)) (drop_all i statements h)
    ∙ ap (λ (l : Named). let x : Result Named Over = Ok l in x) (append_empty named)

-- one statement more, as the run does it
pub going_next : {A : Type 0} (readers : LastReaders) (store env now : Env) (statements : List Statement) (i : ℕ) (s : Statement) (later : Later) (x : A) (named more : Named) → AreLast readers statements → later.readers.now ≡ readers → later.from ≡ i + 1 → i < length statements → s ≡ get_or statements i s → true ≡ (is_persist s.op || is_read readers (i + 1) s.name) → Advances later (Ok x) (step store env s.name s.op) now → more ≡ named ++ result_of env s.name (family s.op) [] → Going store env statements i named → Going store now statements (i + 1) more
going_next readers store env now statements i s later x named more last same from h at on adv m g = by (step store env s.name s.op) refl adv
  where
    by : (r : Run) → step store env s.name s.op ≡ r → Advances later (Ok x) r now → Going store now statements (i + 1) more
    by (Err e) q a = absurd a
    by (Ok next) q a = going_on store env next now statements i s named more h at (reached_as readers statements i s true last on) q (same_for readers statements i later next now last a same from) m g

pub going_stops : (readers : LastReaders) (store env : Env) (statements : List Statement) (i : ℕ) (s : Statement) (e : Stop) (named : Named) → AreLast readers statements → i < length statements → s ≡ get_or statements i s → true ≡ (is_persist s.op || is_read readers (i + 1) s.name) → StopsAt e (step store env s.name s.op) → Runnable store statements → Going store env statements i named → StopsAt e (meaning store statements)
going_stops readers store env statements i s NoMemory named last h at on stops r g = tt
going_stops readers store env statements i s Overflow named last h at on stops r g =
    means store statements r ∙ from_here store env statements i s named (Err over) h at (reached_as readers statements i s true last on) stops g
