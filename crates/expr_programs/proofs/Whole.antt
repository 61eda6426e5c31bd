-- The laws of statements that are made of steps.
use Rattle.std.proofs.Common.{◌≡◌, ◌≢◌, ℕ, ◌+◌, ◌-◌, ◌<◌, true, List, [], ◌∷◌, length, length-append, refl, sym, ◌∙◌, subst, arith, Option, Some, None, Result, Ok, Err}
use Rattle.control_vectors.specs.Slots.{Slot}
use Rattle.control_vectors.specs.declared.Over.{Over}
use Rattle.control_vectors.specs.declared.PairKind.TheVariants as pair
use Rattle.programs.specs.Mentions.{Label}
use Rattle.programs.specs.Outlines.{Outline, Shapes}
use Rattle.programs.specs.Vectors.{Vector, Env, column}
use Rattle.voodoo_ops.specs.Meaning.{run_from}
use Rattle.typed_trees.specs.declared.typed.TypedExpr.{TypedExpr}
use Rattle.expr_steps.specs.declared.steps.Step.{Step}
use Rattle.expr_steps.specs.Codes.{one}
use Rattle.expr_steps.specs.Lowered.{Bytes, constants, lowered, steps_of}
use Rattle.expr_scopes.specs.Laws.{later_steps}
use Rattle.expr_scopes.proofs.Whole.{scope_law, read_law}
use Rattle.writer_runs.specs.Runs.{Delivers}
use Rattle.expr_lower.specs.Statements.{out, name_of, value_name}
use Rattle.expr_scopes.specs.Scopes.{Names, names_in}
use Rattle.program_writers.specs.Names.{is_word, HasNumber, IsBelow}
use Rattle.program_writers.specs.Writers.{numbered as part_name}
use Rattle.program_writers.proofs.Numbers.{one_number, below_more, below_next}
use Rattle.writer_checks.specs.Checks.{IsFresh, HasShape}
use Rattle.expr_programs.specs.Values.{Base, steps_value, HasPlaces}
use Rattle.expr_programs.specs.Laws.{AreOrderly, Holds, IsShort, CheckLaw, RunLaw, ExprCheckLaw, ExprRunLaw, ExprUseLaw}
use Rattle.expr_programs.proofs.Naming.{name_has, value_has, named_last}
use Rattle.expr_programs.proofs.Checked.{AreReady, all_checked}
use Rattle.expr_programs.proofs.Running.{AreMade}
use Rattle.expr_programs.proofs.Landing.{Lands, rest_cells, all_run}
use Rattle.expr_programs.proofs.Used.{use_law}

-- ---- the check

some_is : (shapes : Shapes) (name : Label) (o : Outline) → shapes name ≡ Some o → shapes name ≢ None
some_is shapes name o e n = let both : Some o ≡ None = sym e ∙ n in absurd cc

is_unmade : (k : ℕ) (shapes : Shapes) (name : Label) → HasNumber k name → IsFresh k shapes → (o : Option Outline) → shapes name ≡ o → shapes name ≡ None
is_unmade k shapes name has fresh None e = e
is_unmade k shapes name has fresh (Some o) e =
    let b : IsBelow k name = fresh name (some_is shapes name o e) in
    let same = one_number b.number k name b.has has in
    absurd (omega (arith, b.less, same))

ready_first : (names : Names) (b : Base) (word : Label) (k last len : ℕ) (shapes : Shapes) → is_word word ≡ true → IsFresh k shapes → HasPlaces names shapes b len → AreReady names b (part_name word k) last len 0 shapes
ready_first names b word k last len shapes w fresh places = record {
  places = places;
  made = λ i h. absurd (omega (arith, h));
  unmade = λ i h l. is_unmade k shapes (name_of (part_name word k) last i) (name_has word k last i w) fresh (shapes (name_of (part_name word k) last i)) refl;
}

pub check_law : CheckLaw
check_law tables names word b steps len k known w orderly small fresh places =
    let last = length steps - 1 in
    let low : IsBelow k b.vector = fresh b.vector (some_is known.vectors b.vector places.marked.outline places.marked.known) in
    let ran = all_checked tables names b word k last len 0 steps known w low (omega (arith, orderly.few)) small (omega (arith, orderly.some)) orderly.scoped (λ name some. below_more k (k + 1) name (omega arith) (fresh name some)) (ready_first names b word k last len known.vectors w fresh places) in
    record {
      after = ran.after;
      passes = ran.passes;
      holds = subst (λ (n : Label). HasShape ran.after.vectors n len (out ∷ [])) (named_last (part_name word k) last last refl) (ran.ready.made last (omega arith));
      fresh = ran.fresh;
      kept = ran.kept;
      results = ran.results;
      small = ran.small;
      ascends = omega arith;
    }

-- ---- the run

delivered : (store env : Env) (word : Label) (b : Base) (steps : List Step) (v : Vector) (k : ℕ) → is_word word ≡ true → (r : Result (List Slot) Over) → Lands b (part_name word k) k (length steps - 1) v env r (run_from store (steps_value word b steps k).statements env) → Delivers store (steps_value word b steps) k env r (Holds v.len)
delivered store env word b steps v k w (Err e) h = h
delivered store env word b steps v k w (Ok slots) h =
    let stem = part_name word k in
    let last = length steps - 1 in
    record {
      after = h.after;
      ran = h.ran;
      holds = (subst (λ (n : Label). h.after n ≡ Some (column out v.len slots)) (named_last stem last last refl) h.value, below_next k (value_name stem) (value_has word k w));
      kept = h.kept;
      ascends = omega arith;
    }

pub run_law : RunLaw
run_law store env names word b steps v k w orderly low sees =
    let last = length steps - 1 in
    let none : ℕ → List Slot = λ i. [] in
    let start : AreMade b (part_name word k) last 0 v none env = record { base = sees; long = λ i. refl; each = λ m h. absurd (omega (arith, h)) } in
    delivered store env word b steps v k w (rest_cells b v steps none) (all_run store names b word k last v steps 0 none env w low (omega (arith, orderly.few)) (omega (arith, orderly.some)) orderly.scoped start)

-- ---- the steps of an expression

orderly_steps : (texts : List Bytes) (e : TypedExpr) → IsShort texts e → AreOrderly (names_in e) (steps_of texts e)
orderly_steps texts e short = record { some = let n = length-append constants (later_steps texts e) in omega (arith, n); few = short; scoped = scope_law texts e }

pub expr_check_law : ExprCheckLaw
expr_check_law tables texts e word b len k known w short small fresh places = check_law tables (names_in e) word b (steps_of texts e) len k known w (orderly_steps texts e short) small fresh places

pub expr_run_law : ExprRunLaw
expr_run_law store env texts e word b v k w short low sees = run_law store env (names_in e) word b (steps_of texts e) v k w (orderly_steps texts e short) low sees

-- there is a step behind the first two
some_later : (texts : List Bytes) (e : TypedExpr) → 0 < length (later_steps texts e)
some_later texts e = let c = lowered texts e 2 in let n = length-append c.steps (one pair.Fill c.result c.result (2 + length c.steps)).steps in omega (arith, n)

pub expr_use_law : ExprUseLaw
expr_use_law texts e word b k = use_law (names_in e) word b (later_steps texts e) k (scope_law texts e) (some_later texts e) (read_law texts e)
