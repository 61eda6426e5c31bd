-- The statements of an expression over a base are those of its steps, whose numbers have 64 bits.
use Rattle.std.proofs.Common.{◌≡◌, ℕ, ◌≤◌, ◌^◌, true, List, [], ◌∷◌, arith}
use Rattle.control_vectors.specs.Slots.{Slot, all_slots}
use Rattle.programs.specs.Mentions.{Label}
use Rattle.programs.specs.Outlines.{Shapes}
use Rattle.programs.specs.Vectors.{Vector, Env, column}
use Rattle.typed_trees.specs.declared.typed.TypedExpr.{TypedExpr}
use Rattle.query_sizes.specs.Sizes.{nodes}
use Rattle.expr_steps.specs.Lowered.{Bytes}
use Rattle.expr_counts.specs.Counts.{CountLaw}
use Rattle.expr_lower.specs.Statements.{aggregate_path}
use Rattle.expr_scopes.specs.Scopes.{names_in}
use Rattle.expr_programs.specs.Laws.{IsShort}
use Rattle.expr_programs.specs.Values.{HasPlaces}
use Rattle.expr_programs.specs.Values as steps
use Rattle.expr_programs.proofs.Whole.{expr_run_law, expr_check_law, expr_use_law}
use Rattle.held_values.specs.Lifted.{Paths, expr_cells}
use Rattle.program_writers.specs.Names.{IsBelow, is_word}
use Rattle.program_writers.specs.Statements.{out, mark}
use Rattle.plan_programs.specs.Sites.{Base, value_of, path_in}
use Rattle.writer_checks.specs.Checks.{PassesFrom, HasShape}
use Rattle.writer_runs.specs.Runs.{Delivers, Sees}
use Rattle.lowered_kept.specs.Values.{ValueUses}

-- the attributes of a base's vector
abbrev pub paths_in : Base → Paths
paths_in b = record { mark = mark; column = path_in b; aggregate = aggregate_path b.aggregates }

abbrev pub bare : Base → steps.Base
bare b = record { vector = b.vector; columns = b.columns; aggregates = b.aggregates }

is_short : CountLaw → (texts : List Bytes) (e : TypedExpr) → nodes e ≤ 2176 → IsShort texts e
is_short counts texts e few = let n = counts texts e in omega (arith, n, few)

-- the slots that the last step makes, under the name that is told
abbrev pub Made : ℕ → List Slot → Label → ℕ → Env → Type 0
Made len slots name next after = Sees after name (column out len slots) × IsBelow next name

pub statements_run : CountLaw → (texts : List Bytes) (store env : Env) (b : Base) (word : Label) (e : TypedExpr) (k : ℕ) (v : Vector) → nodes e ≤ 2176 → is_word word ≡ true → IsBelow k b.vector → Sees env b.vector v
    → Delivers store (value_of texts word b e) k env (all_slots (expr_cells texts v (paths_in b) e)) (Made v.len)
statements_run counts texts store env b word e k v few w below sees = expr_run_law store env texts e word (bare b) v k w (is_short counts texts e few) below sees

pub statements_pass : CountLaw → (tables : Shapes) (texts : List Bytes) (word : Label) (len : ℕ) (b : Base) (e : TypedExpr) → nodes e ≤ 2176 → is_word word ≡ true → len ≤ 2 ^ 22
    → PassesFrom tables (value_of texts word b e) (λ shapes. HasPlaces (names_in e) shapes (bare b) len) (λ name shapes. HasShape shapes name len (out ∷ []))
statements_pass counts tables texts word len b e few w small k known fresh places = expr_check_law tables texts e word (bare b) len k known w (is_short counts texts e few) small fresh places

pub value_uses : ValueUses
value_uses texts word b e k = expr_use_law texts e word (bare b) k
