-- Conditions as slots, of which LogicalAnd makes one: it holds for the rows of which each condition is true.
-- After SQL-92 (ISO/IEC 9075:1992), 7.6 <where clause> and 8.12 <search condition>; the operators are those of Voodoo, PVLDB 9(14), 2016, table 2.
use Rattle.std.specs.Prelude.{◌≡◌, pos, List, [], ◌∷◌, ◌++◌, map, filter, fold, Some, Result, Ok}
use Rattle.std.specs.List.{All}
use Rattle.control_vectors.specs.Slots.{Slot}
use Rattle.control_vectors.specs.declared.Over.{Over}
use Rattle.control_vectors.specs.declared.PairKind.TheVariants.{Equals, LogicalAnd}
use Rattle.slot_folds.specs.Folds.{holds}
use Rattle.slot_wise.specs.Pairs.{conjunction}
use Rattle.typed_trees.specs.declared.kinds.Kind.TheVariants.{Truth}
use Rattle.typed_trees.specs.declared.typed.TypedExpr.{TypedExpr}
use Rattle.typed_values.specs.Values.{On, value}
use Rattle.value_laws.specs.Laws.{IsOf}
use Rattle.expr_steps.specs.Lowered.{Bytes}
use Rattle.expr_values.specs.Laws.{value_slot}
use Rattle.query_answers.specs.Answers.{condition}
use Rattle.query_answers.specs.Overs.{◌>>=◌, each, is_met, kept}
use Rattle.held_rows.specs.Held.{Held, one}
use Rattle.held_rows.specs.Laws.{both_at}
use Rattle.held_rows.specs.Vectors.{AreSlots}
use Rattle.held_values.specs.Lifted.{values_told}

-- 1, and each condition's slot in turn
abbrev pub truth_slot : List Bytes → List TypedExpr → On → Slot
truth_slot texts parts on = fold conjunction (Some (pos 1)) (map (λ e. value_slot texts (value on e)) parts)

-- of rows
abbrev pub truths_told : {A : Type 0} → List Bytes → (A → On) → List TypedExpr → A → Slot
truths_told texts on parts a = truth_slot texts parts (on a)

-- each condition is true, false, unknown or Over
abbrev pub AreTruths : List TypedExpr → On → Type 0
AreTruths parts on = All (λ e. IsOf Truth (value on e)) parts

-- each condition is evaluated on each row, one condition after another
abbrev pub all_evaluated : {A : Type 0} → (A → On) → List TypedExpr → List A → Result (Unit {0}) Over
all_evaluated on [] rows = Ok tt
all_evaluated on (e ∷ parts) rows = each (λ a. value (on a) e) rows >>= λ values. all_evaluated on parts rows

pub record TruthLaws (A : Type 0) : Type 0 where
  -- a mark that equals itself is 1, as the conjunction of no condition is
  pub first : (held : Held A) → AreSlots (both_at Equals one one) one held
  -- a condition more
  pub more : (texts : List Bytes) (on : A → On) (parts : List TypedExpr) (e : TypedExpr) (held : Held A)
      → AreSlots (both_at LogicalAnd (truths_told texts on parts) (values_told texts on e)) (truths_told texts on (parts ++ e ∷ [])) held
  -- the slot holds just where the condition is true
  pub met : (texts : List Bytes) (parts : List TypedExpr) (on : On) → AreTruths parts on → holds (truth_slot texts parts on) ≡ is_met (condition parts on)
  -- the rows for which it holds are those that are kept
  pub kept_rows : (texts : List Bytes) (on : A → On) (parts : List TypedExpr) (rows : List A) → All (λ a. AreTruths parts (on a)) rows
      → kept (λ a. condition parts (on a)) rows ≡ (all_evaluated on parts rows >>= λ u. Ok (filter (λ a. holds (truths_told texts on parts a)) rows))
