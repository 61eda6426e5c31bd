-- Operators that are never Over make their vectors.
use Rattle.std.proofs.Common.{◌≡◌, ℕ, zero, suc, ◌-◌, Bool, true, false, if◌then◌else◌, List, [], ◌∷◌, length, map, replicate, ℤ, pos, refl, ◌∙◌, Option, Some, None, Result, Ok, Err}
use Rattle.std.specs.List.{range_with_len, flat_map}
use Rattle.std.specs.Prelude.{int_lt}
use Rattle.std.specs.Int.{int_rem_euclid}
use Rattle.control_vectors.specs.Slots.{Slot, Cell, over, has_over, slots_in, all_slots}
use Rattle.control_vectors.specs.Folds.{fold_slots}
use Rattle.control_vectors.specs.Runs.{runs}
use Rattle.control_vectors.specs.declared.FoldKind.{FoldKind}
use Rattle.control_vectors.specs.declared.FoldKind.TheVariants as number
use Rattle.control_vectors.specs.declared.Over.{Over}
use Rattle.control_vectors.specs.declared.PairKind.{PairKind}
use Rattle.control_vectors.specs.declared.PairKind.TheVariants as pair
use Rattle.control_vectors.proofs.SlotLaws.{has_over-append}
use Rattle.slot_folds.specs.Folds.{fold_run, folded}
use Rattle.slot_wise.specs.Pairs.{of_both, rest, pair_slot}
use Rattle.programs.specs.declared.family.FoldOperator.{FoldOperator}
use Rattle.programs.specs.declared.family.FoldOperator.TheVariants as fold
use Rattle.programs.specs.declared.op.FoldArgs.{FoldArgs}
use Rattle.programs.specs.declared.op.PairArgs.{PairArgs}
use Rattle.programs.specs.Families.{Family, Load, Persist, Range, Cross, Zip, Project, Upsert, Gather, Scatter, Rank, Materialize, Break, Fold, Order, Pair, BitShift}
use Rattle.programs.specs.Mentions.{Label}
use Rattle.programs.specs.Vectors.{Vector, Env, slots_of, column, column_of}
use Rattle.voodoo_ops.specs.Folds.{folded_by}
use Rattle.voodoo_ops.specs.Meaning.{effect_by}
use Rattle.voodoo_ops.specs.Runs.{run_marks}
use Rattle.voodoo_ops.specs.Slotwise.{operand_at, pair_len, pair_cells, paired}
use Rattle.writer_runs.specs.Uses.{pair_never_over, fold_never_over, never_over_by}

-- ---- cells

abbrev pub IsCalm : Cell → Type 0
IsCalm (Err e) = ⊥
IsCalm (Ok s) = Unit {0}

calm_cons : (c : Cell) (cells : List Cell) → IsCalm c → has_over cells ≡ false → has_over (c ∷ cells) ≡ false
calm_cons (Err e) cells h n = absurd h
calm_cons (Ok s) cells h n = n

calm_map : (f : ℕ → Cell) → ((i : ℕ) → IsCalm (f i)) → (is : List ℕ) → has_over (map f is) ≡ false
calm_map f h [] = refl
calm_map f h (i ∷ is) = calm_cons (f i) (map f is) (h i) (calm_map f h is)

-- ---- a vector that is made

pub record Calm (r : Option (Result Vector Over)) : Type 0 where
  pub made : Vector
  pub is : r ≡ Some (Ok made)

calm : (v : Vector) → Calm (Some (Ok v))
calm v = record { made = v; is = refl }

calm_if : (p : Label) (n : ℕ) (b : Bool) (xs : List Slot) → b ≡ false → Calm (Some (column_of p n (if b then Err over else Ok xs)))
calm_if p n true xs e = absurd cc
calm_if p n false xs e = calm (column p n xs)

calm_column : (p : Label) (n : ℕ) (cells : List Cell) → has_over cells ≡ false → Calm (Some (column_of p n (all_slots cells)))
calm_column p n cells e = calm_if p n (has_over cells) (slots_in cells) e

-- ---- slot by slot

both_calm : (f : ℤ → ℤ → Cell) → ((a b : ℤ) → IsCalm (f a b)) → (x y : Slot) → IsCalm (of_both f x y)
both_calm f h None y = tt
both_calm f h (Some a) None = tt
both_calm f h (Some a) (Some b) = h a b

if_calm : (b : Bool) (s : Slot) → IsCalm (if b then Ok None else Ok s)
if_calm true s = tt
if_calm false s = tt

pair_calm : (kind : PairKind) (x y : Slot) → pair_never_over kind ≡ true → IsCalm (pair_slot kind x y)
pair_calm pair.Add x y h = absurd cc
pair_calm pair.Subtract x y h = absurd cc
pair_calm pair.Multiply x y h = absurd cc
pair_calm pair.Divide x y h = absurd cc
pair_calm pair.Modulo x y h = both_calm rest (λ a b. if_calm (int_lt b (pos 1)) (Some (int_rem_euclid a b))) x y
pair_calm pair.Greater x y h = both_calm _ (λ a b. tt) x y
pair_calm pair.Equals x y h = both_calm _ (λ a b. tt) x y
pair_calm pair.LogicalAnd x y h = tt
pair_calm pair.LogicalOr x y h = tt
pair_calm pair.Fill x y h = tt

paired_calm : (kind : PairKind) (env : Env) (p : PairArgs) → pair_never_over kind ≡ true → Calm (Some (paired kind env p))
paired_calm kind env p h =
    calm_column p.out (pair_len env p.x p.y) (pair_cells kind env p.x p.y)
    (calm_map (λ i. pair_slot kind (operand_at env p.x i) (operand_at env p.y i)) (λ i. pair_calm kind (operand_at env p.x i) (operand_at env p.y i) h) (range_with_len 0 (pair_len env p.x p.y)))

-- ---- folds

blank_calm : (n : ℕ) → has_over (replicate n (Ok None)) ≡ false
blank_calm zero = refl
blank_calm (suc n) = blank_calm n

runs_calm : (kind : FoldKind) → ((run : List Slot) → IsCalm (fold_slots kind run)) → (rs : List (List Slot)) → has_over (flat_map (fold_run kind) rs) ≡ false
runs_calm kind h [] = refl
runs_calm kind h (run ∷ rs) =
    has_over-append (fold_run kind run) (flat_map (fold_run kind) rs) (calm_cons (fold_slots kind run) (replicate (length run - 1) (Ok None)) (h run) (blank_calm (length run - 1)))
    ∙ runs_calm kind h rs

folded_calm : (kind : FoldOperator) (v : Vector) (f : FoldArgs) → fold_never_over kind ≡ true → Calm (Some (folded_by kind v f))
folded_calm fold.Sum v f h = absurd cc
folded_calm fold.Min v f h = calm_column f.out v.len (folded number.Min (run_marks v f.run) (slots_of v.attributes f.val)) (runs_calm number.Min (λ run. tt) (runs (run_marks v f.run) (slots_of v.attributes f.val)))
folded_calm fold.Max v f h = calm_column f.out v.len (folded number.Max (run_marks v f.run) (slots_of v.attributes f.val)) (runs_calm number.Max (λ run. tt) (runs (run_marks v f.run) (slots_of v.attributes f.val)))
folded_calm fold.Select v f h = calm _
folded_calm fold.Scan v f h = absurd cc

-- ---- operators

pub never_over_makes : (store env : Env) (f : Family) → never_over_by f ≡ true → Calm (effect_by store env f)
never_over_makes store env (Load t) h = calm _
never_over_makes store env (Persist a) h = absurd cc
never_over_makes store env (Range size p control) h = calm _
never_over_makes store env (Cross a p b q) h = calm _
never_over_makes store env (Zip a b) h = calm _
never_over_makes store env (Project a p q) h = calm _
never_over_makes store env (Upsert a p b q) h = calm _
never_over_makes store env (Gather a b at) h = calm _
never_over_makes store env (Scatter a size b at) h = calm _
never_over_makes store env (Rank kind r) h = calm _
never_over_makes store env (Materialize a) h = calm _
never_over_makes store env (Break a) h = calm _
never_over_makes store env (Fold kind f) h = folded_calm kind _ f h
never_over_makes store env (Order a mark out keys) h = calm _
never_over_makes store env (Pair kind p) h = paired_calm kind env p h
never_over_makes store env (BitShift x by out) h = absurd cc
