-- What the operands of a slot-wise operator give.
use Rattle.std.proofs.Common.{◌≡◌, ℕ, ℤ, List, map, refl, ap, ◌∙◌, None}
use Rattle.std.specs.Prelude.{slice_index_or}
use Rattle.std.specs.List.{range_with_len}
use Rattle.std.proofs.Math.Path.{fun_ext}
use Rattle.std.proofs.lemmas.List.FromFn.{length-map-range_with_len}
use Rattle.control_vectors.specs.Slots.{Slot, Cell, all_slots}
use Rattle.control_vectors.specs.declared.PairKind.{PairKind}
use Rattle.slot_wise.specs.declared.source.Source.{Source}
use Rattle.slot_wise.specs.declared.source.Source.TheVariants.{Column, Number}
use Rattle.slot_wise.specs.Pairs.{pair_slot, bit_shift_slot}
use Rattle.slot_wise.specs.Sources.{source_at, source_len}
use Rattle.programs.specs.declared.op.Operand.{Operand}
use Rattle.programs.specs.declared.op.Operand.TheVariants as operand
use Rattle.programs.specs.Mentions.{Label}
use Rattle.programs.specs.Vectors.{Env, known, slots_of}
use Rattle.voodoo_ops.specs.Slotwise.{operand_at, pair_len, pair_cells, shift_cells}
use Rattle.voodoo_ops.specs.Reading.{Reads, SameLength}
use Rattle.voodoo_ops.specs.Stops.{HaveLength}
use Rattle.voodoo_ops.proofs.Seen.{cells_long}

pub reads_column : (env : Env) (a p : Label) (x : Operand) (s : Source) (slots : List Slot) → x ≡ operand.Column a p → ((i : ℕ) → source_at s i ≡ slice_index_or slots i None) → SameLength env (operand.Column a p) s → slots ≡ slots_of (known (env a)).attributes p → Reads env x s
reads_column env a p x s slots e at len is =
    rw e (record { slots = λ i. at i ∙ ap (λ (xs : List Slot). slice_index_or xs i None) is; len = len })

-- the length and the cells of both
pub pair_len_is : (env : Env) (x y : Operand) (r s : Source) → SameLength env x r → SameLength env y s → source_len r s ≡ pair_len env x y
pair_len_is env (operand.Column a p) (operand.Column b q) (Column c) (Column d) h k = rw (h, k) refl
pair_len_is env (operand.Column a p) (operand.Column b q) (Column c) (Number z) h k = absurd k
pair_len_is env (operand.Column a p) (operand.Column b q) (Number z) s h k = absurd h
pair_len_is env (operand.Column a p) (operand.Number w) (Column c) (Column d) h k = absurd k
pair_len_is env (operand.Column a p) (operand.Number w) (Column c) (Number z) h k = h
pair_len_is env (operand.Column a p) (operand.Number w) (Number z) s h k = absurd h
pair_len_is env (operand.Number z) (operand.Column b q) (Column c) s h k = absurd h
pair_len_is env (operand.Number z) (operand.Column b q) (Number w) (Column d) h k = k
pair_len_is env (operand.Number z) (operand.Column b q) (Number w) (Number u) h k = absurd k
pair_len_is env (operand.Number z) (operand.Number w) (Column c) s h k = absurd h
pair_len_is env (operand.Number z) (operand.Number w) (Number u) (Column d) h k = absurd k
pair_len_is env (operand.Number z) (operand.Number w) (Number u) (Number t) h k = refl

pub pair_cells_are : (kind : PairKind) (env : Env) (x y : Operand) (r s : Source) (n : ℕ) → Reads env x r → Reads env y s → n ≡ source_len r s → map (λ i. pair_slot kind (source_at r i) (source_at s i)) (range_with_len 0 n) ≡ pair_cells kind env x y
pair_cells_are kind env x y r s n hx hy e =
    let cells : (λ (i : ℕ). pair_slot kind (source_at r i) (source_at s i)) ≡ (λ (i : ℕ). pair_slot kind (operand_at env x i) (operand_at env y i)) = fun_ext (λ i. ap (λ (a : Slot). pair_slot kind a (source_at s i)) (hx.slots i) ∙ ap (pair_slot kind (operand_at env x i)) (hy.slots i)) in
    ap (λ (f : ℕ → Cell). map f (range_with_len 0 n)) cells
    ∙ ap (λ (k : ℕ). map (λ i. pair_slot kind (operand_at env x i) (operand_at env y i)) (range_with_len 0 k)) (e ∙ pair_len_is env x y r s hx.len hy.len)

pub shift_cells_are : (env : Env) (x : Operand) (by : ℤ) (s : Source) (n : ℕ) → Reads env x s → n ≡ source_len s s → map (λ i. bit_shift_slot by (source_at s i)) (range_with_len 0 n) ≡ shift_cells env x by
shift_cells_are env x by s n h e =
    let cells : (λ (i : ℕ). bit_shift_slot by (source_at s i)) ≡ (λ (i : ℕ). bit_shift_slot by (operand_at env x i)) = fun_ext (λ i. ap (bit_shift_slot by) (h.slots i)) in
    ap (λ (f : ℕ → Cell). map f (range_with_len 0 n)) cells
    ∙ ap (λ (k : ℕ). map (λ i. bit_shift_slot by (operand_at env x i)) (range_with_len 0 k)) (e ∙ pair_len_is env x x s s h.len h.len)

pub pair_cells_long : (kind : PairKind) (env : Env) (x y : Operand) → HaveLength (pair_len env x y) (all_slots (pair_cells kind env x y))
pair_cells_long kind env x y = cells_long (pair_len env x y) (pair_cells kind env x y) (length-map-range_with_len (λ i. pair_slot kind (operand_at env x i) (operand_at env y i)) 0 (pair_len env x y))

pub shift_cells_long : (env : Env) (x : Operand) (by : ℤ) → HaveLength (pair_len env x x) (all_slots (shift_cells env x by))
shift_cells_long env x by = cells_long (pair_len env x x) (shift_cells env x by) (length-map-range_with_len (λ i. bit_shift_slot by (operand_at env x i)) 0 (pair_len env x x))
