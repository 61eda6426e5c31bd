-- Operators slot by slot over columns of rows.
use Rattle.std.proofs.Common.{◌≡◌, ◌∙◌, ℕ, ℤ, min, List, [], ◌∷◌, length, map, refl, sym, ap, arith, Option, Some, None, Ok}
use Rattle.std.specs.Prelude.{slice_index_or}
use Rattle.std.specs.List.{range_with_len}
use Rattle.std.proofs.lemmas.List.{length-map, get_or-map}
use Rattle.std.proofs.lemmas.List.Elements.{All-head, All-tail}
use Rattle.std.proofs.lemmas.List.FromFn.{fill_by_all}
use Rattle.control_vectors.specs.Slots.{Slot, Cell, cells_of, all_slots}
use Rattle.control_vectors.specs.declared.PairKind.{PairKind}
use Rattle.control_vectors.proofs.SlotLaws.{all_slots-cells_of}
use Rattle.programs.specs.declared.op.Operand.TheVariants.{Column, Number}
use Rattle.programs.specs.Mentions.{Label}
use Rattle.programs.specs.Vectors.{Env, known, column_of}
use Rattle.slot_wise.specs.Pairs.{pair_slot}
use Rattle.voodoo_ops.specs.Slotwise.{operand_at, pair_len, pair_cells}
use Rattle.held_rows.specs.Held.{Held, at, column}
use Rattle.held_rows.specs.Laws.{both_at}
use Rattle.held_rows.specs.Vectors.{Tells, number_at, AreSlots, PairLaws}
use Rattle.held_rows.proofs.RowPlaces.{asked}

-- cells place by place, of a list
pub each_place : {R : Type 0} (cell : R → Cell) (at_place : ℕ → Cell) (rs : List R) (d : R) (n : ℕ) → n ≡ length rs → ((i : ℕ) → at_place i ≡ cell (slice_index_or rs i d)) → map at_place (range_with_len 0 n) ≡ map cell rs
each_place cell at_place rs d n e same =
    sym (fill_by_all at_place (map cell rs) n (cell d) (length-map rs cell ∙ sym e)
    (λ i h. get_or-map cell rs i d (cell d) (omega (arith, h, e)) ∙ sym (same i)))

same_min : (n : ℕ) → min n n ≡ n
same_min n = omega arith

module _ {A : Type 0} (kind : PairKind) (env : Env) (held : Held A) where
  slot_told : (n p : Label) (f : A → Slot) → Tells env n p f held → (i : ℕ) → operand_at env (Column n p) i ≡ at f (slice_index_or held i None)
  slot_told n p f t i = ap (λ (l : List Slot). slice_index_or l i None) t.slots ∙ asked f held i

  both_is : (f g : A → Slot) (r : Option A) → pair_slot kind (at f r) (at g r) ≡ both_at kind f g r
  both_is f g None = refl
  both_is f g (Some a) = refl

  number_is : (f : A → Slot) (z : ℤ) (r : Option A) → pair_slot kind (at f r) (Some z) ≡ number_at kind f z r
  number_is f z None = refl
  number_is f z (Some a) = refl

  pub both_cells : (n p m q : Label) (f g : A → Slot) → Tells env n p f held → Tells env m q g held → pair_cells kind env (Column n p) (Column m q) ≡ map (both_at kind f g) held
  both_cells n p m q f g t u =
      let many : min (known (env n)).len (known (env m)).len ≡ length held = ap (λ (k : ℕ). min k (known (env m)).len) t.len ∙ ap (min (length held)) u.len ∙ same_min (length held) in
      each_place (both_at kind f g) (λ i. pair_slot kind (operand_at env (Column n p) i) (operand_at env (Column m q) i)) held None (pair_len env (Column n p) (Column m q)) many
      (λ i. ap (λ (x : Slot). pair_slot kind x (operand_at env (Column m q) i)) (slot_told n p f t i)
      ∙ ap (pair_slot kind (at f (slice_index_or held i None))) (slot_told m q g u i)
      ∙ both_is f g (slice_index_or held i None))

  pub number_cells : (n p : Label) (z : ℤ) (f : A → Slot) → Tells env n p f held → pair_cells kind env (Column n p) (Number z) ≡ map (number_at kind f z) held
  number_cells n p z f t =
      each_place (number_at kind f z) (λ i. pair_slot kind (operand_at env (Column n p) i) (operand_at env (Number z) i)) held None (pair_len env (Column n p) (Number z)) t.len
      (λ i. ap (λ (x : Slot). pair_slot kind x (Some z)) (slot_told n p f t i) ∙ number_is f z (slice_index_or held i None))

-- ---- where no place is Over

pub slots_are : {A : Type 0} (cell : Option A → Cell) (h : A → Slot) (held : Held A) → AreSlots cell h held → map cell held ≡ cells_of (column h held)
slots_are cell h [] e = refl
slots_are cell h (r ∷ held) e =
    let first : cell r ≡ Ok (at h r) = All-head (λ x. cell x ≡ Ok (at h x)) r held e in
    let others = slots_are cell h held (All-tail (λ x. cell x ≡ Ok (at h x)) r held e) in
    λ i. first i ∷ others i

made_by : {A : Type 0} (out : Label) (n : ℕ) (cells : List Cell) (cell : Option A → Cell) (h : A → Slot) (held : Held A) → n ≡ length held → cells ≡ map cell held → AreSlots cell h held
    → column_of out n (all_slots cells) ≡ column_of out (length held) (Ok (column h held))
made_by out n cells cell h held e is are =
    ap (λ (k : ℕ). column_of out k (all_slots cells)) e
    ∙ ap (λ (l : List Cell). column_of out (length held) (all_slots l)) (is ∙ slots_are cell h held are)
    ∙ ap (column_of out (length held)) (all_slots-cells_of (column h held))

pub pair_laws : {A : Type 0} → PairLaws A
pair_laws = record {
  cells = λ kind env n p m q held f g t u. both_cells kind env held n p m q f g t u;
  number = λ kind env n p z held f t. number_cells kind env held n p z f t;
  made = λ kind env n p m q out held f g h t u are.
      made_by out (pair_len env (Column n p) (Column m q)) (pair_cells kind env (Column n p) (Column m q)) (both_at kind f g) h held
      (ap (λ (k : ℕ). min k (known (env m)).len) t.len ∙ ap (min (length held)) u.len ∙ same_min (length held)) (both_cells kind env held n p m q f g t u) are;
  made_number = λ kind env n p out z held f h t are.
      made_by out (pair_len env (Column n p) (Number z)) (pair_cells kind env (Column n p) (Number z)) (number_at kind f z) h held t.len (number_cells kind env held n p z f t) are;
}
