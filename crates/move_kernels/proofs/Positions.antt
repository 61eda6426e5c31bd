-- What stands at a position, among cells none of which is Over.
use Rattle.std.proofs.Common.{◌≡◌, ℕ, pos, negsuc, Bool, true, false, List, length, sym, ap, ◌∙◌, refl, if◌then◌else◌, Some, None, Ok, Err}
use Rattle.std.specs.Prelude.{nat_lt, slice_get}
use Rattle.std.proofs.lemmas.Bool.{ltb-false}
use Rattle.control_vectors.specs.Slots.{Slot, Cell, has_over, slots_in}
use Rattle.slot_moves.specs.Moves.{place_in, slot_at}
use Rattle.sort_order.proofs.CellLaws.{over_at, slot_past, slot_there}

pub slot_found : (cells : List Cell) (position : Slot) (i : ℕ) (r : Cell) → has_over cells ≡ false → Some i ≡ place_in (length cells) position → slice_get cells i ≡ Some r → r ≡ Ok (slot_at (slots_in cells) position)
slot_found cells None i r h e at = absurd cc
slot_found cells (Some (negsuc n)) i r h e at = absurd cc
slot_found cells (Some (pos n)) i (Err v) h e at = let is = over_at cells i v at in absurd cc
slot_found cells (Some (pos n)) i (Ok s) h e at = by (nat_lt n (length cells)) e
  where
    by : (b : Bool) → Some i ≡ (if b then Some n else None) → ◌≡◌ {A = Cell} (Ok s) (Ok (slot_at (slots_in cells) (Some (pos n))))
    by true q =
        let same : i ≡ n = cc in
        ap (λ (t : Slot). Ok t) (sym (slot_there cells n s h (ap (slice_get cells) (sym same) ∙ at)))
    by false q = absurd cc

pub slot_absent : (cells : List Cell) (position : Slot) → None ≡ place_in (length cells) position → None ≡ slot_at (slots_in cells) position
slot_absent cells None e = refl
slot_absent cells (Some (negsuc n)) e = refl
slot_absent cells (Some (pos n)) e = by (nat_lt n (length cells)) refl e
  where
    by : (b : Bool) → nat_lt n (length cells) ≡ b → None ≡ (if b then Some n else None) → None ≡ slot_at (slots_in cells) (Some (pos n))
    by true t q = absurd cc
    by false t q = sym (slot_past cells n (ltb-false n (length cells) t))
