-- A scatter as a gather by the places that write.
use Rattle.std.proofs.Common.{◌≡◌, ℕ, List, length, sym, ap, ◌∙◌}
use Rattle.control_vectors.specs.Slots.{Slot}
use Rattle.slot_moves.specs.Moves.{writers}
use Rattle.programs.specs.Mentions.{Label}
use Rattle.programs.specs.Vectors.{Vector, slots_of}
use Rattle.voodoo_ops.specs.Moves.{moved_to, scatter}
use Rattle.voodoo_ops.proofs.Lengths.{writers_long}

pub scattered_is : (a b : Vector) (pos : Label) (n size m : ℕ) (v w : Vector) (ps places : List Slot) → w ≡ record { len = length places; attributes = moved_to places v.attributes } → places ≡ writers n m ps → ps ≡ slots_of b.attributes pos → m ≡ a.len → n ≡ size → v ≡ a → scatter a size b pos ≡ w
scattered_is a b pos n size m v w ps places e p s em en ev =
    let long : length places ≡ n = ap (λ (l : List Slot). length l) p ∙ writers_long n m ps in
    sym (e ∙ ap (λ (k : ℕ). let u : Vector = record { len = k; attributes = moved_to places v.attributes } in u) long
    ∙ ap (λ (l : List Slot). let u : Vector = record { len = n; attributes = moved_to l v.attributes } in u) p
    ∙ ap (λ (q : List Slot). scatter_by n m q v) s ∙ ap (λ (k : ℕ). scatter_by n k (slots_of b.attributes pos) v) em ∙ ap (λ (k : ℕ). scatter_by k a.len (slots_of b.attributes pos) v) en ∙ ap (scatter_by size a.len (slots_of b.attributes pos)) ev)
  where
    scatter_by : ℕ → ℕ → List Slot → Vector → Vector
    scatter_by k j q u = record { len = k; attributes = moved_to (writers k j q) u.attributes }
