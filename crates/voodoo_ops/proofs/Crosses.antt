-- The places of two vectors side by side.
use Rattle.std.proofs.Common.{◌≡◌, ℕ, ◌*◌, List, length, ap, ◌∙◌}
use Rattle.control_vectors.specs.Slots.{Slot}
use Rattle.slot_moves.specs.Crosses.{left_places, right_places}
use Rattle.programs.specs.Mentions.{Label}
use Rattle.programs.specs.Vectors.{Vector, column}
use Rattle.voodoo_ops.specs.Attributes.{zipped}
use Rattle.voodoo_ops.specs.Ranges.{crossed}
use Rattle.voodoo_ops.proofs.Lengths.{left_long, right_long}
use Rattle.voodoo_ops.proofs.Seen.{column_long}

pub crossed_is : (p q : Label) (n m : ℕ) (a b left right : Vector) (xs ys : List Slot) → left ≡ column p (length xs) xs → right ≡ column q (length ys) ys → xs ≡ left_places n m → ys ≡ right_places n m → n ≡ a.len → m ≡ b.len → zipped left right ≡ crossed a.len p b.len q
crossed_is p q n m a b left right xs ys l r ex ey en em =
    let first = column_long p (n * m) (length xs) xs (left_places n m) left l ex (ap (λ (z : List Slot). length z) ex ∙ left_long n m) in
    let second = column_long q (n * m) (length ys) ys (right_places n m) right r ey (ap (λ (z : List Slot). length z) ey ∙ right_long n m) in
    ap (λ (v : Vector). zipped v right) first ∙ ap (zipped (column p (n * m) (left_places n m))) second
    ∙ ap (λ (k : ℕ). crossed k p m q) en ∙ ap (λ (k : ℕ). crossed a.len p k q) em
