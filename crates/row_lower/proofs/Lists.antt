-- An item of a list, whatever stands for one that is not there.
use Rattle.std.proofs.Common.{◌≡◌, ℕ, zero, suc, ◌<◌, List, [], ◌∷◌, length, get_or, refl, arith}

pub any_default : {A : Type 0} (l : List A) (i : ℕ) (d : A) → i < length l → get_or l i d ≡ get_or l i (get_or l i d)
any_default [] i d h = absurd (omega (arith, h))
any_default (x ∷ l) zero d h = refl
any_default (x ∷ l) (suc i) d h = any_default l i d (omega (arith, h))
