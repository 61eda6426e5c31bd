-- Closed operations: the control vector whose values are those of another with a number added to each, times a number, divided by one, or the rest by one
-- (the operators that keep a control vector's four numbers known: the Voodoo paper, section 2.2).
use Rattle.std.specs.Prelude.{ℕ, ◌*◌, ◌/◌, ◌%◌, ◌^◌, ◌==◌, nat_le, ℤ, pos, negsuc, neg_ℤ, ◌+ℤ◌, ◌*ℤ◌, int_le, Bool, ◌&&◌, if◌then◌else◌, Option, Some, None}
use Rattle.std.specs.Ordering.{int_eq}
use Rattle.control_vectors.specs.Controls.{Control, control_of}

-- whether the four numbers lie in their ranges
abbrev pub is_admissible : Control → Bool
is_admissible c =
    int_le (neg_ℤ (pos (2 ^ 62))) c.start
    && int_le c.start (pos (2 ^ 62))
    && nat_le c.step (2 ^ 31)
    && nat_le c.modulus (2 ^ 31)
    && nat_le 1 c.divisor
    && nat_le c.divisor (2 ^ 31)

-- a control vector, where its numbers lie in their ranges
abbrev pub if_admissible : Control → Option Control
if_admissible c = if is_admissible c then Some c else None

-- whether a number, at least 1, divides another
abbrev pub is_multiple : ℕ → ℕ → Bool
is_multiple n d = n % d == 0

-- a number added to each value
abbrev pub shifted_control : Control → ℤ → Option Control
shifted_control c k = if_admissible (control_of (c.start +ℤ k) c.step c.modulus c.divisor)

-- each value times k, where k is at least 1 and no quotient is rounded down
abbrev pub scaled_control : Control → ℕ → Option Control
scaled_control c k = if nat_le 1 k && c.divisor == 1 then if_admissible (control_of (pos k *ℤ c.start) (k * c.step) (k * c.modulus) 1) else None

-- each value divided by d, which divides a start of at least 0 and the modulus
abbrev pub divided_start : ℤ → Control → ℕ → Option Control
divided_start (negsuc n) c d = None
divided_start (pos s) c d =
    if nat_le 1 d && is_multiple s d && is_multiple c.modulus d && nat_le (c.divisor * d) (2 ^ 31)
    then Some (control_of (pos (s / d)) c.step (c.modulus / d) (c.divisor * d))
    else None

abbrev pub divided_control : Control → ℕ → Option Control
divided_control c d = divided_start c.start c d

-- the rest of each value by m, where the values begin at 0 and go around at a multiple of m, or never
abbrev pub reduced_control : Control → ℕ → Option Control
reduced_control c m =
    if int_eq c.start (pos 0) && nat_le 1 m && nat_le m (2 ^ 31) && is_multiple c.modulus m
    then Some (control_of (pos 0) c.step m c.divisor)
    else None
