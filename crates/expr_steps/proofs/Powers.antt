-- The powers of ten that numbers are rescaled by have 128 bits.
use Rattle.std.proofs.Common.{◌≡◌, ℕ, pos, ◌^◌, ◌<◌, ◌≤◌, Bool, Some, None, if◌then◌else◌, ap, arith}
use Rattle.std.proofs.Math.Nat.{pow-le-pow_right}
use Rattle.std.proofs.lemmas.Bool.{lt-ltb}
use Rattle.control_vectors.specs.Slots.{in_128_bits}

pub power_fits : (n : ℕ) → n ≤ 37 → in_128_bits (pos (10 ^ n)) ≡ Some (pos (10 ^ n))
power_fits n h =
    let most : 10 ^ n ≤ 10 ^ 37 = pow-le-pow_right (omega arith) h in
    let below : 10 ^ n < 2 ^ 127 = omega arith in
    ap (λ (b : Bool). if b then Some (pos (10 ^ n)) else None) (lt-ltb (10 ^ n) (2 ^ 127) below)
