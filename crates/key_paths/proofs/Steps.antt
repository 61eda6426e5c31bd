-- How far a text has been read, and what one byte more makes of it.
use Rattle.std.proofs.Common.{◌≡◌, ℕ, ◌+◌, ◌≤◌, ◌<◌, Bool, true, false, ◌&&◌, not, cond, refl, arith, ◌⊎◌, inl, inr}
use Rattle.std.specs.Prelude.{Ok, Err, nat_le, nat_eq}
use Rattle.std.proofs.lemmas.Bool.Decides.{nat_tests}
use Rattle.key_paths.specs.Paths.{is_dot, begins_segment, is_in_segment}
use Rattle.key_paths.specs.Reading.{reached, step_of}
use Rattle.key_paths.specs.declared.reading.Reached.{Reached}
use Rattle.key_paths.specs.declared.refusal.PathKind.{PathKind}
use Rattle.key_paths.specs.declared.refusal.PathKind.TheVariants.{NoDot, EmptySegment, SegmentTooLong, TooDeep, BadByte}

-- the step that was made
pub data Stepped (r : Reached) (b : ℕ) (next : Reached) : Type 0 where
  dot : is_dot b ≡ true → (r.segments ≡ 0) ⊎ (0 < r.width) → r.segments < 8 → next ≡ reached (r.segments + 1) 0 → Stepped r b next
  first : is_dot b ≡ false → 0 < r.segments → r.width ≡ 0 → begins_segment b ≡ true → next ≡ reached r.segments 1 → Stepped r b next
  inner : is_dot b ≡ false → 0 < r.segments → 0 < r.width → is_in_segment b ≡ true → r.width < 64 → next ≡ reached r.segments (r.width + 1) → Stepped r b next

-- why no step was made
pub data Refused (r : Reached) (b : ℕ) (kind : PathKind) : Type 0 where
  no_dot : is_dot b ≡ false → r.segments ≡ 0 → kind ≡ NoDot → Refused r b kind
  empty : is_dot b ≡ true → 0 < r.segments → r.width ≡ 0 → kind ≡ EmptySegment → Refused r b kind
  deep : is_dot b ≡ true → 0 < r.segments → 0 < r.width → kind ≡ TooDeep → Refused r b kind
  bad_first : is_dot b ≡ false → 0 < r.segments → r.width ≡ 0 → kind ≡ BadByte → Refused r b kind
  bad_inner : is_dot b ≡ false → 0 < r.segments → 0 < r.width → is_in_segment b ≡ false → kind ≡ BadByte → Refused r b kind
  long : is_dot b ≡ false → 0 < r.segments → is_in_segment b ≡ true → 64 ≤ r.width → kind ≡ SegmentTooLong → Refused r b kind

-- the outcome of a choice
pub choice : {X : Type 0} (c : Bool) (x y z : X) → cond c x y ≡ z → ((c ≡ true) × (x ≡ z)) ⊎ ((c ≡ false) × (y ≡ z))
choice true x y z e = inl (refl, e)
choice false x y z e = inr (refl, e)

pub above_zero : (n : ℕ) → nat_eq n 0 ≡ false → 0 < n
above_zero n h = grind (arith, nat_tests)

pub is_zero : (n : ℕ) → nat_eq n 0 ≡ true → n ≡ 0
is_zero n h = grind (arith, nat_tests)

pub either : (a b : Bool) → (not a && b) ≡ false → (a ≡ true) ⊎ (b ≡ false)
either true b h = inl refl
either false b h = inr h

both : (a b : Bool) → (not a && b) ≡ true → (a ≡ false) × (b ≡ true)
both true b h = cc
both false b h = (refl, h)

no_width : (m n : ℕ) → (not (nat_eq m 0) && nat_eq n 0) ≡ false → (m ≡ 0) ⊎ (0 < n)
no_width m n h = elim (either (nat_eq m 0) (nat_eq n 0) h) [ inl e ↦ inl (is_zero m e) | inr e ↦ inr (above_zero n e) ]

some_width : (m n : ℕ) → (not (nat_eq m 0) && nat_eq n 0) ≡ true → (0 < m) × (n ≡ 0)
some_width m n h = let p = both (nat_eq m 0) (nat_eq n 0) h in (above_zero m p.0, is_zero n p.1)

below : (m n : ℕ) → nat_le m n ≡ false → n < m
below m n h = grind (arith, nat_tests)

at_least : (m n : ℕ) → nat_le m n ≡ true → m ≤ n
at_least m n h = grind (arith, nat_tests)

not_true_false : (b : Bool) → not b ≡ true → b ≡ false
not_true_false true h = cc
not_true_false false h = refl

not_false_true : (b : Bool) → not b ≡ false → b ≡ true
not_false_true true h = refl
not_false_true false h = cc

deep_width : (m n : ℕ) → (m ≡ 0) ⊎ (0 < n) → 8 ≤ m → 0 < n
deep_width m n (inl z) h = omega arith
deep_width m n (inr k) h = k

pub stepped : (r : Reached) (b : ℕ) (next : Reached) → step_of r b ≡ Ok next → Stepped r b next
stepped r b next e =
    elim (choice (is_dot b) _ _ _ e) [
      | inl p ↦
          elim (choice (not (nat_eq r.segments 0) && nat_eq r.width 0) _ _ _ p.1) [
            | inl q ↦ absurd (cc q.1)
            | inr q ↦
                elim (choice (nat_le 8 r.segments) _ _ _ q.1) [
                  | inl t ↦ absurd (cc t.1)
                  | inr t ↦ dot p.0 (no_width _ _ q.0) (below 8 r.segments t.0) (cc t.1)
                ]
          ]
      | inr p ↦
          elim (choice (nat_eq r.segments 0) _ _ _ p.1) [
            | inl q ↦ absurd (cc q.1)
            | inr q ↦
                elim (choice (nat_eq r.width 0) _ _ _ q.1) [
                  | inl t ↦
                      elim (choice (begins_segment b) _ _ _ t.1) [
                        | inl u ↦ first p.0 (above_zero _ q.0) (is_zero _ t.0) u.0 (cc u.1)
                        | inr u ↦ absurd (cc u.1)
                      ]
                  | inr t ↦
                      elim (choice (not (is_in_segment b)) _ _ _ t.1) [
                        | inl u ↦ absurd (cc u.1)
                        | inr u ↦
                            elim (choice (nat_le 64 r.width) _ _ _ u.1) [
                              | inl v ↦ absurd (cc v.1)
                              | inr v ↦ inner p.0 (above_zero _ q.0) (above_zero _ t.0) (not_false_true _ u.0) (below 64 r.width v.0) (cc v.1)
                            ]
                      ]
                ]
          ]
    ]

pub refused : (r : Reached) (b : ℕ) (kind : PathKind) → step_of r b ≡ Err kind → Refused r b kind
refused r b kind e =
    elim (choice (is_dot b) _ _ _ e) [
      | inl p ↦
          elim (choice (not (nat_eq r.segments 0) && nat_eq r.width 0) _ _ _ p.1) [
            | inl q ↦ let z = some_width r.segments r.width q.0 in empty p.0 z.0 z.1 (cc q.1)
            | inr q ↦
                elim (choice (nat_le 8 r.segments) _ _ _ q.1) [
                  | inl t ↦
                      let most : 8 ≤ r.segments = at_least 8 r.segments t.0 in
                      deep p.0 (omega arith) (deep_width r.segments r.width (no_width r.segments r.width q.0) most) (cc t.1)
                  | inr t ↦ absurd (cc t.1)
                ]
          ]
      | inr p ↦
          elim (choice (nat_eq r.segments 0) _ _ _ p.1) [
            | inl q ↦ no_dot p.0 (is_zero _ q.0) (cc q.1)
            | inr q ↦
                elim (choice (nat_eq r.width 0) _ _ _ q.1) [
                  | inl t ↦
                      elim (choice (begins_segment b) _ _ _ t.1) [
                        | inl u ↦ absurd (cc u.1)
                        | inr u ↦ bad_first p.0 (above_zero _ q.0) (is_zero _ t.0) (cc u.1)
                      ]
                  | inr t ↦
                      elim (choice (not (is_in_segment b)) _ _ _ t.1) [
                        | inl u ↦ bad_inner p.0 (above_zero _ q.0) (above_zero _ t.0) (not_true_false _ u.0) (cc u.1)
                        | inr u ↦
                            elim (choice (nat_le 64 r.width) _ _ _ u.1) [
                              | inl v ↦ long p.0 (above_zero _ q.0) (not_false_true _ u.0) (at_least 64 r.width v.0) (cc v.1)
                              | inr v ↦ absurd (cc v.1)
                            ]
                      ]
                ]
          ]
    ]
