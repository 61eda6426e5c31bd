-- Pairs of a bucket and its place, and how many are lower than another.
use Rattle.std.specs.Prelude.{ℕ, ◌+◌, ℤ, pos, List, [], ◌∷◌, count_by, Some, None}
use Rattle.std.specs.Ordering.{is_lt, int_cmp, nat_cmp, ordering_then}
use Rattle.std.specs.declared.cmp.Ordering.{Ordering}
use Rattle.control_vectors.specs.Slots.{Slot}

-- by the bucket, then by the place
abbrev pub pair_cmp : ℤ × ℕ → ℤ × ℕ → Ordering
pair_cmp p q = ordering_then (int_cmp p.0 q.0) (nat_cmp p.1 q.1)

-- a bucket with its place, unless it is empty
abbrev pub one_pair : Slot → ℕ → List (ℤ × ℕ)
one_pair None i = []
one_pair (Some b) i = (b, i) ∷ []

-- those of some buckets, the first of which stands at place i
abbrev pub pairs_from : ℕ → List Slot → List (ℤ × ℕ)
pairs_from i [] = []
pairs_from i (None ∷ buckets) = pairs_from (i + 1) buckets
pairs_from i (Some b ∷ buckets) = (b, i) ∷ pairs_from (i + 1) buckets

-- how many pairs are lower than (b, i)
abbrev pub lower_pairs : List (ℤ × ℕ) → ℤ → ℕ → ℕ
lower_pairs pairs b i = count_by (λ p. is_lt (pair_cmp p (b, i))) pairs

abbrev pub rank_slot : List (ℤ × ℕ) → Slot → ℕ → Slot
rank_slot pairs None i = None
rank_slot pairs (Some b) i = Some (pos (lower_pairs pairs b i))
