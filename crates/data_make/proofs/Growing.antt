-- A table with a row more.
use Rattle.std.proofs.Common.{◌≡◌, ◌∙◌, ℕ, ◌+◌, ◌-◌, ◌≤◌, List, [], ◌∷◌, ◌++◌, sym, ap, arith}
use Rattle.std.specs.List.{flat_map, range_with_len}
use Rattle.std.proofs.lemmas.List.{flat_map_more, map-id}
use Rattle.std.proofs.lemmas.List.FromFn.{map-range_with_len_more}
use Rattle.data_make.specs.Job.{header, made_row}

numbers_more : (i : ℕ) → 1 ≤ i → range_with_len 1 (i + 1 - 1) ≡ range_with_len 1 (i - 1) ++ i ∷ []
numbers_more i h =
    let count : i + 1 - 1 ≡ i - 1 + 1 = omega (arith, h) in
    ap (range_with_len 1) count ∙ sym (map-id (range_with_len 1 (i - 1 + 1))) ∙ map-range_with_len_more (λ (k : ℕ). k) 1 (i - 1) i (omega (arith, h)) ∙ ap (λ l. l ++ i ∷ []) (map-id (range_with_len 1 (i - 1)))

-- the rows before row i, and row i
pub row_more : (seed i : ℕ) (old new : List ℕ) → 1 ≤ i → old ≡ header ++ flat_map (made_row seed) (range_with_len 1 (i - 1)) → new ≡ old ++ made_row seed i
    → new ≡ header ++ flat_map (made_row seed) (range_with_len 1 (i + 1 - 1))
row_more seed i old new h before after =
    after ∙ ap (λ l. l ++ made_row seed i) before ∙ flat_map_more (made_row seed) header (range_with_len 1 (i - 1)) i ∙ ap (λ l. header ++ flat_map (made_row seed) l) (sym (numbers_more i h))
