-- Attributes that are copied one by one.
use Rattle.std.proofs.Common.{◌≡◌, ℕ, zero, suc, ◌+◌, ◌<◌, List, [], ◌∷◌, ◌++◌, length, take, get_or, refl, ap, ◌∙◌, arith}
use Rattle.std.proofs.lemmas.List.{take_more}
use Rattle.struct_vectors.specs.Columns.{ColumnValue}
use Rattle.struct_vectors.specs.Vectors.{paths_of, columns_of}

attribute_at : (attributes : List (List ℕ × ColumnValue)) (k : ℕ) (p : List ℕ) (c : ColumnValue) (d : List ℕ × ColumnValue) → k < length attributes → p ≡ get_or (paths_of attributes) k p → c ≡ get_or (columns_of attributes) k c → ◌≡◌ {A = List ℕ × ColumnValue} (get_or attributes k d) (p, c)
attribute_at [] k p c d h ep ec = absurd (omega arith)
attribute_at (a ∷ attributes) zero p c d h ep ec = rw (ep, ec) refl
attribute_at (a ∷ attributes) (suc k) p c d h ep ec = attribute_at attributes k p c d (omega arith) ep ec

pub attribute_more : (attributes : List (List ℕ × ColumnValue)) (k : ℕ) (p : List ℕ) (c : ColumnValue) → k < length attributes → p ≡ get_or (paths_of attributes) k p → c ≡ get_or (columns_of attributes) k c → take (k + 1) attributes ≡ take k attributes ++ (p, c) ∷ []
attribute_more attributes k p c h ep ec =
    take_more attributes k (p, c) h ∙ ap (λ (t : List ℕ × ColumnValue). take k attributes ++ t ∷ []) (attribute_at attributes k p c (p, c) h ep ec)

pub length_paths : (attributes : List (List ℕ × ColumnValue)) → length (paths_of attributes) ≡ length attributes
length_paths [] = refl
length_paths (a ∷ attributes) = ap suc (length_paths attributes)
