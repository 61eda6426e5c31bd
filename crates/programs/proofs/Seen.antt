-- Vectors of columns, seen as their slots.
use Rattle.std.proofs.Common.{◌≡◌, ℕ, List, [], ◌∷◌, map, refl, ap}
use Rattle.struct_vectors.specs.Columns.{ColumnValue}
use Rattle.struct_vectors.specs.Vectors.{VectorValue, paths_of}
use Rattle.programs.specs.Mentions.{Label}
use Rattle.programs.specs.Vectors.{seen, seen_attributes}
use Rattle.programs.specs.Outlines.{Outline, outline_of}

pub paths-seen : (attributes : List (Label × ColumnValue)) → map (λ t. t.0) (seen_attributes attributes) ≡ paths_of attributes
paths-seen [] = refl
paths-seen (a ∷ attributes) = ap (λ (l : List Label). a.0 ∷ l) (paths-seen attributes)

pub outline_seen : (n : ℕ) (paths : List Label) (v : VectorValue) → n ≡ v.length → paths ≡ paths_of v.attributes → let o : Outline = record { len = n; paths = paths } in o ≡ outline_of (seen v)
outline_seen n paths v e f = rw (e, f, ← paths-seen v.attributes) refl
