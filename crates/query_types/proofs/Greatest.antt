-- The greatest of some scales, taken one after the other.
use Rattle.std.proofs.Common.{◌≡◌, ℕ, ◌+◌, ◌<◌, max, List, [], ◌∷◌, length, drop, get_or, refl, sym, ap, ◌∙◌, arith}
use Rattle.std.proofs.lemmas.List.{drop_more}
use Rattle.typed_trees.specs.Scales.{greatest}
use Rattle.query_types.specs.declared.typing.Typed.{Typed}
use Rattle.query_types.specs.Expressions.{scales}

greatest_more : (s t : ℕ) (more : List ℕ) → greatest s (t ∷ more) ≡ greatest (max s t) more
greatest_more s t [] = refl
greatest_more s t (u ∷ more) =
    let below : greatest t (u ∷ more) ≡ greatest (max t u) more = greatest_more t u more in
    let above : greatest (max s t) (u ∷ more) ≡ greatest (max (max s t) u) more = greatest_more (max s t) u more in
    let whole : greatest s (max t u ∷ more) ≡ greatest (max s (max t u)) more = greatest_more s (max t u) more in
    let same : max s (max t u) ≡ max (max s t) u = omega arith in
    cc

-- with one more of the scales
pub greatest_step : (most : ℕ) (ts : List Typed) (i : ℕ) (t : Typed) → i < length ts → t ≡ get_or ts i t → greatest most (scales (drop i ts)) ≡ greatest (max most t.scale) (scales (drop (i + 1) ts))
greatest_step most ts i t h is =
    let front : drop i ts ≡ get_or ts i t ∷ drop (i + 1) ts = drop_more ts i t h in
    ap (λ (xs : List Typed). greatest most (scales xs)) (front ∙ ap (λ (x : Typed). x ∷ drop (i + 1) ts) (sym is))
    ∙ greatest_more most t.scale (scales (drop (i + 1) ts))
