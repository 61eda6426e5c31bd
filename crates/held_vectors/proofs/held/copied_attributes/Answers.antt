use Rattle.std.proofs.Common.{ℕ, ◌<◌, ◌++◌, ◌∷◌, [], List, length, take, ap, sym, ◌∙◌, arith}
use Rattle.struct_vectors.specs.Columns.{ColumnValue}
use Rattle.held_vectors.proofs.Copies.{attribute_more, length_paths}
use Rattle.held_vectors.proofs.held.copied_attributes.Goals as goal

pub loop-k-preserved : goal.loop-k-preserved
loop-k-preserved c =
    let attributes = c.args.v.now.attributes in
    let k = c.loop-k.k in
    let h : k < length attributes = omega (arith, c.loop-k-test.true, ap (λ (l : List (List ℕ)). length l) c.paths-k-end.ensures.paths, length_paths attributes) in
    c.in_ok-push.ensures.items
    ∙ ap (λ (l : List (List ℕ × ColumnValue)). l ++ (c.in_ok-path.path, c.in_ok-copied.field-0) ∷ []) c.loop-k.invariant
    ∙ ap (λ (p : List ℕ). take k attributes ++ (p, c.in_ok-copied.field-0) ∷ []) c.in_ok-path.ensures.text
    ∙ ap (λ (x : ColumnValue). take k attributes ++ (c.index-paths-k.result, x) ∷ []) c.in_ok-copied.ensures
    ∙ sym (attribute_more attributes k c.index-paths-k.result c.index-columns-k.result h (rw c.paths-in-loop-k.ensures.paths at c.index-paths-k.is) (rw c.columns.ensures.columns at c.index-columns-k.is))
