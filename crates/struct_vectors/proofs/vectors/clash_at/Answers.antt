use Rattle.std.proofs.Common.{◌≡◌, ap, sym, ◌∙◌, Some, List, ℕ}
use Rattle.std.proofs.lemmas.Slice.Eq.{bytes_eq-Decides}
use Rattle.struct_vectors.proofs.ShapeLaws.{path_at, path_before_removed, apart_from_test}
use Rattle.struct_vectors.proofs.vectors.clash_at.Goals as goal

pub returns-then-eq : goal.returns-then-eq
returns-then-eq c =
    let latter = path_at c.args.attributes.items _ c.remove-path.result c.requires c.remove-path.ensures.value in
    let former = path_before_removed c.args.attributes.items _ c.args.place c.remove-above.result c.requires c.remove-path.ensures.items c.remove-above.ensures.value in
    let same : c.remove-path.result.0 ≡ c.remove-above.result.0 = (bytes_eq-Decides c.remove-path.result.0 c.remove-above.result.0).0 (sym c.if-eq.ensures) in
    (former ∙ ap (λ (p : List ℕ). Some p) (sym same), latter)

pub returns : goal.returns
returns c =
    let latter = path_at c.args.attributes.items _ c.remove-path.result c.requires c.remove-path.ensures.value in
    let former = path_before_removed c.args.attributes.items _ c.args.place c.remove-above.result c.requires c.remove-path.ensures.items c.remove-above.ensures.value in
    (apart_from_test c.remove-path.result.0 c.remove-above.result.0 c.if-eq.ensures, former, latter)
