use Rattle.std.proofs.Common.{ℕ, ◌∙◌, length, arith, ap, sym}
use Rattle.std.specs.List.{prefix_len, insert}
use Rattle.std.proofs.lemmas.List.Sums.{prefix_len-le-length}
use Rattle.key_paths.specs.Substructures.{is_before}
use Rattle.programs.specs.Mentions.{Label}
use Rattle.voodoo_ops.specs.Columns.{Attributes, earlier}
use Rattle.voodoo_ops.proofs.HandedOn.{entered_one}
use Rattle.voodoo_ops.proofs.attributes.with_attribute.Goals as goal

pub insert-requires : goal.insert-requires
insert-requires c =
    omega (arith, c.count_before-place.ensures, prefix_len-le-length (λ t. is_before t.0 c.args.p.now) c.as_slice.result.now, ap (λ (l : Attributes). length l) c.as_slice.ensures.value, c.as_slice.ensures.len, c.args.others.ok)

pub returns-clause-entered : goal.returns-clause-entered
returns-clause-entered c =
    let p = c.args.p.now in
    let column = c.args.column in
    let others = c.args.others.items in
    let place = c.count_before-place.ensures ∙ ap (λ (l : Attributes). prefix_len (λ t. is_before t.0 p) l) c.as_slice.ensures.value in
    c.in_ok-insert.ensures.items
    ∙ ap (λ (x : Label). insert others c.count_before-place.result (x, column)) c.in_ok-path.ensures.text
    ∙ ap (λ (k : ℕ). insert others k (p, column)) place
    ∙ sym (entered_one earlier (p, column) others)
