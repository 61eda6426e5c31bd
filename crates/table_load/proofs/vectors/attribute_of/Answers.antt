use Rattle.std.proofs.Common.{rules, ◌≡◌, ◌∙◌, ◌∷◌, true, false, refl, ap}
use Rattle.table_load.specs.Databases.{in_64_bits}
use Rattle.table_load.specs.Vectors.{recoded}
use Rattle.table_load.proofs.VectorFacts.{recoded_plain}
use Rattle.table_load.proofs.vectors.attribute_of.Goals as goal

pub returns-then-not-is_text : goal.returns-then-not-is_text
returns-then-not-is_text c =
    let plain : c.args.is_text ≡ false = search rules in
    let path : c.path.inside.text.bytes.items ≡ 46 ∷ c.args.def.now.name = search rules in
    let column : c.in_ok-into_column.field-0 ≡ in_64_bits (recoded c.args.codes.now false c.args.column) = c.in_ok-into_column.ensures ∙ ap in_64_bits (recoded_plain c.args.codes.now c.args.column) in
    rw (plain, path, column) refl

pub returns : goal.returns
returns c =
    let coded : c.args.is_text ≡ true = search rules in
    let path : c.path.inside.text.bytes.items ≡ 46 ∷ c.args.def.now.name = search rules in
    let column : c.in_ok-into_column-2.field-0 ≡ in_64_bits (recoded c.args.codes.now true c.args.column) = c.in_ok-into_column-2.ensures ∙ ap in_64_bits c.in_ok-column.ensures in
    rw (coded, path, column) refl
