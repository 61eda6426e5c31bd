use Rattle.table_load.proofs.ColumnNames.{below_root, no_clash, no_other}
use Rattle.table_load.proofs.VectorFacts.{arranged_is}
use Rattle.table_load.proofs.vectors.vector_of_attributes.Goals as goal

pub returns-in-Ok : goal.returns-in-Ok
returns-in-Ok c = arranged_is c.args.attributes.items c.args.count c.in-Ok.vector c.in-Ok.ensures.length c.in-Ok.ensures.attributes

pub new-requires-clause-named : goal.new-requires-clause-named
new-requires-clause-named c = below_root c.args.attributes.items c.requires.paths

pub unreachable-requires : goal.unreachable-requires
unreachable-requires c =
    let refused = rw c.in-Err-LengthDiffers.field-0-is at c.in-Err-LengthDiffers.ensures.refused in
    no_other c.args.count c.args.attributes.items c.in-Err-LengthDiffers.field-0-0 c.requires.lengths refused

pub unreachable-requires-in-Err-PathRepeated : goal.unreachable-requires-in-Err-PathRepeated
unreachable-requires-in-Err-PathRepeated c =
    let refused = rw c.in-Err-PathRepeated.field-0-is at c.in-Err-PathRepeated.ensures.refused in
    no_clash c.args.attributes.items c.in-Err-PathRepeated.field-0-0 c.in-Err-PathRepeated.field-0-0 c.requires.paths refused.1

pub unreachable-requires-in-Err-PathNested : goal.unreachable-requires-in-Err-PathNested
unreachable-requires-in-Err-PathNested c =
    let refused = rw c.in-Err-PathNested.field-0-is at c.in-Err-PathNested.ensures.refused in
    no_clash c.args.attributes.items c.in-Err-PathNested.field-0-0 c.in-Err-PathNested.field-0-1 c.requires.paths refused.2
