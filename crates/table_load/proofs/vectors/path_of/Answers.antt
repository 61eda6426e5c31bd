use Rattle.std.proofs.Common.{rules, ◌≡◌, ◌∷◌, subst, sym}
use Rattle.key_paths.specs.Paths.{IsPath}
use Rattle.table_load.proofs.ColumnNames.{path_of_name}
use Rattle.table_load.proofs.vectors.path_of.Goals as goal

pub of-requires : goal.of-requires
of-requires c =
    let text : c.as_str.result.now ≡ 46 ∷ c.args.name.now = search rules in
    subst IsPath (sym text) (path_of_name c.args.name.now c.requires)
