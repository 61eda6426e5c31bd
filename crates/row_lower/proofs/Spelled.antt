-- The beginnings of the paths that parts make are paths.
use Rattle.std.proofs.Common.{[], ◌∷◌, refl, arith}
use Rattle.std.specs.Prelude.{codes}
use Rattle.key_paths.specs.Paths.{IsPath}

pub path_v : IsPath (codes ".v")
path_v = record { segments = codes "v" ∷ []; few = omega arith; each = refl; is = refl }
