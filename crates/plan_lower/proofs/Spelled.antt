-- The beginnings of the paths that parts make are paths.
use Rattle.std.proofs.Common.{List, [], ◌∷◌, refl, arith}
use Rattle.std.specs.Prelude.{codes}
use Rattle.key_paths.specs.Paths.{IsPath}

pub path_c : IsPath (codes ".c")
path_c = record { segments = codes "c" ∷ []; few = omega arith; each = refl; is = refl }

pub path_key : IsPath (codes ".key")
path_key = record { segments = codes "key" ∷ []; few = omega arith; each = refl; is = refl }
