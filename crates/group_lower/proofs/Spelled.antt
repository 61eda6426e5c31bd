-- The beginnings of the paths that parts make are paths.
use Rattle.std.proofs.Common.{List, [], ◌∷◌, refl, arith}
use Rattle.std.specs.Prelude.{codes}
use Rattle.key_paths.specs.Paths.{IsPath}

pub path_run : IsPath (codes ".run.g")
path_run = record { segments = codes "run" ∷ codes "g" ∷ []; few = omega arith; each = refl; is = refl }

pub path_run_mark : IsPath (codes ".run.mark")
path_run_mark = record { segments = codes "run" ∷ codes "mark" ∷ []; few = omega arith; each = refl; is = refl }

pub path_k : IsPath (codes ".k")
path_k = record { segments = codes "k" ∷ []; few = omega arith; each = refl; is = refl }

pub path_a : IsPath (codes ".a")
path_a = record { segments = codes "a" ∷ []; few = omega arith; each = refl; is = refl }
