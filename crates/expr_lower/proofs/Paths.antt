-- The path that the statements of an expression make.
use Rattle.std.proofs.Common.{[], ◌∷◌, refl, arith}
use Rattle.std.specs.Prelude.{codes}
use Rattle.key_paths.specs.Paths.{IsPath}
use Rattle.expr_lower.specs.Statements.{out}

pub path_out : IsPath out
path_out = record { segments = codes "out" ∷ []; few = omega arith; each = refl; is = refl }
