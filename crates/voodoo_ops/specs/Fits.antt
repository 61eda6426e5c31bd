-- Operators that may be run: none of their tests fails, and what they make has at most 2^22 places.
use Rattle.std.specs.Prelude.{◌≡◌, ◌≤◌, ◌^◌, List, None, Ok}
use Rattle.programs.specs.Families.{Family}
use Rattle.programs.specs.declared.op.Statement.{Statement}
use Rattle.programs.specs.Vectors.{Env}
use Rattle.programs.specs.Outlines.{Outline, Shapes, outlines}
use Rattle.programs.specs.MadeOutlines.{made_by}
use Rattle.programs.specs.Faults.{first_fault, tests_by}
use Rattle.programs.specs.Check.{check, limit_of}

pub record Fits (tables vectors : Shapes) (f : Family) : Type 0 where
  pub sound : first_fault (tests_by tables vectors f) ≡ None
  pub small : (made_by tables vectors f).len ≤ 2 ^ 22

-- a program that passes the check, and makes no vector of more than 2^22 places
pub record Runnable (store : Env) (program : List Statement) : Type 0 where
  pub shape : List Outline
  pub passes : check (outlines store) program ≡ Ok shape
  pub small : limit_of shape ≡ None
