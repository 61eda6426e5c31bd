-- The laws of checks and of reached statements: programs compose, and statements leave other names alone.
use Rattle.std.specs.Prelude.{◌≡◌, ◌+◌, ◌||◌, length, ◌≤◌, ◌<◌, ◌^◌, ℕ, ◌++◌, List, [], ◌∷◌, All, true, false, Some, Ok}
use Rattle.std.specs.Str.{bytes_eq}
use Rattle.programs.specs.declared.op.Size.{Size}
use Rattle.programs.specs.declared.op.Size.TheVariants.{Number, Of}
use Rattle.programs.specs.declared.op.Op.{Op}
use Rattle.programs.specs.Families.{Family, family, Range, Scatter}
use Rattle.programs.specs.declared.op.Statement.{Statement}
use Rattle.key_paths.specs.Substructures.{is_before}
use Rattle.programs.specs.Merges.{merged}
use Rattle.programs.specs.Orders.{Rises}
use Rattle.programs.specs.Mentions.{Label, has_name}
use Rattle.programs.specs.Outlines.{Shapes, Outline, len_in}
use Rattle.programs.specs.Check.{Known, then_check, check_from, check, limit_of}
use Rattle.programs.specs.Reaching.{Reached, reached}

-- no statement has this name
abbrev pub Avoids : Label → List Statement → Type 0
Avoids m [] = Unit {0}
Avoids m (s ∷ rest) = (bytes_eq s.name m ≡ false) × Avoids m rest

pub record CheckLaws : Type 0 where
  pub composes : (tables : Shapes) (a b : List Statement) (known : Known) → check_from tables (a ++ b) known ≡ then_check (check_from tables a known) (check_from tables b)
  pub frame : (tables : Shapes) (a : List Statement) (known after : Known) (m : Label) → Avoids m a → check_from tables a known ≡ Ok after → after.vectors m ≡ known.vectors m

-- where these names are mentioned behind them, all of the statements are kept, and so are the names
pub record Keeps (wanted : List Label) (a : List Statement) : Type 0 where
  pub kept : (reached wanted a).kept ≡ a
  pub names : (n : Label) → has_name wanted n ≡ true → has_name (reached wanted a).names n ≡ true

-- the statements kept of two lists
abbrev pub and_behind : Reached → List Statement → Reached
and_behind r kept = record { names = r.names; kept = r.kept ++ kept }

pub record ReachLaws : Type 0 where
  -- what is kept of two lists of statements
  pub composes : (wanted : List Label) (a b : List Statement) → reached wanted (a ++ b) ≡ and_behind (reached (reached wanted b).names a) (reached wanted b).kept
  pub keeps : (wanted : List Label) (a b : List Statement) → Keeps wanted b → Keeps (reached wanted b).names a → Keeps wanted (a ++ b)
  pub keeps_one : (wanted : List Label) (s : Statement) → has_name wanted s.name ≡ true → Keeps wanted (s ∷ [])

-- ---- limits
-- a size is a number of 32 bits, or the length of a vector
abbrev pub SizeFits : Size → Type 0
SizeFits (Number n) = n < 2 ^ 32
SizeFits (Of a) = Unit {0}

abbrev pub SizesFitBy : Family → Type 0
SizesFitBy (Range size p control) = SizeFits size
SizesFitBy (Scatter a size b pos) = SizeFits size
SizesFitBy _ = Unit {0}

abbrev pub SizesFit : Op → Type 0
SizesFit op = SizesFitBy (family op)

-- the first length that passes the limit is exact: it is far from the number at which products are kept
abbrev pub LimitLaw : Type 0
LimitLaw = (tables : Shapes) (program : List Statement) (shape : List Outline) (k n : ℕ) → ((t : Label) → len_in tables t ≤ 2 ^ 22) → All (λ s. SizesFit s.op) program → check tables program ≡ Ok shape → limit_of shape ≡ Some (k, n) → n ≤ 2 ^ 44

-- ---- two ascending lists of paths as one
-- it ascends where both do, has the paths of both and no other, and as many as both have
pub record MergeLaws : Type 0 where
  pub order : (xs ys : List Label) → Rises xs → Rises ys → Rises (merged is_before xs ys)
  pub union : (xs ys : List Label) (p : Label) → has_name (merged is_before xs ys) p ≡ (has_name xs p || has_name ys p)
  pub count : (xs ys : List Label) → length (merged is_before xs ys) ≡ length xs + length ys
