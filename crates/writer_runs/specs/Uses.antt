-- Programs whose statements are used: each is reached from those behind it, or is never Over.
use Rattle.std.specs.Prelude.{◌≡◌, Bool, true, false, ◌||◌, List, [], ◌∷◌}
use Rattle.std.specs.List.{list_any}
use Rattle.control_vectors.specs.declared.PairKind.{PairKind}
use Rattle.control_vectors.specs.declared.PairKind.TheVariants as pair
use Rattle.programs.specs.declared.family.FoldOperator.{FoldOperator}
use Rattle.programs.specs.declared.family.FoldOperator.TheVariants as fold
use Rattle.programs.specs.declared.op.Op.{Op}
use Rattle.programs.specs.declared.op.Statement.{Statement}
use Rattle.programs.specs.Families.{Family, family, Persist, Fold, Pair, BitShift}
use Rattle.programs.specs.Laws.{Avoids}
use Rattle.programs.specs.Mentions.{Label, is_persist, has_name}
use Rattle.programs.specs.Reaching.{is_reached, reached}

-- ---- operators that are never Over: all but sums and arithmetic; a Persist makes nothing

abbrev pub pair_never_over : PairKind → Bool
pair_never_over pair.Add = false
pair_never_over pair.Subtract = false
pair_never_over pair.Multiply = false
pair_never_over pair.Divide = false
pair_never_over kind = true

abbrev pub fold_never_over : FoldOperator → Bool
fold_never_over fold.Sum = false
fold_never_over fold.Scan = false
fold_never_over kind = true

abbrev pub never_over_by : Family → Bool
never_over_by (Persist a) = false
never_over_by (Fold kind f) = fold_never_over kind
never_over_by (Pair kind p) = pair_never_over kind
never_over_by (BitShift x by out) = false
never_over_by f = true

abbrev pub never_over : Op → Bool
never_over op = never_over_by (family op)

-- ---- used statements

-- a statement that is reached where these names are wanted behind it, or is never Over
abbrev pub is_used : List Label → Statement → Bool
is_used names s = is_reached names s || never_over s.op

-- each of some statements, where these names are wanted behind all of them
abbrev pub AreUsed : List Label → List Statement → Type 0
AreUsed wanted [] = Unit {0}
AreUsed wanted (s ∷ rest) = (is_used (reached wanted rest).names s ≡ true) × AreUsed wanted rest

-- some of these names
abbrev pub Includes : List Label → List Label → Type 0
Includes names some = (name : Label) → has_name some name ≡ true → has_name names name ≡ true

-- each of some statements is used, and these names are wanted in front of them
pub record Uses (wanted front : List Label) (a : List Statement) : Type 0 where
  pub used : AreUsed wanted a
  pub reaches : Includes (reached wanted a).names front

-- ---- results

-- what a result shows is not made anew behind it
abbrev pub StandsBy : Family → List Statement → Type 0
StandsBy (Persist a) rest = Avoids a rest
StandsBy f rest = Unit {0}

abbrev pub ResultsStand : List Statement → Type 0
ResultsStand [] = Unit {0}
ResultsStand (s ∷ rest) = StandsBy (family s.op) rest × ResultsStand rest

-- no statement shows a result
abbrev pub ShowsNothing : List Statement → Type 0
ShowsNothing statements = list_any (λ s. is_persist s.op) statements ≡ false
