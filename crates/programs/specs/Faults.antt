-- What is wrong with one statement, behind the vectors that are known.
use Rattle.std.specs.Prelude.{◌≡◌, All, Bool, true, false, ◌||◌, ◌&&◌, not, List, [], ◌∷◌, length, is_none, nat_lt, if◌then◌else◌, Option, Some, None}
use Rattle.std.specs.List.{list_any, list_all}
use Rattle.key_paths.specs.Paths.{IsPath}
use Rattle.key_paths.specs.Substructures.{is_root, is_at_or_below}
use Rattle.programs.specs.declared.op.Operand.{Operand}
use Rattle.programs.specs.declared.op.Operand.TheVariants as operand
use Rattle.programs.specs.declared.op.PairArgs.{PairArgs}
use Rattle.programs.specs.declared.op.FoldArgs.{FoldArgs}
use Rattle.programs.specs.declared.op.RankArgs.{RankArgs}
use Rattle.programs.specs.declared.order_keys.OrderPath.{OrderPath}
use Rattle.programs.specs.declared.op.Op.{Op}
use Rattle.programs.specs.Families.{Family, family, Load, Project, Upsert, Gather, Scatter, Rank, Fold, Order, Pair, BitShift}
use Rattle.programs.specs.declared.op.ProgramKind.{ProgramKind}
use Rattle.programs.specs.declared.op.ProgramKind.TheVariants.{UnknownName, NoSuchPath, NoLength, PathClash, TooDeep, TooManyKeys}
use Rattle.programs.specs.Mentions.{Label, mentioned_by, has_name}
use Rattle.programs.specs.Moves.{is_deep}
use Rattle.programs.specs.Orders.{Rises}
use Rattle.programs.specs.Outlines.{Outline, Shapes, paths_in}
use Rattle.programs.specs.MadeOutlines.{made_by}

-- ---- names
-- no earlier statement other than a Persist has a name that it mentions, or no table has the name that it loads
abbrev pub unknown_by : Shapes → Shapes → Family → Bool
unknown_by tables vectors (Load t) = is_none (tables t)
unknown_by tables vectors f = list_any (λ a. is_none (vectors a)) (mentioned_by f)

abbrev pub unknown_name : Shapes → Shapes → Op → Bool
unknown_name tables vectors op = unknown_by tables vectors (family op)

-- ---- paths
abbrev pub lacks_path : Shapes → Label → Label → Bool
lacks_path vectors a p = not (has_name (paths_in vectors a) p)

-- nothing at or below a path
abbrev pub lacks_below : Shapes → Label → Label → Bool
lacks_below vectors a p = not (list_any (λ q. is_at_or_below q p) (paths_in vectors a))

abbrev pub lacks_operand : Shapes → Operand → Bool
lacks_operand vectors (operand.Column a p) = lacks_path vectors a p
lacks_operand vectors (operand.Number z) = false

abbrev pub lacks_pair : Shapes → PairArgs → Bool
lacks_pair vectors p = lacks_operand vectors p.x || lacks_operand vectors p.y

abbrev pub lacks_fold : Shapes → FoldArgs → Bool
lacks_fold vectors f = lacks_path vectors f.a f.val || lacks_below vectors f.a f.run

abbrev pub lacks_rank : Shapes → RankArgs → Bool
lacks_rank vectors r = lacks_path vectors r.a r.key || lacks_path vectors r.b r.pivot

abbrev pub lacks_order : Shapes → Label → Label → List OrderPath → Bool
lacks_order vectors a mark keys = lacks_path vectors a mark || list_any (λ k. lacks_path vectors a k.path) keys

-- a path that is no attribute; where a path names a run or what is projected, nothing at or below it
abbrev pub lacks_by : Shapes → Family → Bool
lacks_by vectors (Project a p q) = lacks_below vectors a p
lacks_by vectors (Upsert a p b q) = lacks_path vectors b q
lacks_by vectors (Gather a b pos) = lacks_path vectors b pos
lacks_by vectors (Scatter a size b pos) = lacks_path vectors b pos
lacks_by vectors (Rank kind r) = lacks_rank vectors r
lacks_by vectors (Fold kind f) = lacks_fold vectors f
lacks_by vectors (Order a mark out keys) = lacks_order vectors a mark keys
lacks_by vectors (Pair kind p) = lacks_pair vectors p
lacks_by vectors (BitShift x by out) = lacks_operand vectors x
lacks_by vectors _ = false

abbrev pub no_such_path : Shapes → Op → Bool
no_such_path vectors op = lacks_by vectors (family op)

-- ---- lengths
abbrev pub is_number : Operand → Bool
is_number (operand.Column a p) = false
is_number (operand.Number z) = true

abbrev pub both_numbers : PairArgs → Bool
both_numbers p = is_number p.x && is_number p.y

-- numbers alone have no length
abbrev pub endless : Family → Bool
endless (Pair kind p) = both_numbers p
endless (BitShift x by out) = is_number x
endless _ = false

abbrev pub no_length : Op → Bool
no_length op = endless (family op)

-- ---- the paths of what it makes
-- no path is another or stands below it
abbrev pub apart : Label → Label → Bool
apart p q = not (is_at_or_below p q || is_at_or_below q p)

abbrev pub all_apart : List Label → Bool
all_apart [] = true
all_apart (p ∷ rest) = list_all (apart p) rest && all_apart rest

-- an attribute at the root; two attributes with one path, or one below the other
abbrev pub path_clash : Outline → Bool
path_clash made = list_any is_root made.paths || not (all_apart made.paths)

-- what holds of the outline of a vector: its paths ascend, and none is in another's way
pub record IsClear (outline : Outline) : Type 0 where
  pub rises : Rises outline.paths
  pub paths : All IsPath outline.paths
  pub clear : path_clash outline ≡ false

-- a path of more than eight segments
abbrev pub too_deep : Outline → Bool
too_deep made = list_any is_deep made.paths

-- ---- keys
-- an order has at most sixteen
abbrev pub has_many_keys : Family → Bool
has_many_keys (Order a mark out keys) = nat_lt 16 (length keys)
has_many_keys _ = false

abbrev pub too_many_keys : Op → Bool
too_many_keys op = has_many_keys (family op)

-- ---- the first of them
-- the kind of the first test that holds
abbrev pub first_fault : List (Bool × ProgramKind) → Option ProgramKind
first_fault [] = None
first_fault (t ∷ rest) = if t.0 then Some t.1 else first_fault rest

-- the tests of an operator, in their order
abbrev pub tests_by : Shapes → Shapes → Family → List (Bool × ProgramKind)
tests_by tables vectors f =
    (unknown_by tables vectors f, UnknownName)
    ∷ (lacks_by vectors f, NoSuchPath)
    ∷ (endless f, NoLength)
    ∷ (path_clash (made_by tables vectors f), PathClash)
    ∷ (too_deep (made_by tables vectors f), TooDeep)
    ∷ (has_many_keys f, TooManyKeys)
    ∷ []

abbrev pub op_tests : Shapes → Shapes → Op → List (Bool × ProgramKind)
op_tests tables vectors op = tests_by tables vectors (family op)
