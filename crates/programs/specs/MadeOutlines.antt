-- The outline of the vector that a statement makes: its length, and its paths in ascending order.
use Rattle.std.specs.Prelude.{ℕ, ◌*◌, ◌-◌, ◌^◌, min, [], ◌∷◌}
use Rattle.key_paths.specs.Substructures.{is_before}
use Rattle.programs.specs.declared.op.Size.{Size}
use Rattle.programs.specs.declared.op.Size.TheVariants.{Number, Of}
use Rattle.programs.specs.declared.op.Operand.{Operand}
use Rattle.programs.specs.declared.op.Operand.TheVariants as operand
use Rattle.programs.specs.declared.op.PairArgs.{PairArgs}
use Rattle.programs.specs.declared.op.FoldArgs.{FoldArgs}
use Rattle.programs.specs.declared.op.RankArgs.{RankArgs}
use Rattle.programs.specs.declared.op.Op.{Op}
use Rattle.programs.specs.Families.{Family, family, Load, Persist, Range, Cross, Zip, Project, Upsert, Gather, Scatter, Rank, Materialize, Break, Fold, Order, Pair, BitShift}
use Rattle.programs.specs.Mentions.{Label}
use Rattle.programs.specs.Merges.{merged}
use Rattle.programs.specs.Moves.{projected, upserted}
use Rattle.programs.specs.Outlines.{Outline, outlined, no_outline, known_outline, Shapes, len_in, paths_in}

abbrev pub size_in : Shapes → Size → ℕ
size_in vectors (Number n) = n
size_in vectors (Of a) = len_in vectors a

-- a product past 64 bits is kept as the greatest number of 64 bits: it passes each limit all the same
abbrev pub capped : ℕ → ℕ
capped n = min n (2 ^ 64 - 1)

abbrev pub zipped_outline : Outline → Outline → Outline
zipped_outline a b = outlined (min a.len b.len) (merged is_before a.paths b.paths)

-- the length of an operand's attribute
abbrev pub operand_len_in : Shapes → Operand → ℕ
operand_len_in vectors (operand.Column a p) = len_in vectors a
operand_len_in vectors (operand.Number z) = 0

-- the length of the shorter attribute
abbrev pub pair_len_in : Shapes → Operand → Operand → ℕ
pair_len_in vectors (operand.Column a p) (operand.Column b q) = min (len_in vectors a) (len_in vectors b)
pair_len_in vectors (operand.Column a p) (operand.Number z) = len_in vectors a
pair_len_in vectors (operand.Number z) (operand.Column b q) = len_in vectors b
pair_len_in vectors (operand.Number z) (operand.Number w) = 0

abbrev pub cross_outline : Shapes → Label → Label → Label → Label → Outline
cross_outline vectors a p b q = outlined (capped (len_in vectors a * len_in vectors b)) (merged is_before (p ∷ []) (q ∷ []))

-- slot by slot; a fold; a Bucket or a Partition
abbrev pub pair_outline : Shapes → PairArgs → Outline
pair_outline vectors p = outlined (pair_len_in vectors p.x p.y) (p.out ∷ [])

abbrev pub fold_outline : Shapes → FoldArgs → Outline
fold_outline vectors f = outlined (len_in vectors f.a) (f.out ∷ [])

abbrev pub rank_outline : Shapes → RankArgs → Outline
rank_outline vectors r = outlined (len_in vectors r.a) (r.out ∷ [])

abbrev pub made_by : Shapes → Shapes → Family → Outline
made_by tables vectors (Load t) = known_outline (tables t)
made_by tables vectors (Persist a) = no_outline
made_by tables vectors (Range size p control) = outlined (size_in vectors size) (p ∷ [])
made_by tables vectors (Cross a p b q) = cross_outline vectors a p b q
made_by tables vectors (Zip a b) = zipped_outline (known_outline (vectors a)) (known_outline (vectors b))
made_by tables vectors (Project a p q) = outlined (len_in vectors a) (projected p q (paths_in vectors a))
made_by tables vectors (Upsert a p b q) = outlined (len_in vectors a) (upserted p (paths_in vectors a))
made_by tables vectors (Gather a b pos) = outlined (len_in vectors b) (paths_in vectors a)
made_by tables vectors (Scatter a size b pos) = outlined (size_in vectors size) (paths_in vectors a)
made_by tables vectors (Rank kind r) = rank_outline vectors r
made_by tables vectors (Materialize a) = known_outline (vectors a)
made_by tables vectors (Break a) = known_outline (vectors a)
made_by tables vectors (Fold kind f) = fold_outline vectors f
made_by tables vectors (Order a mark out keys) = outlined (len_in vectors a) (out ∷ [])
made_by tables vectors (Pair kind p) = pair_outline vectors p
made_by tables vectors (BitShift x by out) = outlined (operand_len_in vectors x) (out ∷ [])

abbrev pub made_outline : Shapes → Shapes → Op → Outline
made_outline tables vectors op = made_by tables vectors (family op)
