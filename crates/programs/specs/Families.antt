-- Operators by family: those of one family read and make the same kinds of vectors, and differ in what they give for the slots.
use Rattle.std.specs.Prelude.{ℕ, ℤ, List}
use Rattle.control_vectors.specs.declared.PairKind.{PairKind}
use Rattle.control_vectors.specs.declared.PairKind.TheVariants as pair
use Rattle.control_vectors.specs.Controls.{Control}
use Rattle.programs.specs.declared.op.Size.{Size}
use Rattle.programs.specs.declared.op.Operand.{Operand}
use Rattle.programs.specs.declared.op.PairArgs.{PairArgs}
use Rattle.programs.specs.declared.op.FoldArgs.{FoldArgs}
use Rattle.programs.specs.declared.op.RankArgs.{RankArgs}
use Rattle.programs.specs.declared.order_keys.OrderPath.{OrderPath}
use Rattle.programs.specs.declared.op.Op.{Op}
use Rattle.programs.specs.declared.op.Op.TheVariants as op
use Rattle.programs.specs.declared.family.FoldOperator.{FoldOperator}
use Rattle.programs.specs.declared.family.FoldOperator.TheVariants as fold
use Rattle.programs.specs.declared.family.RankOperator.{RankOperator}
use Rattle.programs.specs.declared.family.RankOperator.TheVariants as rank
use Rattle.programs.specs.declared.family.Family.{Family as Borrowed}
use Rattle.programs.specs.declared.family.Family.TheVariants as borrowed

-- a family with the kind within it and its arguments; names and paths are their bytes
pub data Family : Type 0 where
  Load : List ℕ → Family
  Persist : List ℕ → Family
  Range : Size → List ℕ → Control → Family
  Cross : List ℕ → List ℕ → List ℕ → List ℕ → Family
  Zip : List ℕ → List ℕ → Family
  Project : List ℕ → List ℕ → List ℕ → Family
  Upsert : List ℕ → List ℕ → List ℕ → List ℕ → Family
  Gather : List ℕ → List ℕ → List ℕ → Family
  Scatter : List ℕ → Size → List ℕ → List ℕ → Family
  Rank : RankOperator → RankArgs → Family
  Materialize : List ℕ → Family
  Break : List ℕ → Family
  Fold : FoldOperator → FoldArgs → Family
  Order : List ℕ → List ℕ → List ℕ → List OrderPath → Family
  Pair : PairKind → PairArgs → Family
  BitShift : Operand → ℤ → List ℕ → Family

abbrev pub family : Op → Family
family (op.Load t) = Load t
family (op.Persist a) = Persist a
family (op.Range size out control) = Range size out control
family (op.Cross a p b q) = Cross a p b q
family (op.Zip a b) = Zip a b
family (op.Project a p q) = Project a p q
family (op.Upsert a p b q) = Upsert a p b q
family (op.Gather a b pos) = Gather a b pos
family (op.Scatter a size b pos) = Scatter a size b pos
family (op.Bucket r) = Rank rank.Bucket r
family (op.Partition r) = Rank rank.Partition r
family (op.Materialize a) = Materialize a
family (op.Break a) = Break a
family (op.FoldSum f) = Fold fold.Sum f
family (op.FoldMin f) = Fold fold.Min f
family (op.FoldMax f) = Fold fold.Max f
family (op.FoldSelect f) = Fold fold.Select f
family (op.FoldScan f) = Fold fold.Scan f
family (op.Order a mark out keys) = Order a mark out keys
family (op.Add p) = Pair pair.Add p
family (op.Subtract p) = Pair pair.Subtract p
family (op.Multiply p) = Pair pair.Multiply p
family (op.Divide p) = Pair pair.Divide p
family (op.Modulo p) = Pair pair.Modulo p
family (op.BitShift x by out) = BitShift x by out
family (op.Greater p) = Pair pair.Greater p
family (op.Equals p) = Pair pair.Equals p
family (op.LogicalAnd p) = Pair pair.LogicalAnd p
family (op.LogicalOr p) = Pair pair.LogicalOr p
family (op.Fill p) = Pair pair.Fill p

-- ---- the operator of a kind and its arguments
abbrev pub pair_of : PairKind → PairArgs → Op
pair_of pair.Add p = op.Add p
pair_of pair.Subtract p = op.Subtract p
pair_of pair.Multiply p = op.Multiply p
pair_of pair.Divide p = op.Divide p
pair_of pair.Modulo p = op.Modulo p
pair_of pair.Greater p = op.Greater p
pair_of pair.Equals p = op.Equals p
pair_of pair.LogicalAnd p = op.LogicalAnd p
pair_of pair.LogicalOr p = op.LogicalOr p
pair_of pair.Fill p = op.Fill p

abbrev pub fold_of : FoldOperator → FoldArgs → Op
fold_of fold.Sum f = op.FoldSum f
fold_of fold.Min f = op.FoldMin f
fold_of fold.Max f = op.FoldMax f
fold_of fold.Select f = op.FoldSelect f
fold_of fold.Scan f = op.FoldScan f

abbrev pub rank_of : RankOperator → RankArgs → Op
rank_of rank.Bucket r = op.Bucket r
rank_of rank.Partition r = op.Partition r

-- a family whose arguments are borrowed, by what they are
abbrev pub lent : Borrowed → Family
lent (borrowed.Load t) = Load t.now
lent (borrowed.Persist a) = Persist a.now
lent (borrowed.Range size out control) = Range size.now out.now control
lent (borrowed.Cross a p b q) = Cross a.now p.now b.now q.now
lent (borrowed.Zip a b) = Zip a.now b.now
lent (borrowed.Project a p q) = Project a.now p.now q.now
lent (borrowed.Upsert a p b q) = Upsert a.now p.now b.now q.now
lent (borrowed.Gather a b pos) = Gather a.now b.now pos.now
lent (borrowed.Scatter a size b pos) = Scatter a.now size.now b.now pos.now
lent (borrowed.Rank kind r) = Rank kind r.now
lent (borrowed.Materialize a) = Materialize a.now
lent (borrowed.Break a) = Break a.now
lent (borrowed.Fold kind f) = Fold kind f.now
lent (borrowed.Order a mark out keys) = Order a.now mark.now out.now keys.now
lent (borrowed.Pair kind p) = Pair kind p.now
lent (borrowed.BitShift x by out) = BitShift x.now by out.now
