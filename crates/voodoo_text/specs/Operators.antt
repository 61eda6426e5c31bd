-- The operators' words (the Voodoo paper, table 2).
use Rattle.std.specs.Prelude.{if◌then◌else◌, List, [], ◌∷◌, map, codes, Option, Some, None}
use Rattle.std.specs.Str.{bytes_eq}
use Rattle.control_vectors.specs.declared.PairKind.{PairKind}
use Rattle.control_vectors.specs.declared.PairKind.TheVariants as pair
use Rattle.programs.specs.declared.family.FoldOperator.{FoldOperator}
use Rattle.programs.specs.declared.family.FoldOperator.TheVariants as fold
use Rattle.programs.specs.declared.family.RankOperator.{RankOperator}
use Rattle.programs.specs.declared.family.RankOperator.TheVariants as rank
use Rattle.voodoo_text.specs.declared.operator.SingleOperator.{SingleOperator}
use Rattle.voodoo_text.specs.declared.operator.SingleOperator.TheVariants as single
use Rattle.voodoo_text.specs.declared.operator.Operator.{Operator}
use Rattle.voodoo_text.specs.declared.operator.Operator.TheVariants as operator
use Rattle.voodoo_text.specs.Values.{Bytes}

-- ---- the word of each operator

abbrev pub single_word : SingleOperator → Bytes
single_word single.Load = codes "Load"
single_word single.Cross = codes "Cross"
single_word single.Zip = codes "Zip"
single_word single.Project = codes "Project"
single_word single.Upsert = codes "Upsert"
single_word single.Gather = codes "Gather"
single_word single.Scatter = codes "Scatter"
single_word single.Materialize = codes "Materialize"
single_word single.Break = codes "Break"
single_word single.Order = codes "Order"
single_word single.BitShift = codes "BitShift"

abbrev pub rank_word : RankOperator → Bytes
rank_word rank.Bucket = codes "Bucket"
rank_word rank.Partition = codes "Partition"

abbrev pub fold_word : FoldOperator → Bytes
fold_word fold.Sum = codes "FoldSum"
fold_word fold.Min = codes "FoldMin"
fold_word fold.Max = codes "FoldMax"
fold_word fold.Select = codes "FoldSelect"
fold_word fold.Scan = codes "FoldScan"

abbrev pub pair_word : PairKind → Bytes
pair_word pair.Add = codes "Add"
pair_word pair.Subtract = codes "Subtract"
pair_word pair.Multiply = codes "Multiply"
pair_word pair.Divide = codes "Divide"
pair_word pair.Modulo = codes "Modulo"
pair_word pair.Greater = codes "Greater"
pair_word pair.Equals = codes "Equals"
pair_word pair.LogicalAnd = codes "LogicalAnd"
pair_word pair.LogicalOr = codes "LogicalOr"
pair_word pair.Fill = codes "Fill"

abbrev pub operator_word : Operator → Bytes
operator_word operator.Range = codes "Range"
operator_word (operator.Single a) = single_word a
operator_word (operator.Rank a) = rank_word a
operator_word (operator.Fold a) = fold_word a
operator_word (operator.Pair a) = pair_word a

-- ---- the operator of a word

-- every operator that makes a vector, in the order in which they are listed
abbrev pub operators : List Operator
operators =
    operator.Single single.Load ∷ operator.Range ∷ operator.Single single.Cross ∷ operator.Single single.Zip ∷ operator.Single single.Project
    ∷ operator.Single single.Upsert ∷ operator.Single single.Gather ∷ operator.Single single.Scatter ∷ operator.Rank rank.Bucket
    ∷ operator.Rank rank.Partition ∷ operator.Single single.Materialize ∷ operator.Single single.Break ∷ operator.Fold fold.Sum
    ∷ operator.Fold fold.Min ∷ operator.Fold fold.Max ∷ operator.Fold fold.Select ∷ operator.Fold fold.Scan ∷ operator.Single single.Order
    ∷ operator.Pair pair.Add ∷ operator.Pair pair.Subtract ∷ operator.Pair pair.Multiply ∷ operator.Pair pair.Divide ∷ operator.Pair pair.Modulo
    ∷ operator.Single single.BitShift ∷ operator.Pair pair.Greater ∷ operator.Pair pair.Equals ∷ operator.Pair pair.LogicalAnd
    ∷ operator.Pair pair.LogicalOr ∷ operator.Pair pair.Fill ∷ []

abbrev pub with_word : Operator → Bytes × Operator
with_word a = (operator_word a, a)

-- each operator with its word
abbrev pub words : List (Bytes × Operator)
words = map with_word operators

abbrev pub lookup : List (Bytes × Operator) → Bytes → Option Operator
lookup [] word = None
lookup (o ∷ os) word = if bytes_eq o.0 word then Some o.1 else lookup os word

-- the operator that a word names
unfoldable pub operator_of : Bytes → Option Operator
operator_of = lookup words
