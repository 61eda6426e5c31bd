-- Each operator has one word, which names it alone.
use Rattle.std.proofs.Common.{◌≡◌, true, false, List, [], ◌∷◌, map, cond, refl, ap, sym, ◌∙◌}
use Rattle.std.specs.Prelude.{Bool, Option, Some}
use Rattle.std.specs.Str.{bytes_eq}
use Rattle.std.proofs.lemmas.Slice.Eq.{bytes_eq-Decides}
use Rattle.control_vectors.specs.declared.PairKind.TheVariants as q
use Rattle.programs.specs.declared.family.RankOperator.TheVariants as r
use Rattle.programs.specs.declared.family.FoldOperator.TheVariants as f
use Rattle.voodoo_text.specs.declared.operator.Operator.{Operator}
use Rattle.voodoo_text.specs.declared.operator.Operator.TheVariants as o
use Rattle.voodoo_text.specs.declared.operator.SingleOperator.TheVariants as s
use Rattle.voodoo_text.specs.Values.{Bytes}
use Rattle.voodoo_text.specs.Operators.{operator_of, operator_word, operators, with_word, lookup}
use Rattle.voodoo_text.specs.Spelled.{IsName}
use Rattle.voodoo_text.specs.Laws.{WordLaws}

pub word_named : (a : Operator) → operator_of (operator_word a) ≡ Some a
unfolding operator_of
word_named o.Range = refl
word_named (o.Single s.Load) = refl
word_named (o.Single s.Cross) = refl
word_named (o.Single s.Zip) = refl
word_named (o.Single s.Project) = refl
word_named (o.Single s.Upsert) = refl
word_named (o.Single s.Gather) = refl
word_named (o.Single s.Scatter) = refl
word_named (o.Single s.Materialize) = refl
word_named (o.Single s.Break) = refl
word_named (o.Single s.Order) = refl
word_named (o.Single s.BitShift) = refl
word_named (o.Rank r.Bucket) = refl
word_named (o.Rank r.Partition) = refl
word_named (o.Fold f.Sum) = refl
word_named (o.Fold f.Min) = refl
word_named (o.Fold f.Max) = refl
word_named (o.Fold f.Select) = refl
word_named (o.Fold f.Scan) = refl
word_named (o.Pair q.Add) = refl
word_named (o.Pair q.Subtract) = refl
word_named (o.Pair q.Multiply) = refl
word_named (o.Pair q.Divide) = refl
word_named (o.Pair q.Modulo) = refl
word_named (o.Pair q.Greater) = refl
word_named (o.Pair q.Equals) = refl
word_named (o.Pair q.LogicalAnd) = refl
word_named (o.Pair q.LogicalOr) = refl
word_named (o.Pair q.Fill) = refl

pub word_name : (a : Operator) → IsName (operator_word a)
word_name o.Range = refl
word_name (o.Single s.Load) = refl
word_name (o.Single s.Cross) = refl
word_name (o.Single s.Zip) = refl
word_name (o.Single s.Project) = refl
word_name (o.Single s.Upsert) = refl
word_name (o.Single s.Gather) = refl
word_name (o.Single s.Scatter) = refl
word_name (o.Single s.Materialize) = refl
word_name (o.Single s.Break) = refl
word_name (o.Single s.Order) = refl
word_name (o.Single s.BitShift) = refl
word_name (o.Rank r.Bucket) = refl
word_name (o.Rank r.Partition) = refl
word_name (o.Fold f.Sum) = refl
word_name (o.Fold f.Min) = refl
word_name (o.Fold f.Max) = refl
word_name (o.Fold f.Select) = refl
word_name (o.Fold f.Scan) = refl
word_name (o.Pair q.Add) = refl
word_name (o.Pair q.Subtract) = refl
word_name (o.Pair q.Multiply) = refl
word_name (o.Pair q.Divide) = refl
word_name (o.Pair q.Modulo) = refl
word_name (o.Pair q.Greater) = refl
word_name (o.Pair q.Equals) = refl
word_name (o.Pair q.LogicalAnd) = refl
word_name (o.Pair q.LogicalOr) = refl
word_name (o.Pair q.Fill) = refl

same_option : (b a : Operator) → ◌≡◌ {A = Option Operator} (Some b) (Some a) → b ≡ a
same_option b a h = cc

found_by : (t : Bool) (b : Operator) (word : Bytes) (rest : Option Operator) (a : Operator) → bytes_eq (operator_word b) word ≡ t → (rest ≡ Some a → operator_word a ≡ word) → cond t (Some b) rest ≡ Some a → operator_word a ≡ word
found_by true b word rest a e others h = ap operator_word (sym (same_option b a h)) ∙ (bytes_eq-Decides (operator_word b) word).0 e
found_by false b word rest a e others h = others h

found : (os : List Operator) (word : Bytes) (a : Operator) → lookup (map with_word os) word ≡ Some a → operator_word a ≡ word
found [] word a h = absurd (cc)
found (b ∷ os) word a h = found_by (bytes_eq (operator_word b) word) b word (lookup (map with_word os) word) a refl (found os word a) h

pub word_laws : WordLaws
unfolding operator_of
word_laws = record { named = word_named; alone = λ word a h. found operators word a h }
