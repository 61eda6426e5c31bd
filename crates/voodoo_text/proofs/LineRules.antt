-- Each rule of the grammar of lines, beside its parser.
use Rattle.std.proofs.Common.{◌≡◌, ℕ, pos, ◌^◌, ◌-◌, Bool, true, false, List, [], ◌∷◌, ◌++◌, refl}
use Rattle.std.specs.Prelude.{Some}
use Rattle.phrases.specs.Phrases.{Phrase}
use Rattle.phrases.proofs.First.{Starts, starts_both}
use Rattle.programs.specs.declared.op.Op.TheVariants as op
use Rattle.programs.specs.declared.op.Size.TheVariants as sizes
use Rattle.programs.specs.declared.op.Operand.TheVariants as operands
use Rattle.programs.specs.declared.order_keys.OrderPath.{OrderPath}
use Rattle.voodoo_text.specs.declared.kind.Kind.TheVariants as k
use Rattle.voodoo_text.specs.declared.operator.Operator.{Operator}
use Rattle.voodoo_text.specs.declared.operator.Operator.TheVariants as o
use Rattle.voodoo_text.specs.declared.operator.SingleOperator.{SingleOperator}
use Rattle.voodoo_text.specs.declared.operator.SingleOperator.TheVariants as s
use Rattle.voodoo_text.specs.Kinds.{same_kind}
use Rattle.voodoo_text.specs.Values.{integer_within, natural_within}
use Rattle.voodoo_text.specs.Tokens.{Token}
use Rattle.programs.specs.Families.{pair_of, fold_of, rank_of}
use Rattle.voodoo_text.specs.Places as p
use Rattle.voodoo_text.specs.Places.{Parser, is}
use Rattle.voodoo_text.specs.Statements as st
use Rattle.voodoo_text.specs.Statements.{statement}
use Rattle.voodoo_text.specs.PlaceGrammar as place
use Rattle.voodoo_text.specs.Grammar as g
use Rattle.voodoo_text.specs.PlaceGrammar.{ranges, order_alone, word}
use Rattle.voodoo_text.proofs.Rules.{Rule, ends, after, made, choice, many}
use Rattle.voodoo_text.proofs.TokenRules.{rule_word, rule_number, begins, differs, begins_number}

-- ---- what may stand in one place

pub name : {stop : Token → Bool} → Rule place.name place.name stop p.name
name = rule_word k.Name

path : {stop : Token → Bool} → Rule place.path place.path stop p.path
path = rule_word k.Path

operand : {stop : Token → Bool} → Rule (place.operand ranges) (place.operand order_alone) stop p.operand
unfolding p.operand p.column same_kind
operand = choice (is k.Name)
    (after name (λ a. after (rule_word k.Attached) (λ q. ends (operands.Column a q))))
    (after (rule_number (pos 0) (integer_within (2 ^ 127) (2 ^ 127 - 1)) refl) (λ z. ends (operands.Number z)))
    (begins k.Name _) (begins k.Name _) (begins_number _ k.Name _ refl) (begins_number _ k.Name _ refl)

size : {stop : Token → Bool} → Rule (place.size ranges) (place.size order_alone) stop p.size
unfolding p.size same_kind
size = choice (is k.Name)
    (after name (λ a. ends (sizes.Of a)))
    (after (rule_number 0 (natural_within (2 ^ 32 - 1)) refl) (λ n. ends (sizes.Number n)))
    (begins k.Name _) (begins k.Name _) (begins_number _ k.Name _ refl) (begins_number _ k.Name _ refl)

pub next : {A : Type 0} {L M : Phrase Token A} {q : Parser A} {stop : Token → Bool} → Rule L M stop q → Rule (place.next L) (place.next M) stop (p.next q)
next r = after (rule_word k.Comma) (λ _. r)

integer : (least most : ℕ) → integer_within least most (48 ∷ []) ≡ Some (pos 0) → {stop : Token → Bool} → Rule (place.integer ranges least most) (place.integer order_alone least most) stop (p.number (integer_within least most))
integer least most zero = rule_number (pos 0) (integer_within least most) zero

natural : (most : ℕ) → natural_within most (48 ∷ []) ≡ Some 0 → {stop : Token → Bool} → Rule (place.natural ranges most) (place.natural order_alone most) stop (p.number (natural_within most))
natural most zero = rule_number 0 (natural_within most) zero

attribute : {stop : Token → Bool} → Rule place.attribute place.attribute stop p.attribute
unfolding p.attribute
attribute = after name (λ a. after (next path) (λ q. ends _))

control : {stop : Token → Bool} → Rule (place.control ranges) (place.control order_alone) stop p.control
unfolding p.control
control = after (integer (2 ^ 63) (2 ^ 63 - 1) refl) (λ start. after (next (natural (2 ^ 64 - 1) refl))
    (λ step. after (next (natural (2 ^ 64 - 1) refl)) (λ modulus. after (next (natural (2 ^ 64 - 1) refl)) (λ divisor. ends _))))

descends : {stop : Token → Bool} → Rule place.descends place.descends stop p.descends
unfolding p.descends same_kind
descends = choice (is k.Minus)
    (after (rule_word k.Minus) (λ _. ends true))
    (after (rule_word k.Plus) (λ _. ends false))
    (begins k.Minus _) (begins k.Minus _) (differs k.Plus k.Minus _ refl) (differs k.Plus k.Minus _ refl)

key : {stop : Token → Bool} → Rule place.key place.key stop p.key
unfolding p.key
key = after descends (λ down. after path (λ q. ends _))

another_key : {stop : Token → Bool} (keys : List OrderPath) → Rule (place.another_key keys) (place.another_key keys) stop (p.another_key keys)
unfolding p.another_key
another_key keys = after (next key) (λ last. ends (keys ++ last ∷ []))

keys : Rule place.keys place.keys (is k.Comma) p.keys
unfolding p.keys
keys = many (is k.Comma) another_key begins_key begins_key []
  where
    begins_key : (keys : List OrderPath) → Starts (is k.Comma) (place.another_key keys)
    begins_key keys = starts_both (is k.Comma) (place.next place.key) _ (begins k.Comma (λ _. place.key))

-- ---- the arguments of each operator

load : {stop : Token → Bool} → Rule g.load g.load stop st.load
unfolding st.load
load = after name (λ t. ends (op.Load t))

range : {stop : Token → Bool} → Rule (g.range ranges) (g.range order_alone) stop st.range
unfolding st.range
range = after size (λ n. after (next path) (λ out. after (next control) (λ c. ends _)))

cross : {stop : Token → Bool} → Rule g.cross g.cross stop st.cross
unfolding st.cross
cross = after attribute (λ v. after (next attribute) (λ w. ends _))

zip : {stop : Token → Bool} → Rule g.zip g.zip stop st.zip
unfolding st.zip
zip = after name (λ a. after (next name) (λ b. ends _))

project : {stop : Token → Bool} → Rule g.project g.project stop st.project
unfolding st.project
project = after attribute (λ v. after (next path) (λ r. ends _))

upsert : {stop : Token → Bool} → Rule g.upsert g.upsert stop st.upsert
unfolding st.upsert
upsert = after attribute (λ v. after (next attribute) (λ w. ends _))

gather : {stop : Token → Bool} → Rule g.gather g.gather stop st.gather
unfolding st.gather
gather = after name (λ a. after (next attribute) (λ w. ends _))

scatter : {stop : Token → Bool} → Rule (g.scatter ranges) (g.scatter order_alone) stop st.scatter
unfolding st.scatter
scatter = after name (λ a. after (next size) (λ n. after (next attribute) (λ w. ends _)))

rank : {stop : Token → Bool} → Rule g.rank g.rank stop st.rank
unfolding st.rank
rank = after attribute (λ v. after (next attribute) (λ w. after (next path) (λ out. ends _)))

materialize : {stop : Token → Bool} → Rule g.materialize g.materialize stop st.materialize
unfolding st.materialize
materialize = after name (λ a. ends _)

break_ : {stop : Token → Bool} → Rule g.break_ g.break_ stop st.break_
unfolding st.break_
break_ = after name (λ a. ends _)

fold : {stop : Token → Bool} → Rule g.fold g.fold stop st.fold
unfolding st.fold
fold = after attribute (λ v. after (next path) (λ run. after (next path) (λ out. ends _)))

order : Rule g.order g.order (is k.Comma) st.order
unfolding st.order
order = after attribute (λ v. after (next path) (λ out. made (op.Order v.vector v.path out) keys))

pair : {stop : Token → Bool} → Rule (g.pair ranges) (g.pair order_alone) stop st.pair
unfolding st.pair
pair = after operand (λ x. after (next operand) (λ y. after (next path) (λ out. ends _)))

bit_shift : {stop : Token → Bool} → Rule (g.bit_shift ranges) (g.bit_shift order_alone) stop st.bit_shift
unfolding st.bit_shift
bit_shift = after operand (λ x. after (next (integer 127 127 refl)) (λ by. after (next path) (λ out. ends _)))

single : (a : SingleOperator) → Rule (g.single ranges a) (g.single order_alone a) (is k.Comma) (st.single a)
unfolding st.single
single s.Load = load
single s.Cross = cross
single s.Zip = zip
single s.Project = project
single s.Upsert = upsert
single s.Gather = gather
single s.Scatter = scatter
single s.Materialize = materialize
single s.Break = break_
single s.Order = order
single s.BitShift = bit_shift

-- a comma goes on with the arguments of an Order alone
pub arguments : (a : Operator) → Rule (g.arguments ranges a) (g.arguments order_alone a) (is k.Comma) (st.arguments a)
unfolding st.arguments
arguments o.Range = range
arguments (o.Single a) = made (λ op. Some op) (single a)
arguments (o.Rank a) = made (λ args. Some (rank_of a args)) rank
arguments (o.Fold a) = made (λ args. Some (fold_of a args)) fold
arguments (o.Pair a) = made (λ args. Some (pair_of a args)) pair
