-- The canonical text of a program: one line for each statement, as in the listings of the Voodoo paper, section 2.
use Rattle.std.specs.Prelude.{ℕ, Bool, true, false, List, [], ◌∷◌, ◌++◌, map, codes}
use Rattle.std.specs.List.{flat_map}
use Rattle.std.specs.Fmt.{decimal, signed_decimal}
use Rattle.control_vectors.specs.Controls.{Control}
use Rattle.programs.specs.declared.op.Size.{Size}
use Rattle.programs.specs.declared.op.Size.TheVariants as size
use Rattle.programs.specs.declared.op.Operand.{Operand}
use Rattle.programs.specs.declared.op.Operand.TheVariants as operand
use Rattle.programs.specs.Families.{Family, Load, Persist, Range, Cross, Zip, Project, Upsert, Gather, Scatter, Rank, Materialize, Break, Fold, Order, Pair, BitShift, family}
use Rattle.programs.specs.declared.op.PairArgs.{PairArgs}
use Rattle.programs.specs.declared.op.FoldArgs.{FoldArgs}
use Rattle.programs.specs.declared.op.RankArgs.{RankArgs}
use Rattle.programs.specs.declared.op.Statement.{Statement}
use Rattle.programs.specs.declared.order_keys.OrderPath.{OrderPath}
use Rattle.voodoo_text.specs.declared.operator.SingleOperator.TheVariants as single
use Rattle.voodoo_text.specs.declared.operator.Operator.TheVariants as operator
use Rattle.voodoo_text.specs.Values.{Bytes}
use Rattle.voodoo_text.specs.Operators.{single_word, rank_word, fold_word, pair_word, operator_word}

-- a size is a number or a vector's name
abbrev pub size_text : Size → Bytes
size_text (size.Number n) = decimal n
size_text (size.Of vector) = vector

-- an operand is a vector's name directly followed by a path, or a number
abbrev pub operand_text : Operand → Bytes
operand_text (operand.Column vector path) = vector ++ path
operand_text (operand.Number z) = signed_decimal z

-- `+` before a key that ascends, `-` before one that descends
abbrev pub key_sign : Bool → ℕ
key_sign true = 45
key_sign false = 43

abbrev pub key_text : OrderPath → Bytes
key_text key = key_sign key.descending ∷ key.path

-- ---- each family of operators
abbrev pub family_word : Family → Bytes
family_word (Load table) = single_word single.Load
family_word (Persist a) = codes "Persist"
family_word (Range size out control) = operator_word operator.Range
family_word (Cross a p b q) = single_word single.Cross
family_word (Zip a b) = single_word single.Zip
family_word (Project a p q) = single_word single.Project
family_word (Upsert a p b q) = single_word single.Upsert
family_word (Gather a b pos) = single_word single.Gather
family_word (Scatter a size b pos) = single_word single.Scatter
family_word (Rank kind args) = rank_word kind
family_word (Materialize a) = single_word single.Materialize
family_word (Break a) = single_word single.Break
family_word (Fold kind args) = fold_word kind
family_word (Order a mark out keys) = single_word single.Order
family_word (Pair kind args) = pair_word kind
family_word (BitShift x by out) = single_word single.BitShift

-- a slot-wise operator has two operands and the path that it makes
abbrev pub pair_arguments : PairArgs → List Bytes
pair_arguments args = operand_text args.x ∷ operand_text args.y ∷ args.out ∷ []

-- a fold has a vector, the paths of the values and of the runs, and the path that it makes
abbrev pub fold_arguments : FoldArgs → List Bytes
fold_arguments args = args.a ∷ args.val ∷ args.run ∷ args.out ∷ []

abbrev pub rank_arguments : RankArgs → List Bytes
rank_arguments args = args.a ∷ args.key ∷ args.b ∷ args.pivot ∷ args.out ∷ []

abbrev pub range_arguments : Size → Bytes → Control → List Bytes
range_arguments size out control =
    size_text size ∷ out ∷ signed_decimal control.start ∷ decimal control.step ∷ decimal control.modulus ∷ decimal control.divisor ∷ []

-- what stands between the parentheses; a Persist has its result's name there first
abbrev pub arguments : Bytes → Family → List Bytes
arguments name (Load table) = table ∷ []
arguments name (Persist a) = name ∷ a ∷ []
arguments name (Range size out control) = range_arguments size out control
arguments name (Cross a p b q) = a ∷ p ∷ b ∷ q ∷ []
arguments name (Zip a b) = a ∷ b ∷ []
arguments name (Project a p q) = a ∷ p ∷ q ∷ []
arguments name (Upsert a p b q) = a ∷ p ∷ b ∷ q ∷ []
arguments name (Gather a b pos) = a ∷ b ∷ pos ∷ []
arguments name (Scatter a size b pos) = a ∷ size_text size ∷ b ∷ pos ∷ []
arguments name (Rank kind args) = rank_arguments args
arguments name (Materialize a) = a ∷ []
arguments name (Break a) = a ∷ []
arguments name (Fold kind args) = fold_arguments args
arguments name (Order a mark out keys) = a ∷ mark ∷ out ∷ map key_text keys
arguments name (Pair kind args) = pair_arguments args
arguments name (BitShift x by out) = operand_text x ∷ signed_decimal by ∷ out ∷ []

-- `name = `, but for a Persist
abbrev pub target : Bytes → Family → Bytes
target name (Persist a) = []
target name others = name ++ codes " = "

-- ---- the text
abbrev pub after_comma : Bytes → Bytes
after_comma argument = codes ", " ++ argument

-- with `, ` between them
abbrev pub listed : List Bytes → Bytes
listed [] = []
listed (first ∷ others) = first ++ flat_map after_comma others

abbrev pub call : Bytes → List Bytes → Bytes
call word words = word ++ (codes "(" ++ (listed words ++ codes ")"))

-- a statement with a name and an operator of a family
abbrev pub family_text : Bytes → Family → Bytes
family_text name f = target name f ++ call (family_word f) (arguments name f)

abbrev pub statement_text : Statement → Bytes
statement_text s = family_text s.name (family s.op)

abbrev pub line : Statement → Bytes
line s = statement_text s ++ codes "\n"

-- a line for each statement
abbrev pub text_of : List Statement → Bytes
text_of program = flat_map line program
