-- The programs that a text can spell.
use Rattle.std.specs.Prelude.{ℤ, pos, neg_ℤ, ◌^◌, ◌<◌, ◌≤ℤ◌, ◌<ℤ◌, IsTrue, List, [], ◌∷◌}
use Rattle.control_vectors.specs.Controls.{IsAdmissible}
use Rattle.key_paths.specs.Paths.{is_segment, IsPath}
use Rattle.programs.specs.declared.op.Size.{Size}
use Rattle.programs.specs.declared.op.Size.TheVariants as size
use Rattle.programs.specs.declared.op.Operand.{Operand}
use Rattle.programs.specs.declared.op.Operand.TheVariants as operand
use Rattle.programs.specs.declared.op.Op.{Op}
use Rattle.programs.specs.Families.{Family, Load, Persist, Range, Cross, Zip, Project, Upsert, Gather, Scatter, Rank, Materialize, Break, Fold, Order, Pair, BitShift, family}
use Rattle.programs.specs.declared.op.PairArgs.{PairArgs}
use Rattle.programs.specs.declared.op.FoldArgs.{FoldArgs}
use Rattle.programs.specs.declared.op.RankArgs.{RankArgs}
use Rattle.programs.specs.declared.op.Statement.{Statement}
use Rattle.programs.specs.declared.order_keys.OrderPath.{OrderPath}
use Rattle.voodoo_text.specs.Values.{Bytes}

-- ---- the names and the one range that the types leave free
abbrev pub IsName : Bytes → Type 0
IsName name = IsTrue (is_segment name)

abbrev pub IsShift : ℤ → Type 0
IsShift by = (neg_ℤ (pos 127) ≤ℤ by) × (by ≤ℤ pos 127)

abbrev pub SizeHasName : Size → Type 0
SizeHasName (size.Number n) = Unit {0}
SizeHasName (size.Of vector) = IsName vector

abbrev pub OperandHasName : Operand → Type 0
OperandHasName (operand.Column vector path) = IsName vector
OperandHasName (operand.Number z) = Unit {0}

abbrev pub PairHasNames : PairArgs → Type 0
PairHasNames args = OperandHasName args.x × OperandHasName args.y

abbrev pub RankHasNames : RankArgs → Type 0
RankHasNames args = IsName args.a × IsName args.b

-- each name of an operator has the form of a path's segment, and a shift is one of -127 to 127
abbrev pub HasNames : Family → Type 0
HasNames (Load table) = IsName table
HasNames (Persist a) = IsName a
HasNames (Range size out control) = SizeHasName size
HasNames (Cross a p b q) = IsName a × IsName b
HasNames (Zip a b) = IsName a × IsName b
HasNames (Project a p q) = IsName a
HasNames (Upsert a p b q) = IsName a × IsName b
HasNames (Gather a b at) = IsName a × IsName b
HasNames (Scatter a size b at) = IsName a × SizeHasName size × IsName b
HasNames (Rank kind args) = RankHasNames args
HasNames (Materialize a) = IsName a
HasNames (Break a) = IsName a
HasNames (Fold kind args) = IsName args.a
HasNames (Order a mark out keys) = IsName a
HasNames (Pair kind args) = PairHasNames args
HasNames (BitShift x by out) = OperandHasName x × IsShift by

abbrev pub OpHasNames : Op → Type 0
OpHasNames op = HasNames (family op)

abbrev pub StatementHasNames : Statement → Type 0
StatementHasNames s = IsName s.name × OpHasNames s.op

abbrev pub CanBeSpelled : List Statement → Type 0
CanBeSpelled [] = Unit {0}
CanBeSpelled (s ∷ program) = StatementHasNames s × CanBeSpelled program

-- ---- the paths and numbers, whose ranges each value of the types has
abbrev pub SizeInRange : Size → Type 0
SizeInRange (size.Number n) = n < 2 ^ 32
SizeInRange (size.Of vector) = Unit {0}

abbrev pub OperandInRange : Operand → Type 0
OperandInRange (operand.Column vector path) = IsPath path
OperandInRange (operand.Number z) = (neg_ℤ (pos (2 ^ 127)) ≤ℤ z) × (z <ℤ pos (2 ^ 127))

abbrev pub PairInRange : PairArgs → Type 0
PairInRange args = OperandInRange args.x × OperandInRange args.y × IsPath args.out

abbrev pub FoldInRange : FoldArgs → Type 0
FoldInRange args = IsPath args.val × IsPath args.run × IsPath args.out

abbrev pub RankInRange : RankArgs → Type 0
RankInRange args = IsPath args.key × IsPath args.pivot × IsPath args.out

abbrev pub KeysInRange : List OrderPath → Type 0
KeysInRange [] = Unit {0}
KeysInRange (key ∷ keys) = IsPath key.path × KeysInRange keys

abbrev pub InRange : Family → Type 0
InRange (Load table) = Unit {0}
InRange (Persist a) = Unit {0}
InRange (Range size out control) = SizeInRange size × IsPath out × IsAdmissible control
InRange (Cross a p b q) = IsPath p × IsPath q
InRange (Zip a b) = Unit {0}
InRange (Project a p q) = IsPath p × IsPath q
InRange (Upsert a p b q) = IsPath p × IsPath q
InRange (Gather a b at) = IsPath at
InRange (Scatter a size b at) = SizeInRange size × IsPath at
InRange (Rank kind args) = RankInRange args
InRange (Materialize a) = Unit {0}
InRange (Break a) = Unit {0}
InRange (Fold kind args) = FoldInRange args
InRange (Order a mark out keys) = IsPath mark × IsPath out × KeysInRange keys
InRange (Pair kind args) = PairInRange args
InRange (BitShift x by out) = OperandInRange x × IsPath out

abbrev pub HasRanges : List Statement → Type 0
HasRanges [] = Unit {0}
HasRanges (s ∷ program) = InRange (family s.op) × HasRanges program
