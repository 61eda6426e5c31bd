-- The statements, each on a line of its own, after the listings of the Voodoo paper, section 2.
use Rattle.std.specs.Prelude.{◌&&◌, Bool, List, [], ◌∷◌, length, Option, Some, None, Result, Ok, Err, codes, if◌then◌else◌}
use Rattle.std.specs.Option.{option_map}
use Rattle.std.specs.Str.{bytes_eq}
use Rattle.phrases.specs.Parsers as p
use Rattle.phrases.specs.Parsers.{pure, ◌>>=◌, ◌>>◌}
use Rattle.phrases.specs.declared.refusal.ReadError.{ReadError}
use Rattle.phrases.specs.declared.refusal.ReadError.TheVariants.{Refused}
use Rattle.programs.specs.declared.op.Op.{Op}
use Rattle.programs.specs.declared.op.Op.TheVariants as op
use Rattle.programs.specs.declared.op.PairArgs.{PairArgs}
use Rattle.programs.specs.declared.op.FoldArgs.{FoldArgs}
use Rattle.programs.specs.declared.op.RankArgs.{RankArgs}
use Rattle.programs.specs.declared.op.Statement.{Statement}
use Rattle.voodoo_text.specs.declared.kind.Kind.TheVariants as k
use Rattle.voodoo_text.specs.declared.refusal.TextKind.{TextKind}
use Rattle.voodoo_text.specs.declared.refusal.TextKind.TheVariants.{Unexpected, NotAdmissible}
use Rattle.voodoo_text.specs.declared.operator.Operator.{Operator}
use Rattle.voodoo_text.specs.declared.operator.Operator.TheVariants as o
use Rattle.voodoo_text.specs.declared.operator.SingleOperator.{SingleOperator}
use Rattle.voodoo_text.specs.declared.operator.SingleOperator.TheVariants as s
use Rattle.voodoo_text.specs.Kinds.{fault_of}
use Rattle.voodoo_text.specs.Values.{Bytes, integer_within}
use Rattle.voodoo_text.specs.Tokens.{Token}
use Rattle.programs.specs.Families.{pair_of, fold_of, rank_of}
use Rattle.voodoo_text.specs.Operators.{operator_of}
use Rattle.voodoo_text.specs.Places.{Parser, is, expect, name, path, attribute, control, number, operand, size, keys, next}

-- ---- the arguments of each operator, in order

unfoldable pub load : Parser Op
load = do
  t ← name
  pure (op.Load t)

-- a Range whose four numbers are not admissible is none
unfoldable pub range : Parser (Option Op)
range = do
  n ← size
  out ← next path
  c ← next control
  pure (option_map (op.Range n out) c)

unfoldable pub cross : Parser Op
cross = do
  v ← attribute
  w ← next attribute
  pure (op.Cross v.vector v.path w.vector w.path)

unfoldable pub zip : Parser Op
zip = do
  a ← name
  b ← next name
  pure (op.Zip a b)

unfoldable pub project : Parser Op
project = do
  v ← attribute
  r ← next path
  pure (op.Project v.vector v.path r)

unfoldable pub upsert : Parser Op
upsert = do
  v ← attribute
  w ← next attribute
  pure (op.Upsert v.vector v.path w.vector w.path)

unfoldable pub gather : Parser Op
gather = do
  a ← name
  w ← next attribute
  pure (op.Gather a w.vector w.path)

unfoldable pub scatter : Parser Op
scatter = do
  a ← name
  n ← next size
  w ← next attribute
  pure (op.Scatter a n w.vector w.path)

-- a Bucket or a Partition
unfoldable pub rank : Parser RankArgs
rank = do
  v ← attribute
  w ← next attribute
  out ← next path
  pure (record { a = v.vector; key = v.path; b = w.vector; pivot = w.path; out = out })

unfoldable pub materialize : Parser Op
materialize = do
  a ← name
  pure (op.Materialize a)

unfoldable pub break_ : Parser Op
break_ = do
  a ← name
  pure (op.Break a)

unfoldable pub fold : Parser FoldArgs
fold = do
  v ← attribute
  run ← next path
  out ← next path
  pure (record { a = v.vector; val = v.path; run = run; out = out })

unfoldable pub order : Parser Op
order = do
  v ← attribute
  out ← next path
  ks ← keys
  pure (op.Order v.vector v.path out ks)

-- an operator that works slot by slot
unfoldable pub pair : Parser PairArgs
pair = do
  x ← operand
  y ← next operand
  out ← next path
  pure (record { x = x; y = y; out = out })

unfoldable pub bit_shift : Parser Op
bit_shift = do
  x ← operand
  by ← next (number (integer_within 127 127))
  out ← next path
  pure (op.BitShift x by out)

unfoldable pub single : SingleOperator → Parser Op
single s.Load = load
single s.Cross = cross
single s.Zip = zip
single s.Project = project
single s.Upsert = upsert
single s.Gather = gather
single s.Scatter = scatter
single s.Materialize = materialize
single s.Break = break_
single s.Order = order
single s.BitShift = bit_shift

abbrev pub some : {A : Type 0} → (A → Op) → A → Parser (Option Op)
some make a = pure (Some (make a))

unfoldable pub arguments : Operator → Parser (Option Op)
arguments o.Range = range
arguments (o.Single a) = single a >>= some (λ op. op)
arguments (o.Rank a) = rank >>= some (rank_of a)
arguments (o.Fold a) = fold >>= some (fold_of a)
arguments (o.Pair a) = pair >>= some (pair_of a)

-- ---- statements

-- an operator's word; any other word cannot stand there
abbrev pub known : Option Operator → Token → List Token → p.Outcome Token TextKind Operator
known (Some a) t ts = Ok (a, ts)
known None t ts = Err (Refused Unexpected (length (t ∷ ts)))

unfoldable pub operator : Parser Operator
operator [] = Err (Refused Unexpected 0)
operator (t ∷ ts) = if is k.Name t then known (operator_of t.word) t ts else Err (Refused (fault_of t.kind) (length (t ∷ ts)))

abbrev pub statement : Bytes → Op → Statement
statement name op = record { name = name; op = op }

-- `name = Op(arguments)`, after the name
unfoldable pub assigned : Bytes → Parser (Option Statement)
assigned target = do
  expect k.Equal
  a ← operator
  expect k.Open
  made ← arguments a
  expect k.Close
  pure (option_map (statement target) made)

-- `Persist(name, v)`, after the word
unfoldable pub persisted : Parser (Option Statement)
persisted = do
  expect k.Open
  shown ← name
  a ← next name
  expect k.Close
  pure (Some (statement shown (op.Persist a)))

-- the word Persist, and then a parenthesis
abbrev pub begins_persist : Bytes → List Token → Bool
begins_persist word ts = bytes_eq word (codes "Persist") && p.next (is k.Open) ts

unfoldable pub after_word : Bytes → Parser (Option Statement)
after_word word ts = if begins_persist word ts then persisted ts else assigned word ts

unfoldable pub statement_of : Parser (Option Statement)
statement_of = name >>= after_word

-- ---- lines

-- nothing stands behind a statement
unfoldable pub at_end : Parser (Unit {0})
at_end [] = Ok (tt, [])
at_end (t ∷ ts) = Err (Refused (fault_of t.kind) (length (t ∷ ts)))

-- that a Range is not admissible is said last
abbrev pub admissible : Option Statement → Result Statement (ReadError TextKind)
admissible (Some s) = Ok s
admissible None = Err (Refused NotAdmissible 0)

abbrev pub ended : Option Statement → p.Outcome Token TextKind (Unit {0}) → Result Statement (ReadError TextKind)
ended made (Ok rest) = admissible made
ended made (Err e) = Err e

abbrev pub before_end : p.Outcome Token TextKind (Option Statement) → Result Statement (ReadError TextKind)
before_end (Ok found) = ended found.0 (at_end found.1)
before_end (Err e) = Err e

-- the statement of a line with these tokens
unfoldable pub line_of : List Token → Result Statement (ReadError TextKind)
line_of ts = before_end (statement_of ts)
