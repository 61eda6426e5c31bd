-- The grammar of a line, over its tokens: which tokens spell which statement. After the listings of the Voodoo paper, section 2.
use Rattle.std.specs.Prelude.{◌≡◌, Option, Some, codes}
use Rattle.std.specs.Option.{option_map}
use Rattle.phrases.specs.Phrases.{Phrase, nothing, ◌>>=◌, ◌>>◌, ◌<|>◌}
use Rattle.programs.specs.declared.op.Op.{Op}
use Rattle.programs.specs.declared.op.Op.TheVariants as op
use Rattle.programs.specs.declared.op.PairArgs.{PairArgs}
use Rattle.programs.specs.declared.op.FoldArgs.{FoldArgs}
use Rattle.programs.specs.declared.op.RankArgs.{RankArgs}
use Rattle.programs.specs.declared.op.Statement.{Statement}
use Rattle.voodoo_text.specs.declared.kind.Kind.TheVariants as k
use Rattle.voodoo_text.specs.declared.operator.Operator.{Operator}
use Rattle.voodoo_text.specs.declared.operator.Operator.TheVariants as o
use Rattle.voodoo_text.specs.declared.operator.SingleOperator.{SingleOperator}
use Rattle.voodoo_text.specs.declared.operator.SingleOperator.TheVariants as s
use Rattle.voodoo_text.specs.Values.{Bytes}
use Rattle.voodoo_text.specs.Tokens.{Token}
use Rattle.programs.specs.Families.{pair_of, fold_of, rank_of}
use Rattle.voodoo_text.specs.Statements.{statement}
use Rattle.voodoo_text.specs.PlaceGrammar.{Asked, word, name, path, attribute, control, integer, operator, operand, size, next, keys}

-- ---- the arguments of each operator, where a and b are vectors

-- Load(table)
abbrev pub load : Phrase Token Op
load = do t ← name; nothing (op.Load t)

-- Range(size, .out, start, step, modulus, divisor); a Range whose four numbers are not admissible is none
abbrev pub range : Asked → Phrase Token (Option Op)
range m = do n ← size m; out ← next path; c ← next (control m); nothing (option_map (op.Range n out) c)

-- Cross(a, .q, b, .r)
abbrev pub cross : Phrase Token Op
cross = do v ← attribute; w ← next attribute; nothing (op.Cross v.vector v.path w.vector w.path)

-- Zip(a, b)
abbrev pub zip : Phrase Token Op
zip = do a ← name; b ← next name; nothing (op.Zip a b)

-- Project(a, .q, .r)
abbrev pub project : Phrase Token Op
project = do v ← attribute; r ← next path; nothing (op.Project v.vector v.path r)

-- Upsert(a, .q, b, .r)
abbrev pub upsert : Phrase Token Op
upsert = do v ← attribute; w ← next attribute; nothing (op.Upsert v.vector v.path w.vector w.path)

-- Gather(a, b, .pos)
abbrev pub gather : Phrase Token Op
gather = do a ← name; w ← next attribute; nothing (op.Gather a w.vector w.path)

-- Scatter(a, size, b, .pos)
abbrev pub scatter : Asked → Phrase Token Op
scatter m = do a ← name; n ← next (size m); w ← next attribute; nothing (op.Scatter a n w.vector w.path)

-- Bucket(a, .key, b, .pivot, .out), and so Partition
abbrev pub rank : Phrase Token RankArgs
rank = do
  v ← attribute
  w ← next attribute
  out ← next path
  nothing (record { a = v.vector; key = v.path; b = w.vector; pivot = w.path; out = out })

-- Materialize(a)
abbrev pub materialize : Phrase Token Op
materialize = do a ← name; nothing (op.Materialize a)

-- Break(a)
abbrev pub break_ : Phrase Token Op
break_ = do a ← name; nothing (op.Break a)

-- FoldSum(a, .val, .run, .out), and so each fold
abbrev pub fold : Phrase Token FoldArgs
fold = do
  v ← attribute
  run ← next path
  out ← next path
  nothing (record { a = v.vector; val = v.path; run = run; out = out })

-- Order(a, .mark, .out {, key})
abbrev pub order : Phrase Token Op
order = do v ← attribute; out ← next path; ks ← keys; nothing (op.Order v.vector v.path out ks)

-- Add(x, y, .out), and so each operator that works slot by slot on two operands
abbrev pub pair : Asked → Phrase Token PairArgs
pair m = do
  x ← operand m
  y ← next (operand m)
  out ← next path
  nothing (record { x = x; y = y; out = out })

-- BitShift(x, by, .out), by -127 to 127 bits
abbrev pub bit_shift : Asked → Phrase Token Op
bit_shift m = do x ← operand m; by ← next (integer m 127 127); out ← next path; nothing (op.BitShift x by out)

abbrev pub single : Asked → SingleOperator → Phrase Token Op
single m s.Load = load
single m s.Cross = cross
single m s.Zip = zip
single m s.Project = project
single m s.Upsert = upsert
single m s.Gather = gather
single m s.Scatter = scatter m
single m s.Materialize = materialize
single m s.Break = break_
single m s.Order = order
single m s.BitShift = bit_shift m

abbrev pub some : {A : Type 0} → (A → Op) → A → Phrase Token (Option Op)
some make a = nothing (Some (make a))

abbrev pub arguments : Asked → Operator → Phrase Token (Option Op)
arguments m o.Range = range m
arguments m (o.Single a) = single m a >>= some (λ op. op)
arguments m (o.Rank a) = rank >>= some (rank_of a)
arguments m (o.Fold a) = fold >>= some (fold_of a)
arguments m (o.Pair a) = pair m >>= some (pair_of a)

-- ---- lines

-- the word Persist
abbrev pub persist_word : Phrase Token Bytes
persist_word ts bytes = word k.Name ts bytes × (bytes ≡ codes "Persist")

-- Persist(name, a)
abbrev pub persist : Phrase Token (Option Statement)
persist = do
  persist_word
  word k.Open
  shown ← name
  a ← next name
  word k.Close
  nothing (Some (statement shown (op.Persist a)))

-- name = Op(arguments)
abbrev pub assignment : Asked → Phrase Token (Option Statement)
assignment m = do
  target ← name
  word k.Equal
  a ← operator
  word k.Open
  made ← arguments m a
  word k.Close
  nothing (option_map (statement target) made)

-- the statement that a line spells, or none: a Range that is not admissible
abbrev pub line : Asked → Phrase Token (Option Statement)
line m = persist <|> assignment m
