-- The grammar of what may stand in one place of a statement, over the tokens of a line.
use Rattle.std.specs.Prelude.{◌≡◌, ℕ, ℤ, pos, ◌^◌, ◌-◌, Bool, true, false, List, [], ◌∷◌, ◌++◌, Option, Some, unwrap_or}
use Rattle.phrases.specs.Phrases.{Phrase, nothing, ◌>>=◌, ◌>>◌, ◌<|>◌, Repeated}
use Rattle.programs.specs.declared.op.Size.{Size}
use Rattle.programs.specs.declared.op.Size.TheVariants as sizes
use Rattle.programs.specs.declared.op.Operand.{Operand}
use Rattle.programs.specs.declared.op.Operand.TheVariants as operands
use Rattle.programs.specs.declared.order_keys.OrderPath.{OrderPath}
use Rattle.control_vectors.specs.Controls.{Control}
use Rattle.voodoo_text.specs.declared.places.VectorPath.{VectorPath}
use Rattle.voodoo_text.specs.declared.kind.Kind.{Kind}
use Rattle.voodoo_text.specs.declared.kind.Kind.TheVariants as k
use Rattle.voodoo_text.specs.declared.operator.Operator.{Operator}
use Rattle.voodoo_text.specs.Values.{Bytes, integer_within, natural_within, admitted}
use Rattle.voodoo_text.specs.Tokens.{Token, token}
use Rattle.voodoo_text.specs.Operators.{operator_of}
use Rattle.voodoo_text.specs.Places.{attribute_of}

-- what is asked of the numbers of a line
pub data Asked : Type 0 where
  -- that each lies in the range of its place
  ranges : Asked
  -- nothing but where they stand
  order_alone : Asked

-- ---- one token

-- a token of this kind, by its bytes
abbrev pub word : Kind → Phrase Token Bytes
word kind ts bytes = ts ≡ token kind bytes ∷ []

-- a token of this kind whose bytes have a value
abbrev pub valued : {A : Type 0} → Kind → (Bytes → Option A) → Phrase Token A
valued kind value ts a = (bytes : Bytes) × word kind ts bytes × (value bytes ≡ Some a)

abbrev pub name : Phrase Token Bytes
name = word k.Name

abbrev pub path : Phrase Token Bytes
path = word k.Path

-- where ranges are not asked, a number that its place does not hold stands for 0
abbrev pub held : {A : Type 0} → Asked → A → (Bytes → Option A) → Bytes → Option A
held ranges nil within bytes = within bytes
held order_alone nil within bytes = Some (unwrap_or (within bytes) nil)

-- a number from -least to most
abbrev pub integer : Asked → ℕ → ℕ → Phrase Token ℤ
integer m least most = valued k.Number (held m (pos 0) (integer_within least most))

-- a number from 0 to most
abbrev pub natural : Asked → ℕ → Phrase Token ℕ
natural m most = valued k.Number (held m 0 (natural_within most))

-- the word of an operator
abbrev pub operator : Phrase Token Operator
operator = valued k.Name operator_of

-- ---- what may stand in one place of a statement

-- "," and what comes next
abbrev pub next : {A : Type 0} → Phrase Token A → Phrase Token A
next L = word k.Comma >> L

-- attribute = name "," path
abbrev pub attribute : Phrase Token VectorPath
attribute = do a ← name; q ← next path; nothing (attribute_of a q)

-- control = start "," step "," modulus "," divisor; none where the four numbers are not admissible
abbrev pub control : Asked → Phrase Token (Option Control)
control m = do
  start ← integer m (2 ^ 63) (2 ^ 63 - 1)
  step ← next (natural m (2 ^ 64 - 1))
  modulus ← next (natural m (2 ^ 64 - 1))
  divisor ← next (natural m (2 ^ 64 - 1))
  nothing (admitted start step modulus divisor)

-- operand = name path | number, where the path directly follows the name
abbrev pub operand : Asked → Phrase Token Operand
operand m =
    (do a ← name; q ← word k.Attached; nothing (operands.Column a q))
    <|> (do z ← integer m (2 ^ 127) (2 ^ 127 - 1); nothing (operands.Number z))

-- size = name | number
abbrev pub size : Asked → Phrase Token Size
size m =
    (do a ← name; nothing (sizes.Of a))
    <|> (do n ← natural m (2 ^ 32 - 1); nothing (sizes.Number n))

-- "-" | "+", of a key that descends and of one that ascends
abbrev pub descends : Phrase Token Bool
descends = (word k.Minus >> nothing true) <|> (word k.Plus >> nothing false)

-- key = ("-" | "+") path
abbrev pub key : Phrase Token OrderPath
key = do
  down ← descends
  q ← path
  nothing (record { path = q; descending = down })

abbrev pub another_key : List OrderPath → Phrase Token (List OrderPath)
another_key keys = do
  last ← next key
  nothing (keys ++ last ∷ [])

-- keys = {"," key}
abbrev pub keys : Phrase Token (List OrderPath)
keys = Repeated another_key []
