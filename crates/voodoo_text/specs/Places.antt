-- What may stand in one place of a statement, as parsers that decide by the next token.
use Rattle.std.specs.Prelude.{◌^◌, ◌-◌, Bool, true, false, List, [], ◌∷◌, ◌++◌, length, Option, Some, None, Ok, Err, if◌then◌else◌}
use Rattle.phrases.specs.Parsers as p
use Rattle.phrases.specs.Parsers.{pure, either, repeat, ◌>>=◌, ◌>>◌}
use Rattle.phrases.specs.declared.refusal.ReadError.TheVariants.{Refused}
use Rattle.programs.specs.declared.op.Size.{Size}
use Rattle.programs.specs.declared.op.Size.TheVariants as sizes
use Rattle.programs.specs.declared.op.Operand.{Operand}
use Rattle.programs.specs.declared.op.Operand.TheVariants as operands
use Rattle.programs.specs.declared.order_keys.OrderPath.{OrderPath}
use Rattle.control_vectors.specs.Controls.{Control}
use Rattle.voodoo_text.specs.declared.places.VectorPath.{VectorPath}
use Rattle.voodoo_text.specs.declared.kind.Kind.{Kind}
use Rattle.voodoo_text.specs.declared.kind.Kind.TheVariants as k
use Rattle.voodoo_text.specs.declared.refusal.TextKind.{TextKind}
use Rattle.voodoo_text.specs.declared.refusal.TextKind.TheVariants.{BadNumber, Unexpected}
use Rattle.voodoo_text.specs.Kinds.{same_kind, fault_of}
use Rattle.voodoo_text.specs.Values.{Bytes, integer_within, natural_within, admitted}
use Rattle.voodoo_text.specs.Tokens.{Token}

abbrev pub Parser : Type 0 → Type 0
Parser A = p.Parser Token TextKind A

abbrev pub is : Kind → Token → Bool
is kind t = same_kind t.kind kind

-- one token of this kind. At any other, and at the line's end, the line cannot go on.
unfoldable pub expect : Kind → Parser Bytes
expect kind [] = Err (Refused Unexpected 0)
expect kind (t ∷ ts) = if is kind t then Ok (t.word, ts) else Err (Refused (fault_of t.kind) (length (t ∷ ts)))

abbrev pub name : Parser Bytes
name = expect k.Name

abbrev pub path : Parser Bytes
path = expect k.Path

-- after a comma
abbrev pub next : {A : Type 0} → Parser A → Parser A
next q = expect k.Comma >> q

-- an attribute, by its vector's name and its path
abbrev pub attribute_of : Bytes → Bytes → VectorPath
attribute_of a q = record { vector = a; path = q }

unfoldable pub attribute : Parser VectorPath
attribute = do
  a ← name
  q ← next path
  pure (attribute_of a q)

-- a number that has its place's range
abbrev pub in_range : {A : Type 0} → Option A → Token → List Token → p.Outcome Token TextKind A
in_range (Some a) t ts = Ok (a, ts)
in_range None t ts = Err (Refused BadNumber (length (t ∷ ts)))

unfoldable pub number : {A : Type 0} → (Bytes → Option A) → Parser A
number within [] = Err (Refused Unexpected 0)
number within (t ∷ ts) = if is k.Number t then in_range (within t.word) t ts else Err (Refused (fault_of t.kind) (length (t ∷ ts)))

-- the four numbers of a control vector; none where they are not admissible
unfoldable pub control : Parser (Option Control)
control = do
  start ← number (integer_within (2 ^ 63) (2 ^ 63 - 1))
  step ← next (number (natural_within (2 ^ 64 - 1)))
  modulus ← next (number (natural_within (2 ^ 64 - 1)))
  divisor ← next (number (natural_within (2 ^ 64 - 1)))
  pure (admitted start step modulus divisor)

-- a name directly followed by a path, or a number of 128 bits
unfoldable pub column : Parser Operand
column = do
  a ← name
  q ← expect k.Attached
  pure (operands.Column a q)

unfoldable pub operand : Parser Operand
operand = either (is k.Name) column (do z ← number (integer_within (2 ^ 127) (2 ^ 127 - 1)); pure (operands.Number z))

-- a vector's name, or a number of 32 bits
unfoldable pub size : Parser Size
size = either (is k.Name) (do a ← name; pure (sizes.Of a)) (do n ← number (natural_within (2 ^ 32 - 1)); pure (sizes.Number n))

-- `+` before the path of a key that ascends, `-` before that of one that descends
unfoldable pub descends : Parser Bool
descends = either (is k.Minus) (do expect k.Minus; pure true) (do expect k.Plus; pure false)

unfoldable pub key : Parser OrderPath
key = do
  down ← descends
  q ← path
  pure (record { path = q; descending = down })

unfoldable pub another_key : List OrderPath → Parser (List OrderPath)
another_key keys = do
  last ← next key
  pure (keys ++ last ∷ [])

-- any number of keys, each after a comma
unfoldable pub keys : Parser (List OrderPath)
keys = repeat (is k.Comma) another_key []
