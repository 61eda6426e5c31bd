-- Over is strict: what is made of many rows is Over where it is Over on one of them, whatever the others give.
use Rattle.std.specs.Prelude.{Bool, false, List, [], ◌∷◌, filter, Result, Ok, Err}
use Rattle.control_vectors.specs.declared.Over.{Over}
use Rattle.typed_values.specs.Values.{Valued, is_true}

infixl 10 ◌>>=◌
abbrev pub ◌>>=◌ : {A B : Type 0} → Result A Over → (A → Result B Over) → Result B Over
(Ok a) >>= f = f a
(Err e) >>= f = Err e

-- what each of some rows gives, in order
abbrev pub each : {A B : Type 0} → (A → Result B Over) → List A → Result (List B) Over
each f [] = Ok []
each f (x ∷ xs) = do
  y ← f x
  ys ← each f xs
  Ok (y ∷ ys)

-- whether a condition is true: not where it is false, unknown or Over
abbrev pub is_met : Valued → Bool
is_met (Ok v) = is_true v
is_met (Err e) = false

-- the rows of which a condition is true, in order; it is evaluated on each of them
abbrev pub kept : {A : Type 0} → (A → Valued) → List A → Result (List A) Over
kept condition rows = do
  truths ← each condition rows
  Ok (filter (λ row. is_met (condition row)) rows)
