-- A parser takes tokens from the front, or refuses one of them.
use Rattle.std.specs.Prelude.{ℕ, zero, suc, Bool, false, if◌then◌else◌, List, [], ◌∷◌, length, Option, Some, None, Result, Ok, Err, ◌≡◌, ◌≢◌}
use Rattle.phrases.specs.declared.refusal.ReadError.{ReadError}
use Rattle.phrases.specs.declared.refusal.ReadError.TheVariants.{NoMemory, Refused}

-- the value and the tokens that are left, or the fault and the number of tokens from the refused one on
abbrev pub Outcome : Type 0 → Type 0 → Type 0 → Type 0
Outcome T F A = Result (A × List T) (ReadError F)

abbrev pub Parser : Type 0 → Type 0 → Type 0 → Type 0
Parser T F A = List T → Outcome T F A

abbrev pub and_then : {T F A B : Type 0} → Outcome T F A → (A → Parser T F B) → Outcome T F B
and_then (Ok p) f = f p.0 p.1
and_then (Err e) f = Err e

infixl 10 ◌>>=◌
abbrev pub ◌>>=◌ : {T F A B : Type 0} → Parser T F A → (A → Parser T F B) → Parser T F B
p >>= f = λ ts. and_then (p ts) f

infixl 10 ◌>>◌
abbrev pub ◌>>◌ : {T F A B : Type 0} → Parser T F A → Parser T F B → Parser T F B
p >> q = p >>= (λ _. q)

abbrev pub pure : {T F A : Type 0} → A → Parser T F A
pure a = λ ts. Ok (a, ts)

abbrev pub refuse : {T F A : Type 0} → F → Parser T F A
refuse fault = λ ts. Err (Refused fault (length ts))

-- the first token, if there is one
abbrev pub head : {T : Type 0} → List T → Option T
head [] = None
head (t ∷ ts) = Some t

abbrev pub passes : {T : Type 0} → (T → Bool) → Option T → Bool
passes test None = false
passes test (Some t) = test t

-- whether there is a next token that passes the test
abbrev pub next : {T : Type 0} → (T → Bool) → List T → Bool
next test ts = passes test (head ts)

-- one token that passes the test; the fault is that of any other, and of the end
unfoldable pub expect : {T F : Type 0} → F → (T → Bool) → Parser T F T
expect fault test [] = Err (Refused fault 0)
expect fault test (t ∷ ts) = if test t then Ok (t, ts) else Err (Refused fault (length (t ∷ ts)))

-- by the next token
abbrev pub either : {T F A : Type 0} → (T → Bool) → Parser T F A → Parser T F A → Parser T F A
either sel p q = λ ts. if next sel ts then p ts else q ts

-- as long as the next token says so. The number bounds the turns.
unfoldable pub turns : {T F A : Type 0} → (T → Bool) → (A → Parser T F A) → ℕ → A → Parser T F A
turns sel turn zero a = pure a
turns sel turn (suc n) a = either sel (turn a >>= turns sel turn n) (pure a)

-- each turn takes a token, so the count of tokens is enough
abbrev pub repeat : {T F A : Type 0} → (T → Bool) → (A → Parser T F A) → A → Parser T F A
repeat sel turn a = λ ts. turns sel turn (length ts) a ts

-- what a function that parses ensures: the parser's outcome, unless memory fails
abbrev pub Reads : {T F A : Type 0} → Outcome T F A → Result A (ReadError F) → List T → Type 0
Reads outcome (Ok a) new = outcome ≡ Ok (a, new)
Reads outcome (Err e) new = e ≢ NoMemory → outcome ≡ Err e

-- nothing is left; the fault is that of a token too many
abbrev pub ended : {T F A : Type 0} → F → Outcome T F A → Result A (ReadError F)
ended fault (Ok (a, [])) = Ok a
ended fault (Ok (a, t ∷ ts)) = Err (Refused fault (length (t ∷ ts)))
ended fault (Err d) = Err d

-- what a function that reads a whole text ensures: the parser's answer, unless memory fails
abbrev pub Ends : {F A : Type 0} → Result A (ReadError F) → Result A (ReadError F) → Type 0
Ends outcome (Ok a) = outcome ≡ Ok a
Ends outcome (Err e) = e ≢ NoMemory → outcome ≡ Err e
