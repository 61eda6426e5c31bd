-- Programs written one part after another: each new vector has a name with a number of its own, and a part tells what those behind it need of it.
use Rattle.std.specs.Prelude.{◌≡◌, ℕ, ◌+◌, List, [], ◌∷◌, ◌++◌}
use Rattle.programs.specs.declared.op.Op.{Op}
use Rattle.programs.specs.declared.op.Statement.{Statement}
use Rattle.programs.specs.Mentions.{Label}
use Rattle.program_writers.specs.Numerals.{numeral}

-- statements, the number of the next name, and what is told of them
pub record Written (A : Type 0) : Type 0 where
  pub statements : List Statement
  pub next : ℕ
  pub told : A

-- a part of a program, by the number of its first name
abbrev pub Writer : Type 0 → Type 0
Writer A = ℕ → Written A

-- no statement
abbrev pub tell : {A : Type 0} → A → Writer A
tell a k = record { statements = []; next = k; told = a }

abbrev pub behind : {B : Type 0} → List Statement → Written B → Written B
behind before w = record { statements = before ++ w.statements; next = w.next; told = w.told }

-- one part, and another behind it that knows what the first tells
infixl 10 ◌>>=◌
abbrev pub ◌>>=◌ : {A B : Type 0} → Writer A → (A → Writer B) → Writer B
(m >>= f) k = behind (m k).statements (f (m k).told (m k).next)

-- a part for each of some things, in order; each knows what the one before tells
abbrev pub through : {A B : Type 0} → (A → B → Writer A) → A → List B → Writer A
through f a [] = tell a
through f a (b ∷ bs) = f a b >>= λ next. through f next bs

-- ---- names

-- a word, and a number
abbrev pub numbered : Label → ℕ → Label
numbered word k = word ++ numeral k

abbrev pub statement : Label → Op → Statement
statement name op = record { name = name; op = op }

-- one statement under a new name, which it tells
abbrev pub make : Label → Op → Writer Label
make word op k = record { statements = statement (numbered word k) op ∷ []; next = k + 1; told = numbered word k }

-- a name that a part's own names begin with
abbrev pub stem : Label → Writer Label
stem word k = record { statements = []; next = k + 1; told = numbered word k }

-- statements that have names already
abbrev pub append : List Statement → Writer (Unit {0})
append statements k = record { statements = statements; next = k; told = record {} }

-- a result, which takes no number
abbrev pub show : Label → Op → Writer (Unit {0})
show name op k = record { statements = statement name op ∷ []; next = k; told = record {} }

-- ---- code that writes

-- statements and the next number, before and behind a part, and what the part tells
pub record Writes {A : Type 0} (m : Writer A) (old : List Statement) (k : ℕ) (new : List Statement) (next : ℕ) (told : A) : Type 0 where
  pub statements : new ≡ old ++ (m k).statements
  pub next_number : next ≡ (m k).next
  pub tells : told ≡ (m k).told
