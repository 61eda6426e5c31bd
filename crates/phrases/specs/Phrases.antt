-- A phrase says which tokens stand for which value: a rule of a grammar, as a relation that knows nothing of looking ahead.
use Rattle.std.specs.Prelude.{◌≡◌, Bool, true, List, [], ◌∷◌, ◌++◌, ◌⊎◌}

abbrev pub Phrase : Type 0 → Type 0 → Type 1
Phrase T A = List T → A → Type 0

-- one token that passes the test
abbrev pub token : {T : Type 0} → (T → Bool) → Phrase T T
token passes xs t = (xs ≡ t ∷ []) × (passes t ≡ true)

-- no token
abbrev pub nothing : {T A : Type 0} → A → Phrase T A
nothing a xs b = (xs ≡ []) × (a ≡ b)

-- no text at all
abbrev pub none : {T A : Type 0} → Phrase T A
none xs a = ⊥

-- one phrase, and then one that may depend on its value
pub record Both {T A B : Type 0} (L : Phrase T A) (M : A → Phrase T B) (zs : List T) (b : B) : Type 0 where
  pub left : List T
  pub right : List T
  pub between : A
  pub reads_left : L left between
  pub reads_right : M between right b
  pub cut : zs ≡ left ++ right

infixl 10 ◌>>=◌
abbrev pub ◌>>=◌ : {T A B : Type 0} → Phrase T A → (A → Phrase T B) → Phrase T B
L >>= M = Both L M

infixl 10 ◌>>◌
abbrev pub ◌>>◌ : {T A B : Type 0} → Phrase T A → Phrase T B → Phrase T B
L >> M = Both L (λ _. M)

-- either
infixl 9 ◌<|>◌
abbrev pub ◌<|>◌ : {T A : Type 0} → Phrase T A → Phrase T A → Phrase T A
(L <|> M) xs a = L xs a ⊎ M xs a

-- the braces of a grammar: any number of phrases, each of which makes a new value of the old
pub data Repeated {T A : Type 0} (M : A → Phrase T A) : A → List T → A → Type 0 where
  done : (a : A) → Repeated M a [] a
  more : (a b c : A) (xs ys : List T) → M a xs b → Repeated M b ys c → Repeated M a (xs ++ ys) c
