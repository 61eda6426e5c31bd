-- Where a text stops being the beginning of a text of the grammar.
use Rattle.std.specs.Prelude.{◌≡◌, ℕ, suc, List, [], ◌∷◌, ◌++◌, length}
use Rattle.phrases.specs.Phrases.{Phrase}

-- some text of the phrase begins so
pub record Begins {T A : Type 0} (L : Phrase T A) (before : List T) : Type 0 where
  pub more : List T
  pub value : A
  pub reads : L (before ++ more) value

-- With the token after them the tokens begin no text. At the end they are no text.
abbrev pub EndsNone : {T A : Type 0} → Phrase T A → List T → List T → Type 0
EndsNone {A = A} L before [] = (a : A) → L before a → ⊥
EndsNone L before (t ∷ rest) = Begins L (before ++ t ∷ []) → ⊥

-- with the token after them they still begin a text
abbrev pub GoesOn : {T A : Type 0} → Phrase T A → List T → List T → Type 0
GoesOn L before [] = ⊥
GoesOn L before (t ∷ rest) = Begins L (before ++ t ∷ [])

-- The first token that cannot stand: the tokens before it begin a text, and with it they begin none. `left` counts the tokens from it on.
pub record IsUnexpected {T A : Type 0} (L : Phrase T A) (ts : List T) (left : ℕ) : Type 0 where
  pub before : List T
  pub rest : List T
  pub cut : ts ≡ before ++ rest
  pub place : left ≡ length rest
  pub begins : Begins L before
  pub ends : EndsNone L before rest

-- A grammar of levels, `G n` with at most n of them open. A token that is too deep can stand at one level more; any other that is refused can stand at no number of levels.
pub record IsRefused {T F A : Type 0} (G : ℕ → Phrase T A) (deep : F) (n : ℕ) (ts : List T) (fault : F) (left : ℕ) : Type 0 where
  pub before : List T
  pub rest : List T
  pub cut : ts ≡ before ++ rest
  pub place : left ≡ length rest
  pub begins : Begins (G n) before
  pub ends : EndsNone (G n) before rest
  pub never : (fault ≡ deep → ⊥) → (m : ℕ) → EndsNone (G m) before rest
  pub too_deep : fault ≡ deep → GoesOn (G (suc n)) before rest
