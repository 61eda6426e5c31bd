-- A shelf of files: what it holds, and what is left of the file that is open.
use Rattle.std.specs.Prelude.{ℕ, ◌≡◌, ◌<◌, List, length, Option, None, IsSome, IsSomeAnd}
use Rattle.std.specs.Io.KnownBytes.{Consumes}

-- a file's bytes by its name, or none
abbrev pub FileMap : Type 0
FileMap = List ℕ → Option (List ℕ)

-- the shelf tells what it holds, and lacks the file
abbrev pub Lacks : Option FileMap → List ℕ → Type 0
Lacks holds name = IsSomeAnd holds (λ files. files name ≡ None)

-- the file is there, and all its bytes are left
pub record Opens (file left : Option (List ℕ)) : Type 0 where
  pub there : IsSome file
  pub whole : left ≡ file

-- the file is there, and longer than the limit
abbrev pub IsLonger : Option (List ℕ) → ℕ → Type 0
IsLonger file limit = IsSomeAnd file (λ bytes. limit < length bytes)

-- so many bytes were taken of a file, from its front, and the others are left
pub record HasTaken (file left : Option (List ℕ)) (count : ℕ) : Type 0 where
  pub taken : List ℕ
  pub many : length taken ≡ count
  pub rest : Consumes file left taken
