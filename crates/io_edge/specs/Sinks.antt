-- Sinks: what was written, and sinks in memory.
use Rattle.std.specs.Prelude.{ℕ, List, map, Option, take}
use Rattle.std.specs.List.{concat}
use Rattle.std.specs.Borrow.{Bor}
use Rattle.std.specs.Io.KnownBytes.{Appends}

-- what was written grew by a prefix of the text, where the sink tells it
pub record AppendsPrefix (old new : Option (List ℕ)) (text : List ℕ) : Type 0 where
  pub count : ℕ
  pub appended : Appends old new (take count text)

-- the bytes that a sink in memory took, and how many it has room for
pub record Room : Type 0 where
  pub bytes : List ℕ
  pub room : ℕ

-- a sink in memory whose calls can be made to fail: its room, how many bytes it takes at most of a piece, and as of a shelf
pub record Tray : Type 0 where
  pub bytes : List ℕ
  pub room : ℕ
  pub most : ℕ
  pub fails : List ℕ
  pub calls : ℕ
  pub faults : ℕ

-- a sink in memory that fails only where its room is used up
pub record Steady : Type 0 where
  pub bytes : List ℕ
  pub room : ℕ
  pub faults : ℕ

-- borrowed texts, one after the other
abbrev pub concatenated : List (Bor (List ℕ)) → List ℕ
concatenated pieces = concat (map (λ piece. piece.now) pieces)
