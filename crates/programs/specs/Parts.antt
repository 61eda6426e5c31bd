-- What the parts of a check hold.
use Rattle.std.specs.Prelude.{◌≡◌, true, false, is_some, List, Option, Some, None}
use Rattle.key_paths.specs.Paths.{IsPath}
use Rattle.programs.specs.declared.known.Known.{Known as KnownParts}
use Rattle.programs.specs.Mentions.{Label}
use Rattle.programs.specs.Outlines.{Outline}
use Rattle.programs.specs.Moves.{is_deep}
use Rattle.programs.specs.Faults.{path_clash, too_deep}
use Rattle.programs.specs.Check.{Known}
use Rattle.programs.specs.Indexes.{Places, item_at, places_of}

-- what is known: the outlines in order, the places of vectors among them, and the names of results
abbrev pub known_of : List Outline → Places → Places → Known
known_of shape vectors results = record {
  shape = shape;
  vectors = λ n. item_at shape (vectors n);
  results = λ n. is_some (results n);
}

abbrev pub known_in : KnownParts → Known
known_in k = known_of k.outlines.items (places_of k.vectors) (places_of k.results)

-- what is drafted of a vector: its outline; nothing, where no paths clash and one of them is too deep
abbrev pub Drafts : Option Outline → Outline → Type 0
Drafts (Some drafted) meant = drafted ≡ meant
Drafts None meant = (path_clash meant ≡ false) × (too_deep meant ≡ true)

-- a path that is moved; nothing, where it is too deep
abbrev pub MovesTo : Option Label → Label → Type 0
MovesTo (Some path) meant = (path ≡ meant) × IsPath path
MovesTo None meant = is_deep meant ≡ true
