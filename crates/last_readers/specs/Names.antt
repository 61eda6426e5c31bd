-- The names that a statement mentions, listed one by one.
use Rattle.std.specs.Prelude.{List, [], ◌∷◌, ◌++◌, Option, Some, None}
use Rattle.std.specs.Borrow.{Bor}
use Rattle.programs.specs.Mentions.{Label}
use Rattle.last_readers.specs.declared.names.Mentions.{Mentions}

abbrev pub one_name : Option (Bor Label) → List Label
one_name None = []
one_name (Some a) = a.now ∷ []

abbrev pub names_in : Mentions → List Label
names_in m = one_name m.first ++ one_name m.second ++ one_name m.third
