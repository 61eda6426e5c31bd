-- Attributes that are taken from what one statement makes, through any number of further statements.
use Rattle.std.specs.Prelude.{Bool, false, ◌||◌, List, [], ◌∷◌, ◌++◌, if◌then◌else◌, Option, Some, None}
use Rattle.std.specs.List.{list_all}
use Rattle.std.specs.Str.{bytes_eq}
use Rattle.programs.specs.declared.op.Operand.{Operand}
use Rattle.programs.specs.declared.op.Operand.TheVariants as operand
use Rattle.programs.specs.declared.op.Statement.{Statement}
use Rattle.programs.specs.Families.{Family, family, Gather, Scatter, Rank, Materialize, Break, Fold, Pair, BitShift}
use Rattle.programs.specs.Mentions.{Label, is_persist}
use Rattle.attribute_origins.specs.Traces.{Origin, Trace, Traces}
use Rattle.attribute_origins.specs.Origins.{attribute_of}

-- ---- what a statement makes an attribute of

abbrev pub origins_in : Option Trace → List Origin
origins_in None = []
origins_in (Some t) = t.origin ∷ []

abbrev pub operand_origins : Traces → Operand → List Origin
operand_origins made (operand.Column a p) = origins_in (attribute_of made a p)
operand_origins made (operand.Number z) = []

-- of what it moves, sorts into places, folds, or takes slot by slot
abbrev pub made_of : Traces → Family → Label → List Origin
made_of made (Gather a b pos) p = origins_in (attribute_of made a p)
made_of made (Scatter a size b pos) p = origins_in (attribute_of made a p)
made_of made (Materialize a) p = origins_in (attribute_of made a p)
made_of made (Break a) p = origins_in (attribute_of made a p)
made_of made (Rank kind r) p = origins_in (attribute_of made r.a r.key)
made_of made (Fold kind f) p = origins_in (attribute_of made f.a f.val)
made_of made (Pair kind x) p = operand_origins made x.x ++ operand_origins made x.y
made_of made (BitShift x by out) p = operand_origins made x
made_of made f p = []

-- ---- what is taken from a vector

-- all of some attributes, of which there is one at least
abbrev pub are_taken : (Origin → Bool) → List Origin → Bool
are_taken taken [] = false
are_taken taken (o ∷ os) = list_all taken (o ∷ os)

-- the vector itself, or what a statement makes of nothing else
abbrev pub taken_by : Traces → Label → (Origin → Bool) → Statement → Origin → Bool
taken_by made from taken s o = bytes_eq s.name from || are_taken taken (made_of made (family s.op) o.path)

abbrev pub taken_behind : Traces → Label → (Origin → Bool) → Statement → Origin → Bool
taken_behind made from taken s o = if is_persist s.op then taken o else if bytes_eq s.name o.vector then taken_by made from taken s o else taken o

-- behind some more statements
abbrev pub taken_through : Traces → Label → List Statement → (Origin → Bool) → Origin → Bool
taken_through made from [] taken = taken
taken_through made from (s ∷ rest) taken = taken_through made from rest (taken_behind made from taken s)

abbrev pub is_taken : Traces → List Statement → Label → Origin → Bool
is_taken made program from = taken_through made from program (λ o. false)
