-- The attributes that carry a column of a query's source: the column as its table's Load makes it, and what Gathers and Scatters have moved of it since
-- (Voodoo, PVLDB 9(14), 2016, section 2: Gather and Scatter).
use Rattle.std.specs.Prelude.{ℕ, Bool, false, ◌&&◌, not, List, [], ◌∷◌, map, filter, flat_map, slice_index_or, Option, Some, None}
use Rattle.std.specs.List.{list_any, list_all}
use Rattle.std.specs.Str.{bytes_eq}
use Rattle.programs.specs.declared.op.Statement.{Statement}
use Rattle.programs.specs.Families.{Family, family, Load}
use Rattle.programs.specs.Mentions.{Label, has_name}
use Rattle.attribute_origins.specs.Traces.{Origin, origin, Trace}

-- a column of a source of FROM, counted from 0, with the name of the table there
pub record SourceColumn : Type 0 where
  pub source : ℕ
  pub table : Label
  pub path : Label

-- ---- the Loads of the sources

abbrev pub loads_table : Label → Family → Bool
loads_table t (Load u) = bytes_eq t u
loads_table t f = false

-- the vectors that a table is loaded to
abbrev pub loads_of : List Statement → Label → List Label
loads_of program t = map (λ s. s.name) (filter (λ s. loads_table t (family s.op)) program)

-- each way of taking a Load for each of some tables, none of them twice
abbrev pub choices : List Statement → List Label → List (List Label)
choices program [] = [] ∷ []
choices program (t ∷ ts) = flat_map (λ n. map (λ ns. n ∷ ns) (filter (λ ns. not (has_name ns n)) (choices program ts))) (loads_of program t)

-- where a column is made, by the Load of its source
abbrev pub loaded_at : List Label → SourceColumn → Origin
loaded_at loads c = origin (slice_index_or loads c.source []) c.path

-- ---- what carries a column

abbrev pub same_origin : Origin → Origin → Bool
same_origin a b = bytes_eq a.vector b.vector && bytes_eq a.path b.path

-- an attribute carries what was made at an origin, where Gathers and Scatters alone have moved it
abbrev pub carries : Origin → Trace → Bool
carries o t = same_origin t.root o

abbrev pub carries_some : List Origin → Trace → Bool
carries_some columns t = list_any (λ o. carries o t) columns

-- an attribute that is there, and passes a test
abbrev pub is_there : (Trace → Bool) → Option Trace → Bool
is_there test None = false
is_there test (Some t) = test t

-- each of some columns is carried by one of some attributes
abbrev pub carry_all : List Origin → List Trace → Bool
carry_all columns ts = list_all (λ o. list_any (carries o) ts) columns

-- the attributes that carry none of them
abbrev pub carry_none : List Origin → List Trace → List Trace
carry_none columns ts = filter (λ t. not (carries_some columns t)) ts
