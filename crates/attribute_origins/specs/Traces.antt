-- Traces: where each attribute of a vector comes from, and how many of its slots are those that it has there.
-- The operators are those of Voodoo, PVLDB 9(14), 2016, section 2: Project, Zip and Upsert hand attributes on, and every other one makes its own.
use Rattle.std.specs.Prelude.{ℕ, min, Bool, List, [], ◌∷◌, map, filter, not, if◌then◌else◌, Option, Some, None, option_map, option_to_list}
use Rattle.std.specs.Str.{bytes_eq}
use Rattle.control_vectors.specs.Controls.{Control}
use Rattle.key_paths.specs.Substructures.{is_at_or_below, is_before}
use Rattle.programs.specs.declared.op.Op.{Op}
use Rattle.programs.specs.Mentions.{Label}
use Rattle.programs.specs.Merges.{merged}
use Rattle.programs.specs.Moves.{moved}
use Rattle.programs.specs.Outlines.{Outline, outlined, Shapes}

-- the vector whose statement made an attribute, and the path at which it made it
pub record Origin : Type 0 where
  pub vector : Label
  pub path : Label

abbrev pub origin : Label → Label → Origin
origin vector path = record { vector = vector; path = path }

-- an attribute of a vector
pub record Trace : Type 0 where
  pub path : Label
  pub origin : Origin
  -- its slots before this place are those of its origin; a slot from there on is empty
  pub reach : ℕ
  -- the four numbers, where its origin is a control statement's
  pub control : Option Control
  -- where it was made before any Gather or Scatter moved it
  pub root : Origin

-- a vector: the operator that makes it, its length, and its attributes in the order of their paths
pub record Traced : Type 0 where
  pub op : Op
  pub len : ℕ
  pub traces : List Trace

-- vectors by name; none for a name that nobody made
abbrev pub Traces : Type 0
Traces = Label → Option Traced

abbrev pub no_traces : Traces
no_traces = λ m. None

abbrev pub add_traced : Traces → Label → Traced → Traces
add_traced made n v = λ m. if bytes_eq n m then Some v else made m

abbrev pub known_traces : Option Traced → List Trace
known_traces None = []
known_traces (Some v) = v.traces

abbrev pub traces_in : Traces → Label → List Trace
traces_in made a = known_traces (made a)

-- the outlines of these vectors
abbrev pub outline_of : Traced → Outline
outline_of v = outlined v.len (map (λ t. t.path) v.traces)

abbrev pub shapes_of : Traces → Shapes
shapes_of made = λ n. option_map outline_of (made n)

-- ---- the attributes of a vector

-- the one at a path, and those at or below it
abbrev pub trace_at : List Trace → Label → Option Trace
trace_at [] p = None
trace_at (t ∷ rest) p = if bytes_eq t.path p then Some t else trace_at rest p

abbrev pub traces_below : List Trace → Label → List Trace
traces_below traces p = filter (λ t. is_at_or_below t.path p) traces

-- ---- what is handed on

-- under a path of a vector of this length
abbrev pub handed : ℕ → Label → Trace → Trace
handed len p t = record t { path = p; reach = min t.reach len }

-- under their own paths
abbrev pub all_handed : ℕ → List Trace → List Trace
all_handed len traces = map (λ t. handed len t.path t) traces

abbrev pub comes_before : Trace → Trace → Bool
comes_before s t = is_before s.path t.path

-- by Zip, by Project, and by Upsert
abbrev pub zipped : ℕ → List Trace → List Trace → List Trace
zipped len xs ys = merged comes_before (all_handed len xs) (all_handed len ys)

abbrev pub projected : ℕ → Label → Label → List Trace → List Trace
projected len p q traces = map (λ t. handed len (moved p q t.path) t) (traces_below traces p)

abbrev pub upserted : ℕ → Label → List Trace → Option Trace → List Trace
upserted len p traces new = merged comes_before (map (handed len p) (option_to_list new)) (all_handed len (filter (λ t. not (is_at_or_below t.path p)) traces))
