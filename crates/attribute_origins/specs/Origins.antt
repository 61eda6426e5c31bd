-- The origins of a program's attributes, statement by statement.
use Rattle.std.specs.Prelude.{ℕ, List, [], ◌∷◌, map, if◌then◌else◌, Option, Some, None}
use Rattle.programs.specs.declared.op.Op.{Op}
use Rattle.programs.specs.declared.op.Statement.{Statement}
use Rattle.programs.specs.Families.{Family, family, Zip, Project, Upsert, Gather, Scatter}
use Rattle.programs.specs.Mentions.{Label, is_persist}
use Rattle.programs.specs.Outlines.{Outline, Shapes}
use Rattle.programs.specs.MadeOutlines.{made_outline}
use Rattle.attribute_origins.specs.Traces.{Origin, origin, Trace, Traced, Traces, no_traces, add_traced, traces_in, trace_at, shapes_of, zipped, projected, upserted}
use Rattle.attribute_origins.specs.ControlStatements.{control_by}

-- ---- what a statement makes

-- the root of an attribute that is moved; its own origin, where there is none
abbrev pub root_of : Option Trace → Origin → Origin
root_of None own = own
root_of (Some t) own = t.root

-- Gather and Scatter move the attributes of the vector that they read first
abbrev pub root_by : Traces → Family → Origin → Origin
root_by made (Gather a b pos) own = root_of (trace_at (traces_in made a) own.path) own
root_by made (Scatter a size b pos) own = root_of (trace_at (traces_in made a) own.path) own
root_by made f own = own

-- an attribute that a statement makes has its origin there
abbrev pub own_trace : Traces → Label → Family → ℕ → Label → Trace
own_trace made n f len p = record { path = p; origin = origin n p; reach = len; control = control_by made f; root = root_by made f (origin n p) }

abbrev pub own_traces : Traces → Label → Family → Outline → List Trace
own_traces made n f o = map (own_trace made n f o.len) o.paths

-- ---- what a statement has

abbrev pub traces_by : Traces → Label → Family → Outline → List Trace
traces_by made n (Zip a b) o = zipped o.len (traces_in made a) (traces_in made b)
traces_by made n (Project a p q) o = projected o.len p q (traces_in made a)
traces_by made n (Upsert a p b q) o = upserted o.len p (traces_in made a) (trace_at (traces_in made b) q)
traces_by made n f o = own_traces made n f o

abbrev pub traced_as : Traces → Label → Op → Outline → Traced
traced_as made n op o = record { op = op; len = o.len; traces = traces_by made n (family op) o }

abbrev pub traced : Shapes → Traces → Label → Op → Traced
traced tables made n op = traced_as made n op (made_outline tables (shapes_of made) op)

-- a Persist makes no vector
abbrev pub trace_one : Shapes → Traces → Label → Op → Traces
trace_one tables made n op = if is_persist op then made else add_traced made n (traced tables made n op)

-- ---- the program

-- the vectors behind some more statements
abbrev pub traces_from : Shapes → List Statement → Traces → Traces
traces_from tables [] made = made
traces_from tables (s ∷ rest) made = traces_from tables rest (trace_one tables made s.name s.op)

abbrev pub traces_of : Shapes → List Statement → Traces
traces_of tables program = traces_from tables program no_traces

-- ---- the attribute at a path of a vector

abbrev pub found : Option Traced → Label → Option Trace
found None p = None
found (Some v) p = trace_at v.traces p

abbrev pub attribute_of : Traces → Label → Label → Option Trace
attribute_of made a p = found (made a) p
