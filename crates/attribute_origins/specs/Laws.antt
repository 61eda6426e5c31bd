-- The laws of traces: they compose, and in a program that passes its check each attribute has one, which leads to where it was made.
use Rattle.std.specs.Prelude.{◌≡◌, ◌≤◌, ◌++◌, Bool, true, false, List, All, is_some, Some, Ok}
use Rattle.programs.specs.declared.op.Statement.{Statement}
use Rattle.programs.specs.Families.{Family, family, Zip, Project, Upsert}
use Rattle.programs.specs.Mentions.{Label, has_name}
use Rattle.programs.specs.Outlines.{Shapes, paths_in}
use Rattle.programs.specs.Check.{Known, check_from, at_start}
use Rattle.programs.specs.Laws.{Avoids}
use Rattle.attribute_origins.specs.Traces.{Trace, Traced, Traces, trace_at, shapes_of}
use Rattle.attribute_origins.specs.Origins.{traces_from, traces_of, attribute_of}

-- whether a statement hands attributes on
abbrev pub hands_on : Family → Bool
hands_on (Zip a b) = true
hands_on (Project a p q) = true
hands_on (Upsert a p b q) = true
hands_on f = false

-- what a trace says: a statement that hands nothing on made the attribute at its origin, with the same four numbers and the same root, over all places of its own vector
pub record LeadsBack (made : Traces) (t : Trace) : Type 0 where
  pub vector : Traced
  pub known : made t.origin.vector ≡ Some vector
  pub makes : hands_on (family vector.op) ≡ false
  pub own : Trace
  pub there : trace_at vector.traces t.origin.path ≡ Some own
  pub itself : own.origin ≡ t.origin
  pub control : own.control ≡ t.control
  pub root : own.root ≡ t.root
  pub whole : own.reach ≡ vector.len
  -- no more slots are its own than there are at its origin
  pub reach : t.reach ≤ vector.len

pub record TraceLaws : Type 0 where
  -- the traces behind two lists of statements, and of a name that none of them has
  pub composes : (tables : Shapes) (a b : List Statement) (made : Traces) → traces_from tables (a ++ b) made ≡ traces_from tables b (traces_from tables a made)
  pub frame : (tables : Shapes) (a : List Statement) (made : Traces) (m : Label) → Avoids m a → traces_from tables a made m ≡ made m
  -- no attribute reaches further than its vector
  pub within : (tables : Shapes) (program : List Statement) (n : Label) (v : Traced) → traces_of tables program n ≡ Some v → All (λ t. t.reach ≤ v.len) v.traces

-- in a program that passes its check
pub record CheckedLaws : Type 0 where
  -- the vectors have the lengths and the paths that the check finds
  pub outlines : (tables : Shapes) (program : List Statement) (known : Known) → check_from tables program at_start ≡ Ok known → shapes_of (traces_of tables program) ≡ known.vectors
  -- each attribute has a trace
  pub traced : (tables : Shapes) (program : List Statement) (known : Known) (a p : Label) → check_from tables program at_start ≡ Ok known → has_name (paths_in known.vectors a) p ≡ true → is_some (attribute_of (traces_of tables program) a p) ≡ true
  -- and each trace leads back
  pub origins : (tables : Shapes) (program : List Statement) (known : Known) (n : Label) (v : Traced) → check_from tables program at_start ≡ Ok known → traces_of tables program n ≡ Some v → All (LeadsBack (traces_of tables program)) v.traces
