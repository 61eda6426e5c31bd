-- Traces compose, and statements leave the vectors of other names alone.
use Rattle.std.proofs.Common.{◌≡◌, ℕ, ◌≤◌, Bool, true, false, not, List, [], ◌∷◌, ◌++◌, map, refl, ap, ◌∙◌, subst, arith, if◌then◌else◌, Some, option_to_list}
use Rattle.std.specs.Prelude.{All, filter}
use Rattle.std.specs.Str.{bytes_eq}
use Rattle.std.proofs.lemmas.List.Elements.{All-nil, All-cons}
use Rattle.key_paths.specs.Substructures.{is_at_or_below}
use Rattle.programs.specs.declared.op.Op.{Op}
use Rattle.programs.specs.declared.op.Statement.{Statement}
use Rattle.programs.specs.Families.{Family, family, Zip, Project, Upsert}
use Rattle.programs.specs.Laws.{Avoids}
use Rattle.programs.specs.Mentions.{Label, is_persist}
use Rattle.programs.specs.Moves.{moved}
use Rattle.programs.specs.Outlines.{Outline, Shapes}
use Rattle.attribute_origins.specs.Traces.{Trace, Traced, Traces, no_traces, add_traced, traces_in, trace_at, traces_below, handed, comes_before}
use Rattle.attribute_origins.specs.Origins.{own_trace, traces_by, traced, trace_one, traces_from, traces_of}
use Rattle.attribute_origins.proofs.Listed.{merged_all}

pub traces_from-append : (tables : Shapes) (a b : List Statement) (made : Traces) → traces_from tables (a ++ b) made ≡ traces_from tables b (traces_from tables a made)
traces_from-append tables [] b made = refl
traces_from-append tables (s ∷ a) b made = traces_from-append tables a b (trace_one tables made s.name s.op)

pub add_traced-other : (made : Traces) (n m : Label) (v : Traced) → bytes_eq n m ≡ false → add_traced made n v m ≡ made m
add_traced-other made n m v e = ap (λ (b : Bool). if b then Some v else made m) e

pub trace_one-frame : (tables : Shapes) (made : Traces) (n m : Label) (op : Op) → bytes_eq n m ≡ false → trace_one tables made n op m ≡ made m
trace_one-frame tables made n m op e = by (is_persist op)
  where
    by : (b : Bool) → (if b then made else add_traced made n (traced tables made n op)) m ≡ made m
    by true = refl
    by false = add_traced-other made n m (traced tables made n op) e

pub traces_from-frame : (tables : Shapes) (a : List Statement) (made : Traces) (m : Label) → Avoids m a → traces_from tables a made m ≡ made m
traces_from-frame tables [] made m other = refl
traces_from-frame tables (s ∷ a) made m other = traces_from-frame tables a (trace_one tables made s.name s.op) m other.1 ∙ trace_one-frame tables made s.name m s.op other.0

-- ---- no attribute reaches further than its vector

Within : ℕ → Trace → Type 0
Within len t = t.reach ≤ len

pub all_mapped : {A B : Type 0} (P : B → Type 0) (f : A → B) (xs : List A) → ((x : A) → P (f x)) → All P (map f xs)
all_mapped P f [] each = All-nil P
all_mapped P f (x ∷ xs) each = All-cons P (f x) (map f xs) (each x) (all_mapped P f xs each)

handed_within : (len : ℕ) (p : Label) (t : Trace) → Within len (handed len p t)
unfolding Within
handed_within len p t = omega arith

own_within : (made : Traces) (n : Label) (f : Family) (o : Outline) → All (Within o.len) (map (own_trace made n f o.len) o.paths)
unfolding Within
own_within made n f o = all_mapped (Within o.len) (own_trace made n f o.len) o.paths (λ p. omega arith)

by_within : (made : Traces) (n : Label) (f : Family) (o : Outline) → All (Within o.len) (traces_by made n f o)
by_within made n (Zip a b) o = merged_all (Within o.len) comes_before _ _ (all_mapped (Within o.len) (λ t. handed o.len t.path t) (traces_in made a) (λ t. handed_within o.len t.path t)) (all_mapped (Within o.len) (λ t. handed o.len t.path t) (traces_in made b) (λ t. handed_within o.len t.path t))
by_within made n (Project a p q) o = all_mapped (Within o.len) (λ t. handed o.len (moved p q t.path) t) (traces_below (traces_in made a) p) (λ t. handed_within o.len (moved p q t.path) t)
by_within made n (Upsert a p b q) o =
    merged_all (Within o.len) comes_before _ _ (all_mapped (Within o.len) (handed o.len p) (option_to_list (trace_at (traces_in made b) q)) (λ t. handed_within o.len p t))
    (all_mapped (Within o.len) (λ t. handed o.len t.path t) (filter (λ t. not (is_at_or_below t.path p)) (traces_in made a)) (λ t. handed_within o.len t.path t))
by_within made n f o = own_within made n f o

-- ---- what holds of each vector

-- a property of each vector by name, which holds behind a statement where it holds of the one that it makes
pub added : (P : Traced → Type 0) (made : Traces) (n : Label) (v : Traced) → ((m : Label) (u : Traced) → made m ≡ Some u → P u) → P v → (m : Label) (u : Traced) → add_traced made n v m ≡ Some u → P u
added P made n v before here m u e = by (bytes_eq n m) e
  where
    by : (b : Bool) → (if b then Some v else made m) ≡ Some u → P u
    by true h = let same : v ≡ u = cc in subst P same here
    by false h = before m u h

AreWithin : Traced → Type 0
AreWithin v = All (Within v.len) v.traces

within_one : (tables : Shapes) (made : Traces) (n : Label) (op : Op) → ((m : Label) (u : Traced) → made m ≡ Some u → AreWithin u) → (m : Label) (u : Traced) → trace_one tables made n op m ≡ Some u → AreWithin u
unfolding AreWithin
within_one tables made n op before m u e = by (is_persist op) e
  where
    by : (b : Bool) → (if b then made else add_traced made n (traced tables made n op)) m ≡ Some u → AreWithin u
    by true h = before m u h
    by false h = added AreWithin made n (traced tables made n op) before (by_within made n (family op) _) m u h

within_from : (tables : Shapes) (a : List Statement) (made : Traces) → ((m : Label) (u : Traced) → made m ≡ Some u → AreWithin u) → (m : Label) (u : Traced) → traces_from tables a made m ≡ Some u → AreWithin u
within_from tables [] made before m u e = before m u e
within_from tables (s ∷ a) made before m u e = within_from tables a (trace_one tables made s.name s.op) (within_one tables made s.name s.op before) m u e

pub within : (tables : Shapes) (program : List Statement) (n : Label) (v : Traced) → traces_of tables program n ≡ Some v → All (λ t. t.reach ≤ v.len) v.traces
unfolding AreWithin Within
within tables program n v e = within_from tables program no_traces (λ m u h. absurd cc) n v e
