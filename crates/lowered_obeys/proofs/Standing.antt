-- Vectors that rows stand in: one mark, and the columns of a base, each of which carries a column of the table.
use Rattle.std.proofs.Common.{◌≡◌, ℕ, ◌≤◌, Bool, true, false, List, [], ◌∷◌, map, refl, sym, ap, ◌∙◌, subst, if◌then◌else◌, Option, Some}
use Rattle.std.specs.Prelude.{filter}
use Rattle.std.specs.List.{list_any}
use Rattle.std.specs.Str.{bytes_eq}
use Rattle.std.proofs.lemmas.Bool.{false≢true}
use Rattle.std.proofs.lemmas.Slice.Eq.{bytes_eq-Decides}
use Rattle.key_paths.specs.Substructures.{is_at_or_below}
use Rattle.key_paths.proofs.Orders.{at_or_below_itself}
use Rattle.programs.specs.Mentions.{Label}
use Rattle.typed_trees.specs.declared.typed.ColumnRef.{ColumnRef}
use Rattle.typed_trees.specs.Names.{same_column}
use Rattle.program_writers.specs.Names.{IsBelow, IsFrom}
use Rattle.program_writers.specs.Statements.{mark}
use Rattle.program_writers.proofs.Numbers.{below_more}
use Rattle.plan_programs.specs.Sites.{Base, path_in}
use Rattle.attribute_origins.specs.Traces.{Origin, origin, Trace, Traced, Traces, trace_at, traces_below}
use Rattle.attribute_origins.specs.Origins.{root_of}
use Rattle.attribute_origins.proofs.Listed.{filter_map}
use Rattle.lowered_obeys.proofs.Traced.{Knows, moved, paths_of}
use Rattle.lowered_obeys.proofs.Leaving.{Agrees, knows_still}

-- a column of the base has a place
abbrev pub HasPlace : Base → ColumnRef → Type 0
HasPlace b c = list_any (λ p. same_column p.column c) b.columns ≡ true

-- an attribute that is there, and carries this
pub record Carries (traces : List Trace) (p : Label) (o : Origin) : Type 0 where
  pub one : Trace
  pub there : trace_at traces p ≡ Some one
  pub root : one.root ≡ o

-- one mark alone, which was made from this number on
pub record HasMark (m : ℕ) (traces : List Trace) : Type 0 where
  pub one : Trace
  pub alone : traces_below traces mark ≡ one ∷ []
  pub path : one.path ≡ mark
  pub last : ℕ
  pub root : IsFrom m last one.root.vector

pub record StandsIn (m : ℕ) (place : ColumnRef → Origin) (b : Base) (next : ℕ) (made : Traces) : Type 0 where
  pub vector : Traced
  pub known : Knows made b.vector vector
  pub marks : HasMark m vector.traces
  pub columns : (c : ColumnRef) → HasPlace b c → Carries vector.traces (path_in b c) (place c)
  pub below : IsBelow next b.vector

pub stands_still : (m : ℕ) (place : ColumnRef → Origin) (b : Base) (k l : ℕ) (made final : Traces) → k ≤ l → Agrees k made final → StandsIn m place b k made → StandsIn m place b l final
stands_still m place b k l made final le same h = record { vector = h.vector; known = knows_still k made final b.vector h.vector same h.below h.known; marks = h.marks; columns = h.columns; below = below_more k l b.vector le h.below }

-- ---- what stands alone at or below a path is found there

alone_step : (traces : List Trace) (p : Label) (t one : Trace) → (traces_below traces p ≡ one ∷ [] → trace_at traces p ≡ Some one) → one.path ≡ p → (b c : Bool) → bytes_eq t.path p ≡ b → is_at_or_below t.path p ≡ c → (if c then t ∷ traces_below traces p else traces_below traces p) ≡ one ∷ []
    → (if b then Some t else trace_at traces p) ≡ Some one
alone_step traces p t one more path true true e f h = let same : t ≡ one = cc in ap (λ (x : Trace). Some x) same
alone_step traces p t one more path true false e f h = absurd (false≢true (sym f ∙ ap (λ (x : Label). is_at_or_below x p) ((bytes_eq-Decides t.path p).0 e) ∙ at_or_below_itself p))
alone_step traces p t one more path false true e f h = let same : t ≡ one = cc in absurd (false≢true (sym e ∙ (bytes_eq-Decides t.path p).1 (ap (λ (x : Trace). x.path) same ∙ path)))
alone_step traces p t one more path false false e f h = more h

pub alone_there : (traces : List Trace) (p : Label) (one : Trace) → traces_below traces p ≡ one ∷ [] → one.path ≡ p → trace_at traces p ≡ Some one
alone_there [] p one h path = absurd cc
alone_there (t ∷ traces) p one h path = alone_step traces p t one (λ g. alone_there traces p one g path) path (bytes_eq t.path p) (is_at_or_below t.path p) refl refl h

-- ---- what a Gather moves

mapped_step : (f : Label → Trace) (t : Trace) (traces : List Trace) (p : Label) (u : Trace) → (f t.path).path ≡ t.path → (trace_at traces p ≡ Some u → trace_at (map f (paths_of traces)) p ≡ Some (f p)) → (b : Bool) → bytes_eq t.path p ≡ b → (if b then Some t else trace_at traces p) ≡ Some u
    → (if bytes_eq (f t.path).path p then Some (f t.path) else trace_at (map f (paths_of traces)) p) ≡ Some (f p)
mapped_step f t traces p u same more true e h =
    ap (λ (b : Bool). if b then Some (f t.path) else trace_at (map f (paths_of traces)) p) (ap (λ (x : Label). bytes_eq x p) same ∙ e) ∙ ap (λ (x : Label). Some (f x)) ((bytes_eq-Decides t.path p).0 e)
mapped_step f t traces p u same more false e h = ap (λ (b : Bool). if b then Some (f t.path) else trace_at (map f (paths_of traces)) p) (ap (λ (x : Label). bytes_eq x p) same ∙ e) ∙ more h

pub mapped_there : (f : Label → Trace) → ((p : Label) → (f p).path ≡ p) → (traces : List Trace) (p : Label) (u : Trace) → trace_at traces p ≡ Some u → trace_at (map f (paths_of traces)) p ≡ Some (f p)
mapped_there f same [] p u h = absurd cc
mapped_there f same (t ∷ traces) p u h = mapped_step f t traces p u (same t.path) (λ g. mapped_there f same traces p u g) (bytes_eq t.path p) refl h

pub mapped_alone : (f : Label → Trace) → ((p : Label) → (f p).path ≡ p) → (traces : List Trace) (p : Label) (one : Trace) → traces_below traces p ≡ one ∷ [] → traces_below (map f (paths_of traces)) p ≡ f one.path ∷ []
mapped_alone f same traces p one h =
    sym (filter_map f (λ (t : Trace). is_at_or_below t.path p) (paths_of traces))
    ∙ ap (map f) (keeps_same (λ q. is_at_or_below (f q).path p) (λ q. is_at_or_below q p) (λ q. ap (λ (x : Label). is_at_or_below x p) (same q)) (paths_of traces))
    ∙ ap (map f) (sym (filter_map (λ (t : Trace). t.path) (λ q. is_at_or_below q p) traces))
    ∙ ap (λ (l : List Trace). map f (paths_of l)) h
  where
    keeps_same : (g h : Label → Bool) → ((q : Label) → g q ≡ h q) → (l : List Label) → filter g l ≡ filter h l
    keeps_same g h each [] = refl
    keeps_same g h each (q ∷ l) = ap (λ (b : Bool). if b then q ∷ filter g l else filter g l) (each q) ∙ ap (λ (r : List Label). if h q then q ∷ r else r) (keeps_same g h each l)

-- rows stand where they are gathered, with the same places
pub gathered_stands : (m : ℕ) (place : ColumnRef → Origin) (b : Base) (k : ℕ) (made : Traces) (n : Label) (len : ℕ) (h : StandsIn m place b k made) → HasMark m (map (moved n h.vector.traces len) (paths_of h.vector.traces))
gathered_stands m place b k made n len h =
    let traces = h.vector.traces in
    let f = moved n traces len in
    let at = alone_there traces mark h.marks.one h.marks.alone h.marks.path in
    record {
      one = f h.marks.one.path;
      alone = mapped_alone f (λ p. refl) traces mark h.marks.one h.marks.alone;
      path = h.marks.path;
      last = h.marks.last;
      root = subst (IsFrom m h.marks.last) (sym (ap (λ (p : Label). (root_of (trace_at traces p) (origin n p)).vector) h.marks.path ∙ ap (λ (t : Option Trace). (root_of t (origin n mark)).vector) at)) h.marks.root;
    }

pub gathered_carries : (n : Label) (traces : List Trace) (len : ℕ) (p : Label) (o : Origin) → Carries traces p o → Carries (map (moved n traces len) (paths_of traces)) p o
gathered_carries n traces len p o h = record {
  one = moved n traces len p;
  there = mapped_there (moved n traces len) (λ q. refl) traces p h.one h.there;
  root = ap (λ (t : Option Trace). root_of t (origin n p)) h.there ∙ h.root;
}
