-- What operators make of vectors whose traces are known.
use Rattle.std.proofs.Common.{◌≡◌, ℕ, List, [], ◌∷◌, map, refl, ap, Option, Some, None}
use Rattle.control_vectors.specs.Controls.{Control}
use Rattle.control_vectors.specs.declared.PairKind.{PairKind}
use Rattle.control_vectors.specs.declared.PairKind.TheVariants as pair_kind
use Rattle.programs.specs.declared.family.FoldOperator.{FoldOperator}
use Rattle.programs.specs.declared.family.FoldOperator.TheVariants as fold_kind
use Rattle.programs.specs.declared.op.FoldArgs.{FoldArgs}
use Rattle.programs.specs.declared.op.Op.{Op}
use Rattle.programs.specs.declared.op.Op.TheVariants as op
use Rattle.programs.specs.declared.op.PairArgs.{PairArgs}
use Rattle.programs.specs.declared.op.Size.TheVariants as size
use Rattle.programs.specs.declared.order_keys.OrderPath.{OrderPath}
use Rattle.programs.specs.Families.{pair_of}
use Rattle.programs.specs.Mentions.{Label}
use Rattle.programs.specs.Outlines.{Outline, Shapes}
use Rattle.program_writers.specs.Statements.{fold_of}
use Rattle.attribute_origins.specs.Traces.{origin, Trace, Traced, Traces, known_traces, trace_at, projected, upserted}
use Rattle.attribute_origins.specs.Origins.{traced, root_of}

-- the vector of a name
abbrev pub Knows : Traces → Label → Traced → Type 0
Knows made n v = made n ≡ Some v

-- an attribute that a statement makes, which no Gather or Scatter has moved and no control vector has the values of
abbrev pub own : Label → Label → ℕ → Trace
own n p len = record { path = p; origin = origin n p; reach = len; control = None; root = origin n p }

abbrev pub made_as : Op → ℕ → List Trace → Traced
made_as o len traces = record { op = o; len = len; traces = traces }

-- ---- Range

abbrev pub range_trace : Label → Label → ℕ → Control → Trace
range_trace n p len c = record (own n p len) { control = Some c }

pub range_traced : (T : Shapes) (made : Traces) (n a p : Label) (c : Control) (v : Traced) → Knows made a v → traced T made n (op.Range (size.Of a) p c) ≡ made_as (op.Range (size.Of a) p c) v.len (range_trace n p v.len c ∷ [])
range_traced T made n a p c v e = rw e refl

-- ---- Load

pub load_traced : (T : Shapes) (made : Traces) (n t : Label) (o : Outline) → T t ≡ Some o → traced T made n (op.Load t) ≡ made_as (op.Load t) o.len (map (λ p. own n p o.len) o.paths)
load_traced T made n t o e = rw e refl

-- ---- Upsert and Project

pub upsert_traced : (T : Shapes) (made : Traces) (n a p b q : Label) (v u : Traced) (t : Trace) → Knows made a v → Knows made b u → trace_at u.traces q ≡ Some t → traced T made n (op.Upsert a p b q) ≡ made_as (op.Upsert a p b q) v.len (upserted v.len p v.traces (Some t))
upsert_traced T made n a p b q v u t e f g = rw (e, f, g) refl

pub project_traced : (T : Shapes) (made : Traces) (n a p q : Label) (v : Traced) → Knows made a v → traced T made n (op.Project a p q) ≡ made_as (op.Project a p q) v.len (projected v.len p q v.traces)
project_traced T made n a p q v e = rw e refl

-- ---- Gather: each attribute has the root of the one that is moved

abbrev pub moved : Label → List Trace → ℕ → Label → Trace
moved n traces len p = record (own n p len) { root = root_of (trace_at traces p) (origin n p) }

abbrev pub paths_of : List Trace → List Label
paths_of traces = map (λ t. t.path) traces

pub gather_traced : (T : Shapes) (made : Traces) (n a b pos : Label) (v u : Traced) → Knows made a v → Knows made b u → traced T made n (op.Gather a b pos) ≡ made_as (op.Gather a b pos) u.len (map (moved n v.traces u.len) (paths_of v.traces))
gather_traced T made n a b pos v u e f = rw (e, f) (ap (λ (o : Option Traced). made_as (op.Gather a b pos) u.len (map (moved n (known_traces o) u.len) (paths_of v.traces))) e)

-- ---- operators that make one attribute

pub order_traced : (T : Shapes) (made : Traces) (n a m out : Label) (keys : List OrderPath) (v : Traced) → Knows made a v → traced T made n (op.Order a m out keys) ≡ made_as (op.Order a m out keys) v.len (own n out v.len ∷ [])
order_traced T made n a m out keys v e = rw e refl

pub fold_traced : (T : Shapes) (made : Traces) (n : Label) (kind : FoldOperator) (f : FoldArgs) (v : Traced) → Knows made f.a v → traced T made n (fold_of kind f) ≡ made_as (fold_of kind f) v.len (own n f.out v.len ∷ [])
fold_traced T made n fold_kind.Sum f v e = rw e refl
fold_traced T made n fold_kind.Min f v e = rw e refl
fold_traced T made n fold_kind.Max f v e = rw e refl
fold_traced T made n fold_kind.Select f v e = rw e refl
fold_traced T made n fold_kind.Scan f v e = rw e refl

-- a vector of one attribute, whatever it is
pub record IsAlone (v : Traced) (p : Label) : Type 0 where
  pub one : Trace
  pub traces : v.traces ≡ one ∷ []
  pub path : one.path ≡ p

pub pair_alone : (T : Shapes) (made : Traces) (n : Label) (kind : PairKind) (x : PairArgs) → IsAlone (traced T made n (pair_of kind x)) x.out
pair_alone T made n pair_kind.Add x = record { one = _; traces = refl; path = refl }
pair_alone T made n pair_kind.Subtract x = record { one = _; traces = refl; path = refl }
pair_alone T made n pair_kind.Multiply x = record { one = _; traces = refl; path = refl }
pair_alone T made n pair_kind.Divide x = record { one = _; traces = refl; path = refl }
pair_alone T made n pair_kind.Modulo x = record { one = _; traces = refl; path = refl }
pair_alone T made n pair_kind.Greater x = record { one = _; traces = refl; path = refl }
pair_alone T made n pair_kind.Equals x = record { one = _; traces = refl; path = refl }
pair_alone T made n pair_kind.LogicalAnd x = record { one = _; traces = refl; path = refl }
pair_alone T made n pair_kind.LogicalOr x = record { one = _; traces = refl; path = refl }
pair_alone T made n pair_kind.Fill x = record { one = _; traces = refl; path = refl }
