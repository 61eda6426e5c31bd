-- Statements that fold no value and sort nothing, and the values of expressions, which are made of such statements alone.
use Rattle.std.proofs.Common.{◌≡◌, ℕ, ◌+◌, ◌-◌, ◌<◌, ◌==◌, Bool, true, false, List, [], ◌∷◌, ◌++◌, length, refl, sym, ap, ◌∙◌, subst, arith, if◌then◌else◌, codes, decimal, Some}
use Rattle.std.specs.Str.{bytes_eq}
use Rattle.std.proofs.lemmas.List.Elements.{All-nil, All-cons}
use Rattle.std.proofs.lemmas.Bool.{eq-eqb}
use Rattle.std.proofs.lemmas.Slice.Eq.{bytes_eq-Decides}
use Rattle.control_vectors.specs.Controls.{Control}
use Rattle.control_vectors.specs.declared.PairKind.{PairKind}
use Rattle.programs.specs.declared.family.FoldOperator.TheVariants as fold
use Rattle.programs.specs.declared.op.Op.{Op}
use Rattle.programs.specs.declared.op.Operand.{Operand}
use Rattle.programs.specs.declared.op.PairArgs.{PairArgs}
use Rattle.programs.specs.declared.op.Statement.{Statement}
use Rattle.programs.specs.Families.{Family, family, pair_of, Fold, Order}
use Rattle.programs.specs.Mentions.{Label, is_persist, shows_result}
use Rattle.programs.specs.Outlines.{Shapes}
use Rattle.typed_trees.specs.declared.typed.TypedExpr.{TypedExpr}
use Rattle.expr_steps.specs.declared.steps.Step.{Step}
use Rattle.expr_steps.specs.Lowered.{Bytes, steps_of}
use Rattle.expr_lower.specs.Statements.{Site, site, value_name, name_of, args_of, statement_of, statements_from}
use Rattle.expr_lower.specs.Statements as expr
use Rattle.program_writers.specs.Names.{is_word, HasNumber, IsBelow}
use Rattle.program_writers.specs.Statements.{out, mark, pair}
use Rattle.program_writers.specs.Writers.{make, numbered, statement}
use Rattle.program_writers.proofs.Numbers.{followed_has, below_next, from_differs}
use Rattle.writer_checks.proofs.Operators.{pair_family}
use Rattle.plan_programs.specs.Sites.{Base, value_of}
use Rattle.attribute_origins.specs.Traces.{Origin, Trace, Traced, Traces, trace_at, add_traced}
use Rattle.attribute_origins.specs.Origins.{traced, trace_one, traces_from}
use Rattle.attribute_origins.proofs.Composing.{add_traced-other}
use Rattle.attribute_origins.proofs.Leading.{add_traced-same}
use Rattle.plan_obeyed.specs.Runs.{fold_by, are_groups}
use Rattle.plan_obeyed.specs.Chains.{is_fold}
use Rattle.plan_obeyed.specs.Obeyed.{selects_by}
use Rattle.lowered_obeys.proofs.Traced.{Knows, IsAlone, pair_alone}
use Rattle.lowered_obeys.proofs.Leaving.{Leaves, Each, less_leaves, make_leaves, trace_made, MakesIt}

-- ---- what is said of a statement

abbrev pub is_value_fold : Family → Bool
is_value_fold (Fold fold.Select f) = false
is_value_fold (Fold kind f) = true
is_value_fold f = false

abbrev pub is_order : Family → Bool
is_order (Order a m p keys) = true
is_order f = false

-- neither a fold nor an Order
abbrev pub is_plain : Family → Bool
is_plain (Fold kind f) = false
is_plain (Order a m p keys) = false
is_plain f = true

abbrev pub folds_over : Traces → List Origin → Family → Bool
folds_over made groups f = is_fold (λ g. are_groups made groups g.len g.runs) (fold_by made f)

-- it selects rows in the right runs, if it does, and folds no value
pub record IsSettled (select : Control) (groups : List Origin) (final : Traces) (f : Family) : Type 0 where
  pub selects : selects_by final select f ≡ true
  pub folds : is_value_fold f ≡ false
  pub groupless : 0 < length groups → folds_over final groups f ≡ false

-- and it sorts nothing
pub record IsCalm (select : Control) (groups : List Origin) (final : Traces) (f : Family) : Type 0 where
  pub settled : IsSettled select groups final f
  pub orders : is_order f ≡ false

abbrev pub Settled : Control → List Origin → Traces → Statement → Type 0
Settled select groups final s = IsSettled select groups final (family s.op)

abbrev pub Calm : Control → List Origin → Traces → Statement → Type 0
Calm select groups final s = IsCalm select groups final (family s.op)

pub plain_calm : (select : Control) (groups : List Origin) (final : Traces) (f : Family) → is_plain f ≡ true → IsCalm select groups final f
plain_calm select groups final (Fold kind f) e = absurd cc
plain_calm select groups final (Order a m p keys) e = absurd cc
plain_calm select groups final f e = record { settled = record { selects = refl; folds = refl; groupless = λ some. refl }; orders = refl }

pub order_settled : (select : Control) (groups : List Origin) (final : Traces) (f : Family) → is_order f ≡ true → IsSettled select groups final f
order_settled select groups final (Order a m p keys) e = record { selects = refl; folds = refl; groupless = λ some. refl }
order_settled select groups final f e = absurd cc

pub one_each : (Q : Traces → Statement → Type 0) (final : Traces) (s : Statement) → Q final s → Each Q final (s ∷ [])
one_each Q final s h = All-cons (Q final) s [] h (All-nil (Q final))

-- ---- a vector with one attribute at `.out`

pub record HasOut (name : Label) (next : ℕ) (made : Traces) : Type 0 where
  pub vector : Traced
  pub known : Knows made name vector
  pub value : Trace
  pub there : trace_at vector.traces out ≡ Some value
  pub below : IsBelow next name

pub alone_there : (v : Traced) (p : Label) (a : IsAlone v p) → trace_at v.traces p ≡ Some a.one
alone_there v p a = ap (λ (l : List Trace). trace_at l p) a.traces ∙ ap (λ (b : Bool). if b then Some a.one else trace_at [] p) ((bytes_eq-Decides a.one.path p).1 a.path)

pub alone_out : (name : Label) (next : ℕ) (made : Traces) (v : Label → Traced) → IsAlone (v name) out → (k : ℕ) → MakesIt k v name next made → HasOut name next made
alone_out name next made v a k m = record { vector = v name; known = m.known; value = a.one; there = alone_there (v name) out a; below = m.below }

-- ---- operators on two operands

pub pair_shows : (kind : PairKind) (x : PairArgs) → is_persist (pair_of kind x) ≡ false
pair_shows kind x = ap shows_result (pair_family kind x)

pub pair_plain : (kind : PairKind) (x : PairArgs) → is_plain (family (pair_of kind x)) ≡ true
pair_plain kind x = ap is_plain (pair_family kind x)

module _ (T : Shapes) (select : Control) (groups : List Origin) where
  pub one_calm : (final : Traces) (n : Label) (o : Op) → is_plain (family o) ≡ true → Each (Calm select groups) final (statement n o ∷ [])
  one_calm final n o e = one_each (Calm select groups) final (statement n o) (plain_calm select groups final (family o) e)

  -- a statement that is neither a fold nor an Order
  pub plain_leaves : (word : Label) (o : Op) (k : ℕ) (made : Traces) → is_word word ≡ true → is_persist o ≡ false → is_plain (family o) ≡ true → Leaves T (make word o) k made (MakesIt k (λ name. traced T made name o)) (Each (Calm select groups))
  plain_leaves word o k made w shows plain = make_leaves T word o k made (Each (Calm select groups)) w shows (λ final same there. one_calm final (numbered word k) o plain)

  pub pair_leaves : (word : Label) (kind : PairKind) (x y : Operand) (k : ℕ) (made : Traces) → is_word word ≡ true → Leaves T (make word (pair kind x y)) k made HasOut (Each (Calm select groups))
  pair_leaves word kind x y k made w =
      let args : PairArgs = record { x = x; y = y; out = out } in
      less_leaves T (make word (pair kind x y)) k made (MakesIt k (λ name. traced T made name (pair kind x y))) HasOut (Each (Calm select groups)) (Each (Calm select groups))
      (λ name next after le same m. alone_out name next after (λ n. traced T made n (pair kind x y)) (pair_alone T made name kind args) k m) (λ final l h. h)
      (plain_leaves word (pair kind x y) k made w (pair_shows kind args) (pair_plain kind args))

-- ---- the statements of an expression

named_if : (b : Bool) (word : Label) (k j : ℕ) → is_word word ≡ true → HasNumber k (if b then value_name (numbered word k) else expr.numbered (numbered word k) j)
named_if true word k j w = followed_has word (codes "_value") k w refl
named_if false word k j w = followed_has word (codes "_n" ++ decimal j) k w refl

step_named : (word : Label) (k last j : ℕ) → is_word word ≡ true → HasNumber k (name_of (numbered word k) last j)
step_named word k last j w = named_if (j == last) word k j w

number_differs : (k : ℕ) (name n : Label) → HasNumber k name → IsBelow k n → bytes_eq name n ≡ false
number_differs k name n has below = from_differs k (k + 1) n name below (record { number = k; has = has; least = omega arith; less = omega arith })

module _ (T : Shapes) (s : Site) where
  step_op : Step → Op
  step_op step = pair_of step.kind (args_of s step)

  step_made : (made : Traces) (n : Label) (step : Step) → trace_one T made n (step_op step) ≡ add_traced made n (traced T made n (step_op step))
  unfolding step_op
  step_made made n step = trace_made T made n (pair_of step.kind (args_of s step)) (pair_shows step.kind (args_of s step))

  -- names below are left alone
  steps_kept : (word : Label) (k last : ℕ) → s.stem ≡ numbered word k → is_word word ≡ true → (steps : List Step) (j : ℕ) (made : Traces) (n : Label) → IsBelow k n → traces_from T (statements_from s last j steps) made n ≡ made n
  unfolding step_op
  steps_kept word k last stem w [] j made n below = refl
  steps_kept word k last stem w (step ∷ rest) j made n below =
      let name = name_of s.stem last j in
      let has : HasNumber k name = subst (λ (x : Label). HasNumber k (name_of x last j)) (sym stem) (step_named word k last j w) in
      steps_kept word k last stem w rest (j + 1) (trace_one T made name (pair_of step.kind (args_of s step))) n below
      ∙ ap (λ (t : Traces). t n) (step_made made name step)
      ∙ add_traced-other made name n (traced T made name (pair_of step.kind (args_of s step))) (number_differs k name n has below)

  steps_calm : (select : Control) (groups : List Origin) (final : Traces) (last : ℕ) (steps : List Step) (j : ℕ) → Each (Calm select groups) final (statements_from s last j steps)
  steps_calm select groups final last [] j = All-nil (Calm select groups final)
  steps_calm select groups final last (step ∷ rest) j =
      All-cons (Calm select groups final) (statement_of s (name_of s.stem last j) step) (statements_from s last (j + 1) rest) (plain_calm select groups final (family (pair_of step.kind (args_of s step))) (pair_plain step.kind (args_of s step)))
      (steps_calm select groups final last rest (j + 1))

  -- the last one has the name that is told
  last_made : (last : ℕ) (steps : List Step) (j : ℕ) (made : Traces) → 0 < length steps → j + length steps ≡ last + 1 → (v : Traced) × (traces_from T (statements_from s last j steps) made (value_name s.stem) ≡ Some v) × IsAlone v out
  unfolding step_op
  last_made last [] j made some n = absurd (omega arith)
  last_made last (step ∷ []) j made some n =
      let v = traced T made (name_of s.stem last j) (pair_of step.kind (args_of s step)) in
      let here : name_of s.stem last j ≡ value_name s.stem = ap (λ (b : Bool). if b then value_name s.stem else expr.numbered s.stem j) (eq-eqb j last (omega (arith, n))) in
      (v, ap (λ (t : Traces). t (value_name s.stem)) (step_made made (name_of s.stem last j) step) ∙ ap (add_traced made (name_of s.stem last j) v) (sym here) ∙ add_traced-same made (name_of s.stem last j) v, pair_alone T made (name_of s.stem last j) step.kind (args_of s step))
  last_made last (step ∷ next ∷ rest) j made some n = last_made last (next ∷ rest) (j + 1) (trace_one T made (name_of s.stem last j) (pair_of step.kind (args_of s step))) (omega arith) (omega (arith, n))

pub value_leaves : (T : Shapes) (select : Control) (groups : List Origin) (texts : List Bytes) (word : Label) (b : Base) (e : TypedExpr) (k : ℕ) (made : Traces) → is_word word ≡ true → Leaves T (value_of texts word b e) k made HasOut (Each (Calm select groups))
value_leaves T select groups texts word b e k made w =
    let s = site b.vector mark b.columns b.aggregates (numbered word k) in
    let steps = steps_of texts e in
    let last = length steps - 1 in
    let m = last_made T s last steps 0 made (omega arith) (omega arith) in
    record {
      holds = record { vector = m.0; known = m.1; value = m.2.one; there = alone_there m.0 out m.2; below = below_next k (value_name (numbered word k)) (followed_has word (codes "_value") k w refl) };
      kept = λ n below. steps_kept T s word k last refl w steps 0 made n below;
      ascends = omega arith;
      stands = λ final same. steps_calm T s select groups final last steps 0;
    }
