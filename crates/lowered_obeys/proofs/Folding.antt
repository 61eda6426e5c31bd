-- Folds of values in the runs of groups: each ends a chain.
use Rattle.std.proofs.Common.{◌≡◌, ℕ, ◌+◌, ◌≤◌, Bool, true, false, not, ◌&&◌, List, [], ◌∷◌, ◌++◌, length, length-append, refl, sym, ap, ◌∙◌, arith, if◌then◌else◌, Some}
use Rattle.std.specs.Prelude.{All, filter, min}
use Rattle.std.proofs.lemmas.Bool.{and_from, false≢true}
use Rattle.std.proofs.lemmas.List.Elements.{All-head, All-tail, All-append, filter-append}
use Rattle.control_vectors.specs.Controls.{Control}
use Rattle.key_paths.specs.Substructures.{is_at_or_below}
use Rattle.programs.specs.declared.family.FoldOperator.{FoldOperator}
use Rattle.programs.specs.declared.op.Statement.{Statement}
use Rattle.programs.specs.Families.{Family, family, Fold}
use Rattle.programs.specs.Mentions.{Label}
use Rattle.program_writers.specs.Names.{IsBelow}
use Rattle.program_writers.specs.Statements.{val, run, fold_of, fold_args}
use Rattle.program_writers.specs.Writers.{statement}
use Rattle.program_writers.proofs.Numbers.{below_more}
use Rattle.writer_checks.proofs.Operators.{fold_family}
use Rattle.attribute_origins.specs.Traces.{Origin, Trace, Traced, Traces, traces_below, handed, all_handed, upserted}
use Rattle.plan_obeyed.specs.Runs.{FoldRead, fold_by, read_vector, read_value, are_groups}
use Rattle.plan_obeyed.specs.Chains.{same_fold, is_fold, ends_chain, ends_chain_at, folds_mark}
use Rattle.plan_obeyed.specs.Obeyed.{selects_by, is_extreme}
use Rattle.lowered_obeys.proofs.Traced.{Knows, made_as}
use Rattle.lowered_obeys.proofs.Leaving.{Agrees, knows_still}
use Rattle.lowered_obeys.proofs.Calm.{is_value_fold, is_order, Calm}
use Rattle.lowered_obeys.proofs.Upserted.{upserted_new, upserted_below}

-- ---- the runs of groups

pub record HasRuns (groups : List Origin) (runs : Label) (next : ℕ) (made : Traces) : Type 0 where
  pub vector : Traced
  pub known : Knows made runs vector
  pub below : IsBelow next runs
  -- its attributes are run attributes, at all of its places
  pub inside : All (λ t. is_at_or_below t.path run ≡ true) vector.traces
  pub beside : All (λ t. is_at_or_below t.path val ≡ false) vector.traces
  pub whole : All (λ t. t.reach ≡ vector.len) vector.traces
  -- and they are those of groups
  pub are : (final : Traces) → Agrees next made final → are_groups final groups vector.len vector.traces ≡ true

pub runs_still : (groups : List Origin) (runs : Label) (k l : ℕ) (made after : Traces) → k ≤ l → Agrees k made after → HasRuns groups runs k made → HasRuns groups runs l after
runs_still groups runs k l made after le same h = record {
  vector = h.vector;
  known = knows_still k made after runs h.vector same h.below h.known;
  below = below_more k l runs le h.below;
  inside = h.inside;
  beside = h.beside;
  whole = h.whole;
  are = λ final again. h.are final (λ n below. again n (below_more k l n le below) ∙ same n below);
}

-- ---- a list of which all is left

pub filter_all : {A : Type 0} (f : A → Bool) (xs : List A) → All (λ x. f x ≡ true) xs → filter f xs ≡ xs
filter_all f [] h = refl
filter_all f (x ∷ xs) h = ap (λ (b : Bool). if b then x ∷ filter f xs else filter f xs) (All-head (λ x. f x ≡ true) x xs h) ∙ ap (λ (l : List _). x ∷ l) (filter_all f xs (All-tail (λ x. f x ≡ true) x xs h))

pub handed_same : (len : ℕ) (t : Trace) → t.reach ≡ len → handed len t.path t ≡ t
handed_same len t e = ap (λ (n : ℕ). record t { reach = n }) (let m : min t.reach len ≡ t.reach = omega (arith, e) in m)

pub all_handed_same : (len : ℕ) (ts : List Trace) → All (λ t. t.reach ≡ len) ts → all_handed len ts ≡ ts
all_handed_same len [] h = refl
all_handed_same len (t ∷ ts) h = ap (λ (u : Trace). u ∷ all_handed len ts) (handed_same len t (All-head (λ t. t.reach ≡ len) t ts h)) ∙ ap (λ (l : List Trace). t ∷ l) (all_handed_same len ts (All-tail (λ t. t.reach ≡ len) t ts h))

pub all_not : {A : Type 0} (f : A → Bool) (xs : List A) → All (λ x. f x ≡ false) xs → All (λ x. not (f x) ≡ true) xs
all_not f xs h = λ i d l. ap not (h i d l)

-- ---- what a fold reads of a value beside them

-- the run attributes, where a value stands beside them
pub runs_beside : (len : ℕ) (traces : List Trace) (t : Trace) → All (λ t. is_at_or_below t.path run ≡ true) traces → All (λ t. is_at_or_below t.path val ≡ false) traces → All (λ t. t.reach ≡ len) traces → traces_below (upserted len val traces (Some t)) run ≡ traces
runs_beside len traces t inside beside whole =
    upserted_below len val run traces t refl
    ∙ ap (λ (l : List Trace). all_handed len (filter (λ t. not (is_at_or_below t.path val)) l)) (filter_all (λ (t : Trace). is_at_or_below t.path run) traces inside)
    ∙ ap (all_handed len) (filter_all (λ (t : Trace). not (is_at_or_below t.path val)) traces (all_not (λ (t : Trace). is_at_or_below t.path val) traces beside))
    ∙ all_handed_same len traces whole

abbrev pub read_of : FoldOperator → ℕ → Trace → List Trace → FoldRead
read_of kind len t runs = record { kind = kind; value = handed len val t; runs = runs; len = len }

pub read_beside : (final : Traces) (kind : FoldOperator) (values : Label) (o : _) (len : ℕ) (t : Trace) (traces : List Trace) → All (λ t. is_at_or_below t.path run ≡ true) traces → All (λ t. is_at_or_below t.path val ≡ false) traces → All (λ t. t.reach ≡ len) traces
    → Knows final values (made_as o len (upserted len val traces (Some t))) → fold_by final (Fold kind (fold_args values)) ≡ Some (read_of kind len t traces)
read_beside final kind values o len t traces inside beside whole e =
    ap (read_vector kind (fold_args values)) e ∙ ap (read_value kind (fold_args values) (made_as o len (upserted len val traces (Some t)))) (upserted_new len val traces t)
    ∙ ap (λ (l : List Trace). Some (read_of kind len t l)) (runs_beside len traces t inside beside whole)

-- ---- what is said of statements that stand behind the rows of groups

abbrev pub ends_as : Traces → List Origin → FoldOperator → Statement → Bool
ends_as final groups kind s = is_fold (λ f. same_fold kind f.kind && ends_chain final groups [] f) (fold_by final (family s.op))

-- a fold that finds groups
abbrev pub finds : Traces → List Origin → Statement → Bool
finds final groups s = is_fold (folds_mark final groups) (fold_by final (family s.op))

abbrev pub is_extreme_by : Family → Bool
is_extreme_by (Fold kind f) = is_extreme kind
is_extreme_by f = false

-- it ends a chain, or finds groups
pub data Brings (groups : List Origin) (final : Traces) (s : Statement) : Type 0 where
  ends : ends_chain_at final groups [] s ≡ true → Brings groups final s
  marks : is_extreme_by (family s.op) ≡ true → finds final groups s ≡ true → Brings groups final s

-- it selects rows in the right runs, if it does, sorts nothing, and folds values as the plan says
pub record Brought (select : Control) (groups : List Origin) (final : Traces) (s : Statement) : Type 0 where
  pub selects : selects_by final select (family s.op) ≡ true
  pub orders : is_order (family s.op) ≡ false
  pub folds : is_value_fold (family s.op) ≡ true → Brings groups final s

pub calm_brought : (select : Control) (groups : List Origin) (final : Traces) (s : Statement) → Calm select groups final s → Brought select groups final s
calm_brought select groups final s h = record { selects = h.settled.selects; orders = h.orders; folds = λ e. absurd (false≢true (sym h.settled.folds ∙ e)) }

-- so many of them end chains of a kind
pub record Chains (select : Control) (groups : List Origin) (kind : FoldOperator) (n : ℕ) (final : Traces) (l : List Statement) : Type 0 where
  pub each : All (Brought select groups final) l
  pub chains : n ≤ length (filter (ends_as final groups kind) l)

pub chains_both : (select : Control) (groups : List Origin) (kind : FoldOperator) (m n k : ℕ) (final : Traces) (a b : List Statement) → k ≤ m + n → Chains select groups kind m final a → Chains select groups kind n final b → Chains select groups kind k final (a ++ b)
chains_both select groups kind m n k final a b le g h =
    let f = ends_as final groups kind in
    let is = ap length (filter-append f a b) ∙ length-append (filter f a) (filter f b) in
    let x = g.chains in
    let y = h.chains in
    record { each = All-append (Brought select groups final) a b g.each h.each; chains = omega (arith, is, x, y, le) }

pub calm_chains : (select : Control) (groups : List Origin) (kind : FoldOperator) (final : Traces) (l : List Statement) → All (Calm select groups final) l → Chains select groups kind 0 final l
calm_chains select groups kind final l h = record { each = λ i d less. calm_brought select groups final _ (h i d less); chains = omega arith }

-- ---- one fold

pub fold_ends : (final : Traces) (groups : List Origin) (kind : FoldOperator) (n values : Label) (o : _) (len : ℕ) (t : Trace) (traces : List Trace) → same_fold kind kind ≡ true → All (λ t. is_at_or_below t.path run ≡ true) traces → All (λ t. is_at_or_below t.path val ≡ false) traces → All (λ t. t.reach ≡ len) traces
    → are_groups final groups len traces ≡ true → Knows final values (made_as o len (upserted len val traces (Some t))) → (ends_chain_at final groups [] (statement n (fold_of kind (fold_args values))) ≡ true) × (ends_as final groups kind (statement n (fold_of kind (fold_args values))) ≡ true)
fold_ends final groups kind n values o len t traces fits inside beside whole are e =
    let is : fold_by final (family (fold_of kind (fold_args values))) ≡ Some (read_of kind len t traces) = ap (fold_by final) (fold_family kind (fold_args values)) ∙ read_beside final kind values o len t traces inside beside whole e in
    let chain : ends_chain final groups [] (read_of kind len t traces) ≡ true = rw (fits, are) refl in
    (ap (is_fold (ends_chain final groups [])) is ∙ chain, ap (is_fold (λ f. same_fold kind f.kind && ends_chain final groups [] f)) is ∙ and_from (same_fold kind kind) _ fits chain)
