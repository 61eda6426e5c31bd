-- Rows are selected in the runs of one Range.
use Rattle.std.proofs.Common.{◌≡◌, ℕ, ◌<◌, ◌≤◌, ℤ, Bool, true, false, ◌&&◌, ◌||◌, List, [], ◌∷◌, length, refl, ap, ◌∙◌, arith, if◌then◌else◌, codes, Some, None}
use Rattle.std.specs.Prelude.{All, min, option_and_then}
use Rattle.std.specs.List.{list_any}
use Rattle.std.specs.Ordering.{int_eq}
use Rattle.std.specs.Str.{bytes_eq}
use Rattle.std.proofs.lemmas.Bool.{eq-eqb}
use Rattle.std.proofs.lemmas.Bool.Decides.{Decides-int_eq}
use Rattle.std.proofs.lemmas.List.Elements.{All-head}
use Rattle.control_vectors.specs.Controls.{Control}
use Rattle.programs.specs.declared.family.FoldOperator.{FoldOperator}
use Rattle.programs.specs.declared.family.FoldOperator.TheVariants as fold
use Rattle.programs.specs.declared.op.Op.{Op}
use Rattle.programs.specs.declared.op.Op.TheVariants as op
use Rattle.programs.specs.declared.op.Size.TheVariants as size
use Rattle.programs.specs.Families.{family, Fold}
use Rattle.programs.specs.Mentions.{Label}
use Rattle.programs.specs.Outlines.{Shapes, len_in}
use Rattle.program_writers.specs.Names.{IsBelow, IsFrom}
use Rattle.program_writers.specs.Statements.{out, val, run, with_attribute, fold_args, fold_of}
use Rattle.program_writers.specs.Writers.{make, numbered, statement}
use Rattle.program_writers.proofs.Numbers.{from_differs, below_more, from_is_below}
use Rattle.plan_programs.specs.Rows.{picked, places_of}
use Rattle.attribute_origins.specs.Traces.{Origin, Trace, Traced, Traces, shapes_of, handed, upserted}
use Rattle.attribute_origins.specs.Origins.{traced}
use Rattle.plan_obeyed.specs.Columns.{carries, carry_all, carry_none}
use Rattle.plan_obeyed.specs.Runs.{FoldRead, fold_by, read_vector, same_control, has_numbers, range_numbers, numbers_by, is_range, is_one, is_mark, are_groups}
use Rattle.plan_obeyed.specs.Chains.{is_fold}
use Rattle.lowered_obeys.proofs.Traced.{Knows, made_as, range_trace, upsert_traced, fold_traced}
use Rattle.lowered_obeys.proofs.Leaving.{Agrees, Leaves, knows_still, agrees_then, Each, then_each, less_leaves, make_leaves, MakesIt}
use Rattle.lowered_obeys.proofs.Calm.{IsCalm, Calm, HasOut, one_each, plain_leaves}

pub min_same : (n : ℕ) → min n n ≡ n
min_same n = omega arith

int_same : (z : ℤ) → int_eq z z ≡ true
int_same z = (Decides-int_eq z z).1 refl

pub control_same : (c : Control) → same_control c c ≡ true
control_same c = rw (int_same c.start, eq-eqb c.step c.step refl, eq-eqb c.modulus c.modulus refl, eq-eqb c.divisor c.divisor refl) refl

-- ---- what a fold reads beside one Range

-- the run attribute of a vector that has a Range and a value beside it
abbrev pub run_trace : Label → ℕ → Control → Trace
run_trace n len c = record (range_trace n run len c) { reach = min len len }

abbrev pub beside_range : Label → ℕ → Control → Trace → List Trace
beside_range n len c t = upserted len val (range_trace n run len c ∷ []) (Some t)

abbrev pub read_of : FoldOperator → ℕ → Label → Control → Trace → FoldRead
read_of kind len n c t = record { kind = kind; value = handed len val t; runs = run_trace n len c ∷ []; len = len }

pub read_beside : (final : Traces) (kind : FoldOperator) (o : Op) (pick n : Label) (len : ℕ) (c : Control) (t : Trace) → Knows final pick (made_as o len (beside_range n len c t)) → fold_by final (Fold kind (fold_args pick)) ≡ Some (read_of kind len n c t)
read_beside final kind o pick n len c t e = ap (read_vector kind (fold_args pick)) e

pub range_there : (final : Traces) (n a : Label) (len : ℕ) (c : Control) (traces : List Trace) → Knows final n (made_as (op.Range (size.Of a) run c) len traces) → range_numbers final len (run_trace n len c) ≡ Some c
range_there final n a len c traces e =
    ap (λ (b : Bool). if b then option_and_then (λ v. numbers_by (family v.op)) (final n) else None) (eq-eqb (min len len) len (min_same len)) ∙ ap (option_and_then (λ v. numbers_by (family v.op))) e

pub is_this_range : (final : Traces) (n a : Label) (len : ℕ) (c : Control) (traces : List Trace) → Knows final n (made_as (op.Range (size.Of a) run c) len traces) → is_range final c len (run_trace n len c) ≡ true
is_this_range final n a len c traces e = ap (has_numbers c) (range_there final n a len c traces e) ∙ control_same c

-- ---- it carries no group column, whose Loads have lesser numbers

no_carry : (k l : ℕ) (o : Origin) (n : Label) (len : ℕ) (c : Control) → IsBelow k o.vector → IsFrom k l n → list_any (carries o) (run_trace n len c ∷ []) ≡ false
no_carry k l o n len c below from = ap (λ (b : Bool). (b && bytes_eq run o.path) || false) (from_differs k l o.vector n below from)

pub no_groups : (final : Traces) (groups : List Origin) (k l : ℕ) (n : Label) (len : ℕ) (c : Control) → All (λ o. IsBelow k o.vector) groups → IsFrom k l n → 0 < length groups → are_groups final groups len (run_trace n len c ∷ []) ≡ false
no_groups final [] k l n len c below from some = absurd (omega arith)
no_groups final (o ∷ groups) k l n len c below from some =
    ap (λ (b : Bool). (b && carry_all groups (run_trace n len c ∷ [])) && is_one (is_mark len) (carry_none (o ∷ groups) (run_trace n len c ∷ []))) (no_carry k l o n len c (All-head (λ x. IsBelow k x.vector) o groups below) from)

-- ---- the fold that selects

select_calm : (final : Traces) (select : Control) (groups : List Origin) (k l : ℕ) (o : Op) (a pick n : Label) (len : ℕ) (t : Trace) (traces : List Trace) → All (λ o. IsBelow k o.vector) groups → IsFrom k l n
    → Knows final pick (made_as o len (beside_range n len select t)) → Knows final n (made_as (op.Range (size.Of a) run select) len traces) → IsCalm select groups final (Fold fold.Select (fold_args pick))
select_calm final select groups k l o a pick n len t traces below from e f =
    let is = read_beside final fold.Select o pick n len select t e in
    record {
      settled = record {
        selects = ap (is_fold (λ g. is_one (is_range final select g.len) g.runs)) is ∙ is_this_range final n a len select traces f;
        folds = refl;
        groupless = λ some. ap (is_fold (λ g. are_groups final groups g.len g.runs)) is ∙ no_groups final groups k l n len select below from some;
      };
      orders = refl;
    }

pub out_still : (k l : ℕ) (made final : Traces) (name : Label) → k ≤ l → Agrees k made final → HasOut name k made → HasOut name l final
out_still k l made final name le same h = record { vector = h.vector; known = knows_still k made final name h.vector same h.below h.known; value = h.value; there = h.there; below = below_more k l name le h.below }

-- a vector as long as that of the rows
pub record HasLength (len : ℕ) (name : Label) (next : ℕ) (made : Traces) : Type 0 where
  pub vector : Traced
  pub known : Knows made name vector
  pub len_is : vector.len ≡ len
  pub below : IsBelow next name

module _ (T : Shapes) (select : Control) (groups : List Origin) where
  -- the fold, behind a Range that is known
  picked_leaves : (vector n all : Label) (len m : ℕ) (k : ℕ) (made : Traces) → All (λ o. IsBelow m o.vector) groups → Knows made n (made_as (op.Range (size.Of vector) run select) len (range_trace n run len select ∷ [])) → IsFrom m k n → HasOut all k made
      → Leaves T (picked n all) k made (HasLength len) (Each (Calm select groups))
  picked_leaves vector n all len m k made below e from h =
      let upsert = with_attribute n val all out in
      let is : (pick : Label) → traced T made pick upsert ≡ made_as upsert len (beside_range n len select h.value) = λ pick. upsert_traced T made pick n val all out (made_as (op.Range (size.Of vector) run select) len (range_trace n run len select ∷ [])) h.vector h.value e h.known h.there in
      then_each T (Calm select groups) (make (codes "pick") upsert) (λ name. make (codes "places") (fold_of fold.Select (fold_args name))) k made (MakesIt k (λ pick. traced T made pick upsert)) (HasLength len)
      (plain_leaves T select groups (codes "pick") upsert k made refl refl refl)
      (λ name next between le p same.
      let there : Knows between name (made_as upsert len (beside_range n len select h.value)) = p.known ∙ ap (λ (v : Traced). Some v) (is name) in
      let places = numbered (codes "places") next in
      let o = op.FoldSelect (fold_args name) in
      less_leaves T (make (codes "places") o) next between (MakesIt next (λ n. traced T between n o)) (HasLength len) (Each (Calm select groups)) (Each (Calm select groups))
      (λ name2 next2 after le2 same2 q. record { vector = _; known = q.known; len_is = ap (λ (v : Traced). v.len) (fold_traced T between name2 fold.Select (fold_args name) _ there); below = q.below }) (λ final l x. x)
      (make_leaves T (codes "places") o next between (Each (Calm select groups)) refl refl
      (λ final same2 there2.
      one_each (Calm select groups) final (statement places o)
      (select_calm final select groups m k upsert vector name n len h.value (range_trace n run len select ∷ []) below from
      (knows_still next between final name _ same2 p.below there)
      (knows_still k made final n _ (agrees_then k next made between final le same same2) (from_is_below m k n from) e)))))

  pub places_leave : (vector all : Label) (k : ℕ) (made : Traces) → All (λ o. IsBelow k o.vector) groups → HasOut all k made → Leaves T (places_of select vector all) k made (HasLength (len_in (shapes_of made) vector)) (Each (Calm select groups))
  places_leave vector all k made below h =
      let range = op.Range (size.Of vector) run select in
      then_each T (Calm select groups) (make (codes "runs") range) (λ name. picked name all) k made (MakesIt k (λ n. traced T made n range)) (HasLength (len_in (shapes_of made) vector))
      (plain_leaves T select groups (codes "runs") range k made refl refl refl)
      (λ name next between le p same.
      picked_leaves vector name all (len_in (shapes_of made) vector) k next between below p.known (record { number = p.from.number; has = p.from.has; least = p.from.least; less = p.from.less })
      (out_still k next made between all le same h))
