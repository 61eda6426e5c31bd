-- Groups, with the values of their aggregates.
use Rattle.std.proofs.Common.{◌≡◌, ℕ, ◌<◌, ◌≤◌, Bool, true, false, List, [], ◌∷◌, ◌++◌, map, length, get_or, length-append, append-nil, refl, sym, ap, ◌∙◌, subst, arith, if◌then◌else◌, Option, Some, None}
use Rattle.std.specs.Prelude.{All, filter}
use Rattle.std.specs.List.{enumerate_from}
use Rattle.std.proofs.lemmas.List.Elements.{All-cons, All-head, All-tail, All-append, filter-append}
use Rattle.control_vectors.specs.Controls.{Control}
use Rattle.programs.specs.declared.family.FoldOperator.{FoldOperator}
use Rattle.programs.specs.declared.op.Statement.{Statement}
use Rattle.programs.specs.Outlines.{Shapes}
use Rattle.typed_trees.specs.declared.typed.Aggregate.{Aggregate}
use Rattle.typed_trees.specs.declared.typed.ColumnRef.{ColumnRef}
use Rattle.expr_steps.specs.Lowered.{Bytes}
use Rattle.program_writers.specs.Names.{IsBelow}
use Rattle.program_writers.specs.Writers.{through}
use Rattle.plan_programs.specs.Groups.{folding, aggregate_of, grouped}
use Rattle.plan_programs.specs.Sites.{Base}
use Rattle.attribute_origins.specs.Traces.{Origin, Traces}
use Rattle.plan_obeyed.specs.Runs.{is_one, are_groups}
use Rattle.plan_obeyed.specs.Chains.{is_fold, folds_mark}
use Rattle.plan_obeyed.specs.Runs as runs
use Rattle.lowered_obeys.proofs.Leaving.{Leaves, then_leaves, Each}
use Rattle.lowered_obeys.proofs.Calm.{Calm}
use Rattle.lowered_obeys.proofs.Standing.{HasPlace, StandsIn}
use Rattle.lowered_obeys.proofs.Folding.{HasRuns, Brought, calm_brought, ends_as, finds}
use Rattle.lowered_obeys.proofs.Aggregates.{Anything, asks_kind, asks_count, Passed, aggregates_leave}
use Rattle.lowered_obeys.proofs.AsOne.{one_leaves}
use Rattle.lowered_obeys.proofs.Sorting.{BeginsSorted}
use Rattle.lowered_obeys.proofs.ByColumns.{OneMark, columns_leave}

-- ---- calm statements find no groups

pub fold_none : (final : Traces) (groups : List Origin) (f : Option runs.FoldRead) → is_fold (λ g. are_groups final groups g.len g.runs) f ≡ false → is_fold (folds_mark final groups) f ≡ false
fold_none final groups None e = refl
fold_none final groups (Some f) e = rw e refl

pub calm_finds : (select : Control) (groups : List Origin) (final : Traces) (s : Statement) → 0 < length groups → Calm select groups final s → finds final groups s ≡ false
calm_finds select groups final s some h = fold_none final groups _ (h.settled.groupless some)

pub filter_none : {A : Type 0} (f : A → Bool) (xs : List A) → All (λ x. f x ≡ false) xs → filter f xs ≡ []
filter_none f [] h = refl
filter_none f (x ∷ xs) h = ap (λ (b : Bool). if b then x ∷ filter f xs else filter f xs) (All-head (λ x. f x ≡ false) x xs h) ∙ filter_none f xs (All-tail (λ x. f x ≡ false) x xs h)

-- ---- what is said of the statements of groups

-- the values of each aggregate pass a chain
pub record Folded (select : Control) (groups : List Origin) (aggregates : List Aggregate) (final : Traces) (l : List Statement) : Type 0 where
  pub each : All (Brought select groups final) l
  pub chains : All (λ a. asks_count a.kind ≤ length (filter (ends_as final groups (asks_kind a.kind)) l)) aggregates

folded_behind : (select : Control) (groups : List Origin) (aggregates : List Aggregate) (final : Traces) (a b : List Statement) → All (Brought select groups final) a → Passed select groups aggregates final b → Folded select groups aggregates final (a ++ b)
folded_behind select groups aggregates final a b g h = record { each = All-append (Brought select groups final) a b g h.each; chains = λ i d less. more (asks_kind (get_or aggregates i d).kind) (asks_count (get_or aggregates i d).kind) (h.chains i d less) }
  where
    more : (kind : FoldOperator) (n : ℕ) → n ≤ length (filter (ends_as final groups kind) b) → n ≤ length (filter (ends_as final groups kind) (a ++ b))
    more kind n x = let e = ap length (filter-append (ends_as final groups kind) a b) ∙ length-append (filter (ends_as final groups kind) a) (filter (ends_as final groups kind) b) in omega (arith, x, e)

all_brought : (select : Control) (groups : List Origin) (final : Traces) (l : List Statement) → All (Calm select groups final) l → All (Brought select groups final) l
all_brought select groups final l h = λ i d less. calm_brought select groups final (get_or l i d) (h i d less)

pub none_finds : (select : Control) (groups : List Origin) (final : Traces) (l : List Statement) → 0 < length groups → All (Calm select groups final) l → filter (finds final groups) l ≡ []
none_finds select groups final l some h = filter_none (finds final groups) l (λ i d less. calm_finds select groups final (get_or l i d) some (h i d less))

-- and where there is no aggregate, one fold finds the groups
pub record Groups (select : Control) (groups : List Origin) (aggregates : List Aggregate) (final : Traces) (l : List Statement) : Type 0 where
  pub folded : Folded select groups aggregates final l
  pub found : length aggregates ≡ 0 → is_one (finds final groups) (filter (finds final groups) l) ≡ true

groups_both : (select : Control) (groups : List Origin) (aggregates : List Aggregate) → 0 < length groups → (final : Traces) (a b : List Statement) → OneMark select groups final a → Passed select groups aggregates final b → Groups select groups aggregates final (a ++ b)
groups_both select groups aggregates some final a b g h = record {
  folded = folded_behind select groups aggregates final a b first h;
  found = λ e. ap (is_one f) (ap (filter f) (ap (λ (l : List Statement). a ++ l) (h.none e) ∙ append-nil a) ∙ only) ∙ g.found;
}
  where
    f : Statement → Bool
    f = finds final groups

    first : All (Brought select groups final) a
    first = subst (All (Brought select groups final)) (sym g.is) (All-append (Brought select groups final) g.before (g.one ∷ g.after) (all_brought select groups final g.before g.calm_before) (All-cons (Brought select groups final) g.one g.after g.brought (all_brought select groups final g.after g.calm_after)))

    only : filter f a ≡ g.one ∷ []
    only =
        ap (filter f) g.is ∙ filter-append f g.before (g.one ∷ g.after)
        ∙ ap (λ (l : List Statement). l ++ filter f (g.one ∷ g.after)) (none_finds select groups final g.before some g.calm_before)
        ∙ ap (λ (t : Bool). if t then g.one ∷ filter f g.after else filter f g.after) g.found
        ∙ ap (λ (l : List Statement). g.one ∷ l) (none_finds select groups final g.after some g.calm_after)

-- ---- by columns

pub by_columns_leave : (T : Shapes) (select : Control) (groups : List Origin) (m : ℕ) (place : ColumnRef → Origin) (texts : List Bytes) (b : Base) (c : ColumnRef) (columns : List ColumnRef) (aggregates : List Aggregate) (k : ℕ) (made : Traces)
    → m ≤ k → All (λ o. IsBelow m o.vector) groups → groups ≡ map place (c ∷ columns) → length (c ∷ columns) ≤ 4 → All (HasPlace b) (c ∷ columns) → StandsIn m place b k made
    → Leaves T (grouped texts b (c ∷ columns) aggregates) k made Anything (BeginsSorted select groups (Groups select groups aggregates))
by_columns_leave T select groups m place texts b c columns aggregates k made above below are few can h =
    let some : 0 < length groups = let e = ap length are in omega (arith, e) in
    then_leaves T (folding b (c ∷ columns)) (λ f. through (aggregate_of texts f) f.groups (enumerate_from 0 aggregates)) k made (λ f next after. HasRuns groups f.runs next after) Anything
    (BeginsSorted select groups (Groups select groups aggregates)) (BeginsSorted select groups (OneMark select groups)) (Passed select groups aggregates)
    (λ final a l x y. record { order = x.order; rest = x.rest ++ l; is = ap (λ (t : List Statement). t ++ l) x.is; sorts = x.sorts; behind = groups_both select groups aggregates some final x.rest l x.behind y })
    (columns_leave T select groups m place b c columns k made above below are few can h)
    (λ f next between le runs same. aggregates_leave T select groups texts f aggregates 0 f.groups next between runs)

-- ---- as one group

pub as_one_leaves : (T : Shapes) (select : Control) (m : ℕ) (place : ColumnRef → Origin) (texts : List Bytes) (b : Base) (aggregates : List Aggregate) (k : ℕ) (made : Traces) → StandsIn m place b k made → Leaves T (grouped texts b [] aggregates) k made Anything (Folded select [] aggregates)
as_one_leaves T select m place texts b aggregates k made h =
    then_leaves T (folding b []) (λ f. through (aggregate_of texts f) f.groups (enumerate_from 0 aggregates)) k made (λ f. HasRuns [] f.runs) Anything (Folded select [] aggregates) (Each (Calm select [])) (Passed select [] aggregates)
    (λ final a l x y. folded_behind select [] aggregates final a l (all_brought select [] final a x) y)
    (one_leaves T select m place b k made h)
    (λ f next between le runs same. aggregates_leave T select [] texts f aggregates 0 f.groups next between runs)
