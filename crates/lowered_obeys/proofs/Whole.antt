-- The statements of a plan's program: calm ones, then those of groups, then calm ones, and those of the items in order.
use Rattle.std.proofs.Common.{◌≡◌, ℕ, ◌≤◌, true, List, [], ◌++◌, get_or, append_assoc, refl, sym, ap, ◌∙◌, subst, option_to_list, le_trans}
use Rattle.std.specs.Prelude.{All}
use Rattle.std.specs.List.{list_any}
use Rattle.std.proofs.lemmas.List.Elements.{All-nil, All-append}
use Rattle.control_vectors.specs.Controls.{Control}
use Rattle.programs.specs.declared.op.Statement.{Statement}
use Rattle.programs.specs.Outlines.{Shapes}
use Rattle.typed_trees.specs.declared.typed.ColumnRef.{ColumnRef}
use Rattle.typed_trees.specs.declared.typed.TypedExpr.{TypedExpr}
use Rattle.typed_trees.specs.Names.{same_column}
use Rattle.expr_lower.specs.declared.places.ColumnPlace.{ColumnPlace}
use Rattle.expr_steps.specs.Lowered.{Bytes}
use Rattle.rel_plan.specs.declared.plans.RelPlan.{RelPlan}
use Rattle.program_writers.specs.Names.{IsBelow}
use Rattle.program_writers.specs.Writers.{Writer, ◌>>=◌}
use Rattle.plan_programs.specs.Groups.{grouped}
use Rattle.plan_programs.specs.Items.{answered}
use Rattle.plan_programs.specs.Lowered.{stands_on}
use Rattle.plan_programs.specs.Rows.{kept}
use Rattle.plan_programs.specs.Sites.{Base}
use Rattle.lowered_stages.specs.Parts.{SamePlaces}
use Rattle.attribute_origins.specs.Traces.{Origin, Traces}
use Rattle.lowered_obeys.proofs.Leaving.{Leaves, behind_leaves, then_leaves, less_leaves, Each, each_both}
use Rattle.lowered_obeys.proofs.Calm.{Settled, Calm}
use Rattle.lowered_obeys.proofs.Standing.{HasPlace, StandsIn}
use Rattle.lowered_obeys.proofs.Kept.{StandsSame, all_below, kept_leaves, having_leaves}
use Rattle.lowered_obeys.proofs.Aggregates.{Anything}
use Rattle.lowered_obeys.proofs.Items.{answered_settles}

-- statements of some kind, and calm ones behind them
pub record HasBehind (select : Control) (groups : List Origin) (M : Traces → List Statement → Type 0) (final : Traces) (l : List Statement) : Type 0 where
  pub middle : List Statement
  pub behind : List Statement
  pub is : l ≡ middle ++ behind
  pub mid : M final middle
  pub calm : All (Calm select groups final) behind

-- and calm ones before them, and settled ones behind
pub record Lies (select : Control) (groups : List Origin) (M : Traces → List Statement → Type 0) (final : Traces) (l : List Statement) : Type 0 where
  pub before : List Statement
  pub middle : List Statement
  pub behind : List Statement
  pub is : l ≡ before ++ (middle ++ behind)
  pub calm : All (Calm select groups final) before
  pub mid : M final middle
  pub settled : All (Settled select groups final) behind

lies_behind : (select : Control) (groups : List Origin) (M : Traces → List Statement → Type 0) (final : Traces) (a l : List Statement) → All (Calm select groups final) a → Lies select groups M final l → Lies select groups M final (a ++ l)
lies_behind select groups M final a l h g = record {
  before = a ++ g.before;
  middle = g.middle;
  behind = g.behind;
  is = ap (λ (t : List Statement). a ++ t) g.is ∙ sym (append_assoc a g.before (g.middle ++ g.behind));
  calm = All-append (Calm select groups final) a g.before h g.calm;
  mid = g.mid;
  settled = g.settled;
}

settled_behind : (select : Control) (groups : List Origin) (M : Traces → List Statement → Type 0) (final : Traces) (l a : List Statement) → HasBehind select groups M final l → All (Settled select groups final) a → Lies select groups M final (l ++ a)
settled_behind select groups M final l a g h = record {
  before = [];
  middle = g.middle;
  behind = g.behind ++ a;
  is = ap (λ (t : List Statement). t ++ a) g.is ∙ append_assoc g.middle g.behind a;
  calm = All-nil (Calm select groups final);
  mid = g.mid;
  settled = All-append (Settled select groups final) g.behind a (λ i d l. (g.calm i d l).settled) h;
}

places_same : (b c : Base) → SamePlaces b c → (columns : List ColumnRef) → All (HasPlace b) columns → All (HasPlace c) columns
places_same b c s columns h = λ i d less. subst (λ (ps : List ColumnPlace). list_any (λ q. same_column q.column (get_or columns i d)) ps ≡ true) (sym s.columns) (h i d less)

module _ (T : Shapes) (select : Control) (groups : List Origin) (m : ℕ) (place : ColumnRef → Origin) (texts : List Bytes) (p : RelPlan) where
  -- groups, and those of which HAVING is true
  pub grouped_leaves : (b : Base) (k : ℕ) (made : Traces) (M : Traces → List Statement → Type 0) → m ≤ k → All (λ o. IsBelow m o.vector) groups → Leaves T (grouped texts b p.groups p.aggregates) k made Anything M → Leaves T (stands_on select texts p true b) k made Anything (HasBehind select groups M)
  grouped_leaves b k made M above below g =
      then_leaves T (grouped texts b p.groups p.aggregates) (λ c. kept select texts c (option_to_list p.having)) k made Anything Anything (HasBehind select groups M) M (Each (Calm select groups))
      (λ final a l x y. record { middle = a; behind = l; is = refl; mid = x; calm = y }) g
      (λ c next between le x same. having_leaves T select groups texts c (option_to_list p.having) next between (all_below m next (le_trans above le) groups below))

  -- what stands behind the rows of FROM
  rest_leaves : (b : Base) (k : ℕ) (made : Traces) (M : Traces → List Statement → Type 0) → m ≤ k → All (λ o. IsBelow m o.vector) groups → All (HasPlace b) p.groups → StandsIn m place b k made
      → ((c : Base) (l : ℕ) (after : Traces) → m ≤ l → All (HasPlace c) p.groups → StandsIn m place c l after → Leaves T (stands_on select texts p p.grouped c) l after Anything (HasBehind select groups M))
      → Leaves T (kept select texts b p.filter >>= λ c. stands_on select texts p p.grouped c >>= λ on. answered texts on p.items p.order) k made Anything (Lies select groups M)
  rest_leaves b k made M above below can h each =
      then_leaves T (kept select texts b p.filter) (λ c. stands_on select texts p p.grouped c >>= λ on. answered texts on p.items p.order) k made (StandsSame m place b) Anything (Lies select groups M) (Each (Calm select groups)) (Lies select groups M) (lies_behind select groups M)
      (kept_leaves T select groups m place texts b p.filter k made (all_below m k above groups below) h)
      (λ c next between le s same.
      then_leaves T (stands_on select texts p p.grouped c) (λ on. answered texts on p.items p.order) next between Anything Anything (Lies select groups M) (HasBehind select groups M) (Each (Settled select groups)) (settled_behind select groups M)
      (each c next between (le_trans above le) (places_same b c s.same p.groups can) s.stands)
      (λ on last after le2 x same2. answered_settles T select groups texts on p.items p.order last after))

  -- the whole, behind the rows of the table
  pub all_leaves : (conditions : List TypedExpr) (rows : Writer Base) (k : ℕ) (made : Traces) (M : Traces → List Statement → Type 0) → All (λ o. IsBelow m o.vector) groups → m ≤ (rows k).next → All (HasPlace (rows k).told) p.groups → Leaves T rows k made (λ b next after. StandsIn m place b next after) (Each (Calm select groups))
      → ((c : Base) (l : ℕ) (after : Traces) → m ≤ l → All (HasPlace c) p.groups → StandsIn m place c l after → Leaves T (stands_on select texts p p.grouped c) l after Anything (HasBehind select groups M))
      → Leaves T ((rows >>= λ b. kept select texts b conditions) >>= λ b. kept select texts b p.filter >>= λ c. stands_on select texts p p.grouped c >>= λ on. answered texts on p.items p.order) k made Anything (Lies select groups M)
  all_leaves conditions rows k made M below above can g each =
      then_leaves T (rows >>= λ b. kept select texts b conditions) (λ b. kept select texts b p.filter >>= λ c. stands_on select texts p p.grouped c >>= λ on. answered texts on p.items p.order) k made (λ c next after. (m ≤ next) × (All (HasPlace c) p.groups × StandsIn m place c next after)) Anything
      (Lies select groups M) (Each (Calm select groups)) (Lies select groups M) (lies_behind select groups M)
      (first g)
      (λ c next between le (more, (there, s)) same. rest_leaves c next between M more below there s each)
    where
      first : Leaves T rows k made (λ b next after. StandsIn m place b next after) (Each (Calm select groups)) → Leaves T (rows >>= λ b. kept select texts b conditions) k made (λ c next after. (m ≤ next) × (All (HasPlace c) p.groups × StandsIn m place c next after)) (Each (Calm select groups))
      first g =
          let b = (rows k).told in
          behind_leaves T rows (λ b. kept select texts b conditions) k made (λ b next after. StandsIn m place b next after) (λ c next after. (m ≤ next) × (All (HasPlace c) p.groups × StandsIn m place c next after)) (Each (Calm select groups)) (Each (Calm select groups)) (Each (Calm select groups)) (each_both (Calm select groups)) g
          (less_leaves T (kept select texts b conditions) (rows k).next _ (StandsSame m place b) (λ c next after. (m ≤ next) × (All (HasPlace c) p.groups × StandsIn m place c next after)) (Each (Calm select groups)) (Each (Calm select groups))
          (λ c next after le same s. (le_trans above le, (places_same b c s.same p.groups can, s.stands))) (λ final l x. x)
          (kept_leaves T select groups m place texts b conditions (rows k).next _ (all_below m (rows k).next above groups below) g.holds))
