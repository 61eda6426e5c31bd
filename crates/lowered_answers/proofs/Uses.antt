-- Each statement of a plan's program is used: its parts one behind another.
use Rattle.std.proofs.Common.{suc, ap, arith, not, length, ◌==◌, ◌||◌, ◌≡◌, ℕ, Bool, true, false, List, [], ◌∷◌, refl, sym, subst, ◌∙◌, option_to_list, Option, Some}
use Rattle.std.proofs.lemmas.Bool.Decides.{nat_tests}
use Rattle.programs.specs.Mentions.{Label}
use Rattle.sql_read.specs.declared.definition.TableDef.{TableDef}
use Rattle.typed_trees.specs.declared.typed.PlanSource.{PlanSource}
use Rattle.typed_trees.specs.declared.typed.Aggregate.{Aggregate}
use Rattle.typed_trees.specs.declared.typed.ColumnRef.{ColumnRef}
use Rattle.query_answers.specs.Clauses.{is_grouped}
use Rattle.program_writers.specs.Writers.{Writer, ◌>>=◌}
use Rattle.writer_runs.specs.Laws.{UsedLaws}
use Rattle.writer_runs.specs.Uses.{Uses}
use Rattle.plan_programs.specs.Sites.{Base}
use Rattle.plan_programs.specs.Rows.{kept}
use Rattle.plan_programs.specs.Groups.{grouped}
use Rattle.plan_programs.specs.Lowered.{defined_rows, from_rows, stands_on}
use Rattle.lowered_stages.specs.Parts.{RowsUses, KeptUses, ItemsUses}
use Rattle.lowered_group_checks.specs.Laws.{GroupsUsed}
use Rattle.lowered_answers.proofs.Bodies.{items_on, behind_where, behind_rows, body}
use Rattle.lowered_answers.proofs.Runs.{Given, texts}

pub record UseLaws : Type 0 where
  pub used : UsedLaws
  pub rows_used : RowsUses
  pub kept_used : KeptUses
  pub grouped_used : GroupsUsed
  pub items_used : ItemsUses

-- the vector that a part is asked of, and the one that it tells
abbrev pub UsesBase : Writer Base → ℕ → List Label → Type 0
UsesBase m k front = Uses ((m k).told.vector ∷ []) front (m k).statements

base_then : UseLaws → (m : Writer Base) (f : Base → Writer Base) (k : ℕ) (front : List Label) → UsesBase m k front → UsesBase (f (m k).told) (m k).next ((m k).told.vector ∷ []) → UsesBase (m >>= f) k front
base_then u m f k front first second = u.used.append ((f (m k).told (m k).next).told.vector ∷ []) ((m k).told.vector ∷ []) front (m k).statements (f (m k).told (m k).next).statements first second

label_then : UseLaws → (m : Writer Base) (f : Base → Writer Label) (k : ℕ) (front : List Label) → UsesBase m k front → Uses ((f (m k).told (m k).next).told ∷ []) ((m k).told.vector ∷ []) (f (m k).told (m k).next).statements → Uses (((m >>= f) k).told ∷ []) front ((m >>= f) k).statements
label_then u m f k front first second = u.used.append ((f (m k).told (m k).next).told ∷ []) ((m k).told.vector ∷ []) front (m k).statements (f (m k).told (m k).next).statements first second

from_used : UseLaws → (g : Given) (k : ℕ) → UsesBase (from_rows g.select (texts g) g.defs g.plan.sources) k []
from_used u g k =
    subst (λ (l : List PlanSource). UsesBase (from_rows g.select (texts g) g.defs l) k []) (sym g.over.only)
    (subst (λ (d : Option TableDef). UsesBase (defined_rows d g.source.columns >>= λ b. kept g.select (texts g) b g.source.filter) k []) (sym g.over.defined)
    (base_then u (defined_rows (Some g.def) g.source.columns) (λ b. kept g.select (texts g) b g.source.filter) k [] (u.rows_used g.def 0 g.source.columns k)
    (u.kept_used g.select (texts g) (defined_rows (Some g.def) g.source.columns k).told g.source.filter (defined_rows (Some g.def) g.source.columns k).next)))

some_of : (n : ℕ) → (suc n == 0) ≡ false
some_of n = grind (arith, nat_tests)

-- a query is answered by groups where it has a group column or an aggregate
same_groups : (groups : List ColumnRef) (aggregates : List Aggregate) → (not (length groups == 0) || not (length aggregates == 0)) ≡ is_grouped groups aggregates
same_groups [] [] = refl
same_groups [] (a ∷ aggregates) = ap not (some_of (length aggregates))
same_groups (c ∷ groups) aggregates = ap (λ (b : Bool). not b || not (length aggregates == 0)) (some_of (length groups))

stands_used : UseLaws → (g : Given) (q : Bool) → g.plan.grouped ≡ q → (b : Base) (k : ℕ) → UsesBase (stands_on g.select (texts g) g.plan q b) k (b.vector ∷ [])
stands_used u g false is b k = u.used.none (b.vector ∷ [])
stands_used u g true is b k =
    let m = grouped (texts g) b g.plan.groups g.plan.aggregates in
    base_then u m (λ c. kept g.select (texts g) c (option_to_list g.plan.having)) k (b.vector ∷ []) (u.grouped_used (texts g) b g.plan.groups g.plan.aggregates k (sym (same_groups g.plan.groups g.plan.aggregates) ∙ sym g.can.well_formed.grouped ∙ is)) (u.kept_used g.select (texts g) (m k).told (option_to_list g.plan.having) (m k).next)

pub body_used : UseLaws → (g : Given) → Uses ((body g.select (texts g) g.defs g.plan 0).told ∷ []) [] (body g.select (texts g) g.defs g.plan 0).statements
body_used u g =
    let m = from_rows g.select (texts g) g.defs g.plan.sources in
    let b = (m 0).told in
    let k = (m 0).next in
    let n = kept g.select (texts g) b g.plan.filter in
    let c = (n k).told in
    let l = (n k).next in
    let o = stands_on g.select (texts g) g.plan g.plan.grouped c in
    label_then u m (behind_rows g.select (texts g) g.plan) 0 [] (from_used u g 0)
    (label_then u n (behind_where g.select (texts g) g.plan) k (b.vector ∷ []) (u.kept_used g.select (texts g) b g.plan.filter k)
    (label_then u o (items_on (texts g) g.plan) l (c.vector ∷ []) (stands_used u g g.plan.grouped refl c l) (u.items_used (texts g) (o l).told g.plan.items g.plan.order (o l).next)))
