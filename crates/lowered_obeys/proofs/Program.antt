-- A plan's program over its one table: it begins with the Load of the table, and where there is a condition, something selects.
use Rattle.std.proofs.Common.{◌≡◌, ◌⊎◌, inl, inr, ℕ, Bool, true, false, not, ◌||◌, List, [], ◌∷◌, ◌++◌, map, drop, refl, ap, ◌∙◌, if◌then◌else◌, codes, Option, Some}
use Rattle.std.specs.Prelude.{filter, flat_map}
use Rattle.std.specs.List.{list_any}
use Rattle.std.proofs.lemmas.Bool.{or_left, or_right, or_cases}
use Rattle.std.proofs.lemmas.List.Folds.{list_any-append}
use Rattle.std.proofs.lemmas.Slice.Eq.{bytes_eq-Decides}
use Rattle.control_vectors.specs.Controls.{Control}
use Rattle.programs.specs.declared.op.Op.TheVariants as op
use Rattle.programs.specs.declared.op.Statement.{Statement}
use Rattle.programs.specs.Families.{family}
use Rattle.programs.specs.Mentions.{Label, has_name}
use Rattle.sql_read.specs.declared.definition.TableDef.{TableDef}
use Rattle.table_load.specs.Databases.{database_of}
use Rattle.table_load.specs.Values.{Table}
use Rattle.typed_trees.specs.declared.typed.PlanSource.{PlanSource}
use Rattle.typed_trees.specs.declared.typed.TypedExpr.{TypedExpr}
use Rattle.expr_steps.specs.Lowered.{Bytes}
use Rattle.rel_plan.specs.declared.plans.RelPlan.{RelPlan}
use Rattle.program_writers.specs.Writers.{Writer, ◌>>=◌, numbered, statement}
use Rattle.plan_programs.specs.Items.{answered}
use Rattle.plan_programs.specs.Lowered.{defined_rows, from_rows, stands_on, lowered}
use Rattle.plan_programs.specs.Rows.{rows_of, kept}
use Rattle.plan_programs.specs.Sites.{Base}
use Rattle.lowered_premises.specs.Sources.{OverTable, texts_of}
use Rattle.plan_obeyed.specs.Columns.{loads_table, choices}
use Rattle.plan_obeyed.specs.Queries.{has_some}
use Rattle.plan_obeyed.specs.Obeyed.{is_select}
use Rattle.lowered_obeys.proofs.Kept.{kept_selects}

-- what stands behind the rows of FROM
abbrev pub behind_from : Control → List Bytes → RelPlan → Base → Writer (Unit {0})
behind_from select texts p b = kept select texts b p.filter >>= λ c. stands_on select texts p p.grouped c >>= λ on. answered texts on p.items p.order

-- the program of a plan whose one source is over this table
abbrev pub over_table : Control → List Bytes → RelPlan → PlanSource → Option TableDef → Writer (Unit {0})
over_table select texts p s def = (defined_rows def s.columns >>= λ b. kept select texts b s.filter) >>= behind_from select texts p

pub lowered_is : (select : Control) (defs : List TableDef) (ts : List Table) (p : RelPlan) (s : PlanSource) (def : TableDef) (t : Table) → OverTable defs ts p s def t → lowered select (database_of defs ts) p ≡ (over_table select (texts_of defs ts) p s (Some def) 0).statements
unfolding lowered database_of
lowered_is select defs ts p s def t over =
    ap (λ (ss : List PlanSource). ((from_rows select (texts_of defs ts) defs ss >>= behind_from select (texts_of defs ts) p) 0).statements) over.only
    ∙ ap (λ (d : Option TableDef). (over_table select (texts_of defs ts) p s d 0).statements) over.defined

-- ---- its Load

abbrev pub table_name : Label
table_name = numbered (codes "table") 0

-- the first way of telling which Load is which source's
pub first_choice : (select : Control) (texts : List Bytes) (p : RelPlan) (s : PlanSource) (def : TableDef) (f : List Label → Bool) → f (table_name ∷ []) ≡ true → list_any f (choices (over_table select texts p s (Some def) 0).statements (def.name ∷ [])) ≡ true
first_choice select texts p s def f e =
    let l = (over_table select texts p s (Some def) 0).statements in
    ap (λ (b : Bool). list_any f (flat_map (λ n. map (λ ns. n ∷ ns) (filter (λ ns. not (has_name ns n)) ([] ∷ []))) (map (λ (x : Statement). x.name) (if b then statement table_name (op.Load def.name) ∷ filter (λ x. loads_table def.name (family x.op)) (drop 1 l) else filter (λ x. loads_table def.name (family x.op)) (drop 1 l))))) ((bytes_eq-Decides def.name def.name).1 refl)
    ∙ ap (λ (b : Bool). b || list_any f (flat_map (λ n. map (λ ns. n ∷ ns) (filter (λ ns. not (has_name ns n)) ([] ∷ []))) (map (λ (x : Statement). x.name) (filter (λ x. loads_table def.name (family x.op)) (drop 1 l))))) e

-- ---- WHERE

selects : List Statement → Bool
selects l = list_any (λ s. is_select (family s.op)) l

some_selects : (select : Control) (texts : List Bytes) (b : Base) (es : List TypedExpr) (k : ℕ) → has_some es ≡ true → selects (kept select texts b es k).statements ≡ true
unfolding selects
some_selects select texts b [] k e = absurd cc
some_selects select texts b (x ∷ es) k e = kept_selects select texts b x es k

selects_more : (a b : List Statement) → (selects a || selects b) ≡ true → selects (a ++ b) ≡ true
unfolding selects
selects_more a b e = list_any-append (λ s. is_select (family s.op)) a b ∙ e

-- conditions of the source, and the others
source_selects : (select : Control) (texts : List Bytes) (p : RelPlan) (s : PlanSource) (def : TableDef) → has_some s.filter ≡ true → selects (over_table select texts p s (Some def) 0).statements ≡ true
source_selects select texts p s def e =
    let rows = rows_of def 0 s.columns 0 in
    let first = kept select texts rows.told s.filter rows.next in
    let rest = behind_from select texts p first.told first.next in
    selects_more (rows.statements ++ first.statements) rest.statements (or_left (selects (rows.statements ++ first.statements)) (selects rest.statements) (selects_more rows.statements first.statements (or_right (selects rows.statements) (selects first.statements) (some_selects select texts rows.told s.filter rows.next e))))

other_selects : (select : Control) (texts : List Bytes) (p : RelPlan) (s : PlanSource) (def : TableDef) → has_some p.filter ≡ true → selects (over_table select texts p s (Some def) 0).statements ≡ true
other_selects select texts p s def e =
    let rows = rows_of def 0 s.columns 0 in
    let first = kept select texts rows.told s.filter rows.next in
    let second = kept select texts first.told p.filter first.next in
    let rest = (stands_on select texts p p.grouped second.told >>= λ on. answered texts on p.items p.order) second.next in
    selects_more (rows.statements ++ first.statements) (second.statements ++ rest.statements)
    (or_right (selects (rows.statements ++ first.statements)) (selects (second.statements ++ rest.statements)) (selects_more second.statements rest.statements (or_left (selects second.statements) (selects rest.statements) (some_selects select texts first.told p.filter first.next e))))

pub where_selects : (select : Control) (texts : List Bytes) (p : RelPlan) (s : PlanSource) (def : TableDef) → (has_some p.filter || (has_some s.filter || false)) ≡ true → list_any (λ s. is_select (family s.op)) (over_table select texts p s (Some def) 0).statements ≡ true
unfolding selects
where_selects select texts p s def e = by (or_cases (has_some p.filter) (has_some s.filter || false) e)
  where
    by : (has_some p.filter ≡ true) ⊎ ((has_some s.filter || false) ≡ true) → selects (over_table select texts p s (Some def) 0).statements ≡ true
    by (inl h) = other_selects select texts p s def h
    by (inr h) = source_selects select texts p s def (one (has_some s.filter) h)
      where
        one : (b : Bool) → (b || false) ≡ true → b ≡ true
        one true e = refl
        one false e = absurd cc
