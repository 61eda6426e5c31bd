-- The answer of a plan over one table, by what its parts make.
use Rattle.std.proofs.Common.{◌≡◌, ◌∙◌, ℕ, Bool, true, false, if◌then◌else◌, List, [], ◌∷◌, ◌++◌, map, get_or, Option, Some, None, Result, Ok, Err, is_err, refl, ap, subst}
use Rattle.std.specs.Prelude.{All, filter, slice_get}
use Rattle.std.specs.List.{AllByRecursion, Contains}
use Rattle.std.proofs.lemmas.List.{get_or-map}
use Rattle.std.proofs.lemmas.List.Elements.{All-contains, Contains-get_or, filter_agree}
use Rattle.std.proofs.lemmas.List.Folds.{list_any_none}
use Rattle.std.proofs.lemmas.List.Sums.{list_all-from_AllPass}
use Rattle.std.proofs.lemmas.Option.{get_or_from_slice_get, slice_get_within}
use Rattle.control_vectors.specs.declared.Over.{Over}
use Rattle.control_vectors.specs.Slots.{over}
use Rattle.sql_read.specs.declared.definition.TableDef.{TableDef}
use Rattle.table_load.specs.Values.{Table, value_at}
use Rattle.typed_trees.specs.declared.typed.ColumnRef.{ColumnRef}
use Rattle.typed_trees.specs.declared.typed.ColumnType.{ColumnType}
use Rattle.typed_trees.specs.declared.typed.PlanSource.{PlanSource}
use Rattle.typed_trees.specs.declared.typed.TypedExpr.{TypedExpr}
use Rattle.typed_trees.specs.Columns.{columns_in}
use Rattle.typed_values.specs.Intervals.{of_type}
use Rattle.typed_values.specs.Values.{Valued, value}
use Rattle.value_bounds.specs.Laws.{fits, holds, NeverOver}
use Rattle.query_types.specs.Names.{type_of_column}
use Rattle.typing_laws.specs.Laws.{AreDeclared, column_at}
use Rattle.query_answers.specs.Answers.{Row, answer, condition, from_rows, joined, meets, on_row, output_row, pairs_with, selected, source_rows}
use Rattle.query_answers.specs.Overs.{◌>>=◌, each, is_met, kept}
use Rattle.query_answers.proofs.Lists.{filter_all}
use Rattle.query_answers.proofs.Strict.{condition_met, condition_over, kept_are, one_over}
use Rattle.rel_plan.specs.declared.plans.RelPlan.{RelPlan}
use Rattle.plan_laws.specs.PlanAnswers.{clauses_of_plan, plan_answer}
use Rattle.plan_laws.specs.WellFormed.{places}
use Rattle.loaded_plans.specs.Laws.{LoadedFit}
use Rattle.lowered_stages.specs.Parts.{answer_rows, on_table}
use Rattle.lowered_stages.specs.Plans.{CanLower}
use Rattle.lowered_premises.specs.Sources.{OverTable, alone, met_rows}
use Rattle.lowered_premises.specs.Laws.{ShapeLaws, where_rows}
use Rattle.lowered_premises.proofs.Sources.{in_place, is_at, its_columns}

each_map : {A B C : Type 0} (f : B → Result C Over) (g : A → B) (xs : List A) → each f (map g xs) ≡ each (λ x. f (g x)) xs
each_map f g [] = refl
each_map {A} {B} {C} f g (x ∷ xs) = ap (λ (r : Result (List C) Over). f (g x) >>= λ y. r >>= λ ys. Ok (y ∷ ys)) (each_map f g xs)

not_err : (r : Valued) → (r ≡ Err over → ⊥) → is_err r ≡ false
not_err (Ok v) h = refl
not_err (Err e) h = absurd (h (ap (λ (x : Over). Err x) (one_over e)))

append_nothing : {A : Type 0} (xs : List A) → xs ++ [] ≡ xs
append_nothing [] = refl
append_nothing {A} (x ∷ xs) = ap (λ (l : List A). x ∷ l) (append_nothing xs)

-- a source that joins nothing takes each row
from_nothing : (j : Option (ColumnRef × ℕ)) (added : List Row) → j ≡ None → joined (pairs_with j) ([] ∷ []) added ≡ map alone added
from_nothing None added e = append_nothing (map alone (filter (λ r. true) added)) ∙ ap (map alone) (filter_all (λ r. true) added (every added))
  where
    every : (rows : List Row) → AllByRecursion (λ r. true ≡ true) rows
    every [] = tt
    every (r ∷ rows) = (refl, every rows)
from_nothing (Some on) added e = absurd cc

module _ (defs : List TableDef) (ts : List Table) (p : RelPlan) (s : PlanSource) (def : TableDef) (t : Table) (o : OverTable defs ts p s def t) where
  its_rows : get_or (map (λ (x : Table). x.rows) ts) s.table [] ≡ t.rows
  its_rows = get_or-map (λ (x : Table). x.rows) ts s.table t [] (slice_get_within ts s.table t o.stored) ∙ ap (λ (x : Table). x.rows) (get_or_from_slice_get ts s.table t t o.stored)

  rows_are : from_rows ts p.sources ≡ map alone (met_rows s t)
  rows_are =
      ap (from_rows ts) o.only
      ∙ (from_nothing s.join (source_rows ts s) o.unjoined
      ∙ ap (λ (rows : List Row). map alone (filter (meets s.filter) rows)) its_rows)

  -- ---- the whole

  whole : (b : Bool) → p.grouped ≡ b
      → plan_answer ts p ≡ (where_rows p s t >>= λ rows. selected (clauses_of_plan p) b rows >>= λ places. each (output_row (clauses_of_plan p)) places >>= λ outputs. Ok (answer_rows (clauses_of_plan p) outputs))
  unfolding answer
  whole b e = λ i. kept (λ row. condition p.filter (on_row row)) (rows_are i) >>= λ rows. selected (clauses_of_plan p) (e i) rows >>= λ places. each (output_row (clauses_of_plan p)) places >>= λ outputs. Ok (answer_rows (clauses_of_plan p) outputs)

  plain : p.grouped ≡ false → plan_answer ts p ≡ (where_rows p s t >>= λ rows. each (λ row. output_row (clauses_of_plan p) (on_row row)) rows >>= λ outputs. Ok (answer_rows (clauses_of_plan p) outputs))
  plain e = whole false e ∙ λ i. where_rows p s t >>= λ rows. each_map (output_row (clauses_of_plan p)) on_row rows i >>= λ outputs. Ok (answer_rows (clauses_of_plan p) outputs)

-- ---- the conditions of the source

module _ (fit : LoadedFit) (never : NeverOver) (defs : List TableDef) (ts : List Table) (p : RelPlan) (s : PlanSource) (def : TableDef) (t : Table) (h : CanLower defs ts p) (o : OverTable defs ts p s def t) where
  held : (r : Row) → Contains t.rows r → (c : ColumnRef) (type : ColumnType) → column_at defs (places p) c ≡ Some type → holds (of_type type) (value_at c.column r) ≡ true
  held r row c type e =
      let at = is_at defs ts p s def t o c type e in
      let defined = ap (λ (l : List _). slice_get l c.column) (its_columns defs ts p s def t o) ∙ at.2 in
      let all = fit defs ts h.loaded s.table c.column at.1 defined in
      let here = subst (All (λ (x : Row). holds (of_type (type_of_column at.1)) (value_at c.column x) ≡ true)) (its_rows defs ts p s def t o) all in
      subst (λ (x : ColumnType). holds (of_type x) (value_at c.column r) ≡ true) at.3 (All-contains (λ (x : Row). holds (of_type (type_of_column at.1)) (value_at c.column x) ≡ true) t.rows r here row)

  row_fits : (r : Row) → Contains t.rows r → (e : TypedExpr) → AreDeclared defs (places p) e → fits (λ c. value_at c.column r) e ≡ true
  row_fits r row e declared =
      list_all-from_AllPass (λ (c : ColumnRef × ColumnType). holds (of_type c.1) (value_at c.0.column r)) (columns_in e)
      (λ k d l. held r row (get_or (columns_in e) k d).0 (get_or (columns_in e) k d).1 (declared k d l))

  not_over : (r : Row) → Contains t.rows r → is_err (condition s.filter (on_table r)) ≡ false
  not_over r row =
      let is = in_place defs ts p s def t o h in
      condition_over (on_table r) s.filter
      ∙ list_any_none (λ (e : TypedExpr). is_err (value (on_table r) e)) s.filter
      (λ k d l. not_err (value (on_table r) (get_or s.filter k d)) (never (λ c. value_at c.column r) (get_or s.filter k d) (is.narrow k d l) (row_fits r row (get_or s.filter k d) (is.declared k d l))))

  kept_all : kept (λ r. condition s.filter (on_table r)) t.rows ≡ Ok (met_rows s t)
  kept_all =
      let none = list_any_none (λ (r : Row). is_err (condition s.filter (on_table r))) t.rows (λ k d l. not_over (get_or t.rows k d) (Contains-get_or t.rows k d l)) in
      kept_are (λ (r : Row). condition s.filter (on_table r)) t.rows
      ∙ (ap (λ (b : Bool). if b then Err over else Ok (filter (λ (r : Row). is_met (condition s.filter (on_table r))) t.rows)) none
      ∙ ap (λ (l : List Row). Ok l) (filter_agree (λ (r : Row). is_met (condition s.filter (on_table r))) (meets s.filter) (λ r. condition_met (on_table r) s.filter) t.rows))

pub shape_laws : LoadedFit → NeverOver → ShapeLaws
shape_laws fit never = record {
  rows = rows_are;
  kept_are = λ defs ts p s def t h o. kept_all fit never defs ts p s def t h o;
  plain = plain;
  grouped = λ defs ts p s def t o e. whole defs ts p s def t o true e;
}
