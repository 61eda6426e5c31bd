-- Each column that a plan over one table names is one of its source's.
use Rattle.std.proofs.Common.{◌≡◌, ℕ, ◌<◌, ◌==◌, true, List, [], ◌∷◌, ◌++◌, length, get_or, Option, Some, None, is_some, option_to_list, refl, sym, ap, subst, ⊎_elim}
use Rattle.std.specs.Prelude.{All, flat_map}
use Rattle.std.specs.List.{list_any}
use Rattle.std.specs.Option.{ForSome}
use Rattle.std.proofs.lemmas.Bool.{or_cases}
use Rattle.std.proofs.lemmas.List.Elements.{All-nil, All-cons, All-contains, All-append, All-head, All-tail}
use Rattle.std.proofs.lemmas.List.Folds.{Any-from_list_any}
use Rattle.sql_read.specs.declared.definition.TableDef.{TableDef}
use Rattle.table_load.specs.Values.{Table}
use Rattle.typed_trees.specs.declared.naming.Wanted.TheVariants as wanted
use Rattle.typed_trees.specs.declared.typed.Aggregate.{Aggregate}
use Rattle.typed_trees.specs.declared.typed.ColumnRef.{ColumnRef}
use Rattle.typed_trees.specs.declared.typed.KeyRef.{KeyRef}
use Rattle.typed_trees.specs.declared.typed.KeyRef.TheVariants.{Item, Column}
use Rattle.typed_trees.specs.declared.typed.PlanSource.{PlanSource}
use Rattle.typed_trees.specs.declared.typed.TypedExpr.{TypedExpr}
use Rattle.typed_trees.specs.Columns.{columns_in}
use Rattle.typed_trees.specs.Names.{names, same_column, names_column}
use Rattle.typed_trees.specs.Types.{DataType, no_aggregate, type_of, types_of}
use Rattle.typing_laws.specs.Laws.{AreDeclared, IsColumn, IsDeclared, IsKey}
use Rattle.expr_values.specs.Laws.{IsLowerable}
use Rattle.rel_plan.specs.declared.plans.RelPlan.{RelPlan}
use Rattle.rel_plan.specs.Plans.{conditions_of_sources, arguments_of, expressions}
use Rattle.rel_plan.specs.Prunes.{pair_columns, columns_of_joins, sorted_by, key_columns, columns_of_keys, columns_named, is_named, is_named_at}
use Rattle.plan_laws.specs.WellFormed.{places}
use Rattle.lowered_stages.specs.Plans.{CanLower}
use Rattle.lowered_premises.specs.Sources.{OverTable}
use Rattle.lowered_premises.specs.Laws.{ColumnLaw, HasItsColumns}
use Rattle.lowered_premises.proofs.Names.{column_found, same_is}
use Rattle.lowered_premises.proofs.Rows.{has_type}
use Rattle.lowered_premises.proofs.Sources.{in_place, is_at, its_columns}

-- ---- lists

pub all_joined : {X Y : Type 0} (P : Y → Type 0) (g : X → List Y) (xs : List X) → All (λ x. All P (g x)) xs → All P (flat_map g xs)
all_joined P g [] h = All-nil P
all_joined P g (x ∷ xs) h = All-append P (g x) (flat_map g xs) (All-head (λ y. All P (g y)) x xs h) (all_joined P g xs (All-tail (λ y. All P (g y)) x xs h))

pub all_optional : {X : Type 0} (P : X → Type 0) (o : Option X) → ForSome o P → All P (option_to_list o)
all_optional P None h = All-nil P
all_optional P (Some x) h = All-cons P x [] (h x refl) (All-nil P)

-- ---- expressions, each with a type and with columns that are declared

pub record IsTypedOver (defs : List TableDef) (tables : List ℕ) (e : TypedExpr) : Type 0 where
  pub at : ℕ → Option DataType
  pub type : DataType
  pub is : type_of at e ≡ Some type
  pub declared : AreDeclared defs tables e

typed_over : (defs : List TableDef) (tables : List ℕ) (at : ℕ → Option DataType) (e : TypedExpr) → IsLowerable at e → AreDeclared defs tables e → IsTypedOver defs tables e
typed_over defs tables at e l d = record { at = at; type = l.type; is = l.is; declared = d }

-- a column that it names is a column of the tables
pub named_column : (defs : List TableDef) (tables : List ℕ) (e : TypedExpr) (c : ColumnRef) → IsTypedOver defs tables e → names_column c e ≡ true → IsColumn defs tables c
named_column defs tables e c h n =
    let x = column_found h.at e h.type c h.is n in
    let declared : IsDeclared defs tables x.0 = All-contains (IsDeclared defs tables) (columns_in e) x.0 h.declared x.1 in
    subst (IsColumn defs tables) x.2 (ap is_some declared)

module _ (defs : List TableDef) (ts : List Table) (p : RelPlan) (s : PlanSource) (def : TableDef) (t : Table) (h : CanLower defs ts p) (o : OverTable defs ts p s def t) where
  abbrev Over : TypedExpr → Type 0
  Over = IsTypedOver defs (places p)

  abbrev IsIts : ColumnRef → Type 0
  IsIts = IsColumn defs (places p)

  pub source_typed : All Over s.filter
  source_typed =
      let lowerable = All-head (λ (x : PlanSource). All (IsLowerable no_aggregate) x.filter) s [] (subst (All (λ (x : PlanSource). All (IsLowerable no_aggregate) x.filter)) o.only h.lowerable.sources) in
      let declared = (in_place defs ts p s def t o h).declared in
      λ k d l. typed_over defs (places p) no_aggregate (get_or s.filter k d) (lowerable k d l) (declared k d l)

  pub filter_typed : All Over p.filter
  filter_typed = λ k d l. typed_over defs (places p) no_aggregate (get_or p.filter k d) (h.lowerable.filter k d l) (h.well_formed.names.filter k d l)

  pub argument_typed : All (λ (a : Aggregate). ForSome a.argument Over) p.aggregates
  argument_typed = λ k d l. λ e is. typed_over defs (places p) no_aggregate e (h.lowerable.arguments k d l e is) (h.well_formed.names.aggregates k d l e is)

  pub having_typed : ForSome p.having Over
  having_typed = λ e is. typed_over defs (places p) (types_of p.aggregates) e (h.lowerable.having e is) (h.well_formed.names.having e is)

  pub items_typed : All Over p.items
  items_typed = λ k d l. typed_over defs (places p) (types_of p.aggregates) (get_or p.items k d) (h.lowerable.items k d l) (h.well_formed.names.items k d l)

  all_typed : All Over (expressions p)
  all_typed =
      let having = option_to_list p.having in
      let last = All-append Over having p.items (all_optional Over p.having having_typed) items_typed in
      let arguments = all_joined Over (λ (a : Aggregate). option_to_list a.argument) p.aggregates (λ k d l. all_optional Over (get_or p.aggregates k d).argument (argument_typed k d l)) in
      let sources = subst (λ (l : List PlanSource). All (λ (x : PlanSource). All Over x.filter) l) (sym o.only) (All-cons (λ (x : PlanSource). All Over x.filter) s [] source_typed (All-nil (λ (x : PlanSource). All Over x.filter))) in
      All-append Over p.filter (conditions_of_sources p.sources ++ (arguments_of p.aggregates ++ (having ++ p.items))) filter_typed
      (All-append Over (conditions_of_sources p.sources) (arguments_of p.aggregates ++ (having ++ p.items)) (all_joined Over (λ (x : PlanSource). x.filter) p.sources sources) (All-append Over (arguments_of p.aggregates) (having ++ p.items) arguments last))

  -- ---- apart from expressions

  key_column : (k : KeyRef) → IsKey defs (places p) (length p.items) k → All IsIts (sorted_by k)
  key_column (Item n) is = All-nil IsIts
  key_column (Column c) is = All-cons IsIts c [] is (All-nil IsIts)

  join_columns_are : All IsIts (columns_of_joins p.sources)
  join_columns_are =
      let none = subst (λ (j : Option (ColumnRef × ℕ)). All IsIts (pair_columns 0 j)) (sym o.unjoined) (All-nil IsIts) in
      subst (λ (l : List PlanSource). All IsIts (columns_of_joins l)) (sym o.only) (All-append IsIts (pair_columns 0 s.join) [] none (All-nil IsIts))

  apart : All IsIts (columns_named p)
  apart =
      let names = h.well_formed.names in
      All-append IsIts (columns_of_joins p.sources) (p.groups ++ columns_of_keys p.order) join_columns_are
      (All-append IsIts p.groups (columns_of_keys p.order) names.groups (all_joined IsIts key_columns p.order (λ k d l. key_column (get_or p.order k d).key (names.order k d l))))

  -- ---- what is named

  is_its : (c : ColumnRef) → is_named p c ≡ true → IsIts c
  is_its c named = ⊎_elim in_expression elsewhere (or_cases (list_any (names (wanted.Column c)) (expressions p)) (list_any (same_column c) (columns_named p)) named)
    where
      in_expression : list_any (names (wanted.Column c)) (expressions p) ≡ true → IsIts c
      in_expression e =
          let a = Any-from_list_any (names (wanted.Column c)) (expressions p) e in
          named_column defs (places p) a.1 c (subst Over a.3 (all_typed a.0 a.1 a.2)) a.4

      elsewhere : list_any (same_column c) (columns_named p) ≡ true → IsIts c
      elsewhere e =
          let a = Any-from_list_any (same_column c) (columns_named p) e in
          subst IsIts (same_is c a.1 a.4) (subst IsIts a.3 (apart a.0 a.1 a.2))

  pub named_is : (c : ColumnRef) → is_named p c ≡ true → (c.source ≡ 0) × (list_any (λ j. j == c.column) s.columns ≡ true)
  named_is c named =
      let type = has_type defs (places p) c (is_its c named) in
      let at = is_at defs ts p s def t o c type.0 type.1 in
      let here : is_named_at p 0 c.column ≡ true = subst (λ (n : ℕ). is_named p (record { source = n; column = c.column }) ≡ true) at.0 named in
      (at.0, (in_place defs ts p s def t o h).named c.column here)

  pub its : HasItsColumns p s def
  its = record {
    within = subst (λ (n : ℕ). All (λ (c : ℕ). c < n) s.columns) (ap length (its_columns defs ts p s def t o)) (in_place defs ts p s def t o h).columns;
    named = named_is;
  }

pub column_law : ColumnLaw
column_law defs ts p s def t h o = its defs ts p s def t h o
