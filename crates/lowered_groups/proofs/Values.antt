-- What the aggregates of groups are, by the values of their arguments on rows.
use Rattle.std.proofs.Common.{◌≡◌, ◌∙◌, ℕ, ◌<◌, ◌≤◌, ◌^◌, true, ◌||◌, List, [], ◌∷◌, length, get_or, refl, sym, ap, subst, arith, Option, Some, None, Ok, Err}
use Rattle.std.specs.Prelude.{is_some, is_err, IsOkAnd, IfOk}
use Rattle.std.specs.Option.{option_and_then}
use Rattle.std.specs.List.{All, AllByRecursion, Contains, list_any}
use Rattle.std.proofs.lemmas.Bool.{false≢true}
use Rattle.std.proofs.lemmas.List.Elements.{All-contains, All-contains_itself}
use Rattle.control_vectors.specs.Slots.{Cell, has_over, all_slots}
use Rattle.control_vectors.specs.declared.Over.{Over}
use Rattle.sql_values.specs.Values.{Value}
use Rattle.typed_trees.specs.declared.typed.AggregateKind.{AggregateKind}
use Rattle.typed_trees.specs.declared.typed.AggregateKind.TheVariants as of
use Rattle.typed_trees.specs.declared.typed.Aggregate.{Aggregate}
use Rattle.typed_trees.specs.declared.typed.ColumnRef.{ColumnRef}
use Rattle.typed_trees.specs.declared.typed.TypedExpr.{TypedExpr}
use Rattle.typed_trees.specs.Types.{DataType, no_aggregate, folded_type, argument_type}
use Rattle.typed_values.specs.Values.{Valued, value}
use Rattle.value_laws.specs.Laws.{is_of, KindLaw}
use Rattle.query_answers.specs.Answers.{FromRow, Group, groups_of, on_row}
use Rattle.query_answers.specs.Overs.{each}
use Rattle.expr_steps.specs.Lowered.{Bytes}
use Rattle.expr_values.specs.Laws.{CanStand, IsLowerable, is_known, KnownLaw, value_slot, value_cell}
use Rattle.held_groups.specs.Groups.{CanCode}
use Rattle.held_groups.specs.Overs.{over_group}
use Rattle.held_groups.proofs.Aggregates.{row_count_law}
use Rattle.held_groups.proofs.Members.{group_rows, group_cell_law}
use Rattle.held_groups.proofs.Overs.{each_row_law, some_row_law}
use Rattle.held_groups.proofs.Sorted.{all_from}
use Rattle.held_rows.specs.Held.{Held, present, one}
use Rattle.lowered_stages.specs.Parts.{CanValueAll}
use Rattle.lowered_groups.proofs.Aggregated.{aggregate_cell}
use Rattle.lowered_groups.proofs.Cells.{cells, agreeing, all_over}

-- the groups of some rows stand at places, and the same rows, in whatever order
pub record Regroups (columns : List ColumnRef) (all : List FromRow) (rows : Held FromRow) (gs : Held Group) : Type 0 where
  pub groups : present gs ≡ groups_of columns all
  pub within : (row : FromRow) → Contains (present rows) row → Contains all row
  pub covers : (row : FromRow) → Contains all row → Contains (present rows) row
  pub overs : (f : FromRow → Valued) → is_err (each f (present rows)) ≡ is_err (each f all)

-- an aggregate of a group, as a cell
abbrev pub over_cell : List Bytes → Aggregate → Group → Cell
over_cell texts a g = value_cell texts (over_group a g)

-- it is Over where the aggregate is
pub any_over : (texts : List Bytes) (a : Aggregate) (gs : Held Group) → has_over (cells (over_cell texts a) gs) ≡ list_any (λ g. is_err (over_group a g)) (present gs)
any_over texts a [] = refl
any_over texts a (None ∷ gs) = any_over texts a gs
any_over texts a (Some g ∷ gs) = by (over_group a g) (any_over texts a gs)
  where
    by : (r : Valued) → has_over (cells (over_cell texts a) gs) ≡ list_any (λ g. is_err (over_group a g)) (present gs) → has_over (value_cell texts r ∷ cells (over_cell texts a) gs) ≡ (is_err r || list_any (λ g. is_err (over_group a g)) (present gs))
    by (Ok v) h = h
    by (Err e) h = refl

module _ (columns : List ColumnRef) (all : List FromRow) (rows : Held FromRow) (gs : Held Group) (re : Regroups columns all rows gs) where
  -- cells that agree on groups
  pub cells_agree : (c d : Group → Cell) → ((g : Group) → Contains (groups_of columns all) g → c g ≡ d g) → cells c gs ≡ cells d gs
  cells_agree c d h = agreeing c d gs (subst (AllByRecursion (λ g. c g ≡ d g)) (sym re.groups) (all_from (λ g. c g ≡ d g) (groups_of columns all) h))

  -- an argument that is Over on a row
  pub argument_over_cells : (texts : List Bytes) (kind : AggregateKind) (x : TypedExpr) (e : Over) → each (λ r. value (on_row r) x) (present rows) ≡ Err e → all_slots (cells (over_cell texts (record { kind = kind; argument = Some x })) gs) ≡ Err e
  argument_over_cells texts kind x e h =
      let a : Aggregate = record { kind = kind; argument = Some x } in
      let some : is_err (each (λ r. value (on_row r) x) all) ≡ true = sym (re.overs (λ r. value (on_row r) x)) ∙ ap is_err h in
      let any : list_any (λ g. is_err (over_group a g)) (present gs) ≡ true = ap (list_any (λ g. is_err (over_group a g))) re.groups ∙ some_row_law columns kind x all some in
      all_over (cells (over_cell texts a) gs) (any_over texts a gs ∙ any)

  pub all_present : (P : FromRow → Type 0) → All P all → All P (present rows)
  all_present P h = λ k d l. All-contains P all (get_or (present rows) k d) h (re.within (get_or (present rows) k d) (All-contains_itself (present rows) k d l))

  module _ (few : length all ≤ 2 ^ 20) (texts : List Bytes) where
    is_few : (n : ℕ) → n ≤ 2 ^ 20 → n < 2 ^ 127
    is_few n h = omega (arith, h)

    -- COUNT(*)
    counts_all : (g : Group) → Contains (groups_of columns all) g → aggregate_cell of.Count one g ≡ over_cell texts (record { kind = of.Count; argument = None }) g
    counts_all g h = row_count_law texts g.rows (is_few (length g.rows) (omega (arith, group_rows.few columns all g h, few)))

    pub none_agrees : (kind : AggregateKind) → is_some (argument_type kind None) ≡ true → cells (aggregate_cell kind one) gs ≡ cells (over_cell texts (record { kind = kind; argument = None })) gs
    none_agrees of.Count t = cells_agree (aggregate_cell of.Count one) (over_cell texts (record { kind = of.Count; argument = None })) counts_all
    none_agrees of.Sum t = absurd (false≢true t)
    none_agrees of.Avg t = absurd (false≢true t)
    none_agrees of.Min t = absurd (false≢true t)
    none_agrees of.Max t = absurd (false≢true t)

    module _ (kinds : KindLaw) (knows : KnownLaw) (x : TypedExpr) (can : IsLowerable no_aggregate x) (stands : CanValueAll texts no_aggregate on_row all x) where
      code_of : (row : FromRow) → Contains all row → (r : Valued) → value (on_row row) x ≡ r → (v : Value) → r ≡ Ok v → IsOkAnd r (CanCode texts can.type.kind)
      code_of row m (Err e) is v ok = absurd cc
      code_of row m (Ok w) is v ok =
          let stand : CanStand texts no_aggregate (on_row row) x = All-contains (λ r. CanStand texts no_aggregate (on_row r) x) all row stands m in
          record {
            is = subst (λ (r : Valued). IfOk r (λ v. is_of can.type.kind v ≡ true)) is (kinds no_aggregate (on_row row) x can.type can.is stand.types);
            known = subst (λ (r : Valued). IfOk r (λ v. is_known texts v ≡ true)) is (knows texts no_aggregate (on_row row) x can stand);
          }

      coded_rows : (values : List Value) → each (λ r. value (on_row r) x) (present rows) ≡ Ok values → (row : FromRow) → Contains all row → IsOkAnd (value (on_row row) x) (CanCode texts can.type.kind)
      coded_rows values e row m =
          let has = each_row_law x (present rows) values e row (re.covers row m) in
          code_of row m (value (on_row row) x) refl has.0 has.1

      typed : (kind : AggregateKind) (o : Option DataType) → folded_type kind can.type ≡ o → is_some o ≡ true → (u : DataType) × (folded_type kind can.type ≡ Some u)
      typed kind None e t = absurd (false≢true t)
      typed kind (Some u) e t = (u, e)

      pub some_agrees : (kind : AggregateKind) → is_some (argument_type kind (Some x)) ≡ true → (values : List Value) → each (λ r. value (on_row r) x) (present rows) ≡ Ok values
          → cells (aggregate_cell kind (λ r. value_slot texts (value (on_row r) x))) gs ≡ cells (over_cell texts (record { kind = kind; argument = Some x })) gs
      some_agrees kind t values e =
          let u = typed kind (folded_type kind can.type) refl (sym (ap (λ (o : Option DataType). is_some (option_and_then (folded_type kind) o)) can.is) ∙ t) in
          cells_agree (aggregate_cell kind (λ r. value_slot texts (value (on_row r) x))) (over_cell texts (record { kind = kind; argument = Some x }))
          (λ g m. group_cell_law texts columns all g kind can.type u.0 x u.1 (coded_rows values e) (is_few (length all) few) m)
