-- The groups of a plan's rows: what their columns hold, and what their aggregates are.
use Rattle.std.proofs.Common.{◌≡◌, ◌∙◌, ℕ, Bool, true, false, cond, List, [], ◌∷◌, length, map, get_or, Option, Some, None, unwrap_or, Ok, IfOk, refl, sym, ap, subst, ◌⊎◌, inl, inr, ⊎_elim}
use Rattle.std.specs.List.{Contains, zip}
use Rattle.std.specs.Map.{lookup}
use Rattle.std.specs.Ordering.{is_eq}
use Rattle.dict_codes.specs.Ascending.{ascending}
use Rattle.dict_codes.proofs.AscendingLaws.{ascending-within}
use Rattle.dict_codes.proofs.Members.{first_or_later, nothing_in}
use Rattle.sql_values.specs.Values.{Value, null}
use Rattle.typed_trees.specs.declared.typed.Aggregate.{Aggregate}
use Rattle.typed_trees.specs.declared.typed.AggregateKind.{AggregateKind}
use Rattle.typed_trees.specs.declared.typed.ColumnRef.{ColumnRef}
use Rattle.typed_trees.specs.declared.typed.TypedExpr.{TypedExpr}
use Rattle.typed_trees.specs.Names.{same_column}
use Rattle.typed_trees.specs.Types.{DataType, aggregate_type, argument_type, folded_type, no_aggregate, type_of}
use Rattle.typed_trees.proofs.Inversions.{chosen}
use Rattle.typed_values.specs.Aggregates.{aggregate_over, aggregate_value, argument_over}
use Rattle.typed_values.specs.Values.{Valued, value}
use Rattle.value_laws.specs.Laws.{is_of, KindLaw}
use Rattle.query_answers.specs.Answers.{FromRow, Group, by_key, column_value, group_at, group_key, group_value, groups_of, on_row}
use Rattle.query_answers.specs.Overs.{each}
use Rattle.query_answers.proofs.Folds.{argument_laws}
use Rattle.query_answers.proofs.KeyOrders.{keys_total}
use Rattle.query_answers.proofs.Lists.{kept_within}
use Rattle.expr_values.specs.Laws.{CanStand, IsLowerable, KnownLaw, is_known}
use Rattle.lowered_premises.proofs.Aggregated.{Good, counted_good, over_good}
use Rattle.lowered_premises.proofs.Members.{both_ok, each_made, mapped_from}
use Rattle.lowered_premises.proofs.Names.{same_is}

-- ---- a group's rows and key

-- a key of one of the rows; there is none without group columns
abbrev pub IsKeyIn : List ColumnRef → List FromRow → List Value → Type 0
IsKeyIn columns rows key = (columns ≡ []) ⊎ ((row : FromRow) × Contains rows row × (key ≡ group_key columns row))

pub record IsGroup (columns : List ColumnRef) (rows : List FromRow) (g : Group) : Type 0 where
  pub within : (row : FromRow) → Contains g.rows row → Contains rows row
  pub key : IsKeyIn columns rows g.key

pub group_is : (columns : List ColumnRef) (rows : List FromRow) (g : Group) → Contains (groups_of columns rows) g → IsGroup columns rows g
group_is [] rows g m = ⊎_elim (λ e. subst (IsGroup [] rows) e (record { within = λ row h. h; key = inl refl })) (λ n. absurd (nothing_in g n)) (first_or_later (record { key = []; rows = rows }) g [] m)
group_is (c ∷ cs) rows g m =
    let made = mapped_from (group_at (c ∷ cs) rows) (ascending by_key (map (group_key (c ∷ cs)) rows)) g m in
    let key = mapped_from (group_key (c ∷ cs)) rows made.0 (ascending-within keys_total made.0 (map (group_key (c ∷ cs)) rows) made.1) in
    subst (IsGroup (c ∷ cs) rows) made.2 (record { within = λ row h. kept_within (λ r. is_eq (by_key made.0 (group_key (c ∷ cs) r))) row rows h; key = inr (key.0, key.1, sym key.2) })

-- ---- a group's columns

abbrev IsOne : FromRow → ColumnRef → Value → Type 0
IsOne row c v = (v ≡ null) ⊎ (v ≡ column_value row c)

of_row : (columns : List ColumnRef) (row : FromRow) (c : ColumnRef) → (group_value columns (group_key columns row) c ≡ null) ⊎ (group_value columns (group_key columns row) c ≡ column_value row c)
of_row [] row c = inl refl
of_row (b ∷ bs) row c = by (same_column c b) refl (of_row bs row c)
  where
    by : (t : Bool) → same_column c b ≡ t → IsOne row c (group_value bs (group_key bs row) c) → IsOne row c (unwrap_or (cond t (Some (column_value row b)) (lookup (same_column c) (zip bs (group_key bs row)))) null)
    by true e further = inr (ap (column_value row) (same_is c b e))
    by false e further = further

-- what holds of null, and of each row's value, holds of the group's
pub group_holds : (P : Value → Type 0) (columns : List ColumnRef) (rows : List FromRow) (key : List Value) (c : ColumnRef) → P null → ((row : FromRow) → Contains rows row → P (column_value row c)) → IsKeyIn columns rows key → P (group_value columns key c)
group_holds P columns rows key c nothing each is = ⊎_elim none one is
  where
    none : columns ≡ [] → P (group_value columns key c)
    none e = subst (λ (l : List ColumnRef). P (group_value l key c)) (sym e) nothing

    one : (row : FromRow) × Contains rows row × (key ≡ group_key columns row) → P (group_value columns key c)
    one x =
        let here = ⊎_elim (λ e. subst P (sym e) nothing) (λ e. subst P (sym e) (each x.0 x.1)) (of_row columns x.0 c) in
        subst (λ (k : List Value). P (group_value columns k c)) (sym x.2) here

-- ---- a group's aggregates

module _ (kinds : KindLaw) (known : KnownLaw) (texts : List (List ℕ)) where
  -- an argument's value on a row
  argument_good : (e : TypedExpr) (u : DataType) (row : FromRow) (v : Value) → type_of no_aggregate e ≡ Some u → IsLowerable no_aggregate e → CanStand texts no_aggregate (on_row row) e → value (on_row row) e ≡ Ok v → Good texts u.kind v
  argument_good e u row v is l stand at =
      let kind = kinds no_aggregate (on_row row) e u is stand.types in
      let is_text = known texts no_aggregate (on_row row) e l stand in
      (subst (λ (r : Valued). IfOk r (λ w. is_of u.kind w ≡ true)) at kind, subst (λ (r : Valued). IfOk r (λ w. is_known texts w ≡ true)) at is_text)

  over_rows : (kind : AggregateKind) (e : TypedExpr) (t : DataType) (rows : List FromRow) (v : Value) → argument_type kind (Some e) ≡ Some t → IsLowerable no_aggregate e → ((row : FromRow) → Contains rows row → CanStand texts no_aggregate (on_row row) e)
      → argument_over kind (Some e) (map column_value rows) ≡ Ok v → Good texts t.kind v
  over_rows kind e t rows v is l stand at =
      let type = chosen (type_of no_aggregate e) (folded_type kind) t is in
      let made = both_ok (each (λ row. value (on_row row) e) rows) (aggregate_over kind) v (sym (argument_laws.over_rows kind e rows) ∙ at) in
      let values = each_made (λ row. value (on_row row) e) rows made.0 made.1 in
      over_good texts kind type.0 t made.0 v type.2 (λ k d m. let x = values k d m in argument_good e type.0 x.0 (get_or made.0 k d) type.1 l (stand x.0 x.1) x.2) made.2

  argument_is : (kind : AggregateKind) (o : Option TypedExpr) (t : DataType) (rows : List FromRow) (v : Value) → argument_type kind o ≡ Some t → ((e : TypedExpr) → o ≡ Some e → IsLowerable no_aggregate e)
      → ((e : TypedExpr) → o ≡ Some e → (row : FromRow) → Contains rows row → CanStand texts no_aggregate (on_row row) e) → argument_over kind o (map column_value rows) ≡ Ok v → Good texts t.kind v
  argument_is kind None t rows v is l stand at = counted_good texts kind t (length (map column_value rows)) v is at
  argument_is kind (Some e) t rows v is l stand at = over_rows kind e t rows v is (l e refl) (stand e refl) at

  pub aggregate_good : (a : Aggregate) (t : DataType) (rows : List FromRow) (v : Value) → aggregate_type a ≡ Some t → ((e : TypedExpr) → a.argument ≡ Some e → IsLowerable no_aggregate e)
      → ((e : TypedExpr) → a.argument ≡ Some e → (row : FromRow) → Contains rows row → CanStand texts no_aggregate (on_row row) e) → aggregate_value a (map column_value rows) ≡ Ok v → Good texts t.kind v
  aggregate_good a t rows v is l stand at = argument_is a.kind a.argument t rows v is l stand at
