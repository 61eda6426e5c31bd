-- Groups of rows whose columns can be shown: so can their own columns.
use Rattle.std.proofs.Common.{◌≡◌, Bool, true, false, cond, ◌==◌, List, [], ◌∷◌, map, Some, unwrap_or, refl, sym, ap, subst, ◌⊎◌, inl, inr, ⊎_elim}
use Rattle.std.specs.List.{Contains, zip}
use Rattle.std.specs.Map.{lookup}
use Rattle.std.specs.Ordering.{is_eq}
use Rattle.std.proofs.lemmas.Bool.{and_parts, eqb-true}
use Rattle.dict_codes.specs.Ascending.{ascending}
use Rattle.dict_codes.proofs.AscendingLaws.{ascending-within}
use Rattle.dict_codes.proofs.Members.{first_or_later, nothing_in}
use Rattle.sql_values.specs.Values.{Value, null}
use Rattle.typed_trees.specs.declared.typed.ColumnRef.{ColumnRef}
use Rattle.typed_trees.specs.Names.{same_column}
use Rattle.query_answers.specs.Answers.{FromRow, Group, by_key, column_value, group_at, group_key, group_value, groups_of}
use Rattle.query_answers.proofs.KeyOrders.{keys_total}
use Rattle.query_answers.proofs.Lists.{kept_within}
use Rattle.held_answers.proofs.FromRows.{mapped_from}

-- ---- a group's rows and key

-- a key of one of the rows; there is none without group columns
abbrev pub IsKeyIn : List ColumnRef → List FromRow → List Value → Type 0
IsKeyIn columns rows key = (columns ≡ []) ⊎ ((row : FromRow) × Contains rows row × (key ≡ group_key columns row))

pub record IsGroup (columns : List ColumnRef) (rows : List FromRow) (g : Group) : Type 0 where
  pub within : (row : FromRow) → Contains g.rows row → Contains rows row
  pub key : IsKeyIn columns rows g.key

pub group_is : (columns : List ColumnRef) (rows : List FromRow) (g : Group) → Contains (groups_of columns rows) g → IsGroup columns rows g
group_is [] rows g m = ⊎_elim (λ e. subst (IsGroup [] rows) e (record { within = λ row h. h; key = inl refl })) (λ n. absurd (nothing_in g n)) (first_or_later (record { key = []; rows = rows }) g [] m)
group_is (c ∷ cs) rows g m =
    let made = mapped_from (group_at (c ∷ cs) rows) (ascending by_key (map (group_key (c ∷ cs)) rows)) g m in
    let key = mapped_from (group_key (c ∷ cs)) rows made.0 (ascending-within keys_total made.0 (map (group_key (c ∷ cs)) rows) made.1) in
    subst (IsGroup (c ∷ cs) rows) made.2 (record { within = λ row h. kept_within (λ r. is_eq (by_key made.0 (group_key (c ∷ cs) r))) row rows h; key = inr (key.0, key.1, sym key.2) })

-- ---- a group's columns

same_is : (c d : ColumnRef) → same_column c d ≡ true → d ≡ c
same_is c d h =
    let both = and_parts (c.source == d.source) (c.column == d.column) h in
    (λ i. record { source = sym (eqb-true c.source d.source both.0) i; column = sym (eqb-true c.column d.column both.1) i })

abbrev IsOne : FromRow → ColumnRef → Value → Type 0
IsOne row c v = (v ≡ null) ⊎ (v ≡ column_value row c)

of_row : (columns : List ColumnRef) (row : FromRow) (c : ColumnRef) → IsOne row c (group_value columns (group_key columns row) c)
of_row [] row c = inl refl
of_row (b ∷ bs) row c = by (same_column c b) refl (of_row bs row c)
  where
    by : (t : Bool) → same_column c b ≡ t → IsOne row c (group_value bs (group_key bs row) c) → IsOne row c (unwrap_or (cond t (Some (column_value row b)) (lookup (same_column c) (zip bs (group_key bs row)))) null)
    by true e further = inr (ap (column_value row) (same_is c b e))
    by false e further = further

-- what holds of null, and of each row's value, holds of the group's
pub group_holds : (P : Value → Type 0) (columns : List ColumnRef) (rows : List FromRow) (key : List Value) (c : ColumnRef) → P null → ((row : FromRow) → Contains rows row → P (column_value row c)) → IsKeyIn columns rows key → P (group_value columns key c)
group_holds P columns rows key c nothing each is = ⊎_elim none one is
  where
    none : columns ≡ [] → P (group_value columns key c)
    none e = subst (λ (l : List ColumnRef). P (group_value l key c)) (sym e) nothing

    one : (row : FromRow) × Contains rows row × (key ≡ group_key columns row) → P (group_value columns key c)
    one x =
        let here = ⊎_elim (λ e. subst P (sym e) nothing) (λ e. subst P (sym e) (each x.0 x.1)) (of_row columns x.0 c) in
        subst (λ (k : List Value). P (group_value columns k c)) (sym x.2) here
