-- The tables of FROM, by their names and by their places: both lists tell of the same tables of the catalog, none has a condition of its own,
-- and a key join pairs a column to the left with a key.
use Rattle.std.proofs.Common.{◌≡◌, ℕ, zero, suc, ◌+◌, ◌<◌, ◌==◌, nat_le, Bool, true, false, not, List, [], ◌∷◌, ◌++◌, length, length-append, map, Option, Some, None, Ok, cond, if◌then◌else◌, refl, sym, ap, ◌∙◌, subst, arith, inl, inr, ◌⊎◌}
use Rattle.std.specs.Prelude.{All}
use Rattle.std.specs.List.{list_any, position_from, slice_get}
use Rattle.std.specs.Option.{ForSome, option_map, option_and_then}
use Rattle.std.proofs.lemmas.Bool.{eqb-true, eqb-false}
use Rattle.std.proofs.lemmas.Option.{slice_get_within}
use Rattle.std.proofs.lemmas.List.{map-append}
use Rattle.std.proofs.lemmas.List.Elements.{All-nil, All-push}
use Rattle.sql_read.specs.declared.definition.TableDef.{TableDef}
use Rattle.sql_types.specs.Catalog.{is_table_named}
use Rattle.query_trees.specs.declared.clauses.Join.{Join}
use Rattle.query_trees.specs.declared.clauses.JoinKind.{JoinKind}
use Rattle.query_trees.specs.declared.clauses.JoinKind.TheVariants as join
use Rattle.query_trees.specs.declared.clauses.Source.{Source}
use Rattle.query_trees.specs.declared.clauses.TableName.{TableName}
use Rattle.query_trees.specs.declared.expr.ColumnName.{ColumnName}
use Rattle.typed_trees.specs.declared.typed.ColumnRef.{ColumnRef}
use Rattle.typed_trees.specs.declared.typed.ColumnType.{ColumnType}
use Rattle.typed_trees.specs.declared.typed.PlanSource.{PlanSource}
use Rattle.typed_trees.specs.Typed.{IsCondition, IsSource}
use Rattle.typed_trees.specs.Types.{no_aggregate}
use Rattle.typed_trees.proofs.Inversions.{some_same}
use Rattle.query_types.specs.declared.refusal.TypeKind.TheVariants.{TypesDiffer, NotAKey, NameTwice, TooManyTables}
use Rattle.query_types.specs.declared.scope.Called.{Called}
use Rattle.query_types.specs.declared.scope.Found.{Found}
use Rattle.query_types.specs.declared.sources.Tables.{Tables}
use Rattle.query_types.specs.Names.{columns_of, type_of_column, resolved}
use Rattle.query_types.specs.Sources.{Link, call_name, call_at, is_called, called, opened_at, opened, source_of, is_key, same_types, linked, is_of, paired, linked_on, link, with_table, with_join, with_joins, first, tables_of}
use Rattle.query_types.specs.Outcomes.{refuse_if}
use Rattle.query_types.proofs.OutcomeLaws.{ok_same, then_ok, not_refused}
use Rattle.typing_laws.specs.Laws.{column_at, IsJoin, IsTable}
use Rattle.typing_laws.proofs.Columns.{places, IsNamed, named_found, resolved_named}
use Rattle.typing_laws.proofs.Lists.{not_false}

abbrev pub table_places : List PlanSource → List ℕ
table_places sources = map (λ s. s.table) sources

-- ---- lists

get_more : {X : Type 0} (xs ys : List X) (i : ℕ) (x : X) → slice_get xs i ≡ Some x → slice_get (xs ++ ys) i ≡ Some x
get_more [] ys i x e = absurd (cc)
get_more (z ∷ xs) ys zero x e = e
get_more (z ∷ xs) ys (suc i) x e = get_more xs ys i x e

get_last : {X : Type 0} (xs : List X) (x : X) → slice_get (xs ++ x ∷ []) (length xs) ≡ Some x
get_last [] x = refl
get_last (z ∷ xs) x = get_last xs x

-- an element of a list with one more is one of the list, or that one
record IsLast {X : Type 0} (xs : List X) (x : X) (i : ℕ) (y : X) : Type 0 where
  at : i ≡ length xs
  is : x ≡ y

get_either : {X : Type 0} (xs : List X) (x : X) (i : ℕ) (y : X) → slice_get (xs ++ x ∷ []) i ≡ Some y → (slice_get xs i ≡ Some y) ⊎ IsLast xs x i y
get_either [] x zero y e = inr (record { at = refl; is = some_same x y e })
get_either [] x (suc i) y e = absurd (cc)
get_either (z ∷ xs) x zero y e = inl e
get_either (z ∷ xs) x (suc i) y e = later (get_either xs x i y e)
  where
    later : (slice_get xs i ≡ Some y) ⊎ IsLast xs x i y → (slice_get xs i ≡ Some y) ⊎ IsLast (z ∷ xs) x (suc i) y
    later (inl h) = inl h
    later (inr h) = inr (record { at = ap suc h.at; is = h.is })

-- a column keeps its type as more tables come
column_more : (defs : List TableDef) (ps qs : List ℕ) (c : ColumnRef) (type : ColumnType) → column_at defs ps c ≡ Some type → column_at defs (ps ++ qs) c ≡ Some type
column_more defs ps qs c type e = by (slice_get ps c.source) refl e
  where
    by : (o : Option ℕ) → slice_get ps c.source ≡ o → option_map type_of_column (option_and_then (λ table. slice_get (columns_of defs table) c.column) o) ≡ Some type → column_at defs (ps ++ qs) c ≡ Some type
    by None is e = absurd (cc)
    by (Some p) is e = ap (λ (o : Option ℕ). option_map type_of_column (option_and_then (λ table. slice_get (columns_of defs table) c.column) o)) (get_more ps qs c.source p is) ∙ e

table_more : (defs : List TableDef) (ps qs : List ℕ) (s : ℕ) (x : PlanSource) → IsTable defs ps s x → IsTable defs (ps ++ qs) s x
table_more defs ps qs s x h = record {
  known = h.known;
  columns = h.columns;
  join = λ j is.
      let k = h.join j is in
      record { own = k.own; type = k.type; left = k.left; left_type = column_more defs ps qs j.0 k.type k.left_type; own_column = k.own_column; key = k.key; one_type = k.one_type };
}

-- ---- one table

placed_within : (p : TableDef → Bool) (i : ℕ) (defs : List TableDef) (n : ℕ) → position_from p i defs ≡ Some n → n < i + length defs
placed_within p i [] n e = absurd (cc)
placed_within p i (t ∷ ts) n e = by (p t) (placed_within p (i + 1) ts n) e
  where
    by : (b : Bool) → (position_from p (i + 1) ts ≡ Some n → n < i + 1 + length ts) → cond b (Some i) (position_from p (i + 1) ts) ≡ Some n → n < i + suc (length ts)
    by true later e = let same : i ≡ n = some_same i n e in omega (arith, same)
    by false later e = let h = later e in omega (arith, h)

opened_known : (defs : List TableDef) (before : List Called) (t : TableName) (x : Called) → opened defs before t ≡ Ok x → x.table < length defs
unfolding opened
opened_known defs before t x e =
    by (position_from (is_table_named t.name) 0 defs) refl (not_refused (nat_le 8 (length before)) TooManyTables t.at _ x e).1
  where
    by : (o : Option ℕ) → position_from (is_table_named t.name) 0 defs ≡ o → opened_at before t o ≡ Ok x → x.table < length defs
    by None is e = absurd (cc)
    by (Some n) is e =
        let same : n ≡ x.table = ap (λ (c : Called). c.table) (ok_same (called t n) x (not_refused (list_any (is_called (call_name t)) before) NameTwice (call_at t) (Ok (called t n)) x e).1) in
        let within = placed_within (is_table_named t.name) 0 defs n is in
        omega (arith, same, within)

-- ---- a key join

-- the s-th table's own column, and one to its left
linked_join : (defs : List TableDef) (before : List Called) (t : Called) (at : ℕ) (a b : ColumnName) (own left : Found) (l : Link) → IsNamed defs (before ++ t ∷ []) a.name own → IsNamed defs (before ++ t ∷ []) b.name left → own.column.source ≡ length before → (left.column.source == length before) ≡ false → linked defs t.table at own a left ≡ Ok l → ForSome l (IsJoin defs (places (before ++ t ∷ [])) (length before) t.table)
unfolding linked
linked_join defs before t at a b own left l h g mine other e j is =
    let x = not_refused (not (same_types own.type_ left.type_)) TypesDiffer at _ l e in
    let y = not_refused (not (is_key defs t.table a.name)) NotAKey a.at (Ok (Some (left.column, own.column.column))) l x.1 in
    let pair : (left.column, own.column.column) ≡ j = some_same (left.column, own.column.column) j (ok_same (Some (left.column, own.column.column)) l y.1 ∙ is) in
    let table : t ≡ h.table = some_same t h.table (sym (get_last before t) ∙ (ap (slice_get (before ++ t ∷ [])) (sym mine) ∙ h.stands)) in
    let stands : left.column.source < length (before ++ t ∷ []) = slice_get_within (before ++ t ∷ []) left.column.source g.table g.stands in
    let count : length (before ++ t ∷ []) ≡ length before + 1 = length-append before (t ∷ []) in
    let apart : left.column.source ≡ length before → ⊥ = eqb-false left.column.source (length before) other in
    subst (λ (k : ColumnRef × ℕ). IsJoin defs (places (before ++ t ∷ [])) (length before) t.table k) pair record {
      own = h.def;
      type = left.type_;
      left = omega (arith, stands, count, apart);
      left_type = named_found defs (before ++ t ∷ []) b.name left g;
      own_column = ap (λ (u : Called). slice_get (columns_of defs u.table) own.column.column) table ∙ h.is;
      key = ap (is_key defs t.table) h.has_name ∙ not_false (is_key defs t.table a.name) y.0;
      one_type = ap (λ u. same_types u left.type_) h.type ∙ not_false (same_types own.type_ left.type_) x.0;
    }

paired_join : (defs : List TableDef) (before : List Called) (t : Called) (a : ColumnName) (at : ℕ) (b : ColumnName) (x y : Found) (l : Link) → IsNamed defs (before ++ t ∷ []) a.name x → IsNamed defs (before ++ t ∷ []) b.name y → paired defs (length before) t.table a at b x y ≡ Ok l → ForSome l (IsJoin defs (places (before ++ t ∷ [])) (length before) t.table)
unfolding paired
paired_join defs before t a at b x y l h g e = by (is_of (length before) x) refl e
  where
    by : (o : Bool) → is_of (length before) x ≡ o → (if o then refuse_if (is_of (length before) y) TypesDiffer at (linked defs t.table at x a y) else refuse_if (not (is_of (length before) y)) TypesDiffer at (linked defs t.table at y b x)) ≡ Ok l → ForSome l (IsJoin defs (places (before ++ t ∷ [])) (length before) t.table)
    by true mine e =
        let z = not_refused (is_of (length before) y) TypesDiffer at _ l e in
        linked_join defs before t at a b x y l h g (eqb-true x.column.source (length before) mine) z.0 z.1
    by false other e =
        let z = not_refused (not (is_of (length before) y)) TypesDiffer at _ l e in
        linked_join defs before t at b a y x l g h (eqb-true y.column.source (length before) (not_false (is_of (length before) y) z.0)) other z.1

link_join : (defs : List TableDef) (before : List Called) (t : Called) (kind : JoinKind) (l : Link) → link defs (before ++ t ∷ []) (length before) t.table kind ≡ Ok l → ForSome l (IsJoin defs (places (before ++ t ∷ [])) (length before) t.table)
unfolding linked_on
link_join defs before t join.Cross l e = λ j is. let none : None ≡ Some j = ok_same None l e ∙ is in absurd (cc)
link_join defs before t (join.On a at b) l e =
    let x = then_ok (resolved defs (before ++ t ∷ []) a) _ l e in
    let y = then_ok (resolved defs (before ++ t ∷ []) b) _ l x.2 in
    paired_join defs before t a at b x.0 y.0 l (resolved_named defs (before ++ t ∷ []) a x.0 x.1) (resolved_named defs (before ++ t ∷ []) b y.0 y.1) y.2

-- ---- FROM

pub record AreTables (defs : List TableDef) (f : Tables) : Type 0 where
  pub same : places f.called ≡ table_places f.sources
  pub count : length f.called ≡ length f.sources
  pub plain : All IsSource f.sources
  pub known : (s : ℕ) (x : PlanSource) → slice_get f.sources s ≡ Some x → IsTable defs (places f.called) s x

plain_source : (defs : List TableDef) (table : ℕ) (l : Link) → IsSource (source_of defs table l)
plain_source defs table l = All-nil (IsCondition no_aggregate)

places_more : (ts : List Called) (ss : List PlanSource) (t : Called) (s : PlanSource) → places ts ≡ table_places ss → t.table ≡ s.table → places (ts ++ t ∷ []) ≡ table_places (ss ++ s ∷ [])
places_more ts ss t s h one = simp map-append (cc)

with_more : (defs : List TableDef) (f : Tables) (t : Called) (l : Link) → t.table < length defs → ForSome l (IsJoin defs (places (f.called ++ t ∷ [])) (length f.called) t.table) → AreTables defs f → AreTables defs (with_table defs f t l)
with_more defs f t l known j h = record {
  same = places_more f.called f.sources t (source_of defs t.table l) h.same refl;
  count =
      let same = h.count in
      omega (arith, same, length-append f.called (t ∷ []), length-append f.sources (source_of defs t.table l ∷ []));
  plain = All-push IsSource f.sources (source_of defs t.table l) h.plain (plain_source defs t.table l);
  known = λ s x e. either s x (get_either f.sources (source_of defs t.table l) s x e);
}
  where
    added : IsTable defs (places (f.called ++ t ∷ [])) (length f.called) (source_of defs t.table l)
    added = record { known = known; columns = refl; join = j }

    either : (s : ℕ) (x : PlanSource) → (slice_get f.sources s ≡ Some x) ⊎ IsLast f.sources (source_of defs t.table l) s x → IsTable defs (places (f.called ++ t ∷ [])) s x
    either s x (inl e) = subst (λ ps. IsTable defs ps s x) (sym (map-append (λ (c : Called). c.table) f.called (t ∷ []))) (table_more defs (places f.called) (places (t ∷ [])) s x (h.known s x e))
    either s x (inr e) = subst (λ y. IsTable defs (places (f.called ++ t ∷ [])) s y) e.is (subst (λ n. IsTable defs (places (f.called ++ t ∷ [])) n (source_of defs t.table l)) (h.count ∙ sym e.at) added)

joined : (defs : List TableDef) (f g : Tables) (j : Join) → AreTables defs f → with_join defs f j ≡ Ok g → AreTables defs g
unfolding with_join
joined defs f g j h is =
    let t = then_ok (opened defs f.called j.table) _ g is in
    let l = then_ok (link defs (f.called ++ t.0 ∷ []) (length f.called) t.0.table j.kind) _ g t.2 in
    subst (λ z. AreTables defs z) (ok_same (with_table defs f t.0 l.0) g l.2)
    (with_more defs f t.0 l.0 (opened_known defs f.called j.table t.0 t.1) (link_join defs f.called t.0 j.kind l.0 l.1) h)

all_joined : (defs : List TableDef) (js : List Join) (f g : Tables) → AreTables defs f → with_joins defs f js ≡ Ok g → AreTables defs g
all_joined defs [] f g h is = subst (λ z. AreTables defs z) (ok_same f g is) h
all_joined defs (j ∷ js) f g h is =
    let x = then_ok (with_join defs f j) (λ z. with_joins defs z js) g is in
    all_joined defs js x.0 g (joined defs f x.0 j h x.1) x.2

no_tables : (defs : List TableDef) → AreTables defs (record { called = []; sources = [] })
no_tables defs = record { same = refl; count = refl; plain = All-nil IsSource; known = λ s x e. absurd (cc) }

alone : (defs : List TableDef) (s : Source) (f : Tables) → first defs s.first ≡ Ok f → AreTables defs f
unfolding first
alone defs s f is =
    let t = then_ok (opened defs [] s.first) _ f is in
    let none : Tables = record { called = []; sources = [] } in
    subst (λ z. AreTables defs z) (ok_same (with_table defs none t.0 None) f t.2)
    (with_more defs none t.0 None (opened_known defs [] s.first t.0 t.1) (λ j e. absurd (cc)) (no_tables defs))

pub are_tables : (defs : List TableDef) (s : Source) (f : Tables) → tables_of defs s ≡ Ok f → AreTables defs f
unfolding tables_of
are_tables defs s f is =
    let x = then_ok (first defs s.first) (λ z. with_joins defs z s.joins) f is in
    all_joined defs s.joins x.0 f (alone defs s x.0 x.1) x.2
