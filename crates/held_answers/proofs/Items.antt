-- The values of the items of a query's answer can be shown.
use Rattle.std.proofs.Common.{◌≡◌, ◌∙◌, ℕ, zero, suc, true, not, List, [], ◌∷◌, length, map, get_or, Option, Some, None, Result, Ok, Err, refl, sym, ap, subst, ⊎_elim}
use Rattle.std.specs.Prelude.{slice_get}
use Rattle.std.specs.List.{Contains}
use Rattle.std.specs.Option.{ForSome}
use Rattle.std.proofs.lemmas.Bool.{false≢true}
use Rattle.std.proofs.lemmas.List.Elements.{Contains-get_or}
use Rattle.std.proofs.lemmas.List.Sums.{list_all-from_AllPass}
use Rattle.control_vectors.specs.declared.Over.{Over}
use Rattle.dict_codes.proofs.Members.{first_or_later, here, nothing_in, there}
use Rattle.sql_read.specs.declared.definition.TableDef.{TableDef}
use Rattle.sql_values.specs.Values.{Value, number, text, truth, null}
use Rattle.typed_trees.specs.declared.kinds.Kind.{Kind}
use Rattle.typed_trees.specs.declared.kinds.Kind.TheVariants.{Number, Date, Text, Truth}
use Rattle.typed_trees.specs.declared.kinds.Role.TheVariants.{Alone}
use Rattle.typed_trees.specs.declared.typed.Aggregate.{Aggregate}
use Rattle.typed_trees.specs.declared.typed.AggregateKind.{AggregateKind}
use Rattle.typed_trees.specs.declared.typed.AggregateKind.TheVariants as of
use Rattle.typed_trees.specs.declared.typed.ColumnRef.{ColumnRef}
use Rattle.typed_trees.specs.declared.typed.ColumnType.{ColumnType}
use Rattle.typed_trees.specs.declared.typed.TypedExpr.{TypedExpr}
use Rattle.typed_trees.specs.Columns.{Columns, columns_in}
use Rattle.typed_trees.specs.Kinds.{kind_of, is_number, is_truth}
use Rattle.typed_trees.specs.Sides.{stands}
use Rattle.typed_trees.specs.Types.{DataType, typed_as, aggregate_type, argument_type, counted_type, folded_type, no_aggregate, type_of}
use Rattle.typed_trees.proofs.Inversions.{chosen, passed, some_same}
use Rattle.typed_values.specs.Aggregates.{aggregate_over, aggregate_value, argument_over}
use Rattle.typed_values.specs.Values.{Valued, On, value}
use Rattle.value_laws.specs.Laws.{IsOf, KindLaw, is_of}
use Rattle.query_answers.specs.Answers.{FromRow, column_value, on_row}
use Rattle.query_answers.specs.Overs.{◌>>=◌, each}
use Rattle.query_answers.proofs.Folds.{argument_laws}
use Rattle.typing_laws.specs.Laws.{AreDeclared, column_at}
use Rattle.written_queries.specs.Laws.{IsAsWritten}
use Rattle.held_answers.specs.Shown.{is_shown, is_taken}
use Rattle.held_answers.proofs.Aggregated.{counted_shown, ok_same, over_shown}
use Rattle.held_answers.proofs.Taken.{Shows, fit, taken}

-- ---- what comes of two steps, and of each element

pub both_ok : {A B : Type 0} (r : Result A Over) (f : A → Result B Over) (y : B) → (r >>= f) ≡ Ok y → (x : A) × (r ≡ Ok x) × (f x ≡ Ok y)
both_ok (Ok x) f y e = (x, refl, e)
both_ok (Err z) f y e = absurd cc

-- each element that is made is made of one
pub made_of : {A B : Type 0} (f : A → Result B Over) (xs : List A) (ys : List B) → each f xs ≡ Ok ys → (y : B) → Contains ys y → (x : A) × Contains xs x × (f x ≡ Ok y)
made_of {A} {B} f [] ys e y m = absurd (nothing_in y (subst (λ (l : List B). Contains l y) (sym (ok_same [] ys e)) m))
made_of {A} {B} f (x ∷ xs) ys e y m =
    let first = both_ok (f x) (λ z. each f xs >>= λ zs. Ok (z ∷ zs)) ys e in
    let others = both_ok (each f xs) (λ zs. Ok (first.0 ∷ zs)) ys first.2 in
    let in_parts = subst (λ (l : List B). Contains l y) (sym (ok_same (first.0 ∷ others.0) ys others.2)) m in
    ⊎_elim (λ s. (x, here x xs, subst (λ (z : B). f x ≡ Ok z) s first.1)) (λ l. let g = made_of f xs others.0 others.1 y l in (g.0, there x g.0 xs g.1, g.2)) (first_or_later first.0 y others.0 in_parts)

-- the element that is made of the one in a place
pub made_at : {A B : Type 0} (f : A → Result B Over) (xs : List A) (ys : List B) (n : ℕ) (x : A) (d : B) → each f xs ≡ Ok ys → slice_get xs n ≡ Some x → f x ≡ Ok (get_or ys n d)
made_at f [] ys n x d e at = absurd cc
made_at {A} {B} f (w ∷ xs) ys n x d e at =
    let first = both_ok (f w) (λ y. each f xs >>= λ zs. Ok (y ∷ zs)) ys e in
    let others = both_ok (each f xs) (λ zs. Ok (first.0 ∷ zs)) ys first.2 in
    subst (λ (l : List B). f x ≡ Ok (get_or l n d)) (ok_same (first.0 ∷ others.0) ys others.2) (by n first.0 others.0 first.1 (λ m rest. made_at f xs others.0 m x d others.1 rest) at)
  where
    by : (n : ℕ) (y : B) (zs : List B) → f w ≡ Ok y → ((m : ℕ) → slice_get xs m ≡ Some x → f x ≡ Ok (get_or zs m d)) → slice_get (w ∷ xs) n ≡ Some x → f x ≡ Ok (get_or (y ∷ zs) n d)
    by zero y zs first later at = let same : w ≡ x = cc in subst (λ (v : A). f v ≡ Ok y) same first
    by (suc n) y zs first later at = later n at

pub made_many : {A B : Type 0} (f : A → Result B Over) (xs : List A) (ys : List B) → each f xs ≡ Ok ys → length ys ≡ length xs
made_many {A} {B} f [] ys e = ap length (sym (ok_same [] ys e))
made_many {A} {B} f (x ∷ xs) ys e =
    let first = both_ok (f x) (λ z. each f xs >>= λ zs. Ok (z ∷ zs)) ys e in
    let others = both_ok (each f xs) (λ zs. Ok (first.0 ∷ zs)) ys first.2 in
    ap length (sym (ok_same (first.0 ∷ others.0) ys others.2)) ∙ ap suc (made_many f xs others.0 others.1)

module _ (texts : List (List ℕ)) where
  -- ---- kinds

  shown_is : (k : Kind) (v : Value) → is_shown texts k v ≡ true → is_of k v ≡ true
  shown_is k null h = refl
  shown_is Number (number z) h = refl
  shown_is Date (number z) h = refl
  shown_is Text (text t) h = refl
  shown_is Truth (truth b) h = refl
  shown_is Text (number z) h = absurd (false≢true h)
  shown_is Truth (number z) h = absurd (false≢true h)
  shown_is Number (text t) h = absurd (false≢true h)
  shown_is Date (text t) h = absurd (false≢true h)
  shown_is Truth (text t) h = absurd (false≢true h)
  shown_is Number (truth b) h = absurd (false≢true h)
  shown_is Date (truth b) h = absurd (false≢true h)
  shown_is Text (truth b) h = absurd (false≢true h)

  number_shown : (r : Valued) → IsOf Number r → Shows texts Number r
  number_shown (Ok (number z)) h = refl
  number_shown (Ok (text t)) h = absurd (false≢true h)
  number_shown (Ok (truth b)) h = absurd (false≢true h)
  number_shown (Ok null) h = refl
  number_shown (Err e) h = tt

  truth_shown : (r : Valued) → IsOf Truth r → Shows texts Truth r
  truth_shown (Ok (number z)) h = absurd (false≢true h)
  truth_shown (Ok (text t)) h = absurd (false≢true h)
  truth_shown (Ok (truth b)) h = refl
  truth_shown (Ok null) h = refl
  truth_shown (Err e) h = tt

  of_kind : (k : Kind) (r : Valued) → IsOf k r → (is_taken k ≡ true → Shows texts k r) → Shows texts k r
  of_kind Number r h g = number_shown r h
  of_kind Date r h g = g refl
  of_kind Text r h g = g refl
  of_kind Truth r h g = truth_shown r h

  -- ---- expressions

  -- values of columns that can be shown
  abbrev pub ColumnsShown : List TableDef → List ℕ → (ColumnRef → Value) → Type 0
  ColumnsShown defs places column = (c : ColumnRef) (type : ColumnType) → column_at defs places c ≡ Some type → is_shown texts (kind_of type.kind) (column c) ≡ true

  -- an aggregate: its value can be shown, and a date or a text has no digits after a point
  abbrev pub AggregateShown : DataType → Value → Type 0
  AggregateShown u v = (is_taken u.kind ≡ true → u.scale ≡ 0) × (is_shown texts u.kind v ≡ true)

  abbrev pub AggregatesShown : (ℕ → Option DataType) → (ℕ → Value) → Type 0
  AggregatesShown at aggregate = (n : ℕ) (u : DataType) → at n ≡ Some u → AggregateShown u (aggregate n)

  pub record IsSound (at : ℕ → Option DataType) (defs : List TableDef) (places : List ℕ) (e : TypedExpr) : Type 0 where
    pub type : DataType
    pub is : type_of at e ≡ Some type
    pub sides : stands e Alone ≡ true
    pub written : IsAsWritten e
    pub declared : AreDeclared defs places e

  module _ (kinds : KindLaw) (defs : List TableDef) (places : List ℕ) (at : ℕ → Option DataType) (column : ColumnRef → Value) (aggregate : ℕ → Value) (columns : ColumnsShown defs places column) (aggregates : AggregatesShown at aggregate) where
    abbrev on : On
    on = record { column = column; aggregate = λ n. Ok (aggregate n) }

    pub value_shown : (e : TypedExpr) (s : IsSound at defs places e) → Shows texts s.type.kind (value on e)
    value_shown e s =
        let fits = list_all-from_AllPass (λ (c : ColumnRef × ColumnType). is_shown texts (kind_of c.1.kind) (column c.0)) (columns_in e) (λ k d l. columns (get_or (columns_in e) k d).0 (get_or (columns_in e) k d).1 (s.declared k d l)) in
        let typed = list_all-from_AllPass (λ (c : ColumnRef × ColumnType). is_of (kind_of c.1.kind) (column c.0)) (columns_in e) (λ k d l.
        let c = get_or (columns_in e) k d in
        shown_is (kind_of c.1.kind) (column c.0) (columns c.0 c.1 (s.declared k d l))) in
        of_kind s.type.kind (value on e) (kinds at on e s.type s.is (record { columns = typed; aggregates = λ n u is. shown_is u.kind (aggregate n) (aggregates n u is).1 }))
        (λ is. (taken texts at on (λ n u a t. ((aggregates n u a).0 t, (aggregates n u a).1)) e s.type s.is s.sides s.written fits is).1)

  -- ---- scales

  abbrev nulls : On
  nulls = record { column = λ c. null; aggregate = λ n. Ok null }

  all_null : (cs : Columns) → fit texts nulls cs ≡ true
  all_null [] = refl
  all_null (c ∷ cs) = all_null cs

  scale_none : (defs : List TableDef) (places : List ℕ) (e : TypedExpr) (s : IsSound no_aggregate defs places e) → is_taken s.type.kind ≡ true → s.type.scale ≡ 0
  scale_none defs places e s is = (taken texts no_aggregate nulls (λ n u none. absurd cc) e s.type s.is s.sides s.written (all_null (columns_in e)) is).0

  -- ---- aggregates

  folded_scale : (kind : AggregateKind) (u t : DataType) → folded_type kind u ≡ Some t → (is_taken u.kind ≡ true → u.scale ≡ 0) → is_taken t.kind ≡ true → t.scale ≡ 0
  folded_scale of.Count u t e h is = ap (λ (x : DataType). x.scale) (sym (passed (not (is_truth u.kind)) (typed_as Number 0) t e).1)
  folded_scale of.Sum u t e h is = subst (λ (x : DataType). is_taken x.kind ≡ true → x.scale ≡ 0) (passed (is_number u.kind) u t e).1 h is
  folded_scale of.Avg u t e h is = subst (λ (x : DataType). is_taken x.kind ≡ true → x.scale ≡ 0) (passed (is_number u.kind) u t e).1 h is
  folded_scale of.Min u t e h is = subst (λ (x : DataType). is_taken x.kind ≡ true → x.scale ≡ 0) (passed (not (is_truth u.kind)) u t e).1 h is
  folded_scale of.Max u t e h is = subst (λ (x : DataType). is_taken x.kind ≡ true → x.scale ≡ 0) (passed (not (is_truth u.kind)) u t e).1 h is

  counted_scale : (kind : AggregateKind) (t : DataType) → counted_type kind ≡ Some t → t.scale ≡ 0
  counted_scale of.Count t e = ap (λ (x : DataType). x.scale) (sym (some_same (typed_as Number 0) t e))
  counted_scale of.Sum t e = absurd cc
  counted_scale of.Avg t e = absurd cc
  counted_scale of.Min t e = absurd cc
  counted_scale of.Max t e = absurd cc

  -- the argument of an aggregate, but for its type
  pub record IsArgument (defs : List TableDef) (places : List ℕ) (e : TypedExpr) : Type 0 where
    pub sides : stands e Alone ≡ true
    pub written : IsAsWritten e
    pub declared : AreDeclared defs places e

  module _ (kinds : KindLaw) (defs : List TableDef) (places : List ℕ) (rows : List FromRow) (columns : (row : FromRow) → Contains rows row → ColumnsShown defs places (column_value row)) where
    argument_shown : (e : TypedExpr) (s : IsSound no_aggregate defs places e) (row : FromRow) (v : Value) → Contains rows row → value (on_row row) e ≡ Ok v → is_shown texts s.type.kind v ≡ true
    argument_shown e s row v m is =
        let shown = value_shown kinds defs places no_aggregate (column_value row) (λ n. null) (columns row m) (λ n u none. absurd cc) e s in
        subst (Shows texts s.type.kind) is shown

    over_rows : (kind : AggregateKind) (e : TypedExpr) (t : DataType) (v : Value) → argument_type kind (Some e) ≡ Some t → IsArgument defs places e → argument_over kind (Some e) (map column_value rows) ≡ Ok v → AggregateShown t v
    over_rows kind e t v is a at =
        let type = chosen (type_of no_aggregate e) (folded_type kind) t is in
        let s : IsSound no_aggregate defs places e = record { type = type.0; is = type.1; sides = a.sides; written = a.written; declared = a.declared } in
        let made = both_ok (each (λ row. value (on_row row) e) rows) (aggregate_over kind) v (sym (argument_laws.over_rows kind e rows) ∙ at) in
        let values : (w : Value) → Contains made.0 w → is_shown texts type.0.kind w ≡ true = λ w m. (let x = made_of (λ row. value (on_row row) e) rows made.0 made.1 w m in argument_shown e s x.0 w x.1 x.2) in
        (folded_scale kind type.0 t type.2 (scale_none defs places e s), over_shown texts kind type.0 t made.0 v type.2 (λ k d l. values (get_or made.0 k d) (Contains-get_or made.0 k d l)) made.2)

    of_argument : (kind : AggregateKind) (o : Option TypedExpr) (t : DataType) (v : Value) → argument_type kind o ≡ Some t → ForSome o (IsArgument defs places) → argument_over kind o (map column_value rows) ≡ Ok v → AggregateShown t v
    of_argument kind None t v is a at = (λ taken. counted_scale kind t is, counted_shown texts kind t (length (map column_value rows)) v is at)
    of_argument kind (Some e) t v is a at = over_rows kind e t v is (a e refl) at

    pub aggregate_shown : (a : Aggregate) (t : DataType) (v : Value) → aggregate_type a ≡ Some t → ForSome a.argument (IsArgument defs places) → aggregate_value a (map column_value rows) ≡ Ok v → AggregateShown t v
    aggregate_shown a t v is argument at = of_argument a.kind a.argument t v is argument at
