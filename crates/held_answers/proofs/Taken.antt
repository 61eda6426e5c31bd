-- The value of an expression of the kind of dates or of texts can be shown: it is taken from a column, an aggregate or a date literal. By induction over the expression.
use Rattle.std.proofs.Common.{◌≡◌, ◌∙◌, ℕ, ◌-◌, ◌==◌, max, Bool, true, false, not, ◌&&◌, List, [], ◌∷◌, ◌++◌, map, Option, Some, Result, Ok, Err, IfOk, refl, sym, ap, subst, arith}
use Rattle.std.specs.Prelude.{flat_map}
use Rattle.std.specs.Bool.{then_some}
use Rattle.std.specs.List.{list_all}
use Rattle.std.specs.Option.{option_and_then}
use Rattle.std.proofs.lemmas.Bool.{and_parts, eqb-true, false≢true}
use Rattle.std.proofs.lemmas.List.Folds.{list_all-append}
use Rattle.control_vectors.specs.declared.Over.{Over}
use Rattle.sql_read.specs.declared.definition.ColumnKind.{ColumnKind}
use Rattle.sql_read.specs.declared.definition.ColumnKind.TheVariants as column
use Rattle.sql_values.specs.Values.{Value, number, text, truth, null}
use Rattle.typed_trees.specs.declared.kinds.Family.{Family}
use Rattle.typed_trees.specs.declared.kinds.Family.TheVariants.{Logic, Comparison, Arithmetic}
use Rattle.typed_trees.specs.declared.kinds.Kind.{Kind}
use Rattle.typed_trees.specs.declared.kinds.Kind.TheVariants.{Number, Date, Text, Truth}
use Rattle.typed_trees.specs.declared.kinds.Role.{Role}
use Rattle.typed_trees.specs.declared.kinds.Role.TheVariants.{Alone}
use Rattle.typed_trees.specs.declared.typed.ColumnRef.{ColumnRef}
use Rattle.typed_trees.specs.declared.typed.ColumnType.{ColumnType}
use Rattle.typed_trees.specs.declared.typed.TypedExpr.{TypedExpr, roll-TypedExpr}
use Rattle.typed_trees.specs.declared.typed.TypedExpr.TheOpen.{TypedExpr-F}
use Rattle.typed_trees.specs.declared.typed.TypedExpr.TheFolds.{map-TypedExpr, ind-TypedExpr}
use Rattle.typed_trees.specs.Columns.{Columns, form_columns, columns_in}
use Rattle.typed_trees.specs.Kinds.{kind_of, is_number, is_truth, same_kind, family_of, makes, takes}
use Rattle.typed_trees.specs.Scales.{greatest, binary_scale, scale_of}
use Rattle.typed_trees.specs.Sides.{form_stands, stands}
use Rattle.typed_trees.specs.Types.{DataType, typed_as, truth as truth_type, form_type, type_of, column_type, number_type, not_type, scale_fits, binary_type, compares_with, tested_type, null_test_type, choice_type, with_types, all_types}
use Rattle.typed_trees.proofs.ColumnForms.{columns_roll}
use Rattle.typed_trees.proofs.Inversions.{some_same, passed, chosen, first_typed}
use Rattle.typed_trees.proofs.Scaled.{scale_law}
use Rattle.typed_trees.proofs.SideForms.{stands_roll}
use Rattle.typed_trees.proofs.TypeForms.{type_roll}
use Rattle.typed_values.specs.Values.{Valued, On, Operand, with, first_there, rescaled, at_scale, all_at_one_scale, more_valued, all_valued, form_value, value}
use Rattle.typed_values.proofs.Evaluations.{evaluated, value_roll}
use Rattle.written_queries.specs.Laws.{column_scale, form_as_written, is_as_written}
use Rattle.written_queries.proofs.WrittenForms.{written_roll}
use Rattle.held_answers.specs.Shown.{is_shown, is_taken}

-- ---- kinds

number_other : (k : Kind) → is_number k ≡ true → is_taken k ≡ false
number_other Number h = refl
number_other Date h = absurd (false≢true h)
number_other Text h = absurd (false≢true h)
number_other Truth h = refl

made_other : (of : Family) → is_taken (makes of) ≡ false
made_other Logic = refl
made_other Comparison = refl
made_other Arithmetic = refl

column_whole : (kind : ColumnKind) (n : ℕ) → is_taken (kind_of kind) ≡ true → column_scale kind n ≡ true → n ≡ 0
column_whole column.Integer n is w = absurd (false≢true is)
column_whole column.Date n is w = eqb-true n 0 w
column_whole column.Text n is w = eqb-true n 0 w
column_whole column.Decimal n is w = absurd (false≢true is)

same_is : (a b : Kind) → same_kind a b ≡ true → a ≡ b
same_is Number Number e = refl
same_is Date Date e = refl
same_is Text Text e = refl
same_is Truth Truth e = refl
same_is Number Date e = absurd (cc)
same_is Number Text e = absurd (cc)
same_is Number Truth e = absurd (cc)
same_is Date Number e = absurd (cc)
same_is Date Text e = absurd (cc)
same_is Date Truth e = absurd (cc)
same_is Text Number e = absurd (cc)
same_is Text Date e = absurd (cc)
same_is Text Truth e = absurd (cc)
same_is Truth Number e = absurd (cc)
same_is Truth Date e = absurd (cc)
same_is Truth Text e = absurd (cc)

module _ (texts : List (List ℕ)) where
  -- ---- values of a kind that can be shown

  abbrev pub Shows : Kind → Valued → Type 0
  Shows k r = IfOk r (λ v. is_shown texts k v ≡ true)

  -- of dates and texts: no digits after a point, and a value that can be shown
  abbrev pub IsTaken : DataType → Valued → Type 0
  IsTaken t r = is_taken t.kind ≡ true → (t.scale ≡ 0) × Shows t.kind r

  -- of other kinds nothing is said
  other : (u t : DataType) (r : Valued) → u ≡ t → is_taken u.kind ≡ false → IsTaken t r
  other u t r e n = λ is. absurd (false≢true (sym (subst (λ (x : DataType). is_taken x.kind ≡ false) e n) ∙ is))

  as_type : (u t : DataType) (r : Valued) → u ≡ t → IsTaken u r → IsTaken t r
  as_type u t r e h = subst (λ (x : DataType). IsTaken x r) e h

  -- ---- what keeps its scale keeps its value

  unraised : (r : Valued) → with r (rescaled 0) ≡ r
  unraised (Ok v) = refl
  unraised (Err e) = refl

  unscaled : (x : Operand) (to : ℕ) → to ≡ 0 → at_scale to x ≡ x.value
  unscaled x to e = let none : to - x.scale ≡ 0 = omega (arith, e) in ap (λ n. with x.value (rescaled n)) none ∙ unraised x.value

  -- ---- lists of values

  abbrev AllShown : Kind → Result (List Value) Over → Type 0
  AllShown k vs = IfOk vs (λ ws. list_all (is_shown texts k) ws ≡ true)

  more_shown : (k : Kind) (r : Valued) (rs : List Valued) → Shows k r → AllShown k (all_valued rs) → AllShown k (all_valued (r ∷ rs))
  more_shown k (Ok v) rs h g = also (all_valued rs) g
    where
      also : (vs : Result (List Value) Over) → AllShown k vs → AllShown k (more_valued v vs)
      also (Ok ws) g = (λ i. h i && g i)
      also (Err e) g = tt
  more_shown k (Err e) rs h g = tt

  first_shown : (k : Kind) (vs : List Value) → list_all (is_shown texts k) vs ≡ true → is_shown texts k (first_there vs) ≡ true
  first_shown k [] h = refl
  first_shown k (null ∷ vs) h = first_shown k vs (and_parts (is_shown texts k null) (list_all (is_shown texts k) vs) h).1
  first_shown k (number z ∷ vs) h = (and_parts (is_shown texts k (number z)) (list_all (is_shown texts k) vs) h).0
  first_shown k (text t ∷ vs) h = (and_parts (is_shown texts k (text t)) (list_all (is_shown texts k) vs) h).0
  first_shown k (truth b ∷ vs) h = (and_parts (is_shown texts k (truth b)) (list_all (is_shown texts k) vs) h).0

  choice_shown : (k : Kind) (vs : Result (List Value) Over) → AllShown k vs → Shows k (with vs (λ ws. Ok (first_there ws)))
  choice_shown k (Ok ws) h = first_shown k ws h
  choice_shown k (Err e) h = tt

  -- ---- layers

  abbrev fits_at : On → ColumnRef × ColumnType → Bool
  fits_at on c = is_shown texts (kind_of c.1.kind) (on.column c.0)

  -- the columns of an expression hold what can be shown
  abbrev pub fit : On → Columns → Bool
  fit on cs = list_all (fits_at on) cs

  module _ (at : ℕ → Option DataType) (on : On) where
    abbrev pub Takes : TypedExpr → Type 0
    Takes e = (t : DataType) → type_of at e ≡ Some t → stands e Alone ≡ true → is_as_written e ≡ true → fit on (columns_in e) ≡ true → IsTaken t (value on e)

    by_parts : (d : TypedExpr-F TypedExpr)
        → ((t : DataType) → form_type at (map-TypedExpr TypedExpr (Option DataType) (type_of at) d) ≡ Some t → form_stands (map-TypedExpr TypedExpr (Role → Bool) stands d) Alone ≡ true → form_as_written (map-TypedExpr TypedExpr Bool is_as_written d) ≡ true
        → fit on (form_columns (map-TypedExpr TypedExpr Columns columns_in d)) ≡ true → IsTaken t (form_value on (map-TypedExpr TypedExpr Operand (evaluated on) d)))
        → Takes (roll-TypedExpr d)
    by_parts d h t e s w f =
        subst (IsTaken t) (sym (value_roll on d))
        (h t (sym (type_roll at d) ∙ e) (sym (ap (λ (p : Role → Bool). p Alone) (stands_roll d)) ∙ s) (sym (written_roll d) ∙ w) (sym (ap (fit on) (columns_roll d)) ∙ f))

    abbrev Elements : Type 0
    Elements = List ((e : TypedExpr) × Takes e)

    abbrev exprs : Elements → List TypedExpr
    exprs ys = map (λ y. y.0) ys

    abbrev list_columns : Elements → Columns
    list_columns ys = flat_map (λ (c : Columns). c) (map columns_in (exprs ys))

    fit_parts : (cs ds : Columns) → fit on (cs ++ ds) ≡ true → (fit on cs ≡ true) × (fit on ds ≡ true)
    fit_parts cs ds h = and_parts (fit on cs) (fit on ds) (sym (list_all-append (fits_at on) cs ds) ∙ h)

    -- ---- COALESCE

    abbrev stand_alone : Elements → Bool
    stand_alone ys = list_all (λ (p : Role → Bool). p Alone) (map stands (exprs ys))

    abbrev are_written : Elements → Bool
    are_written ys = list_all (λ (b : Bool). b) (map is_as_written (exprs ys))

    -- the others of some operands that begin with one of a scale of 0
    record AreTaken (k : Kind) (ys : Elements) (ts : List DataType) : Type 0 where
      types : greatest 0 (map (λ t. t.scale) ts) ≡ 0
      operands : greatest 0 (map (λ (y : Operand). y.scale) (map (evaluated on) (exprs ys))) ≡ 0
      values : (to : ℕ) → to ≡ 0 → AllShown k (all_valued (map (at_scale to) (map (evaluated on) (exprs ys))))

    taken_list : (s : DataType) → is_taken s.kind ≡ true → (ys : Elements) (ts : List DataType) → all_types (map (type_of at) (exprs ys)) ≡ Some ts → list_all (compares_with s) ts ≡ true → stand_alone ys ≡ true → are_written ys ≡ true → fit on (list_columns ys) ≡ true → AreTaken s.kind ys ts
    taken_list s is [] ts e c a w f = subst (AreTaken s.kind []) (some_same [] ts e) (record { types = refl; operands = refl; values = λ to zero. refl })
    taken_list s is (y ∷ ys) ts e c a w f =
        let found = first_typed (type_of at y.0) (map (type_of at) (exprs ys)) ts e in
        let u = found.0 in
        let rest = found.1 in
        let alike = and_parts (compares_with s u) (list_all (compares_with s) rest) (ap (list_all (compares_with s)) found.4 ∙ c) in
        let kind = same_is s.kind u.kind (and_parts (same_kind s.kind u.kind) (not (is_truth s.kind)) alike.0).0 in
        let alone = and_parts (stands y.0 Alone) (stand_alone ys) a in
        let written = and_parts (is_as_written y.0) (are_written ys) w in
        let columns = fit_parts (columns_in y.0) (list_columns ys) f in
        let one = y.1 u found.2 alone.0 written.0 columns.0 (subst (λ (k : Kind). is_taken k ≡ true) kind is) in
        let more = taken_list s is ys rest found.3 alike.1 alone.1 written.1 columns.1 in
        let whole : scale_of y.0 ≡ 0 = scale_law at y.0 u found.2 ∙ one.0 in
        let scales = map (λ (t : DataType). t.scale) rest in
        let operands = map (λ (x : Operand). x.scale) (map (evaluated on) (exprs ys)) in
        let shown = subst (λ (k : Kind). Shows k (value on y.0)) (sym kind) one.1 in
        subst (AreTaken s.kind (y ∷ ys)) found.4 (record {
          types = ap (λ n. max 0 (greatest n scales)) one.0 ∙ ap (max 0) more.types;
          operands = ap (λ n. max 0 (greatest n operands)) whole ∙ ap (max 0) more.operands;
          values = λ to zero. more_shown s.kind (at_scale to (evaluated on y.0)) (map (at_scale to) (map (evaluated on) (exprs ys))) (subst (Shows s.kind) (sym (unscaled (evaluated on y.0) to zero)) shown) (more.values to zero);
        })

    choice_taken : (x : TypedExpr) → Takes x → (ys : Elements) (t : DataType) → form_type at (TypedExpr-F.Coalesce (type_of at x) (map (type_of at) (exprs ys))) ≡ Some t → (stands x Alone && stand_alone ys) ≡ true → (is_as_written x && are_written ys) ≡ true
        → fit on (columns_in x ++ list_columns ys) ≡ true → IsTaken t (form_value on (TypedExpr-F.Coalesce (evaluated on x) (map (evaluated on) (exprs ys))))
    choice_taken x h ys t e a w f =
        let operands = map (evaluated on) (exprs ys) in
        let types = map (type_of at) (exprs ys) in
        let first = chosen (type_of at x) (λ s. with_types types (choice_type s)) t e in
        let s = first.0 in
        let others = chosen (all_types types) (choice_type s) t first.2 in
        let ts = others.0 in
        let scales = map (λ (b : DataType). b.scale) ts in
        let result = typed_as s.kind (greatest s.scale scales) in
        let passes = passed (list_all (compares_with s) (s ∷ ts)) result t others.2 in
        let alike = (and_parts (compares_with s s) (list_all (compares_with s) ts) passes.0).1 in
        let alone = and_parts (stands x Alone) (stand_alone ys) a in
        let written = and_parts (is_as_written x) (are_written ys) w in
        let columns = fit_parts (columns_in x) (list_columns ys) f in
        let sizes = map (λ (y : Operand). y.scale) operands in
        as_type result t (form_value on (TypedExpr-F.Coalesce (evaluated on x) operands)) passes.1 (λ is.
        let one = h s first.1 alone.0 written.0 columns.0 is in
        let more = taken_list s is ys ts others.1 alike alone.1 written.1 columns.1 in
        let to : greatest (scale_of x) sizes ≡ 0 = ap (λ n. greatest n sizes) (scale_law at x s first.1 ∙ one.0) ∙ more.operands in
        let all = more_shown s.kind (at_scale (greatest (scale_of x) sizes) (evaluated on x)) (map (at_scale (greatest (scale_of x) sizes)) operands) (subst (Shows s.kind) (sym (unscaled (evaluated on x) (greatest (scale_of x) sizes) to)) one.1) (more.values (greatest (scale_of x) sizes) to) in
        (ap (λ n. greatest n scales) one.0 ∙ more.types, choice_shown s.kind (all_at_one_scale (evaluated on x) operands) all))

    -- ---- the induction

    module _ (aggregates : (n : ℕ) (u : DataType) → at n ≡ Some u → IsTaken u (on.aggregate n)) where
      by_layer : (y : TypedExpr-F ((e : TypedExpr) × Takes e)) → Takes (roll-TypedExpr (map-TypedExpr ((e : TypedExpr) × Takes e) TypedExpr (λ x. x.0) y))
      by_layer (TypedExpr-F.Number n scale) = by_parts (TypedExpr-F.Number n scale) (λ t e s w f. other (typed_as Number scale) t _ (some_same (typed_as Number scale) t e) refl)
      by_layer (TypedExpr-F.Text z) = by_parts (TypedExpr-F.Text z) (λ t e s w f. absurd (false≢true s))
      by_layer (TypedExpr-F.Date day) = by_parts (TypedExpr-F.Date day) (λ t e s w f. as_type (typed_as Date 0) t (Ok (number day)) (some_same (typed_as Date 0) t e) (λ is. (refl, w)))
      by_layer (TypedExpr-F.Column c type) =
          by_parts (TypedExpr-F.Column c type) (λ t e s w f. as_type (column_type type) t (Ok (on.column c)) (some_same (column_type type) t e) (λ is. (column_whole type.kind type.scale is w, (and_parts (fits_at on (c, type)) true f).0)))
      by_layer (TypedExpr-F.Aggregate n scale) =
          by_parts (TypedExpr-F.Aggregate n scale) (λ t e s w f.
          let found = chosen (at n) (λ (u : DataType). then_some (u.scale == scale) u) t e in
          as_type found.0 t (on.aggregate n) (passed (found.0.scale == scale) found.0 t found.2).1 (aggregates n found.0 found.1))
      by_layer (TypedExpr-F.Signed g x) =
          by_parts (TypedExpr-F.Signed g x.0) (λ t e s w f.
          let found = chosen (type_of at x.0) number_type t e in
          let p = passed (is_number found.0.kind) found.0 t found.2 in
          other found.0 t _ p.1 (number_other found.0.kind p.0))
      by_layer (TypedExpr-F.Not x) =
          by_parts (TypedExpr-F.Not x.0) (λ t e s w f.
          let found = chosen (type_of at x.0) not_type t e in
          other truth_type t _ (passed (is_truth found.0.kind) truth_type t found.2).1 refl)
      by_layer (TypedExpr-F.Binary o x y) =
          by_parts (TypedExpr-F.Binary o x.0 y.0) (λ t e s w f.
          let left = chosen (type_of at x.0) (λ u. option_and_then (binary_type o u) (type_of at y.0)) t e in
          let right = chosen (type_of at y.0) (binary_type o left.0) t left.2 in
          let made = typed_as (makes (family_of o)) (binary_scale o left.0.scale right.0.scale) in
          other made t _ (passed (takes (family_of o) left.0.kind right.0.kind && scale_fits o left.0.scale right.0.scale) made t right.2).1 (made_other (family_of o)))
      by_layer (TypedExpr-F.Divide x g n) =
          by_parts (TypedExpr-F.Divide x.0 g n) (λ t e s w f.
          let found = chosen (type_of at x.0) (λ (u : DataType). then_some (not (n == 0) && is_number u.kind) u) t e in
          let p = passed (not (n == 0) && is_number found.0.kind) found.0 t found.2 in
          other found.0 t _ p.1 (number_other found.0.kind (and_parts (not (n == 0)) (is_number found.0.kind) p.0).1))
      by_layer (TypedExpr-F.Between p x a b) =
          by_parts (TypedExpr-F.Between p x.0 a.0 b.0) (λ t e s w f.
          let types = type_of at a.0 ∷ type_of at b.0 ∷ [] in
          let found = chosen (type_of at x.0) (λ u. with_types types (tested_type u)) t e in
          let others = chosen (all_types types) (tested_type found.0) t found.2 in
          other truth_type t _ (passed (list_all (compares_with found.0) others.0) truth_type t others.2).1 refl)
      by_layer (TypedExpr-F.In p x ys) =
          by_parts (TypedExpr-F.In p x.0 (exprs ys)) (λ t e s w f.
          let types = map (type_of at) (exprs ys) in
          let found = chosen (type_of at x.0) (λ u. with_types types (tested_type u)) t e in
          let others = chosen (all_types types) (tested_type found.0) t found.2 in
          other truth_type t _ (passed (list_all (compares_with found.0) others.0) truth_type t others.2).1 refl)
      by_layer (TypedExpr-F.IsNull p x) =
          by_parts (TypedExpr-F.IsNull p x.0) (λ t e s w f.
          let found = chosen (type_of at x.0) null_test_type t e in
          other truth_type t _ (passed (not (is_truth found.0.kind)) truth_type t found.2).1 refl)
      by_layer (TypedExpr-F.Coalesce x ys) = by_parts (TypedExpr-F.Coalesce x.0 (exprs ys)) (choice_taken x.0 x.1 ys)

      pub taken : (e : TypedExpr) → Takes e
      taken = ind-TypedExpr Takes (λ x y is. subst (λ z. Takes (roll-TypedExpr z)) is (by_layer y))
