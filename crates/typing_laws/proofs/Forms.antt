-- Each form of an expression has the type that typing gives it, where its operands have theirs.
use Rattle.std.proofs.Common.{◌≡◌, ℕ, ℤ, ◌==◌, Bool, true, false, not, ◌&&◌, List, [], ◌∷◌, ◌++◌, length, map, Option, Some, None, Ok, refl, ap, ◌∙◌, subst}
use Rattle.std.specs.Prelude.{All, flat_map, is_some}
use Rattle.std.specs.Bool.{then_some}
use Rattle.std.specs.List.{list_all}
use Rattle.std.specs.Option.{option_and_then}
use Rattle.std.proofs.lemmas.Bool.{eq-eqb}
use Rattle.std.proofs.lemmas.List.Elements.{All-nil, All-cons, All-head, All-tail, All-same, All-append}
use Rattle.std.proofs.lemmas.List.Folds.{list_all-map}
use Rattle.query_trees.specs.declared.expr.AggregateKind.{AggregateKind as Written}
use Rattle.query_trees.specs.declared.expr.AggregateKind.TheVariants as written
use Rattle.query_trees.specs.declared.expr.BinaryOp.{BinaryOp}
use Rattle.query_trees.specs.declared.expr.ColumnName.{ColumnName}
use Rattle.query_trees.specs.declared.expr.Divisor.{Divisor}
use Rattle.query_trees.specs.declared.expr.Polarity.{Polarity}
use Rattle.query_trees.specs.declared.expr.Sign.{Sign}
use Rattle.typed_trees.specs.declared.kinds.Kind.{Kind}
use Rattle.typed_trees.specs.declared.kinds.Kind.TheVariants.{Number, Date, Text, Truth}
use Rattle.typed_trees.specs.declared.kinds.Role.{Role}
use Rattle.typed_trees.specs.declared.kinds.Role.TheVariants.{Side, Alone}
use Rattle.typed_trees.specs.declared.typed.Aggregate.{Aggregate}
use Rattle.typed_trees.specs.declared.typed.AggregateKind.TheVariants.{Count}
use Rattle.typed_trees.specs.declared.typed.ColumnRef.{ColumnRef}
use Rattle.typed_trees.specs.declared.typed.ColumnType.{ColumnType}
use Rattle.typed_trees.specs.declared.typed.TypedExpr.TheVariants as e
use Rattle.typed_trees.specs.Columns.{columns_in}
use Rattle.typed_trees.specs.Kinds.{kind_of, is_number, is_truth, compare, family_of, role_in, takes, makes}
use Rattle.typed_trees.specs.Scales.{greatest, binary_scale}
use Rattle.typed_trees.specs.Sides.{stands}
use Rattle.typed_trees.specs.Types.{DataType, typed_as, truth, number_type, not_type, scale_fits, binary_type, compares_with, tested_type, null_test_type, choice_type, with_type, more_types, all_types, with_types, type_of, no_aggregate, folded_type, aggregate_type}
use Rattle.typed_trees.proofs.TypeForms.{type_Number, type_Text, type_Date, type_Column, type_Aggregate, type_Signed, type_Not, type_Binary, type_Divide, type_Between, type_In, type_IsNull, type_Coalesce}
use Rattle.typed_trees.proofs.SideForms.{stands_Number, stands_Text, stands_Date, stands_Column, stands_Aggregate, stands_Signed, stands_Not, stands_Binary, stands_Divide, stands_Between, stands_In, stands_IsNull, stands_Coalesce}
use Rattle.typed_trees.proofs.ColumnForms.{columns_Number, columns_Text, columns_Date, columns_Column, columns_Aggregate, columns_Signed, columns_Not, columns_Binary, columns_Divide, columns_Between, columns_In, columns_IsNull, columns_Coalesce}
use Rattle.typed_trees.proofs.Inversions.{some_same}
use Rattle.query_types.specs.declared.refusal.TypeKind.TheVariants.{TypesDiffer, NestedAggregate, ZeroDivisor, ScaleTooLarge}
use Rattle.query_types.specs.declared.scope.Found.{Found}
use Rattle.query_types.specs.declared.typing.Typed.{Typed}
use Rattle.query_types.specs.Kinds.{folds}
use Rattle.query_types.specs.Names.{Scope, column}
use Rattle.query_types.specs.Expressions as t
use Rattle.query_types.specs.Expressions.{is_row, values, scales}
use Rattle.query_types.proofs.OutcomeLaws.{ok_same, then_ok, not_refused}
use Rattle.typing_laws.specs.Laws.{IsDeclared}
use Rattle.typing_laws.proofs.Columns.{places, IsStanding, column_stands}
use Rattle.typing_laws.proofs.Grown.{IsGood, Grown, grown_met, Sees, types_last, Good, from_same}
use Rattle.typing_laws.proofs.Lists.{not_false, passes, both_pass}

pub and_left : (b c : Bool) → (b && c) ≡ true → b ≡ true
and_left true c e = refl
and_left false c e = absurd (cc)

pub and_right : (b c : Bool) → (b && c) ≡ true → c ≡ true
and_right true c e = e
and_right false c e = absurd (cc)

and_both : (b c : Bool) → b ≡ true → c ≡ true → (b && c) ≡ true
and_both true c e f = f
and_both false c e f = absurd (cc)

abbrev Declared : Scope → ColumnRef × ColumnType → Type 0
Declared s = IsStanding s

abbrev Known : Scope → ColumnRef × ColumnType → Type 0
Known s = IsDeclared s.defs (places s.tables)

is_number_kind : (k : Kind) → is_number k ≡ true → k ≡ Number
is_number_kind Number e = refl
is_number_kind Date e = absurd (cc)
is_number_kind Text e = absurd (cc)
is_number_kind Truth e = absurd (cc)

number_typed : (k : Kind) (s : ℕ) → is_number k ≡ true → number_type (typed_as k s) ≡ Some (typed_as Number s)
number_typed k s h = passes (is_number k) (typed_as k s) h ∙ ap (λ x. Some (typed_as x s)) (is_number_kind k h)

-- ---- literals and columns

pub number_good : (s : Scope) (role : Role) (l : List Aggregate) (n scale : ℕ) → Good s role l (t.typed_as Number scale (e.Number n scale))
number_good s role l n scale = record {
  type = λ at sees. type_Number at n scale;
  sides = stands_Number n scale role;
  columns = All-same (Declared s) (columns_in (e.Number n scale)) [] (columns_Number n scale) (All-nil (Declared s));
}

pub date_good : (s : Scope) (role : Role) (l : List Aggregate) (day : ℤ) → Good s role l (t.typed_as Date 0 (e.Date day))
date_good s role l day = record {
  type = λ at sees. type_Date at day;
  sides = stands_Date day role;
  columns = All-same (Declared s) (columns_in (e.Date day)) [] (columns_Date day) (All-nil (Declared s));
}

pub text_good : (s : Scope) (role : Role) (l : List Aggregate) (text : List ℕ) (at : ℕ) (x : Typed) → t.literal role text at ≡ Ok x → Good s role l x
text_good s Side l text at x is = subst (λ y. Good s Side l y) (ok_same (t.typed_as Text 0 (e.Text text)) x is) record {
  type = λ at sees. type_Text at text;
  sides = stands_Text text Side;
  columns = All-same (Declared s) (columns_in (e.Text text)) [] (columns_Text text) (All-nil (Declared s));
}
text_good s Alone l text at x is = absurd (cc)

abbrev pub column_of : ColumnRef → ColumnType → Typed
column_of c type = t.typed_as (kind_of type.kind) type.scale (e.Column c type)

pub found_good : (s : Scope) (role : Role) (l : List Aggregate) (c : ColumnRef) (type : ColumnType) → Declared s (c, type) → Good s role l (column_of c type)
found_good s role l c type found = record {
  type = λ at sees. type_Column at c type;
  sides = stands_Column c type role;
  columns = All-same (Declared s) (columns_in (e.Column c type)) ((c, type) ∷ []) (columns_Column c type) (All-cons (Declared s) (c, type) [] found (All-nil (Declared s)));
}

pub column_good : (s : Scope) (role : Role) (l : List Aggregate) (c : ColumnName) (x : Typed) → t.named s c ≡ Ok x → Good s role l x
unfolding t.named
column_good s role l c x is =
    let y = then_ok (column s c) t.column_typed x is in
    let f : Found = y.0 in
    subst (λ y. Good s role l y) (ok_same (column_of f.column f.type_) x y.2) (found_good s role l f.column f.type_ (column_stands s c f y.1))

-- ---- aggregates

-- an aggregate that is met, on a group
met_good : (s : Scope) (role : Role) (l m : List Aggregate) (kind : Kind) (scale : ℕ) (a : Aggregate) (x : Typed) → is_row s.level ≡ false → aggregate_type a ≡ Some (typed_as kind scale) → IsGood s.defs s.tables a → t.met kind scale a l ≡ Ok (x, m) → Grown s l m × Good s role m x
met_good s role l m kind scale a x group is h same =
    from_same s (Good s role) l (l ++ a ∷ []) m (t.typed_as kind scale (e.Aggregate (length l) scale)) x (grown_met s l a group h) record {
      type = λ at sees.
          let seen : Sees false (l ++ a ∷ []) at = subst (λ b. Sees b (l ++ a ∷ []) at) group sees in
          let stands_at : at (length l) ≡ Some (typed_as kind scale) = seen (length l) (typed_as kind scale) (types_last l a ∙ is) in
          type_Aggregate at (length l) scale
          ∙ (ap (λ o. with_type o (λ u. then_some (u.scale == scale) u)) stands_at
          ∙ passes (scale == scale) (typed_as kind scale) (eq-eqb scale scale refl));
      sides = stands_Aggregate (length l) scale role;
      columns = All-same (Declared s) (columns_in (e.Aggregate (length l) scale)) [] (columns_Aggregate (length l) scale) (All-nil (Declared s));
    } same

pub counted_good : (s : Scope) (role : Role) (l m : List Aggregate) (at : ℕ) (x : Typed) → t.counted s.level at l ≡ Ok (x, m) → Grown s l m × Good s role m x
unfolding t.counted
counted_good s role l m at x same =
    let a : Aggregate = record { kind = Count; argument = None } in
    let y = not_refused (is_row s.level) NestedAggregate at (t.met Number 0 a l) (x, m) same in
    met_good s role l m Number 0 a x y.0 refl record { is = record { type = refl; sides = λ b none. absurd (cc) }; declared = λ b none. absurd (cc) } y.1

folded_type_is : (of : Written) (k : Kind) (s : ℕ) → folds of k ≡ true → folded_type (t.aggregate_kind of) (typed_as k s) ≡ Some (typed_as (t.kind_folded of k) (t.scale_folded of s))
folded_type_is written.Count k s h = passes (not (is_truth k)) (typed_as Number 0) h
folded_type_is written.Sum k s h = number_typed k s h
folded_type_is written.Avg k s h = number_typed k s h
folded_type_is written.Min k s h = passes (not (is_truth k)) (typed_as k s) h
folded_type_is written.Max k s h = passes (not (is_truth k)) (typed_as k s) h

-- its argument is typed on rows
pub folded_good : (s : Scope) (role : Role) (l m : List Aggregate) (of : Written) (at : ℕ) (a x : Typed) → type_of no_aggregate a.value ≡ Some (typed_as a.kind a.scale) → stands a.value Alone ≡ true → All (Known s) (columns_in a.value) → t.folded s.level of at a l ≡ Ok (x, m) → Grown s l m × Good s role m x
unfolding t.folded
folded_good s role l m of at a x typed sides columns same =
    let g : Aggregate = record { kind = t.aggregate_kind of; argument = Some a.value } in
    let y = not_refused (not (folds of a.kind)) TypesDiffer at _ (x, m) same in
    let z = not_refused (is_row s.level) NestedAggregate at (t.met (t.kind_folded of a.kind) (t.scale_folded of a.scale) g l) (x, m) y.1 in
    let type : aggregate_type g ≡ Some (typed_as (t.kind_folded of a.kind) (t.scale_folded of a.scale)) = ap (λ o. with_type o (folded_type (t.aggregate_kind of))) typed ∙ folded_type_is of a.kind a.scale (not_false (folds of a.kind) y.0) in
    met_good s role l m (t.kind_folded of a.kind) (t.scale_folded of a.scale) g x z.0 type record {
      is = record { type = ap is_some type; sides = λ b same. subst (λ c. stands c Alone ≡ true) (some_same a.value b same) sides };
      declared = λ b same. subst (λ c. All (Known s) (columns_in c)) (some_same a.value b same) columns;
    } z.1

-- ---- operators

pub signed_good : (s : Scope) (role : Role) (l : List Aggregate) (sign : Sign) (at : ℕ) (a x : Typed) → Good s Alone l a → t.signed sign at a ≡ Ok x → Good s role l x
unfolding t.signed
signed_good s role l sign at a x h is =
    let y = not_refused (not (is_number a.kind)) TypesDiffer at _ x is in
    subst (λ z. Good s role l z) (ok_same (t.typed_as Number a.scale (e.Signed sign a.value)) x y.1) record {
      type = λ at sees. type_Signed at sign a.value ∙ (ap (λ o. with_type o number_type) (h.type at sees) ∙ number_typed a.kind a.scale (not_false (is_number a.kind) y.0));
      sides = stands_Signed sign a.value role ∙ h.sides;
      columns = All-same (Declared s) (columns_in (e.Signed sign a.value)) (columns_in a.value) (columns_Signed sign a.value) h.columns;
    }

pub negated_good : (s : Scope) (role : Role) (l : List Aggregate) (at : ℕ) (a x : Typed) → Good s Alone l a → t.negated at a ≡ Ok x → Good s role l x
unfolding t.negated
negated_good s role l at a x h is =
    let y = not_refused (not (is_truth a.kind)) TypesDiffer at _ x is in
    subst (λ z. Good s role l z) (ok_same (t.typed_as Truth 0 (e.Not a.value)) x y.1) record {
      type = λ at sees. type_Not at a.value ∙ (ap (λ o. with_type o not_type) (h.type at sees) ∙ passes (is_truth a.kind) truth (not_false (is_truth a.kind) y.0));
      sides = stands_Not a.value role ∙ h.sides;
      columns = All-same (Declared s) (columns_in (e.Not a.value)) (columns_in a.value) (columns_Not a.value) h.columns;
    }

pub binary_good : (s : Scope) (role : Role) (l : List Aggregate) (o : BinaryOp) (place : ℕ) (a b x : Typed) → Good s (role_in (family_of o)) l a → Good s (role_in (family_of o)) l b → t.binary o place a b ≡ Ok x → Good s role l x
unfolding t.binary
binary_good s role l o place a b x h g is =
    let y = not_refused (not (takes (family_of o) a.kind b.kind)) TypesDiffer place _ x is in
    let z = not_refused (not (scale_fits o a.scale b.scale)) ScaleTooLarge place _ x y.1 in
    let made = typed_as (makes (family_of o)) (binary_scale o a.scale b.scale) in
    let r = role_in (family_of o) in
    subst (λ z. Good s role l z) (ok_same (t.typed_as (makes (family_of o)) (binary_scale o a.scale b.scale) (e.Binary o a.value b.value)) x z.1) record {
      type = λ at sees.
          type_Binary at o a.value b.value
          ∙ (ap (λ p. with_type p (λ u. with_type (type_of at b.value) (binary_type o u))) (h.type at sees)
          ∙ (ap (λ p. with_type p (binary_type o (typed_as a.kind a.scale))) (g.type at sees)
          ∙ both_pass (takes (family_of o) a.kind b.kind) (scale_fits o a.scale b.scale) made (not_false (takes (family_of o) a.kind b.kind) y.0) (not_false (scale_fits o a.scale b.scale) z.0)));
      sides = stands_Binary o a.value b.value role ∙ and_both (stands a.value r) (stands b.value r) h.sides g.sides;
      columns = All-same (Declared s) (columns_in (e.Binary o a.value b.value)) (columns_in a.value ++ columns_in b.value) (columns_Binary o a.value b.value) (All-append (Declared s) (columns_in a.value) (columns_in b.value) h.columns g.columns);
    }

pub divided_good : (s : Scope) (role : Role) (l : List Aggregate) (place : ℕ) (a : Typed) (d : Divisor) (x : Typed) → Good s Alone l a → t.divided place a d ≡ Ok x → Good s role l x
unfolding t.divided
divided_good s role l place a d x h is =
    let y = not_refused (d.value == 0) ZeroDivisor d.value_at _ x is in
    let z = not_refused (not (is_number a.kind)) TypesDiffer place _ x y.1 in
    let sign = t.sign_or_plus d.sign in
    let number : is_number a.kind ≡ true = not_false (is_number a.kind) z.0 in
    subst (λ z. Good s role l z) (ok_same (t.typed_as Number a.scale (e.Divide a.value sign d.value)) x z.1) record {
      type = λ at sees.
          type_Divide at a.value sign d.value
          ∙ (ap (λ p. with_type p (λ u. then_some (not (d.value == 0) && is_number u.kind) u)) (h.type at sees)
          ∙ (both_pass (not (d.value == 0)) (is_number a.kind) (typed_as a.kind a.scale) (ap not y.0) number
          ∙ ap (λ k. Some (typed_as k a.scale)) (is_number_kind a.kind number)));
      sides = stands_Divide a.value sign d.value role ∙ h.sides;
      columns = All-same (Declared s) (columns_in (e.Divide a.value sign d.value)) (columns_in a.value) (columns_Divide a.value sign d.value) h.columns;
    }

pub between_good : (s : Scope) (role : Role) (l : List Aggregate) (p : Polarity) (place : ℕ) (a low high x : Typed) → Good s Side l a → Good s Side l low → Good s Side l high → t.between p place a low high ≡ Ok x → Good s role l x
unfolding t.between
between_good s role l p place a low high x h g k is =
    let y = not_refused (not (compare a.kind low.kind && compare a.kind high.kind)) TypesDiffer place _ x is in
    let both = not_false (compare a.kind low.kind && compare a.kind high.kind) y.0 in
    let u = typed_as a.kind a.scale in
    let v = typed_as low.kind low.scale in
    let w = typed_as high.kind high.scale in
    subst (λ z. Good s role l z) (ok_same (t.typed_as Truth 0 (e.Between p a.value low.value high.value)) x y.1) record {
      type = λ at sees.
          type_Between at p a.value low.value high.value
          ∙ (ap (λ o. with_type o (λ t. with_types (type_of at low.value ∷ type_of at high.value ∷ []) (tested_type t))) (h.type at sees)
          ∙ (ap (λ o. with_types (o ∷ type_of at high.value ∷ []) (tested_type u)) (g.type at sees)
          ∙ (ap (λ o. with_types (Some v ∷ o ∷ []) (tested_type u)) (k.type at sees)
          ∙ passes (list_all (compares_with u) (v ∷ w ∷ [])) truth (and_both (compare a.kind low.kind) (compare a.kind high.kind && true) (and_left (compare a.kind low.kind) (compare a.kind high.kind) both) (and_both (compare a.kind high.kind) true (and_right (compare a.kind low.kind) (compare a.kind high.kind) both) refl)))));
      sides = stands_Between p a.value low.value high.value role ∙ and_both (stands a.value Side) (stands low.value Side && stands high.value Side) h.sides (and_both (stands low.value Side) (stands high.value Side) g.sides k.sides);
      columns =
          All-same (Declared s) (columns_in (e.Between p a.value low.value high.value)) (columns_in a.value ++ (columns_in low.value ++ columns_in high.value)) (columns_Between p a.value low.value high.value)
          (All-append (Declared s) (columns_in a.value) (columns_in low.value ++ columns_in high.value) h.columns (All-append (Declared s) (columns_in low.value) (columns_in high.value) g.columns k.columns));
    }

pub null_test_good : (s : Scope) (role : Role) (l : List Aggregate) (p : Polarity) (place : ℕ) (a x : Typed) → Good s Alone l a → t.null_test p place a ≡ Ok x → Good s role l x
unfolding t.null_test
null_test_good s role l p place a x h is =
    let y = not_refused (is_truth a.kind) TypesDiffer place _ x is in
    subst (λ z. Good s role l z) (ok_same (t.typed_as Truth 0 (e.IsNull p a.value)) x y.1) record {
      type = λ at sees. type_IsNull at p a.value ∙ (ap (λ o. with_type o null_test_type) (h.type at sees) ∙ passes (not (is_truth a.kind)) truth (ap not y.0));
      sides = stands_IsNull p a.value role ∙ h.sides;
      columns = All-same (Declared s) (columns_in (e.IsNull p a.value)) (columns_in a.value) (columns_IsNull p a.value) h.columns;
    }

-- ---- lists of operands

abbrev pub GoodList : Scope → Role → List Aggregate → List Typed → Type 0
GoodList s role l ts = All (Good s role l) ts

abbrev data_type : Typed → DataType
data_type x = typed_as x.kind x.scale

list_types : (s : Scope) (role : Role) (l : List Aggregate) (ts : List Typed) (at : ℕ → Option DataType) → Sees (is_row s.level) l at → GoodList s role l ts → all_types (map (type_of at) (values ts)) ≡ Some (map data_type ts)
list_types s role l [] at sees h = refl
list_types s role l (x ∷ ts) at sees h =
    let first = All-head (Good s role l) x ts h in
    ap (λ o. all_types (o ∷ map (type_of at) (values ts))) (first.type at sees)
    ∙ ap (more_types (data_type x)) (list_types s role l ts at sees (All-tail (Good s role l) x ts h))

list_sides : (s : Scope) (role : Role) (l : List Aggregate) (ts : List Typed) → GoodList s role l ts → list_all (λ (b : Role → Bool). b role) (map stands (values ts)) ≡ true
list_sides s role l [] h = refl
list_sides s role l (x ∷ ts) h =
    let first = All-head (Good s role l) x ts h in
    and_both (stands x.value role) (list_all (λ (b : Role → Bool). b role) (map stands (values ts))) first.sides (list_sides s role l ts (All-tail (Good s role l) x ts h))

list_columns : (s : Scope) (role : Role) (l : List Aggregate) (ts : List Typed) → GoodList s role l ts → All (Declared s) (flat_map (λ b. b) (map columns_in (values ts)))
list_columns s role l [] h = All-nil (Declared s)
list_columns s role l (x ∷ ts) h =
    let first = All-head (Good s role l) x ts h in
    All-append (Declared s) (columns_in x.value) (flat_map (λ b. b) (map columns_in (values ts))) first.columns (list_columns s role l ts (All-tail (Good s role l) x ts h))

list_scales : (ts : List Typed) → map (λ b. b.scale) (map data_type ts) ≡ scales ts
list_scales [] = refl
list_scales (x ∷ ts) = ap (λ ns. x.scale ∷ ns) (list_scales ts)

pub among_good : (s : Scope) (role : Role) (l : List Aggregate) (p : Polarity) (place : ℕ) (a : Typed) (ts : List Typed) (x : Typed) → Good s Side l a → GoodList s Side l ts → t.among p place a ts ≡ Ok x → Good s role l x
unfolding t.among
among_good s role l p place a ts x h g is =
    let y = not_refused (not (list_all (t.compares_with a.kind) ts)) TypesDiffer place _ x is in
    let u = typed_as a.kind a.scale in
    subst (λ z. Good s role l z) (ok_same (t.typed_as Truth 0 (e.In p a.value (values ts))) x y.1) record {
      type = λ at sees.
          type_In at p a.value (values ts)
          ∙ (ap (λ o. with_type o (λ t. with_types (map (type_of at) (values ts)) (tested_type t))) (h.type at sees)
          ∙ (ap (option_and_then (tested_type u)) (list_types s Side l ts at sees g)
          ∙ passes (list_all (compares_with u) (map data_type ts)) truth (list_all-map (compares_with u) data_type ts ∙ not_false (list_all (t.compares_with a.kind) ts) y.0)));
      sides = stands_In p a.value (values ts) role ∙ and_both (stands a.value Side) (list_all (λ (b : Role → Bool). b Side) (map stands (values ts))) h.sides (list_sides s Side l ts g);
      columns =
          All-same (Declared s) (columns_in (e.In p a.value (values ts))) (columns_in a.value ++ flat_map (λ b. b) (map columns_in (values ts))) (columns_In p a.value (values ts))
          (All-append (Declared s) (columns_in a.value) (flat_map (λ b. b) (map columns_in (values ts))) h.columns (list_columns s Side l ts g));
    }

pub choice_good : (s : Scope) (role : Role) (l : List Aggregate) (place : ℕ) (a : Typed) (ts : List Typed) (x : Typed) → Good s Alone l a → GoodList s Alone l ts → t.choice place a ts ≡ Ok x → Good s role l x
unfolding t.choice
choice_good s role l place a ts x h g is =
    let y = not_refused (not (list_all (t.compares_with a.kind) (a ∷ ts))) TypesDiffer place _ x is in
    let u = typed_as a.kind a.scale in
    let same = not_false (list_all (t.compares_with a.kind) (a ∷ ts)) y.0 in
    subst (λ z. Good s role l z) (ok_same (t.typed_as a.kind (greatest a.scale (scales ts)) (e.Coalesce a.value (values ts))) x y.1) record {
      type = λ at sees.
          type_Coalesce at a.value (values ts)
          ∙ (ap (λ o. with_type o (λ t. with_types (map (type_of at) (values ts)) (choice_type t))) (h.type at sees)
          ∙ (ap (option_and_then (choice_type u)) (list_types s Alone l ts at sees g)
          ∙ (passes (list_all (compares_with u) (u ∷ map data_type ts)) (typed_as a.kind (greatest a.scale (map (λ b. b.scale) (map data_type ts)))) (ap (λ b. compare a.kind a.kind && b) (list_all-map (compares_with u) data_type ts) ∙ same)
          ∙ ap (λ ns. Some (typed_as a.kind (greatest a.scale ns))) (list_scales ts))));
      sides = stands_Coalesce a.value (values ts) role ∙ and_both (stands a.value Alone) (list_all (λ (b : Role → Bool). b Alone) (map stands (values ts))) h.sides (list_sides s Alone l ts g);
      columns =
          All-same (Declared s) (columns_in (e.Coalesce a.value (values ts))) (columns_in a.value ++ flat_map (λ b. b) (map columns_in (values ts))) (columns_Coalesce a.value (values ts))
          (All-append (Declared s) (columns_in a.value) (flat_map (λ b. b) (map columns_in (values ts))) h.columns (list_columns s Alone l ts g));
    }
