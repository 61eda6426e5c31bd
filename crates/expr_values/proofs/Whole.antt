-- An expression's code leaves its value, by induction over the expression; and so the steps of the whole do.
use Rattle.std.proofs.Common.{◌≡◌, ℕ, ◌+◌, ◌-◌, ◌==◌, ℤ, pos, is_some, Bool, true, false, not, ◌&&◌, List, [], ◌∷◌, ◌++◌, map, length, get_or, Option, Some, None, Result, Ok, Err, IfOk, IsOkAnd, refl, sym, ap, ◌∙◌, subst, arith, length-append}
use Rattle.std.specs.Bool.{then_some}
use Rattle.std.specs.List.{list_all}
use Rattle.std.specs.Option.{option_and_then}
use Rattle.control_vectors.specs.Slots.{Slot, Cell}
use Rattle.control_vectors.specs.declared.Over.{Over}
use Rattle.control_vectors.specs.declared.PairKind.TheVariants as pair
use Rattle.slot_wise.specs.Pairs.{pair_slot}
use Rattle.query_trees.specs.declared.expr.BinaryOp.{BinaryOp}
use Rattle.query_trees.specs.declared.expr.BinaryOp.TheVariants as op
use Rattle.query_trees.specs.declared.expr.Polarity.{Polarity}
use Rattle.query_trees.specs.declared.expr.Sign.{Sign}
use Rattle.table_load.specs.Databases.{coded}
use Rattle.typed_trees.specs.declared.kinds.Kind.{Kind}
use Rattle.typed_trees.specs.declared.kinds.Kind.TheVariants.{Number, Date, Text, Truth}
use Rattle.typed_trees.specs.declared.kinds.Role.{Role}
use Rattle.typed_trees.specs.declared.kinds.Role.TheVariants.{Side, Alone}
use Rattle.typed_trees.specs.declared.typed.ColumnRef.{ColumnRef}
use Rattle.typed_trees.specs.declared.typed.ColumnType.{ColumnType}
use Rattle.typed_trees.specs.declared.typed.TypedExpr.{TypedExpr, roll-TypedExpr}
use Rattle.typed_trees.specs.declared.typed.TypedExpr.TheOpen.{TypedExpr-F}
use Rattle.typed_trees.specs.declared.typed.TypedExpr.TheFolds.{map-TypedExpr, ind-TypedExpr}
use Rattle.typed_trees.specs.Kinds.{is_number, is_truth, same_kind, family_of, role_in, takes, makes}
use Rattle.typed_trees.specs.Scales.{binary_scale, greatest, scale_of}
use Rattle.typed_trees.specs.Sides.{form_stands, stands}
use Rattle.typed_trees.specs.Types.{DataType, typed_as, truth as truth_type, number_type, not_type, scale_fits, binary_type, compares_with, tested_type, null_test_type, choice_type, all_types, with_types, form_type, type_of}
use Rattle.typed_trees.proofs.Inversions.{some_same, passed, chosen, first_typed}
use Rattle.typed_trees.proofs.SideForms.{stands_roll}
use Rattle.typed_trees.proofs.TypeForms.{type_roll}
use Rattle.typed_values.specs.Values.{Valued, On, Operand, with, exact, by_polarity, among, all_at_one_scale, first_there, value}
use Rattle.typed_values.proofs.Evaluations.{evaluated, value_roll}
use Rattle.value_laws.specs.Laws.{IsOf, KindLaw}
use Rattle.expr_steps.specs.declared.steps.Source.TheVariants.{Made, Column, Aggregate}
use Rattle.expr_steps.specs.Codes.{Code, from_source, one, and_then}
use Rattle.expr_steps.specs.Lowered.{Bytes, Part, text_number, literal_of, part_of, lowered, constants, steps_of}
use Rattle.expr_steps.specs.Lowered as codes
use Rattle.expr_steps.proofs.Forms.{lowered_roll}
use Rattle.expr_values.specs.Laws.{is_known, StandsFor, CanStand, value_slot, StandsAt, value_cell, IsLowerable, ValueLaw, KnownLaw}
use Rattle.expr_values.specs.Places.{Place, with_cell, made_by, last_cell}
use Rattle.expr_values.specs.Written.{fits_127, is_scale, is_written}
use Rattle.expr_values.proofs.Codes.{Begins, Makes, Gives, then_cell, then_made, made_append, next_number, now, source_gives, one_gives, then_gives, as_cell}
use Rattle.expr_values.proofs.Names.{column_named, aggregate_named}
use Rattle.expr_values.proofs.Texts.{number_fits}
use Rattle.expr_values.proofs.Numbers.{slot_itself, slot_equal}
use Rattle.expr_values.proofs.Scales.{and_left, and_right, same_is, written_roll}
use Rattle.expr_values.proofs.Operands.{part_cell, IsText}
use Rattle.expr_values.proofs.Between.{between_gives}
use Rattle.expr_values.proofs.Lists.{member_part, among_none, among_gives}
use Rattle.expr_values.proofs.Choices.{Sole, sole_part, sole_operand, choice_gives, choice_known}
use Rattle.expr_values.proofs.Fits.{World, Fits, ColumnFits, AggregateFits, one_fits, left_fits, right_fits, tested_fits, least_fits, most_fits, in_first_fits, in_others_fit, choice_first_fits, choice_others_fit}
use Rattle.expr_values.proofs.Sound.{literal_roll, alone_literal, Done, Sound, ReadyAt, ready, alone, as_kind, Elements, exprs, Gathered, gathered, alones, plain_part, texty, known_of, value_at, done_form}
use Rattle.expr_values.proofs.Forms.{literal_gives, fits_is, number_gives, sign_form, not_form, quotient_form, null_form, binary_form}

-- ---- layers

sound_by : (w : World) (d : TypedExpr-F TypedExpr) → ((t : DataType) (role : Role) → form_type w.at (map-TypedExpr TypedExpr (Option DataType) (type_of w.at) d) ≡ Some t → form_stands (map-TypedExpr TypedExpr (Role → Bool) stands d) role ≡ true → Fits w (roll-TypedExpr d) → IsOf t.kind (value_at w d) →
    Done w (roll-TypedExpr d)) → Sound w (roll-TypedExpr d)
sound_by w d h t role is s f =
    h t role (sym (type_roll w.at d) ∙ is) (sym (ap (λ (g : Role → Bool). g role) (stands_roll d)) ∙ s) f
    (subst (λ (r : Valued). IsOf t.kind r) (value_roll w.on d) (w.kinds w.at w.on (roll-TypedExpr d) t is (record { columns = f.columns; aggregates = w.aggregates })))

not_texty : (u t : DataType) → u ≡ t → texty u.kind ≡ false → texty t.kind ≡ false
not_texty u t e h = subst (λ (x : DataType). texty x.kind ≡ false) e h

number_not : (k : Kind) → is_number k ≡ true → texty k ≡ false
number_not Number h = refl
number_not Date h = absurd (cc)
number_not Text h = absurd (cc)
number_not Truth h = absurd (cc)

made_not : (o : BinaryOp) → texty (makes (family_of o)) ≡ false
made_not op.Or = refl
made_not op.And = refl
made_not op.Equal = refl
made_not op.Differs = refl
made_not op.Less = refl
made_not op.LessEqual = refl
made_not op.Greater = refl
made_not op.GreaterEqual = refl
made_not op.Add = refl
made_not op.Subtract = refl
made_not op.Multiply = refl

-- ---- leaves

number_sound : (w : World) (n scale : ℕ) → Sound w (roll-TypedExpr (TypedExpr-F.Number n scale))
number_sound w n scale =
    let d = TypedExpr-F.Number n scale in
    sound_by w d (λ t role e s f of. done_form w d refl (known_of w.texts t.kind (exact (pos n)) (not_texty (typed_as Number scale) t (some_same (typed_as Number scale) t e) refl) of)
    (number_gives w.texts w.place n (and_left (fits_127 n) (is_scale scale) (sym (written_roll d) ∙ f.written))))

text_sound : (w : World) (t : List ℕ) → Sound w (roll-TypedExpr (TypedExpr-F.Text t))
text_sound w t type role is s f =
    let d = TypedExpr-F.Text t in
    let e = roll-TypedExpr d in
    record {
      text = subst (λ (l : Option Bytes). IsText w.texts l (value w.on e)) (sym (literal_roll d)) (value_roll w.on d);
      gives = λ made b. subst (λ (l : Option Bytes). Gives w.place made (lowered w.texts e) (part_cell w.texts l (value w.on e))) (sym (literal_roll d))
          (subst (λ (m : Code). Gives w.place made m (Ok (Some (text_number w.texts t)))) (sym (lowered_roll w.texts d)) (literal_gives w.place (text_number w.texts t) (number_fits w.texts t w.few) made b));
    }

date_sound : (w : World) (day : ℤ) → Sound w (roll-TypedExpr (TypedExpr-F.Date day))
date_sound w day = let d = TypedExpr-F.Date day in sound_by w d (λ t role e s f of. done_form w d refl refl (literal_gives w.place day (fits_is day (sym (written_roll d) ∙ f.written))))

column_sound : (w : World) (c : ColumnRef) (type : ColumnType) → Sound w (roll-TypedExpr (TypedExpr-F.Column c type))
column_sound w c type =
    let d = TypedExpr-F.Column c type in
    sound_by w d (λ t role e s f of.
    let there = column_named (ColumnFits w) (AggregateFits w) c type f.names in
    done_form w d refl there.0 (λ made b. source_gives w.place made (Column c) (coded w.texts (w.on.column c)) (λ more. there.1)))

aggregate_sound : (w : World) (n scale : ℕ) → Sound w (roll-TypedExpr (TypedExpr-F.Aggregate n scale))
aggregate_sound w n scale =
    let d = TypedExpr-F.Aggregate n scale in
    sound_by w d (λ t role e s f of.
    let there = aggregate_named (ColumnFits w) (AggregateFits w) n scale f.names in
    done_form w d refl (known (w.on.aggregate n) there) (λ made b. stands_there made (w.on.aggregate n) there))
  where
    known : (r : Valued) → StandsFor w.texts (w.place.aggregate n) r → IfOk r (λ v. is_known w.texts v ≡ true)
    known (Ok v) h = h.1
    known (Err e) h = tt

    stands_there : (made : List Slot) (r : Valued) → StandsFor w.texts (w.place.aggregate n) r → Gives w.place made (from_source (Aggregate n)) (value_cell w.texts r)
    stands_there made (Ok v) h = source_gives w.place made (Aggregate n) (coded w.texts v) (λ more. h.0)
    stands_there made (Err e) h = absurd h

-- ---- one operand

sign_sound : (w : World) (s : Sign) (x : TypedExpr) → Sound w x → Sound w (roll-TypedExpr (TypedExpr-F.Signed s x))
sign_sound w s x sound =
    let d = TypedExpr-F.Signed s x in
    sound_by w d (λ t role e side f of.
    let found = chosen (type_of w.at x) number_type t e in
    let is = passed (is_number found.0.kind) found.0 t found.2 in
    let r = alone w x found.0.kind side (ready w x found.0 Alone sound found.1 side (one_fits w x d (λ h. h) (λ h. h) (λ column aggregate h. h) f)) in
    done_form w d refl (known_of w.texts t.kind (value_at w d) (not_texty found.0 t is.1 (number_not found.0.kind is.0)) of) (sign_form w s x found.0.kind is.0 r))

not_sound : (w : World) (x : TypedExpr) → Sound w x → Sound w (roll-TypedExpr (TypedExpr-F.Not x))
not_sound w x sound =
    let d = TypedExpr-F.Not x in
    sound_by w d (λ t role e side f of.
    let found = chosen (type_of w.at x) not_type t e in
    let is = passed (is_truth found.0.kind) truth_type t found.2 in
    let r = alone w x found.0.kind side (ready w x found.0 Alone sound found.1 side (one_fits w x d (λ h. h) (λ h. h) (λ column aggregate h. h) f)) in
    done_form w d refl (known_of w.texts t.kind (value_at w d) (not_texty truth_type t is.1 refl) of) (not_form w x found.0.kind is.0 r))

quotient_sound : (w : World) (x : TypedExpr) (s : Sign) (n : ℕ) → Sound w x → Sound w (roll-TypedExpr (TypedExpr-F.Divide x s n))
quotient_sound w x s n sound =
    let d = TypedExpr-F.Divide x s n in
    sound_by w d (λ t role e side f of.
    let found = chosen (type_of w.at x) (λ (u : DataType). then_some (not (n == 0) && is_number u.kind) u) t e in
    let is = passed (not (n == 0) && is_number found.0.kind) found.0 t found.2 in
    let kind = and_right (not (n == 0)) (is_number found.0.kind) is.0 in
    let r = alone w x found.0.kind side (ready w x found.0 Alone sound found.1 side (one_fits w x d (and_right (fits_127 n) (is_written x)) (λ h. h) (λ column aggregate h. h) f)) in
    done_form w d refl (known_of w.texts t.kind (value_at w d) (not_texty found.0 t is.1 (number_not found.0.kind kind)) of)
    (quotient_form w x s n found.0.kind (and_left (fits_127 n) (is_written x) (sym (written_roll d) ∙ f.written)) (and_left (not (n == 0)) (is_number found.0.kind) is.0) kind r))

null_sound : (w : World) (p : Polarity) (x : TypedExpr) → Sound w x → Sound w (roll-TypedExpr (TypedExpr-F.IsNull p x))
null_sound w p x sound =
    let d = TypedExpr-F.IsNull p x in
    sound_by w d (λ t role e side f of.
    let found = chosen (type_of w.at x) null_test_type t e in
    let is = passed (not (is_truth found.0.kind)) truth_type t found.2 in
    let r = alone w x found.0.kind side (ready w x found.0 Alone sound found.1 side (one_fits w x d (λ h. h) (λ h. h) (λ column aggregate h. h) f)) in
    done_form w d refl (known_of w.texts t.kind (value_at w d) (not_texty truth_type t is.1 refl) of) (null_form w p x found.0.kind r))

-- ---- two and three operands

binary_sound : (w : World) (o : BinaryOp) (x y : TypedExpr) → Sound w x → Sound w y → Sound w (roll-TypedExpr (TypedExpr-F.Binary o x y))
binary_sound w o x y first second =
    let d = TypedExpr-F.Binary o x y in
    let role_of = role_in (family_of o) in
    sound_by w d (λ t role e side f of.
    let left = chosen (type_of w.at x) (λ s. option_and_then (binary_type o s) (type_of w.at y)) t e in
    let right = chosen (type_of w.at y) (binary_type o left.0) t left.2 in
    let made = typed_as (makes (family_of o)) (binary_scale o left.0.scale right.0.scale) in
    let is = passed (takes (family_of o) left.0.kind right.0.kind && scale_fits o left.0.scale right.0.scale) made t right.2 in
    let s = and_left (stands x role_of) (stands y role_of) side in
    let u = and_right (stands x role_of) (stands y role_of) side in
    done_form w d refl (known_of w.texts t.kind (value_at w d) (not_texty made t is.1 (made_not o)) of)
    (binary_form w o x y left.0.kind right.0.kind (and_left (takes (family_of o) left.0.kind right.0.kind) (scale_fits o left.0.scale right.0.scale) is.0) s u
    (ready w x left.0 role_of first left.1 s (left_fits w o x y f)) (ready w y right.0 role_of second right.1 u (right_fits w o x y f))))

same_compared : (s u : DataType) → compares_with s u ≡ true → (s.kind ≡ u.kind) × (not (is_truth s.kind) ≡ true)
same_compared s u h = (same_is s.kind u.kind (and_left (same_kind s.kind u.kind) (not (is_truth s.kind)) h), and_right (same_kind s.kind u.kind) (not (is_truth s.kind)) h)

-- the types of two operands
two_typed : (a b : Option DataType) (ts : List DataType) → all_types (a ∷ b ∷ []) ≡ Some ts → (u : DataType) × (v : DataType) × (a ≡ Some u) × (b ≡ Some v) × (u ∷ v ∷ [] ≡ ts)
two_typed a b ts e =
    let low = first_typed a (b ∷ []) ts e in
    let high = first_typed b [] low.1 low.3 in
    (low.0, high.0, low.2, high.2, (λ i. low.0 ∷ high.0 ∷ some_same [] high.1 high.3 i) ∙ (ap (λ (l : List DataType). low.0 ∷ l) high.4 ∙ low.4))

between_sound : (w : World) (p : Polarity) (x y z : TypedExpr) → Sound w x → Sound w y → Sound w z → Sound w (roll-TypedExpr (TypedExpr-F.Between p x y z))
between_sound w p x y z a b c =
    let d = TypedExpr-F.Between p x y z in
    sound_by w d (λ t role e side f of.
    let types = type_of w.at y ∷ type_of w.at z ∷ [] in
    let found = chosen (type_of w.at x) (λ s. with_types types (tested_type s)) t e in
    let s = found.0 in
    let others = chosen (all_types types) (tested_type s) t found.2 in
    let is = passed (list_all (compares_with s) others.0) truth_type t others.2 in
    let two_are = two_typed (type_of w.at y) (type_of w.at z) others.0 others.1 in
    let low = two_are.0 in
    let high = two_are.1 in
    let alike : list_all (compares_with s) (low ∷ high ∷ []) ≡ true = ap (list_all (compares_with s)) two_are.4 ∙ is.0 in
    let more = and_right (compares_with s low) (list_all (compares_with s) (high ∷ [])) alike in
    let below = same_compared s low (and_left (compares_with s low) (list_all (compares_with s) (high ∷ [])) alike) in
    let above = same_compared s high (and_left (compares_with s high) true more) in
    let sx = and_left (stands x Side) (stands y Side && stands z Side) side in
    let rest = and_right (stands x Side) (stands y Side && stands z Side) side in
    let sy = and_left (stands y Side) (stands z Side) rest in
    let sz = and_right (stands y Side) (stands z Side) rest in
    done_form w d refl (known_of w.texts t.kind (value_at w d) (not_texty truth_type t is.1 refl) of)
    (between_gives w.texts w.place s.kind p (literal_of x) (literal_of y) (literal_of z) (scale_of x) (scale_of y) (scale_of z) (value w.on x) (value w.on y) (value w.on z) (lowered w.texts x) (lowered w.texts y) (lowered w.texts z) w.few below.1
    (ready w x s Side a found.1 sx (tested_fits w p x y z f))
    (as_kind w y s.kind low.kind (literal_of y) (sym below.0) (ready w y low Side b two_are.2 sy (least_fits w p x y z f)))
    (as_kind w z s.kind high.kind (literal_of z) (sym above.0) (ready w z high Side c two_are.3 sz (most_fits w p x y z f)))))

-- ---- lists of operands

abbrev in_gives : World → Polarity → TypedExpr → List TypedExpr → Type 0
in_gives w p x ys = (made : List Slot) → Begins w.place made → Gives w.place made (codes.among w.texts p (part_of w.texts x) (map (part_of w.texts) ys)) (value_cell w.texts (with (among (evaluated w.on x) (map (evaluated w.on) ys)) (λ v. Ok (by_polarity p v))))

in_form : (w : World) (p : Polarity) (x : TypedExpr) (ys : Elements w) (s : DataType) (ts : List DataType) → ReadyAt w s.kind (literal_of x) x → all_types (map (type_of w.at) (exprs w ys)) ≡ Some ts → list_all (compares_with s) ts ≡ true → Gathered w s.kind (exprs w ys) → in_gives w p x (exprs w ys)
in_form w p x [] s ts r e c g = among_none w.texts w.place s.kind p (literal_of x) (scale_of x) (value w.on x) (lowered w.texts x) r
in_form w p x (y ∷ ys) s ts r e c g =
    let found = first_typed (type_of w.at y.0) (map (type_of w.at) (exprs w ys)) ts e in
    let alike : list_all (compares_with s) (found.0 ∷ found.1) ≡ true = ap (list_all (compares_with s)) found.4 ∙ c in
    let truthless = same_compared s found.0 (and_left (compares_with s found.0) (list_all (compares_with s) found.1) alike) in
    let whole = among_gives w.texts w.place s.kind p (literal_of x) (scale_of x) (value w.on x) (lowered w.texts x) r g.members w.few truthless.1 in
    λ made b. subst (λ (l : List Part). Gives w.place made (codes.among w.texts p (part_of w.texts x) l) (value_cell w.texts (with (among (evaluated w.on x) (map (evaluated w.on) (exprs w (y ∷ ys)))) (λ v. Ok (by_polarity p v))))) (sym g.parts)
    (subst (λ (l : List Operand). Gives w.place made (codes.among w.texts p (part_of w.texts x) (map (member_part w.texts w.place s.kind) g.members)) (value_cell w.texts (with (among (evaluated w.on x) l) (λ v. Ok (by_polarity p v))))) (sym g.operands) (whole made b))

in_sound : (w : World) (p : Polarity) (x : TypedExpr) (ys : Elements w) → Sound w x → Sound w (roll-TypedExpr (TypedExpr-F.In p x (exprs w ys)))
in_sound w p x ys sound =
    let d = TypedExpr-F.In p x (exprs w ys) in
    let all_sides = list_all (λ (f : Role → Bool). f Side) (map stands (exprs w ys)) in
    sound_by w d (λ t role e side f of.
    let types = map (type_of w.at) (exprs w ys) in
    let found = chosen (type_of w.at x) (λ s. with_types types (tested_type s)) t e in
    let s = found.0 in
    let others = chosen (all_types types) (tested_type s) t found.2 in
    let is = passed (list_all (compares_with s) others.0) truth_type t others.2 in
    let sx = and_left (stands x Side) all_sides side in
    let r = ready w x s Side sound found.1 sx (in_first_fits w p x (exprs w ys) f) in
    let g = gathered w s ys others.0 others.1 is.0 (and_right (stands x Side) all_sides side) (in_others_fit w p x (exprs w ys) f) in
    done_form w d refl (known_of w.texts t.kind (value_at w d) (not_texty truth_type t is.1 refl) of) (in_form w p x ys s others.0 r others.1 is.0 g))

choice_sound : (w : World) (x : TypedExpr) (ys : Elements w) → Sound w x → Sound w (roll-TypedExpr (TypedExpr-F.Coalesce x (exprs w ys)))
choice_sound w x ys sound =
    let d = TypedExpr-F.Coalesce x (exprs w ys) in
    let all_alone = list_all (λ (f : Role → Bool). f Alone) (map stands (exprs w ys)) in
    sound_by w d (λ t role e side f of.
    let types = map (type_of w.at) (exprs w ys) in
    let found = chosen (type_of w.at x) (λ s. with_types types (choice_type s)) t e in
    let s = found.0 in
    let others = chosen (all_types types) (choice_type s) t found.2 in
    let ts = others.0 in
    let is = passed (list_all (compares_with s) (s ∷ ts)) (typed_as s.kind (greatest s.scale (map (λ (b : DataType). b.scale) ts))) t others.2 in
    let truthless = and_right (same_kind s.kind s.kind) (not (is_truth s.kind)) (and_left (compares_with s s) (list_all (compares_with s) ts) is.0) in
    let sx = and_left (stands x Alone) all_alone side in
    let r = alone w x s.kind sx (ready w x s Alone sound found.1 sx (choice_first_fits w x (exprs w ys) f)) in
    let g = alones w s ys ts others.1 (and_right (compares_with s s) (list_all (compares_with s) ts) is.0) (and_right (stands x Alone) all_alone side) (choice_others_fit w x (exprs w ys) f) in
    let first : Sole w.texts w.place s.kind = record { scale = scale_of x; value = value w.on x; code = lowered w.texts x; ready = r } in
    done_form w d refl
    (subst (λ (l : List Operand). IfOk (with (all_at_one_scale (evaluated w.on x) l) (λ vs. Ok (first_there vs))) (λ v. is_known w.texts v ≡ true)) (sym g.operands) (choice_known w.texts w.place s.kind first g.members))
    (λ made b. subst (λ (l : List Operand). Gives w.place made (codes.choice (part_of w.texts x) (map (part_of w.texts) (exprs w ys))) (value_cell w.texts (with (all_at_one_scale (evaluated w.on x) l) (λ vs. Ok (first_there vs))))) (sym g.operands)
    (subst (λ (l : List Part). Gives w.place made (codes.choice (part_of w.texts x) l) (value_cell w.texts (with (all_at_one_scale (evaluated w.on x) (map (sole_operand w.texts w.place s.kind) g.members)) (λ vs. Ok (first_there vs))))) (sym g.parts)
    (subst (λ (q : Part). Gives w.place made (codes.choice q (map (sole_part w.texts w.place s.kind) g.members)) (value_cell w.texts (with (all_at_one_scale (evaluated w.on x) (map (sole_operand w.texts w.place s.kind) g.members)) (λ vs. Ok (first_there vs))))) (sym (plain_part w s.kind x sx))
    (choice_gives w.texts w.place s.kind first g.members truthless made b)))))

-- ---- the induction

by_layer : (w : World) (y : TypedExpr-F ((e : TypedExpr) × Sound w e)) → Sound w (roll-TypedExpr (map-TypedExpr ((e : TypedExpr) × Sound w e) TypedExpr (λ x. x.0) y))
by_layer w (TypedExpr-F.Number n scale) = number_sound w n scale
by_layer w (TypedExpr-F.Text t) = text_sound w t
by_layer w (TypedExpr-F.Date day) = date_sound w day
by_layer w (TypedExpr-F.Column c type) = column_sound w c type
by_layer w (TypedExpr-F.Aggregate n scale) = aggregate_sound w n scale
by_layer w (TypedExpr-F.Signed s x) = sign_sound w s x.0 x.1
by_layer w (TypedExpr-F.Not x) = not_sound w x.0 x.1
by_layer w (TypedExpr-F.Binary o x y) = binary_sound w o x.0 y.0 x.1 y.1
by_layer w (TypedExpr-F.Divide x s n) = quotient_sound w x.0 s n x.1
by_layer w (TypedExpr-F.Between p x y z) = between_sound w p x.0 y.0 z.0 x.1 y.1 z.1
by_layer w (TypedExpr-F.In p x ys) = in_sound w p x.0 ys x.1
by_layer w (TypedExpr-F.IsNull p x) = null_sound w p x.0 x.1
by_layer w (TypedExpr-F.Coalesce x ys) = choice_sound w x.0 ys x.1

all_sound : (w : World) (e : TypedExpr) → Sound w e
all_sound w = ind-TypedExpr (Sound w) (λ x y is. subst (λ z. Sound w (roll-TypedExpr z)) is (by_layer w y))

-- ---- the steps of the whole

abbrev two : List Slot
two = Some (pos 0) ∷ Some (pos 1) ∷ []

two_begin : (p : Place) → Begins p two
two_begin p = record { zero = λ more. refl; unit = λ more. refl }

abbrev last_code : Code → Code
last_code m = and_then m (λ x. one pair.Fill x x)

fill_itself : (s : Slot) → pair_slot pair.Fill s s ≡ Ok s
fill_itself None = refl
fill_itself (Some z) = refl

last_same : (r : Cell) → then_cell r (λ s. pair_slot pair.Fill s s) ≡ r
last_same (Ok s) = fill_itself s
last_same (Err e) = refl

last_gives : (p : Place) (m : Code) (r : Cell) → Gives p two m r → Gives p two (last_code m) r
last_gives p m r g = as_cell p two (last_code m) (then_cell r (λ s. pair_slot pair.Fill s s)) r (last_same r) (then_gives p two m (λ x. one pair.Fill x x) r (λ s. pair_slot pair.Fill s s) g (λ l later x s is i. one_gives p l pair.Fill x x s s i i))

last_place : (p : Place) (m : Code) (s : Slot) (h : Makes p two (last_code m 2) s) → length (two ++ h.new) - 1 ≡ 2 + length (m 2).steps
last_place p m s h =
    let all = next_number p two (last_code m 2) s h in
    let more = length-append (m 2).steps ((one pair.Fill (m 2).result (m 2).result (2 + length (m 2).steps)).steps) in
    omega (arith, all, more)

last_is : (p : Place) (m : Code) (r : Cell) → Gives p two (last_code m) r → last_cell (made_by p (last_code m 2).steps two) ≡ r
last_is p m (Ok s) h =
    ap last_cell h.is
    ∙ ap (λ (x : Slot). Ok x) (ap (λ (n : ℕ). get_or (two ++ h.new) n None) (last_place p m s h) ∙ now p (two ++ h.new) (Made (2 + length (m 2).steps)) s h.stands)
last_is p m (Err e) h = ap last_cell h

mark_there : (p : Place) (mark : Slot) → p.mark ≡ mark → is_some mark ≡ true → made_by p constants [] ≡ Ok two
mark_there p None e h = absurd (cc)
mark_there p (Some z) e h =
    (λ i. with_cell [] (pair_slot pair.Greater (e i) (e i)) (λ l. with_cell l (pair_slot pair.Equals (e i) (e i)) (λ k. Ok k)))
    ∙ (λ i. with_cell [] (slot_itself z i) (λ l. with_cell l (slot_equal z i) (λ k. Ok k)))

-- ---- the laws

standing : (texts : List Bytes) (s : Slot) (r : Valued) → IsOkAnd r (λ v. is_known texts v ≡ true) → s ≡ value_slot texts r → StandsFor texts s r
standing texts s (Ok v) h e = (e, h)
standing texts s (Err x) h e = h

done : KindLaw → (texts : List Bytes) (at : ℕ → Option DataType) (on : On) (p : Place) (e : TypedExpr) (low : IsLowerable at e) (can : CanStand texts at on e) → StandsAt texts on p e →
    (IfOk (value on e) (λ v. is_known texts v ≡ true)) × (Gives p two (lowered texts e) (value_cell texts (value on e)))
done kinds texts at on p e low can st =
    let w : World = record { texts = texts; at = at; on = on; place = p; few = can.few; scaled = low.aggregates; kinds = kinds; aggregates = can.types.aggregates } in
    let f : Fits w e = record {
      written = low.written;
      columns = can.types.columns;
      names = record { columns = λ c is. (can.columns c is, st.columns c is); aggregates = λ n is. standing texts (p.aggregate n) (on.aggregate n) (can.aggregates n is) (st.aggregates n is) };
    } in
    let is = all_sound w e low.type Alone low.is low.sides f in
    let plain = alone_literal e low.sides in
    (subst (λ (l : Option Bytes). IsText texts l (value on e)) plain is.text, subst (λ (l : Option Bytes). Gives p two (lowered texts e) (part_cell texts l (value on e))) plain (is.gives two (two_begin p)))

pub value_law : KindLaw → ValueLaw
value_law kinds texts at on p e low can st =
    let tail = (last_code (lowered texts e) 2).steps in
    let whole = last_gives p (lowered texts e) (value_cell texts (value on e)) (done kinds texts at on p e low can st).1 in
    ap last_cell (made_append p constants tail [] ∙ ap (λ (r : Result (List Slot) Over). then_made r (made_by p tail)) (mark_there p p.mark refl st.mark))
    ∙ last_is p (lowered texts e) (value_cell texts (value on e)) whole

-- a place where it stands
standing_place : List Bytes → On → Place
standing_place texts on = record { mark = Some (pos 0); column = λ c. coded texts (on.column c); aggregate = λ n. value_slot texts (on.aggregate n) }

pub known_law : KindLaw → KnownLaw
unfolding standing_place
known_law kinds texts at on e low can =
    let st : StandsAt texts on (standing_place texts on) e = record { mark = refl; columns = λ c is. refl; aggregates = λ n is. refl } in
    (done kinds texts at on (standing_place texts on) e low can st).0
