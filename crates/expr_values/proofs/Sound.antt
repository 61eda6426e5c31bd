-- Expressions whose code leaves their value, as operands of greater ones.
use Rattle.std.proofs.Common.{◌≡◌, ℕ, Bool, true, false, not, List, [], ◌∷◌, map, Option, Some, None, Ok, Err, IfOk, refl, sym, ap, ◌∙◌, subst}
use Rattle.std.specs.List.{list_all}
use Rattle.control_vectors.specs.Slots.{Slot}
use Rattle.sql_values.specs.Values.{number, text, truth, null}
use Rattle.typed_trees.specs.declared.kinds.Kind.{Kind}
use Rattle.typed_trees.specs.declared.kinds.Kind.TheVariants.{Number, Date, Text, Truth}
use Rattle.typed_trees.specs.declared.kinds.Role.{Role}
use Rattle.typed_trees.specs.declared.kinds.Role.TheVariants.{Side, Alone}
use Rattle.typed_trees.specs.declared.typed.TypedExpr.{TypedExpr, roll-TypedExpr}
use Rattle.typed_trees.specs.declared.typed.TypedExpr.TheOpen.{TypedExpr-F}
use Rattle.typed_trees.specs.declared.typed.TypedExpr.TheFolds.{map-TypedExpr, ind-TypedExpr, fold-roll-TypedExpr}
use Rattle.typed_trees.specs.Kinds.{is_truth, same_kind}
use Rattle.typed_trees.specs.Scales.{scale_of}
use Rattle.typed_trees.specs.Sides.{stands}
use Rattle.typed_trees.specs.Types.{DataType, compares_with, all_types, type_of}
use Rattle.typed_trees.proofs.Inversions.{first_typed}
use Rattle.typed_trees.proofs.Scaled.{scale_law}
use Rattle.typed_trees.proofs.SideForms.{stands_roll}
use Rattle.typed_values.specs.Values.{Valued, Operand, form_value, value}
use Rattle.typed_values.proofs.Evaluations.{evaluated, value_roll}
use Rattle.value_laws.specs.Laws.{IsOf}
use Rattle.expr_steps.specs.Codes.{Code}
use Rattle.expr_steps.specs.Lowered.{Bytes, Part, form_literal, literal_of, form_code, part_of, lowered}
use Rattle.expr_steps.proofs.Forms.{lowered_roll}
use Rattle.expr_values.specs.Laws.{is_known, value_cell}
use Rattle.expr_values.specs.Written.{kind_scale}
use Rattle.expr_values.proofs.Codes.{Begins, Gives}
use Rattle.expr_values.proofs.Fits.{World, Fits, AllFit, first_fits, later_fit}
use Rattle.expr_values.proofs.Operands.{part_cell, IsText, Ready}
use Rattle.expr_values.proofs.Scales.{and_left, and_right, same_is, scaled_types}
use Rattle.expr_values.proofs.Lists.{Member, member_part, member_operand}
use Rattle.expr_values.proofs.Choices.{Sole, sole_part, sole_operand}

-- ---- text literals

pub literal_roll : (d : TypedExpr-F TypedExpr) → literal_of (roll-TypedExpr d) ≡ form_literal (map-TypedExpr TypedExpr (Option Bytes) literal_of d)
unfolding literal_of
literal_roll d = fold-roll-TypedExpr (Option Bytes) form_literal d

abbrev IsPlain : TypedExpr → Type 0
IsPlain e = stands e Alone ≡ true → literal_of e ≡ None

no_text : (t : List ℕ) → stands (roll-TypedExpr (TypedExpr-F.Text t)) Alone ≡ true → false ≡ true
no_text t h = sym (ap (λ (f : Role → Bool). f Alone) (stands_roll (TypedExpr-F.Text t))) ∙ h

plain_layer : (y : TypedExpr-F ((e : TypedExpr) × IsPlain e)) → IsPlain (roll-TypedExpr (map-TypedExpr ((e : TypedExpr) × IsPlain e) TypedExpr (λ x. x.0) y))
plain_layer (TypedExpr-F.Number n scale) h = literal_roll (TypedExpr-F.Number n scale)
plain_layer (TypedExpr-F.Text t) h = absurd (let no = no_text t h in cc)
plain_layer (TypedExpr-F.Date day) h = literal_roll (TypedExpr-F.Date day)
plain_layer (TypedExpr-F.Column c type) h = literal_roll (TypedExpr-F.Column c type)
plain_layer (TypedExpr-F.Aggregate n scale) h = literal_roll (TypedExpr-F.Aggregate n scale)
plain_layer (TypedExpr-F.Signed s x) h = literal_roll (TypedExpr-F.Signed s x.0)
plain_layer (TypedExpr-F.Not x) h = literal_roll (TypedExpr-F.Not x.0)
plain_layer (TypedExpr-F.Binary o x y) h = literal_roll (TypedExpr-F.Binary o x.0 y.0)
plain_layer (TypedExpr-F.Divide x s n) h = literal_roll (TypedExpr-F.Divide x.0 s n)
plain_layer (TypedExpr-F.Between p x a b) h = literal_roll (TypedExpr-F.Between p x.0 a.0 b.0)
plain_layer (TypedExpr-F.In p x ys) h = literal_roll (TypedExpr-F.In p x.0 (map (λ y. y.0) ys))
plain_layer (TypedExpr-F.IsNull p x) h = literal_roll (TypedExpr-F.IsNull p x.0)
plain_layer (TypedExpr-F.Coalesce x ys) h = literal_roll (TypedExpr-F.Coalesce x.0 (map (λ y. y.0) ys))

-- what stands alone is no text literal
pub alone_literal : (e : TypedExpr) → IsPlain e
alone_literal = ind-TypedExpr IsPlain (λ x y is. subst (λ z. IsPlain (roll-TypedExpr z)) is (plain_layer y))

-- ---- expressions

pub record Done (w : World) (e : TypedExpr) : Type 0 where
  pub text : IsText w.texts (literal_of e) (value w.on e)
  pub gives : (made : List Slot) → Begins w.place made → Gives w.place made (lowered w.texts e) (part_cell w.texts (literal_of e) (value w.on e))

abbrev pub Sound : World → TypedExpr → Type 0
Sound w e = (t : DataType) (role : Role) → type_of w.at e ≡ Some t → stands e role ≡ true → Fits w e → Done w e

abbrev pub ReadyAt : World → Kind → Option Bytes → TypedExpr → Type 0
ReadyAt w k literal e = Ready w.texts w.place k literal (scale_of e) (value w.on e) (lowered w.texts e)

pub ready : (w : World) (e : TypedExpr) (t : DataType) (role : Role) → Sound w e → type_of w.at e ≡ Some t → stands e role ≡ true → Fits w e → ReadyAt w t.kind (literal_of e) e
ready w e t role sound is s f =
    let done = sound t role is s f in
    record {
      of = w.kinds w.at w.on e t is (record { columns = f.columns; aggregates = w.aggregates });
      text = done.text;
      fits = subst (λ (n : ℕ). kind_scale t.kind n ≡ true) (sym (scale_law w.at e t is)) (scaled_types w.at w.scaled e t is f.written);
      gives = done.gives;
    }

pub alone : (w : World) (e : TypedExpr) (k : Kind) → stands e Alone ≡ true → ReadyAt w k (literal_of e) e → ReadyAt w k None e
alone w e k s h = subst (λ (l : Option Bytes). ReadyAt w k l e) (alone_literal e s) h

pub as_kind : (w : World) (e : TypedExpr) (j k : Kind) (l : Option Bytes) → k ≡ j → ReadyAt w k l e → ReadyAt w j l e
as_kind w e j k l is h = subst (λ (i : Kind). ReadyAt w i l e) is h

-- ---- lists of them

abbrev pub Elements : World → Type 0
Elements w = List ((e : TypedExpr) × Sound w e)

abbrev pub exprs : (w : World) → Elements w → List TypedExpr
exprs w ys = map (λ y. y.0) ys

abbrev pub AllStand : Role → List TypedExpr → Type 0
AllStand role xs = list_all (λ (f : Role → Bool). f role) (map stands xs) ≡ true

pub record Gathered (w : World) (k : Kind) (xs : List TypedExpr) : Type 0 where
  pub members : List (Member w.texts w.place k)
  pub parts : map (part_of w.texts) xs ≡ map (member_part w.texts w.place k) members
  pub operands : map (evaluated w.on) xs ≡ map (member_operand w.texts w.place k) members

pub gathered : (w : World) (s : DataType) (ys : Elements w) (ts : List DataType) → all_types (map (type_of w.at) (exprs w ys)) ≡ Some ts → list_all (compares_with s) ts ≡ true → AllStand Side (exprs w ys) → AllFit w (exprs w ys) → Gathered w s.kind (exprs w ys)
gathered w s [] ts e c h f = record { members = []; parts = refl; operands = refl }
gathered w s (y ∷ ys) ts e c h f =
    let found = first_typed (type_of w.at y.0) (map (type_of w.at) (exprs w ys)) ts e in
    let u = found.0 in
    let rest = found.1 in
    let alike : list_all (compares_with s) (u ∷ rest) ≡ true = ap (list_all (compares_with s)) found.4 ∙ c in
    let kind = same_is s.kind u.kind (and_left (same_kind s.kind u.kind) (not (is_truth s.kind)) (and_left (compares_with s u) (list_all (compares_with s) rest) alike)) in
    let first = ready w y.0 u Side y.1 found.2 (and_left (stands y.0 Side) (list_all (λ (f : Role → Bool). f Side) (map stands (exprs w ys))) h) (first_fits w y.0 (exprs w ys) f) in
    let more = gathered w s ys rest found.3 (and_right (compares_with s u) (list_all (compares_with s) rest) alike) (and_right (stands y.0 Side) (list_all (λ (f : Role → Bool). f Side) (map stands (exprs w ys))) h) (later_fit w y.0 (exprs w ys) f) in
    record {
      members = record { literal = literal_of y.0; scale = scale_of y.0; value = value w.on y.0; code = lowered w.texts y.0; ready = as_kind w y.0 s.kind u.kind (literal_of y.0) (sym kind) first } ∷ more.members;
      parts = ap (λ (l : List Part). part_of w.texts y.0 ∷ l) more.parts;
      operands = ap (λ (l : List Operand). evaluated w.on y.0 ∷ l) more.operands;
    }

pub record Alones (w : World) (k : Kind) (xs : List TypedExpr) : Type 0 where
  pub members : List (Sole w.texts w.place k)
  pub parts : map (part_of w.texts) xs ≡ map (sole_part w.texts w.place k) members
  pub operands : map (evaluated w.on) xs ≡ map (sole_operand w.texts w.place k) members

pub plain_part : (w : World) (k : Kind) (e : TypedExpr) → stands e Alone ≡ true → part_of w.texts e ≡ record { scale = scale_of e; text = None; code = lowered w.texts e }
plain_part w k e s = ap (λ (l : Option Bytes). record { scale = scale_of e; text = l; code = lowered w.texts e }) (alone_literal e s)

pub alones : (w : World) (s : DataType) (ys : Elements w) (ts : List DataType) → all_types (map (type_of w.at) (exprs w ys)) ≡ Some ts → list_all (compares_with s) ts ≡ true → AllStand Alone (exprs w ys) → AllFit w (exprs w ys) → Alones w s.kind (exprs w ys)
alones w s [] ts e c h f = record { members = []; parts = refl; operands = refl }
alones w s (y ∷ ys) ts e c h f =
    let found = first_typed (type_of w.at y.0) (map (type_of w.at) (exprs w ys)) ts e in
    let u = found.0 in
    let rest = found.1 in
    let alike : list_all (compares_with s) (u ∷ rest) ≡ true = ap (list_all (compares_with s)) found.4 ∙ c in
    let kind = same_is s.kind u.kind (and_left (same_kind s.kind u.kind) (not (is_truth s.kind)) (and_left (compares_with s u) (list_all (compares_with s) rest) alike)) in
    let stands_alone = and_left (stands y.0 Alone) (list_all (λ (f : Role → Bool). f Alone) (map stands (exprs w ys))) h in
    let first = alone w y.0 u.kind stands_alone (ready w y.0 u Alone y.1 found.2 stands_alone (first_fits w y.0 (exprs w ys) f)) in
    let more = alones w s ys rest found.3 (and_right (compares_with s u) (list_all (compares_with s) rest) alike) (and_right (stands y.0 Alone) (list_all (λ (f : Role → Bool). f Alone) (map stands (exprs w ys))) h) (later_fit w y.0 (exprs w ys) f) in
    record {
      members = record { scale = scale_of y.0; value = value w.on y.0; code = lowered w.texts y.0; ready = as_kind w y.0 s.kind u.kind None (sym kind) first } ∷ more.members;
      parts = (λ i. plain_part w s.kind y.0 stands_alone i ∷ more.parts i);
      operands = ap (λ (l : List Operand). evaluated w.on y.0 ∷ l) more.operands;
    }

-- ---- forms

-- whether the values of a kind may be texts
abbrev pub texty : Kind → Bool
texty Text = true
texty k = false

pub known_of : (texts : List Bytes) (k : Kind) (r : Valued) → texty k ≡ false → IsOf k r → IfOk r (λ v. is_known texts v ≡ true)
known_of texts k (Err e) h i = tt
known_of texts k (Ok null) h i = refl
known_of texts k (Ok (number z)) h i = refl
known_of texts k (Ok (truth b)) h i = refl
known_of texts Text (Ok (text t)) h i = absurd (cc)
known_of texts Number (Ok (text t)) h i = absurd (cc)
known_of texts Date (Ok (text t)) h i = absurd (cc)
known_of texts Truth (Ok (text t)) h i = absurd (cc)

abbrev pub value_at : World → TypedExpr-F TypedExpr → Valued
value_at w d = form_value w.on (map-TypedExpr TypedExpr Operand (evaluated w.on) d)

abbrev pub code_at : World → TypedExpr-F TypedExpr → Code
code_at w d = form_code w.texts (map-TypedExpr TypedExpr Part (part_of w.texts) d)

pub done_form : (w : World) (d : TypedExpr-F TypedExpr) → form_literal (map-TypedExpr TypedExpr (Option Bytes) literal_of d) ≡ None → IfOk (value_at w d) (λ v. is_known w.texts v ≡ true) →
    ((made : List Slot) → Begins w.place made → Gives w.place made (code_at w d) (value_cell w.texts (value_at w d))) → Done w (roll-TypedExpr d)
done_form w d none known g = record {
  text = subst (λ (l : Option Bytes). IsText w.texts l (value w.on (roll-TypedExpr d))) (sym literal) (subst (λ (r : Valued). IfOk r (λ v. is_known w.texts v ≡ true)) (sym (value_roll w.on d)) known);
  gives = λ made b. subst (λ (l : Option Bytes). Gives w.place made (lowered w.texts (roll-TypedExpr d)) (part_cell w.texts l (value w.on (roll-TypedExpr d)))) (sym literal)
      (subst (λ (m : Code). Gives w.place made m (value_cell w.texts (value w.on (roll-TypedExpr d)))) (sym (lowered_roll w.texts d)) (subst (λ (r : Valued). Gives w.place made (code_at w d) (value_cell w.texts r)) (sym (value_roll w.on d)) (g made b)));
}
  where
    literal : literal_of (roll-TypedExpr d) ≡ None
    literal = literal_roll d ∙ none
