-- A value depends on what its expression names: by induction over the expression.
use Rattle.std.proofs.Common.{◌≡◌, ℕ, Bool, true, false, ◌&&◌, ◌||◌, ◌==◌, List, [], ◌∷◌, map, Ok, refl, sym, ap, ◌∙◌, subst, arith}
use Rattle.std.specs.List.{list_any}
use Rattle.std.proofs.lemmas.Bool.Decides.{nat_tests}
use Rattle.typed_trees.specs.declared.typed.ColumnRef.{ColumnRef}
use Rattle.typed_trees.specs.declared.typed.TypedExpr.{TypedExpr, roll-TypedExpr}
use Rattle.typed_trees.specs.declared.typed.TypedExpr.TheOpen.{TypedExpr-F}
use Rattle.typed_trees.specs.declared.typed.TypedExpr.TheFolds.{map-TypedExpr, ind-TypedExpr}
use Rattle.typed_trees.specs.Names.{same_column, form_names, names_any}
use Rattle.typed_trees.specs.Scales.{scale_of}
use Rattle.typed_trees.proofs.NameForms.{names_roll}
use Rattle.typed_values.specs.Values.{Valued, On, Operand, form_value, value}
use Rattle.typed_values.proofs.Evaluations.{evaluated, value_roll}
use Rattle.value_laws.specs.Laws.{AreAlike, NamesLaw}

-- ---- tests

or_left : (a b : Bool) → a ≡ true → (a || b) ≡ true
or_left a b h = ap (λ x. x || b) h

or_right : (a b : Bool) → b ≡ true → (a || b) ≡ true
or_right true b h = refl
or_right false b h = h

same_number : (n : ℕ) → (n == n) ≡ true
same_number n = grind (arith, nat_tests)

-- ---- what an operand names, the whole names too

abbrev Names : (ColumnRef → Bool) → (ℕ → Bool) → TypedExpr → Type 0
Names column aggregate e = names_any column aggregate e ≡ true

abbrev IsPart : TypedExpr → TypedExpr-F TypedExpr → Type 0
IsPart x d = (column : ColumnRef → Bool) (aggregate : ℕ → Bool) → Names column aggregate x → form_names column aggregate (map-TypedExpr TypedExpr Bool (names_any column aggregate) d) ≡ true

of_part : (on other : On) (x : TypedExpr) (d : TypedExpr-F TypedExpr) → IsPart x d → AreAlike on other (roll-TypedExpr d) → AreAlike on other x
of_part on other x d p h = record {
  columns = λ c is. h.columns c (names_roll (same_column c) (λ n. false) d ∙ p (same_column c) (λ n. false) is);
  aggregates = λ n is. h.aggregates n (names_roll (λ c. false) (λ m. n == m) d ∙ p (λ c. false) (λ m. n == m) is);
}

abbrev IsSame : On → On → TypedExpr → Type 0
IsSame on other e = AreAlike on other e → value on e ≡ value other e

-- an operand is the same one
same_operand : (on other : On) (x : TypedExpr) (d : TypedExpr-F TypedExpr) → IsSame on other x → IsPart x d → AreAlike on other (roll-TypedExpr d) → evaluated on x ≡ evaluated other x
same_operand on other x d same p h = ap (λ (r : Valued). record { scale = scale_of x; value = r }) (same (of_part on other x d p h))

abbrev Elements : On → On → Type 0
Elements on other = List ((e : TypedExpr) × IsSame on other e)

abbrev exprs : (on other : On) → Elements on other → List TypedExpr
exprs on other ys = map (λ y. y.0) ys

abbrev ArePart : List TypedExpr → TypedExpr-F TypedExpr → Type 0
ArePart xs d = (column : ColumnRef → Bool) (aggregate : ℕ → Bool) → list_any (λ (b : Bool). b) (map (names_any column aggregate) xs) ≡ true → form_names column aggregate (map-TypedExpr TypedExpr Bool (names_any column aggregate) d) ≡ true

same_operands : (on other : On) (ys : Elements on other) (d : TypedExpr-F TypedExpr) → ArePart (exprs on other ys) d → AreAlike on other (roll-TypedExpr d) → map (evaluated on) (exprs on other ys) ≡ map (evaluated other) (exprs on other ys)
same_operands on other [] d p h = refl
same_operands on other (y ∷ ys) d p h =
    let first = same_operand on other y.0 d y.1 (λ column aggregate is. p column aggregate (or_left (names_any column aggregate y.0) (list_any (λ (b : Bool). b) (map (names_any column aggregate) (exprs on other ys))) is)) h in
    let more = same_operands on other ys d (λ column aggregate is. p column aggregate (or_right (names_any column aggregate y.0) (list_any (λ (b : Bool). b) (map (names_any column aggregate) (exprs on other ys))) is)) h in
    (λ i. first i ∷ more i)

-- ---- the induction

by_parts : (on other : On) (d : TypedExpr-F TypedExpr) → (AreAlike on other (roll-TypedExpr d) → form_value on (map-TypedExpr TypedExpr Operand (evaluated on) d) ≡ form_value other (map-TypedExpr TypedExpr Operand (evaluated other) d)) → IsSame on other (roll-TypedExpr d)
by_parts on other d same h = value_roll on d ∙ (same h ∙ sym (value_roll other d))

by_layer : (on other : On) (y : TypedExpr-F ((e : TypedExpr) × IsSame on other e)) → IsSame on other (roll-TypedExpr (map-TypedExpr ((e : TypedExpr) × IsSame on other e) TypedExpr (λ x. x.0) y))
by_layer on other (TypedExpr-F.Number n scale) = by_parts on other (TypedExpr-F.Number n scale) (λ h. refl)
by_layer on other (TypedExpr-F.Text t) = by_parts on other (TypedExpr-F.Text t) (λ h. refl)
by_layer on other (TypedExpr-F.Date day) = by_parts on other (TypedExpr-F.Date day) (λ h. refl)
by_layer on other (TypedExpr-F.Column c type) = by_parts on other (TypedExpr-F.Column c type) (λ h. ap (λ v. Ok v) (h.columns c (names_roll (same_column c) (λ n. false) (TypedExpr-F.Column c type) ∙ its_own c)))
  where
    its_own : (c : ColumnRef) → same_column c c ≡ true
    its_own c = (λ i. same_number c.source i && same_number c.column i)
by_layer on other (TypedExpr-F.Aggregate n scale) = by_parts on other (TypedExpr-F.Aggregate n scale) (λ h. h.aggregates n (names_roll (λ c. false) (λ m. n == m) (TypedExpr-F.Aggregate n scale) ∙ same_number n))
by_layer on other (TypedExpr-F.Signed s x) =
    let d = TypedExpr-F.Signed s x.0 in
    by_parts on other d (λ h. ap (λ z. form_value on (TypedExpr-F.Signed s z)) (same_operand on other x.0 d x.1 (λ column aggregate is. is) h))
by_layer on other (TypedExpr-F.Not x) =
    let d = TypedExpr-F.Not x.0 in
    by_parts on other d (λ h. ap (λ z. form_value on (TypedExpr-F.Not z)) (same_operand on other x.0 d x.1 (λ column aggregate is. is) h))
by_layer on other (TypedExpr-F.Binary o x y) =
    let d = TypedExpr-F.Binary o x.0 y.0 in
    by_parts on other d (λ h.
    let left = same_operand on other x.0 d x.1 (λ column aggregate is. or_left (names_any column aggregate x.0) (names_any column aggregate y.0) is) h in
    let right = same_operand on other y.0 d y.1 (λ column aggregate is. or_right (names_any column aggregate x.0) (names_any column aggregate y.0) is) h in
    (λ i. form_value on (TypedExpr-F.Binary o (left i) (right i))))
by_layer on other (TypedExpr-F.Divide x s n) =
    let d = TypedExpr-F.Divide x.0 s n in
    by_parts on other d (λ h. ap (λ z. form_value on (TypedExpr-F.Divide z s n)) (same_operand on other x.0 d x.1 (λ column aggregate is. is) h))
by_layer on other (TypedExpr-F.Between p x y z) =
    let d = TypedExpr-F.Between p x.0 y.0 z.0 in
    by_parts on other d (λ h.
    let first = same_operand on other x.0 d x.1 (λ column aggregate is. or_left (names_any column aggregate x.0) (names_any column aggregate y.0 || names_any column aggregate z.0) is) h in
    let low = same_operand on other y.0 d y.1 (λ column aggregate is. or_right (names_any column aggregate x.0) (names_any column aggregate y.0 || names_any column aggregate z.0) (or_left (names_any column aggregate y.0) (names_any column aggregate z.0) is)) h in
    let high = same_operand on other z.0 d z.1 (λ column aggregate is. or_right (names_any column aggregate x.0) (names_any column aggregate y.0 || names_any column aggregate z.0) (or_right (names_any column aggregate y.0) (names_any column aggregate z.0) is)) h in
    (λ i. form_value on (TypedExpr-F.Between p (first i) (low i) (high i))))
by_layer on other (TypedExpr-F.In p x ys) =
    let d = TypedExpr-F.In p x.0 (exprs on other ys) in
    by_parts on other d (λ h.
    let first = same_operand on other x.0 d x.1 (λ column aggregate is. or_left (names_any column aggregate x.0) (list_any (λ (b : Bool). b) (map (names_any column aggregate) (exprs on other ys))) is) h in
    let more = same_operands on other ys d (λ column aggregate is. or_right (names_any column aggregate x.0) (list_any (λ (b : Bool). b) (map (names_any column aggregate) (exprs on other ys))) is) h in
    (λ i. form_value on (TypedExpr-F.In p (first i) (more i))))
by_layer on other (TypedExpr-F.IsNull p x) =
    let d = TypedExpr-F.IsNull p x.0 in
    by_parts on other d (λ h. ap (λ z. form_value on (TypedExpr-F.IsNull p z)) (same_operand on other x.0 d x.1 (λ column aggregate is. is) h))
by_layer on other (TypedExpr-F.Coalesce x ys) =
    let d = TypedExpr-F.Coalesce x.0 (exprs on other ys) in
    by_parts on other d (λ h.
    let first = same_operand on other x.0 d x.1 (λ column aggregate is. or_left (names_any column aggregate x.0) (list_any (λ (b : Bool). b) (map (names_any column aggregate) (exprs on other ys))) is) h in
    let more = same_operands on other ys d (λ column aggregate is. or_right (names_any column aggregate x.0) (list_any (λ (b : Bool). b) (map (names_any column aggregate) (exprs on other ys))) is) h in
    (λ i. form_value on (TypedExpr-F.Coalesce (first i) (more i))))

pub names_law : NamesLaw
names_law on other = ind-TypedExpr (IsSame on other) (λ x y is. subst (λ z. IsSame on other (roll-TypedExpr z)) is (by_layer on other y))
