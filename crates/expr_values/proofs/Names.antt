-- What the columns and the aggregates that an expression names are, those of its parts are.
use Rattle.std.proofs.Common.{◌≡◌, ℕ, Bool, true, false, ◌&&◌, ◌||◌, ◌==◌, List, ◌∷◌, map, refl, ap, ◌∙◌, arith}
use Rattle.std.specs.List.{list_any}
use Rattle.std.proofs.lemmas.Bool.Decides.{nat_tests}
use Rattle.query_trees.specs.declared.expr.BinaryOp.{BinaryOp}
use Rattle.query_trees.specs.declared.expr.Polarity.{Polarity}
use Rattle.typed_trees.specs.declared.typed.ColumnRef.{ColumnRef}
use Rattle.typed_trees.specs.declared.typed.ColumnType.{ColumnType}
use Rattle.typed_trees.specs.declared.typed.TypedExpr.{TypedExpr, roll-TypedExpr}
use Rattle.typed_trees.specs.declared.typed.TypedExpr.TheOpen.{TypedExpr-F}
use Rattle.typed_trees.specs.declared.typed.TypedExpr.TheFolds.{map-TypedExpr}
use Rattle.typed_trees.specs.Names.{same_column, form_names, names_any, names_column, names_aggregate}
use Rattle.typed_trees.proofs.NameForms.{names_roll}

or_left : (a b : Bool) → a ≡ true → (a || b) ≡ true
or_left a b h = ap (λ x. x || b) h

or_right : (a b : Bool) → b ≡ true → (a || b) ≡ true
or_right true b h = refl
or_right false b h = h

same_number : (n : ℕ) → (n == n) ≡ true
same_number n = grind (arith, nat_tests)

-- what is so of each column and each aggregate that an expression names
pub record Named (P : ColumnRef → Type 0) (Q : ℕ → Type 0) (e : TypedExpr) : Type 0 where
  pub columns : (c : ColumnRef) → names_column c e ≡ true → P c
  pub aggregates : (n : ℕ) → names_aggregate n e ≡ true → Q n

-- the same of a list of operands
pub record AllNamed (P : ColumnRef → Type 0) (Q : ℕ → Type 0) (xs : List TypedExpr) : Type 0 where
  pub columns : (c : ColumnRef) → list_any (λ (b : Bool). b) (map (names_column c) xs) ≡ true → P c
  pub aggregates : (n : ℕ) → list_any (λ (b : Bool). b) (map (names_aggregate n) xs) ≡ true → Q n

abbrev pub IsPart : TypedExpr → TypedExpr-F TypedExpr → Type 0
IsPart x d = (column : ColumnRef → Bool) (aggregate : ℕ → Bool) → names_any column aggregate x ≡ true → form_names column aggregate (map-TypedExpr TypedExpr Bool (names_any column aggregate) d) ≡ true

pub of_part : (P : ColumnRef → Type 0) (Q : ℕ → Type 0) (x : TypedExpr) (d : TypedExpr-F TypedExpr) → IsPart x d → Named P Q (roll-TypedExpr d) → Named P Q x
of_part P Q x d p h = record {
  columns = λ c is. h.columns c (names_roll (same_column c) (λ n. false) d ∙ p (same_column c) (λ n. false) is);
  aggregates = λ n is. h.aggregates n (names_roll (λ c. false) (λ m. n == m) d ∙ p (λ c. false) (λ m. n == m) is);
}

abbrev ArePart : List TypedExpr → TypedExpr-F TypedExpr → Type 0
ArePart xs d = (column : ColumnRef → Bool) (aggregate : ℕ → Bool) → list_any (λ (b : Bool). b) (map (names_any column aggregate) xs) ≡ true → form_names column aggregate (map-TypedExpr TypedExpr Bool (names_any column aggregate) d) ≡ true

of_parts : (P : ColumnRef → Type 0) (Q : ℕ → Type 0) (xs : List TypedExpr) (d : TypedExpr-F TypedExpr) → ArePart xs d → Named P Q (roll-TypedExpr d) → AllNamed P Q xs
of_parts P Q xs d p h = record {
  columns = λ c is. h.columns c (names_roll (same_column c) (λ n. false) d ∙ p (same_column c) (λ n. false) is);
  aggregates = λ n is. h.aggregates n (names_roll (λ c. false) (λ m. n == m) d ∙ p (λ c. false) (λ m. n == m) is);
}

-- ---- the leaves

pub column_named : (P : ColumnRef → Type 0) (Q : ℕ → Type 0) (c : ColumnRef) (type : ColumnType) → Named P Q (roll-TypedExpr (TypedExpr-F.Column c type)) → P c
column_named P Q c type h = h.columns c (names_roll (same_column c) (λ n. false) (TypedExpr-F.Column c type) ∙ its_own c)
  where
    its_own : (c : ColumnRef) → same_column c c ≡ true
    its_own c = (λ i. same_number c.source i && same_number c.column i)

pub aggregate_named : (P : ColumnRef → Type 0) (Q : ℕ → Type 0) (n scale : ℕ) → Named P Q (roll-TypedExpr (TypedExpr-F.Aggregate n scale)) → Q n
aggregate_named P Q n scale h = h.aggregates n (names_roll (λ c. false) (λ m. n == m) (TypedExpr-F.Aggregate n scale) ∙ same_number n)

-- ---- two and three operands

pub left_named : (P : ColumnRef → Type 0) (Q : ℕ → Type 0) (o : BinaryOp) (x y : TypedExpr) → Named P Q (roll-TypedExpr (TypedExpr-F.Binary o x y)) → Named P Q x
left_named P Q o x y = of_part P Q x (TypedExpr-F.Binary o x y) (λ column aggregate is. or_left (names_any column aggregate x) (names_any column aggregate y) is)

pub right_named : (P : ColumnRef → Type 0) (Q : ℕ → Type 0) (o : BinaryOp) (x y : TypedExpr) → Named P Q (roll-TypedExpr (TypedExpr-F.Binary o x y)) → Named P Q y
right_named P Q o x y = of_part P Q y (TypedExpr-F.Binary o x y) (λ column aggregate is. or_right (names_any column aggregate x) (names_any column aggregate y) is)

pub tested_named : (P : ColumnRef → Type 0) (Q : ℕ → Type 0) (p : Polarity) (x y z : TypedExpr) → Named P Q (roll-TypedExpr (TypedExpr-F.Between p x y z)) → Named P Q x
tested_named P Q p x y z = of_part P Q x (TypedExpr-F.Between p x y z) (λ column aggregate is. or_left (names_any column aggregate x) (names_any column aggregate y || names_any column aggregate z) is)

pub least_named : (P : ColumnRef → Type 0) (Q : ℕ → Type 0) (p : Polarity) (x y z : TypedExpr) → Named P Q (roll-TypedExpr (TypedExpr-F.Between p x y z)) → Named P Q y
least_named P Q p x y z = of_part P Q y (TypedExpr-F.Between p x y z) (λ column aggregate is. or_right (names_any column aggregate x) (names_any column aggregate y || names_any column aggregate z) (or_left (names_any column aggregate y) (names_any column aggregate z) is))

pub most_named : (P : ColumnRef → Type 0) (Q : ℕ → Type 0) (p : Polarity) (x y z : TypedExpr) → Named P Q (roll-TypedExpr (TypedExpr-F.Between p x y z)) → Named P Q z
most_named P Q p x y z = of_part P Q z (TypedExpr-F.Between p x y z) (λ column aggregate is. or_right (names_any column aggregate x) (names_any column aggregate y || names_any column aggregate z) (or_right (names_any column aggregate y) (names_any column aggregate z) is))

-- ---- lists of operands

others : (ColumnRef → Bool) → (ℕ → Bool) → List TypedExpr → Bool
others column aggregate ys = list_any (λ (b : Bool). b) (map (names_any column aggregate) ys)

pub in_first_named : (P : ColumnRef → Type 0) (Q : ℕ → Type 0) (p : Polarity) (x : TypedExpr) (ys : List TypedExpr) → Named P Q (roll-TypedExpr (TypedExpr-F.In p x ys)) → Named P Q x
unfolding others
in_first_named P Q p x ys = of_part P Q x (TypedExpr-F.In p x ys) (λ column aggregate is. or_left (names_any column aggregate x) (others column aggregate ys) is)

pub in_others_named : (P : ColumnRef → Type 0) (Q : ℕ → Type 0) (p : Polarity) (x : TypedExpr) (ys : List TypedExpr) → Named P Q (roll-TypedExpr (TypedExpr-F.In p x ys)) → AllNamed P Q ys
unfolding others
in_others_named P Q p x ys = of_parts P Q ys (TypedExpr-F.In p x ys) (λ column aggregate is. or_right (names_any column aggregate x) (others column aggregate ys) is)

pub choice_first_named : (P : ColumnRef → Type 0) (Q : ℕ → Type 0) (x : TypedExpr) (ys : List TypedExpr) → Named P Q (roll-TypedExpr (TypedExpr-F.Coalesce x ys)) → Named P Q x
unfolding others
choice_first_named P Q x ys = of_part P Q x (TypedExpr-F.Coalesce x ys) (λ column aggregate is. or_left (names_any column aggregate x) (others column aggregate ys) is)

pub choice_others_named : (P : ColumnRef → Type 0) (Q : ℕ → Type 0) (x : TypedExpr) (ys : List TypedExpr) → Named P Q (roll-TypedExpr (TypedExpr-F.Coalesce x ys)) → AllNamed P Q ys
unfolding others
choice_others_named P Q x ys = of_parts P Q ys (TypedExpr-F.Coalesce x ys) (λ column aggregate is. or_right (names_any column aggregate x) (others column aggregate ys) is)

pub first_named : (P : ColumnRef → Type 0) (Q : ℕ → Type 0) (y : TypedExpr) (ys : List TypedExpr) → AllNamed P Q (y ∷ ys) → Named P Q y
first_named P Q y ys h = record {
  columns = λ c is. h.columns c (or_left (names_column c y) (list_any (λ (b : Bool). b) (map (names_column c) ys)) is);
  aggregates = λ n is. h.aggregates n (or_left (names_aggregate n y) (list_any (λ (b : Bool). b) (map (names_aggregate n) ys)) is);
}

pub later_named : (P : ColumnRef → Type 0) (Q : ℕ → Type 0) (y : TypedExpr) (ys : List TypedExpr) → AllNamed P Q (y ∷ ys) → AllNamed P Q ys
later_named P Q y ys h = record {
  columns = λ c is. h.columns c (or_right (names_column c y) (list_any (λ (b : Bool). b) (map (names_column c) ys)) is);
  aggregates = λ n is. h.aggregates n (or_right (names_aggregate n y) (list_any (λ (b : Bool). b) (map (names_aggregate n) ys)) is);
}
