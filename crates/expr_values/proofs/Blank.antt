-- Where nothing stands, each step leaves nothing: by induction over the expression.
use Rattle.std.proofs.Common.{◌≡◌, ℕ, zero, suc, ◌+◌, ◌-◌, ℤ, pos, Bool, true, false, if◌then◌else◌, List, [], ◌∷◌, ◌++◌, map, length, get_or, Option, Some, None, Result, Ok, refl, sym, ap, ◌∙◌, subst}
use Rattle.std.specs.Ordering.{int_eq}
use Rattle.control_vectors.specs.Slots.{Slot, Cell}
use Rattle.control_vectors.specs.declared.Over.{Over}
use Rattle.control_vectors.specs.declared.PairKind.{PairKind}
use Rattle.control_vectors.specs.declared.PairKind.TheVariants as pair
use Rattle.slot_wise.specs.Pairs.{pair_slot}
use Rattle.sql_values.specs.Texts.{by_bytes}
use Rattle.query_trees.specs.declared.expr.BinaryOp.{BinaryOp}
use Rattle.query_trees.specs.declared.expr.BinaryOp.TheVariants as op
use Rattle.query_trees.specs.declared.expr.Polarity.{Polarity}
use Rattle.query_trees.specs.declared.expr.Polarity.TheVariants.{Plain, Negated}
use Rattle.query_trees.specs.declared.expr.Sign.{Sign}
use Rattle.query_trees.specs.declared.expr.Sign.TheVariants.{Plus, Minus}
use Rattle.typed_trees.specs.declared.typed.TypedExpr.{TypedExpr, roll-TypedExpr}
use Rattle.typed_trees.specs.declared.typed.TypedExpr.TheOpen.{TypedExpr-F}
use Rattle.typed_trees.specs.declared.typed.TypedExpr.TheFolds.{map-TypedExpr, ind-TypedExpr}
use Rattle.typed_trees.specs.Scales.{scale_of}
use Rattle.typed_values.specs.Narrow.{counted}
use Rattle.typed_values.specs.Values.{holds}
use Rattle.expr_steps.specs.declared.steps.Factors.{Factors}
use Rattle.expr_steps.specs.declared.steps.Source.{Source}
use Rattle.expr_steps.specs.declared.steps.Source.TheVariants.{Column, Aggregate, Made, Number}
use Rattle.expr_steps.specs.Codes.{Code, Coded, from_source, pair_step, one, and_then}
use Rattle.expr_steps.specs.Lowered.{Bytes, Part, part_of, lowered, form_code, zero as nought, unit, opposite, constants, constant, times, raise, factors, scale_factors, brought_together, comparing, compared, compared_as, truth_source, binary, sign_step, divided, divisor, null_test, outside, unless_negated, by_polarity, any_equal, found_among, or_equal, found_equal, first_there, filled, filled_from, most_scale}
use Rattle.expr_steps.proofs.Forms.{lowered_roll}
use Rattle.expr_values.specs.Places.{Place, slot_from, step_cell, with_cell, made_by, last_cell}
use Rattle.expr_values.specs.Laws.{BlankLaw}
use Rattle.expr_values.proofs.Codes.{then_made, made_append}
use Rattle.expr_values.proofs.Names.{Named, AllNamed, IsPart, of_part, column_named, aggregate_named, left_named, right_named, tested_named, least_named, most_named, in_first_named, in_others_named, choice_first_named, choice_others_named, first_named, later_named}

-- ---- pieces that leave nothing

abbrev AllNone : List Slot → Type 0
AllNone made = (k : ℕ) → get_or made k None ≡ None

none_more : (made : List Slot) → AllNone made → AllNone (made ++ None ∷ [])
none_more [] h zero = refl
none_more [] h (suc k) = refl
none_more (x ∷ made) h zero = h zero
none_more (x ∷ made) h (suc k) = none_more made (λ j. h (suc j)) k

abbrev BlankSource : Place → Source → Type 0
BlankSource p x = (made : List Slot) → AllNone made → slot_from p made x ≡ None

made_blank : (p : Place) (k : ℕ) → BlankSource p (Made k)
made_blank p k made h = h k

record LeftBlank (p : Place) (made : List Slot) (c : Coded) : Type 0 where
  pub all : List Slot
  pub is : made_by p c.steps made ≡ Ok all
  pub blank : AllNone all
  pub result : BlankSource p c.result

abbrev LeavesBlank : Place → Code → Type 0
LeavesBlank p m = (k : ℕ) (made : List Slot) → AllNone made → LeftBlank p made (m k)

source_blank : (p : Place) (x : Source) → BlankSource p x → LeavesBlank p (from_source x)
source_blank p x b k made h = record { all = made; is = refl; blank = h; result = b }

one_blank : (p : Place) (kind : PairKind) (x y : Source) → ((made : List Slot) → AllNone made → step_cell p made (pair_step kind x y) ≡ Ok None) → LeavesBlank p (one kind x y)
one_blank p kind x y e k made h = record { all = made ++ None ∷ []; is = ap (λ (c : Cell). with_cell made c (made_by p [])) (e made h); blank = none_more made h; result = made_blank p k }

then_blank : (p : Place) (m : Code) (f : Source → Code) → LeavesBlank p m → ((x : Source) → BlankSource p x → LeavesBlank p (f x)) → LeavesBlank p (and_then m f)
then_blank p m f h g k made n =
    let a = h k made n in
    let number = k + length (m k).steps in
    let b = g (m k).result a.result number a.all a.blank in
    record {
      all = b.all;
      is = made_append p (m k).steps (f (m k).result number).steps made ∙ (ap (λ (r : Result (List Slot) Over). then_made r (made_by p (f (m k).result number).steps)) a.is ∙ b.is);
      blank = b.blank;
      result = b.result;
    }

-- ---- operators of nothing

none_both : (kind : PairKind) → pair_slot kind None None ≡ Ok None
none_both pair.Add = refl
none_both pair.Subtract = refl
none_both pair.Multiply = refl
none_both pair.Divide = refl
none_both pair.Modulo = refl
none_both pair.Greater = refl
none_both pair.Equals = refl
none_both pair.LogicalAnd = refl
none_both pair.LogicalOr = refl
none_both pair.Fill = refl

both_blank : (p : Place) (kind : PairKind) (x y : Source) → BlankSource p x → BlankSource p y → LeavesBlank p (one kind x y)
both_blank p kind x y h g = one_blank p kind x y (λ made n. (λ i. pair_slot kind (h made n i) (g made n i)) ∙ none_both kind)

number_blank : (p : Place) (kind : PairKind) (x : Source) (z : ℤ) → pair_slot kind None (Some z) ≡ Ok None → BlankSource p x → LeavesBlank p (one kind x (Number z))
number_blank p kind x z e h = one_blank p kind x (Number z) (λ made n. ap (λ (s : Slot). pair_slot kind s (Some z)) (h made n) ∙ e)

zero_blank : (p : Place) (kind : PairKind) (x : Source) → pair_slot kind (Some (pos 0)) None ≡ Ok None → BlankSource p x → LeavesBlank p (one kind (Number (pos 0)) x)
zero_blank p kind x e h = one_blank p kind (Number (pos 0)) x (λ made n. ap (λ (s : Slot). pair_slot kind (Some (pos 0)) s) (h made n) ∙ e)

constant_blank : (p : Place) (z : ℤ) → LeavesBlank p (constant z)
constant_blank p z = number_blank p pair.Add nought z refl (made_blank p 0)

opposite_blank : (p : Place) (x : Source) → BlankSource p x → LeavesBlank p (opposite x)
opposite_blank p x h = number_blank p pair.Equals x (pos 0) refl h

polarity_blank : (p : Place) (by : Polarity) (x : Source) → BlankSource p x → LeavesBlank p (by_polarity by x)
polarity_blank p Plain x h = source_blank p x h
polarity_blank p Negated x h = opposite_blank p x h

unless_blank : (p : Place) (by : Polarity) (x : Source) → BlankSource p x → LeavesBlank p (unless_negated by x)
unless_blank p Plain x h = opposite_blank p x h
unless_blank p Negated x h = source_blank p x h

times_blank : (p : Place) (f : ℤ) (x : Source) → BlankSource p x → LeavesBlank p (times f x)
times_blank p f x h = by (int_eq f (pos 1))
  where
    by : (b : Bool) → LeavesBlank p (if b then from_source x else one pair.Multiply x (Number f))
    by true = source_blank p x h
    by false = number_blank p pair.Multiply x f refl h

brought_blank : (p : Place) (f : Factors) (a b : Source) (next : Source → Source → Code) → BlankSource p a → BlankSource p b → ((x y : Source) → BlankSource p x → BlankSource p y → LeavesBlank p (next x y)) → LeavesBlank p (brought_together f a b next)
brought_blank p f a b next h g n = then_blank p (times f.x a) (λ x. and_then (times f.y b) (λ y. next x y)) (times_blank p f.x a h) (λ x i. then_blank p (times f.y b) (λ y. next x y) (times_blank p f.y b g) (λ y j. n x y i j))

above_blank : (p : Place) (x y : Source) → BlankSource p x → BlankSource p y → LeavesBlank p (and_then (one pair.Greater x y) opposite)
above_blank p x y h g = then_blank p (one pair.Greater x y) opposite (both_blank p pair.Greater x y h g) (opposite_blank p)

comparing_blank : (p : Place) (o : BinaryOp) (x y : Source) → BlankSource p x → BlankSource p y → LeavesBlank p (comparing o x y)
comparing_blank p op.Equal x y h g = both_blank p pair.Equals x y h g
comparing_blank p op.Differs x y h g = then_blank p (one pair.Equals x y) opposite (both_blank p pair.Equals x y h g) (opposite_blank p)
comparing_blank p op.Less x y h g = both_blank p pair.Greater y x g h
comparing_blank p op.LessEqual x y h g = above_blank p x y h g
comparing_blank p op.Greater x y h g = both_blank p pair.Greater x y h g
comparing_blank p op.GreaterEqual x y h g = above_blank p y x g h
comparing_blank p op.Or x y h g = above_blank p y x g h
comparing_blank p op.And x y h g = above_blank p y x g h
comparing_blank p op.Add x y h g = above_blank p y x g h
comparing_blank p op.Subtract x y h g = above_blank p y x g h
comparing_blank p op.Multiply x y h g = above_blank p y x g h

truth_blank : (p : Place) (b : Bool) → BlankSource p (truth_source b)
truth_blank p true = made_blank p 1
truth_blank p false = made_blank p 0

compared_blank : (p : Place) (o : BinaryOp) (s t : Option Bytes) (f : Factors) (a b : Source) → BlankSource p a → BlankSource p b → LeavesBlank p (compared_as o s t f a b)
compared_blank p o (Some s) (Some t) f a b h g =
    let is = holds o (by_bytes s t) in
    then_blank p (one pair.Fill (truth_source is) a) (λ x. one pair.Fill x b) (both_blank p pair.Fill (truth_source is) a (truth_blank p is) h) (λ x q. both_blank p pair.Fill x b q g)
compared_blank p o (Some s) None f a b h g = brought_blank p f a b (comparing o) h g (comparing_blank p o)
compared_blank p o None (Some t) f a b h g = brought_blank p f a b (comparing o) h g (comparing_blank p o)
compared_blank p o None None f a b h g = brought_blank p f a b (comparing o) h g (comparing_blank p o)

parts_blank : (texts : List Bytes) (p : Place) (o : BinaryOp) (x y : Part) (a b : Source) → BlankSource p a → BlankSource p b → LeavesBlank p (compared texts o x y a b)
parts_blank texts p o x y a b h g = compared_blank p o x.text y.text (factors texts x y) a b h g

binary_blank : (texts : List Bytes) (p : Place) (o : BinaryOp) (x y : Part) (a b : Source) → BlankSource p a → BlankSource p b → LeavesBlank p (binary texts o x y a b)
binary_blank texts p op.Or x y a b h g = both_blank p pair.LogicalOr a b h g
binary_blank texts p op.And x y a b h g = both_blank p pair.LogicalAnd a b h g
binary_blank texts p op.Add x y a b h g = brought_blank p (scale_factors x.scale y.scale) a b (one pair.Add) h g (both_blank p pair.Add)
binary_blank texts p op.Subtract x y a b h g = brought_blank p (scale_factors x.scale y.scale) a b (one pair.Subtract) h g (both_blank p pair.Subtract)
binary_blank texts p op.Multiply x y a b h g = both_blank p pair.Multiply a b h g
binary_blank texts p op.Equal x y a b h g = parts_blank texts p op.Equal x y a b h g
binary_blank texts p op.Differs x y a b h g = parts_blank texts p op.Differs x y a b h g
binary_blank texts p op.Less x y a b h g = parts_blank texts p op.Less x y a b h g
binary_blank texts p op.LessEqual x y a b h g = parts_blank texts p op.LessEqual x y a b h g
binary_blank texts p op.Greater x y a b h g = parts_blank texts p op.Greater x y a b h g
binary_blank texts p op.GreaterEqual x y a b h g = parts_blank texts p op.GreaterEqual x y a b h g

sign_blank : (p : Place) (s : Sign) (x : Source) → BlankSource p x → LeavesBlank p (sign_step s x)
sign_blank p Plus x h = zero_blank p pair.Add x refl h
sign_blank p Minus x h = zero_blank p pair.Subtract x refl h

null_blank : (p : Place) (by : Polarity) (x : Source) → BlankSource p x → LeavesBlank p (null_test by x)
null_blank p Plain x h = then_blank p (one pair.Greater x x) (λ t. one pair.Fill t unit) (both_blank p pair.Greater x x h h) (λ t g. both_blank p pair.Fill t unit g (made_blank p 1))
null_blank p Negated x h = then_blank p (one pair.Equals x x) (λ t. one pair.Fill t nought) (both_blank p pair.Equals x x h h) (λ t g. both_blank p pair.Fill t nought g (made_blank p 0))

outside_blank : (texts : List Bytes) (p : Place) (x y z : Part) (a b c : Source) → BlankSource p a → BlankSource p b → BlankSource p c → LeavesBlank p (outside texts x y z a b c)
outside_blank texts p x y z a b c h g k =
    then_blank p (compared texts op.Less x y a b) (λ below. and_then (compared texts op.Greater x z a c) (one pair.LogicalOr below)) (parts_blank texts p op.Less x y a b h g)
    (λ below i. then_blank p (compared texts op.Greater x z a c) (one pair.LogicalOr below) (parts_blank texts p op.Greater x z a c h k) (λ above j. both_blank p pair.LogicalOr below above i j))

found_blank : (texts : List Bytes) (p : Place) (x y : Part) (a found b : Source) → BlankSource p a → BlankSource p found → BlankSource p b → LeavesBlank p (found_equal texts x a y found b)
found_blank texts p x y a found b h g k = then_blank p (compared texts op.Equal x y a b) (one pair.LogicalOr found) (parts_blank texts p op.Equal x y a b h k) (λ e i. both_blank p pair.LogicalOr found e g i)

filled_blank : (p : Place) (to scale : ℕ) (found b : Source) → BlankSource p found → BlankSource p b → LeavesBlank p (filled_from to scale found b)
filled_blank p to scale found b h g = then_blank p (times (raise to (counted scale)) b) (one pair.Fill found) (times_blank p (raise to (counted scale)) b g) (λ y i. both_blank p pair.Fill found y h i)

-- ---- the induction

abbrev Blank : Place → TypedExpr → Type 0
Blank p e = Named (λ c. p.column c ≡ None) (λ n. p.aggregate n ≡ None) e

abbrev AllBlank : Place → List TypedExpr → Type 0
AllBlank p xs = AllNamed (λ c. p.column c ≡ None) (λ n. p.aggregate n ≡ None) xs

abbrev IsBlank : List Bytes → Place → TypedExpr → Type 0
IsBlank texts p e = Blank p e → LeavesBlank p (lowered texts e)

abbrev Elements : List Bytes → Place → Type 0
Elements texts p = List ((e : TypedExpr) × IsBlank texts p e)

abbrev exprs : (texts : List Bytes) (p : Place) → Elements texts p → List TypedExpr
exprs texts p l = map (λ x. x.0) l

any_blank : (texts : List Bytes) (p : Place) (x : Part) (a : Source) (ys : Elements texts p) (found : Source) → BlankSource p a → BlankSource p found → AllBlank p (exprs texts p ys) → LeavesBlank p (any_equal texts x a (map (part_of texts) (exprs texts p ys)) found)
any_blank texts p x a [] found h g b = source_blank p found g
any_blank texts p x a (y ∷ ys) found h g b =
    let py = part_of texts y.0 in
    let first = first_named (λ c. p.column c ≡ None) (λ n. p.aggregate n ≡ None) y.0 (exprs texts p ys) b in
    let rest = later_named (λ c. p.column c ≡ None) (λ n. p.aggregate n ≡ None) y.0 (exprs texts p ys) b in
    then_blank p (or_equal texts x a py found) (any_equal texts x a (map (part_of texts) (exprs texts p ys)))
    (then_blank p (lowered texts y.0) (found_equal texts x a py found) (y.1 first) (λ c k. found_blank texts p x py a found c h g k))
    (λ next k. any_blank texts p x a ys next h k rest)

among_blank : (texts : List Bytes) (p : Place) (x : Part) (a : Source) (ys : Elements texts p) → BlankSource p a → AllBlank p (exprs texts p ys) → LeavesBlank p (found_among texts x a (map (part_of texts) (exprs texts p ys)))
among_blank texts p x a [] h b = both_blank p pair.Fill nought a (made_blank p 0) h
among_blank texts p x a (y ∷ ys) h b = any_blank texts p x a (y ∷ ys) nought h (made_blank p 0) b

first_blank : (texts : List Bytes) (p : Place) (to : ℕ) (ys : Elements texts p) (found : Source) → BlankSource p found → AllBlank p (exprs texts p ys) → LeavesBlank p (first_there to (map (part_of texts) (exprs texts p ys)) found)
first_blank texts p to [] found g b = source_blank p found g
first_blank texts p to (y ∷ ys) found g b =
    let py = part_of texts y.0 in
    let first = first_named (λ c. p.column c ≡ None) (λ n. p.aggregate n ≡ None) y.0 (exprs texts p ys) b in
    let rest = later_named (λ c. p.column c ≡ None) (λ n. p.aggregate n ≡ None) y.0 (exprs texts p ys) b in
    then_blank p (filled to py found) (first_there to (map (part_of texts) (exprs texts p ys)))
    (then_blank p (lowered texts y.0) (filled_from to (scale_of y.0) found) (y.1 first) (λ c k. filled_blank p to (scale_of y.0) found c g k))
    (λ next k. first_blank texts p to ys next k rest)

by_form : (texts : List Bytes) (p : Place) (d : TypedExpr-F TypedExpr) → (Blank p (roll-TypedExpr d) → LeavesBlank p (form_code texts (map-TypedExpr TypedExpr Part (part_of texts) d))) → IsBlank texts p (roll-TypedExpr d)
by_form texts p d h b = subst (λ (m : Code). LeavesBlank p m) (sym (lowered_roll texts d)) (h b)

of_one : (texts : List Bytes) (p : Place) (x : (e : TypedExpr) × IsBlank texts p e) (d : TypedExpr-F TypedExpr) (f : Source → Code) → IsPart x.0 d → ((a : Source) → BlankSource p a → LeavesBlank p (f a)) → Blank p (roll-TypedExpr d) → LeavesBlank p (and_then (lowered texts x.0) f)
of_one texts p x d f is h b = then_blank p (lowered texts x.0) f (x.1 (of_part (λ c. p.column c ≡ None) (λ n. p.aggregate n ≡ None) x.0 d is b)) h

by_layer : (texts : List Bytes) (p : Place) (y : TypedExpr-F ((e : TypedExpr) × IsBlank texts p e)) → IsBlank texts p (roll-TypedExpr (map-TypedExpr ((e : TypedExpr) × IsBlank texts p e) TypedExpr (λ x. x.0) y))
by_layer texts p (TypedExpr-F.Number n scale) = by_form texts p (TypedExpr-F.Number n scale) (λ b. constant_blank p _)
by_layer texts p (TypedExpr-F.Text t) = by_form texts p (TypedExpr-F.Text t) (λ b. constant_blank p _)
by_layer texts p (TypedExpr-F.Date day) = by_form texts p (TypedExpr-F.Date day) (λ b. constant_blank p day)
by_layer texts p (TypedExpr-F.Column c type) = by_form texts p (TypedExpr-F.Column c type) (λ b. source_blank p (Column c) (λ made h. column_named (λ c. p.column c ≡ None) (λ n. p.aggregate n ≡ None) c type b))
by_layer texts p (TypedExpr-F.Aggregate n scale) = by_form texts p (TypedExpr-F.Aggregate n scale) (λ b. source_blank p (Aggregate n) (λ made h. aggregate_named (λ c. p.column c ≡ None) (λ n. p.aggregate n ≡ None) n scale b))
by_layer texts p (TypedExpr-F.Signed s x) = let d = TypedExpr-F.Signed s x.0 in by_form texts p d (of_one texts p x d (sign_step s) (λ column aggregate h. h) (sign_blank p s))
by_layer texts p (TypedExpr-F.Not x) = let d = TypedExpr-F.Not x.0 in by_form texts p d (of_one texts p x d opposite (λ column aggregate h. h) (opposite_blank p))
by_layer texts p (TypedExpr-F.Binary o x y) =
    by_form texts p (TypedExpr-F.Binary o x.0 y.0) (λ b.
    let px = part_of texts x.0 in
    let py = part_of texts y.0 in
    then_blank p (lowered texts x.0) (λ a. and_then (lowered texts y.0) (λ c. binary texts o px py a c)) (x.1 (left_named (λ c. p.column c ≡ None) (λ n. p.aggregate n ≡ None) o x.0 y.0 b))
    (λ a h. then_blank p (lowered texts y.0) (λ c. binary texts o px py a c) (y.1 (right_named (λ c. p.column c ≡ None) (λ n. p.aggregate n ≡ None) o x.0 y.0 b)) (λ c g. binary_blank texts p o px py a c h g)))
by_layer texts p (TypedExpr-F.Divide x s n) = let d = TypedExpr-F.Divide x.0 s n in by_form texts p d (of_one texts p x d (divided s n) (λ column aggregate h. h) (λ a h. number_blank p pair.Divide a (divisor s n) refl h))
by_layer texts p (TypedExpr-F.Between by x y z) =
    by_form texts p (TypedExpr-F.Between by x.0 y.0 z.0) (λ b.
    let px = part_of texts x.0 in
    let py = part_of texts y.0 in
    let pz = part_of texts z.0 in
    then_blank p (lowered texts x.0) (λ a. and_then (lowered texts y.0) (λ c. and_then (lowered texts z.0) (λ d. and_then (outside texts px py pz a c d) (unless_negated by)))) (x.1 (tested_named (λ c. p.column c ≡ None) (λ n. p.aggregate n ≡ None) by x.0 y.0 z.0 b))
    (λ a h. then_blank p (lowered texts y.0) (λ c. and_then (lowered texts z.0) (λ d. and_then (outside texts px py pz a c d) (unless_negated by))) (y.1 (least_named (λ c. p.column c ≡ None) (λ n. p.aggregate n ≡ None) by x.0 y.0 z.0 b))
    (λ c g. then_blank p (lowered texts z.0) (λ d. and_then (outside texts px py pz a c d) (unless_negated by)) (z.1 (most_named (λ c. p.column c ≡ None) (λ n. p.aggregate n ≡ None) by x.0 y.0 z.0 b))
    (λ d k. then_blank p (outside texts px py pz a c d) (unless_negated by) (outside_blank texts p px py pz a c d h g k) (unless_blank p by)))))
by_layer texts p (TypedExpr-F.In by x ys) =
    by_form texts p (TypedExpr-F.In by x.0 (exprs texts p ys)) (λ b.
    let px = part_of texts x.0 in
    let pys = map (part_of texts) (exprs texts p ys) in
    then_blank p (lowered texts x.0) (λ a. and_then (found_among texts px a pys) (by_polarity by)) (x.1 (in_first_named (λ c. p.column c ≡ None) (λ n. p.aggregate n ≡ None) by x.0 (exprs texts p ys) b))
    (λ a h. then_blank p (found_among texts px a pys) (by_polarity by) (among_blank texts p px a ys h (in_others_named (λ c. p.column c ≡ None) (λ n. p.aggregate n ≡ None) by x.0 (exprs texts p ys) b)) (polarity_blank p by)))
by_layer texts p (TypedExpr-F.IsNull by x) = let d = TypedExpr-F.IsNull by x.0 in by_form texts p d (of_one texts p x d (null_test by) (λ column aggregate h. h) (null_blank p by))
by_layer texts p (TypedExpr-F.Coalesce x ys) =
    by_form texts p (TypedExpr-F.Coalesce x.0 (exprs texts p ys)) (λ b.
    let pys = map (part_of texts) (exprs texts p ys) in
    let to = most_scale (part_of texts x.0) pys in
    then_blank p (lowered texts x.0) (λ a. and_then (times (raise to (counted (scale_of x.0))) a) (first_there to pys)) (x.1 (choice_first_named (λ c. p.column c ≡ None) (λ n. p.aggregate n ≡ None) x.0 (exprs texts p ys) b))
    (λ a h. then_blank p (times (raise to (counted (scale_of x.0))) a) (first_there to pys) (times_blank p (raise to (counted (scale_of x.0))) a h)
    (λ found g. first_blank texts p to ys found g (choice_others_named (λ c. p.column c ≡ None) (λ n. p.aggregate n ≡ None) x.0 (exprs texts p ys) b))))

all_blank : (texts : List Bytes) (p : Place) (e : TypedExpr) → IsBlank texts p e
all_blank texts p = ind-TypedExpr (IsBlank texts p) (λ x y is. subst (λ z. IsBlank texts p (roll-TypedExpr z)) is (by_layer texts p y))

-- ---- the whole

pub blank_law : BlankLaw
blank_law texts p e b =
    let code : LeavesBlank p (and_then (lowered texts e) (λ x. one pair.Fill x x)) =
    then_blank p (lowered texts e) (λ x. one pair.Fill x x) (all_blank texts p e (record { columns = b.columns; aggregates = b.aggregates })) (λ x h. both_blank p pair.Fill x x h h) in
    let two : List Slot = None ∷ None ∷ [] in
    let blanks = code 2 two none_two in
    let tail = (and_then (lowered texts e) (λ x. one pair.Fill x x) 2).steps in
    let first : made_by p constants [] ≡ Ok two = (λ i. with_cell [] (pair_slot pair.Greater (b.mark i) (b.mark i)) (λ m. with_cell m (pair_slot pair.Equals (b.mark i) (b.mark i)) (λ l. Ok l))) in
    ap last_cell (made_append p constants tail [] ∙ (ap (λ (r : Result (List Slot) Over). then_made r (made_by p tail)) first ∙ blanks.is))
    ∙ ap (λ (s : Slot). Ok s) (blanks.blank (length blanks.all - 1))
  where
    none_two : AllNone (None ∷ None ∷ [])
    none_two zero = refl
    none_two (suc zero) = refl
    none_two (suc (suc k)) = refl
