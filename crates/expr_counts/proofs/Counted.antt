-- The counts of steps: by induction over the expression.
use Rattle.std.proofs.Common.{◌≡◌, ℕ, ◌+◌, ◌*◌, ◌≤◌, List, [], ◌∷◌, map, sum, sym, arith, subst, length-append}
use Rattle.std.proofs.lemmas.List.Sums.{sum_by-cons}
use Rattle.control_vectors.specs.declared.PairKind.TheVariants as pair
use Rattle.query_trees.specs.declared.expr.BinaryOp.{BinaryOp}
use Rattle.query_trees.specs.declared.expr.BinaryOp.TheVariants as op
use Rattle.query_trees.specs.declared.expr.Polarity.{Polarity}
use Rattle.query_trees.specs.declared.expr.Polarity.TheVariants.{Plain, Negated}
use Rattle.typed_trees.specs.declared.typed.TypedExpr.{TypedExpr, roll-TypedExpr}
use Rattle.typed_trees.specs.declared.typed.TypedExpr.TheOpen.{TypedExpr-F}
use Rattle.typed_trees.specs.declared.typed.TypedExpr.TheFolds.{map-TypedExpr, ind-TypedExpr, fold-roll-TypedExpr}
use Rattle.typed_trees.specs.Scales.{scale_of}
use Rattle.typed_values.specs.Narrow.{counted}
use Rattle.query_sizes.specs.Sizes.{form_nodes, nodes}
use Rattle.expr_steps.specs.declared.steps.Source.{Source}
use Rattle.expr_steps.specs.declared.steps.Source.TheVariants.{Column, Aggregate}
use Rattle.expr_steps.specs.Codes.{Code, one, and_then}
use Rattle.expr_steps.specs.Lowered.{Bytes, Part, part_of, lowered, form_code, zero, opposite, constants, binary, sign_step, divided, null_test, outside, unless_negated, by_polarity, found_among, any_equal, or_equal, found_equal, first_there, filled, filled_from, most_scale, times, raise}
use Rattle.expr_steps.proofs.Forms.{lowered_roll}
use Rattle.expr_counts.specs.Counts.{form_steps, most_steps, alone_steps, others_steps, in_steps, between_steps, binary_steps, FormLaw, NodeLaw, CountLaw}
use Rattle.expr_counts.proofs.Most.{AtMost, fewer, then_most, none_most, one_most, opposite_most, times_most, binary_most, sign_most, null_test_most, polarity_most, between_most, found_equal_most, filled_from_most}

-- ---- the folds by form

steps_roll : (d : TypedExpr-F TypedExpr) → most_steps (roll-TypedExpr d) ≡ form_steps (map-TypedExpr TypedExpr ℕ most_steps d)
unfolding most_steps
steps_roll d = fold-roll-TypedExpr ℕ form_steps d

nodes_roll : (d : TypedExpr-F TypedExpr) → nodes (roll-TypedExpr d) ≡ form_nodes (map-TypedExpr TypedExpr ℕ nodes d)
unfolding nodes
nodes_roll d = fold-roll-TypedExpr ℕ form_nodes d

-- ---- each form's own steps

abbrev pub Few : List Bytes → TypedExpr → Type 0
Few texts e = AtMost (most_steps e) (lowered texts e)

abbrev pub exprs : (texts : List Bytes) → List ((e : TypedExpr) × Few texts e) → List TypedExpr
exprs texts l = map (λ x. x.0) l

any_equal_most : (texts : List Bytes) (x : Part) (a : Source) (ys : List ((e : TypedExpr) × Few texts e)) (found : Source) → AtMost (others_steps 3 (map most_steps (exprs texts ys))) (any_equal texts x a (map (part_of texts) (exprs texts ys)) found)
any_equal_most texts x a [] found = λ k. omega arith
any_equal_most texts x a (y ∷ ys) found =
    let rest = others_steps 3 (map most_steps (exprs texts ys)) in
    then_most (most_steps y.0 + 3) rest (or_equal texts x a (part_of texts y.0) found) (any_equal texts x a (map (part_of texts) (exprs texts ys)))
    (then_most (most_steps y.0) 3 (lowered texts y.0) (found_equal texts x a (part_of texts y.0) found) y.1 (λ b. found_equal_most texts x (part_of texts y.0) a found b))
    (λ next. any_equal_most texts x a ys next)

found_among_most : (texts : List Bytes) (x : Part) (a : Source) (ys : List ((e : TypedExpr) × Few texts e)) → AtMost (alone_steps (map most_steps (exprs texts ys)) + others_steps 3 (map most_steps (exprs texts ys))) (found_among texts x a (map (part_of texts) (exprs texts ys)))
found_among_most texts x a [] = λ k. omega arith
found_among_most texts x a (y ∷ ys) =
    let n = others_steps 3 (map most_steps (exprs texts (y ∷ ys))) in
    fewer n (0 + n) (any_equal texts x a (map (part_of texts) (exprs texts (y ∷ ys))) zero) (omega arith) (any_equal_most texts x a (y ∷ ys) zero)

first_there_most : (texts : List Bytes) (to : ℕ) (ys : List ((e : TypedExpr) × Few texts e)) (found : Source) → AtMost (others_steps 2 (map most_steps (exprs texts ys))) (first_there to (map (part_of texts) (exprs texts ys)) found)
first_there_most texts to [] found = λ k. omega arith
first_there_most texts to (y ∷ ys) found =
    let rest = others_steps 2 (map most_steps (exprs texts ys)) in
    then_most (most_steps y.0 + 2) rest (filled to (part_of texts y.0) found) (first_there to (map (part_of texts) (exprs texts ys)))
    (then_most (most_steps y.0) 2 (lowered texts y.0) (filled_from to (scale_of y.0) found) y.1 (λ b. filled_from_most to (scale_of y.0) found b))
    (λ next. first_there_most texts to ys next)

by_form : (texts : List Bytes) (d : TypedExpr-F TypedExpr) → AtMost (form_steps (map-TypedExpr TypedExpr ℕ most_steps d)) (form_code texts (map-TypedExpr TypedExpr Part (part_of texts) d)) → Few texts (roll-TypedExpr d)
by_form texts d h = subst (λ (n : ℕ). AtMost n (lowered texts (roll-TypedExpr d))) (sym (steps_roll d)) (subst (λ (m : Code). AtMost (form_steps (map-TypedExpr TypedExpr ℕ most_steps d)) m) (sym (lowered_roll texts d)) h)

by_layer : (texts : List Bytes) (y : TypedExpr-F ((e : TypedExpr) × Few texts e)) → Few texts (roll-TypedExpr (map-TypedExpr ((e : TypedExpr) × Few texts e) TypedExpr (λ x. x.0) y))
by_layer texts (TypedExpr-F.Number n scale) = by_form texts (TypedExpr-F.Number n scale) (λ k. omega arith)
by_layer texts (TypedExpr-F.Text t) = by_form texts (TypedExpr-F.Text t) (λ k. omega arith)
by_layer texts (TypedExpr-F.Date day) = by_form texts (TypedExpr-F.Date day) (λ k. omega arith)
by_layer texts (TypedExpr-F.Column c type) = by_form texts (TypedExpr-F.Column c type) (none_most (Column c))
by_layer texts (TypedExpr-F.Aggregate n scale) = by_form texts (TypedExpr-F.Aggregate n scale) (none_most (Aggregate n))
by_layer texts (TypedExpr-F.Signed s x) = by_form texts (TypedExpr-F.Signed s x.0) (then_most (most_steps x.0) 1 (lowered texts x.0) (sign_step s) x.1 (sign_most s))
by_layer texts (TypedExpr-F.Not x) = by_form texts (TypedExpr-F.Not x.0) (then_most (most_steps x.0) 1 (lowered texts x.0) opposite x.1 opposite_most)
by_layer texts (TypedExpr-F.Binary o x y) =
    let px = part_of texts x.0 in let py = part_of texts y.0 in
    by_form texts (TypedExpr-F.Binary o x.0 y.0)
    (then_most (most_steps x.0) (most_steps y.0 + binary_steps o) (lowered texts x.0) (λ a. and_then (lowered texts y.0) (λ b. binary texts o px py a b)) x.1
    (λ a. then_most (most_steps y.0) (binary_steps o) (lowered texts y.0) (λ b. binary texts o px py a b) y.1 (λ b. binary_most texts o px py a b)))
by_layer texts (TypedExpr-F.Divide x s n) = by_form texts (TypedExpr-F.Divide x.0 s n) (then_most (most_steps x.0) 1 (lowered texts x.0) (divided s n) x.1 (λ a k. omega arith))
by_layer texts (TypedExpr-F.Between p x y z) =
    let px = part_of texts x.0 in let py = part_of texts y.0 in let pz = part_of texts z.0 in
    by_form texts (TypedExpr-F.Between p x.0 y.0 z.0)
    (then_most (most_steps x.0) (most_steps y.0 + (most_steps z.0 + between_steps p)) (lowered texts x.0) (λ a. and_then (lowered texts y.0) (λ b. and_then (lowered texts z.0) (λ c. and_then (outside texts px py pz a b c) (unless_negated p)))) x.1
    (λ a. then_most (most_steps y.0) (most_steps z.0 + between_steps p) (lowered texts y.0) (λ b. and_then (lowered texts z.0) (λ c. and_then (outside texts px py pz a b c) (unless_negated p))) y.1
    (λ b. then_most (most_steps z.0) (between_steps p) (lowered texts z.0) (λ c. and_then (outside texts px py pz a b c) (unless_negated p)) z.1 (λ c. between_most texts p px py pz a b c))))
by_layer texts (TypedExpr-F.In p x ys) =
    let px = part_of texts x.0 in
    let more = alone_steps (map most_steps (exprs texts ys)) + others_steps 3 (map most_steps (exprs texts ys)) in
    by_form texts (TypedExpr-F.In p x.0 (exprs texts ys))
    (then_most (most_steps x.0) (more + in_steps p) (lowered texts x.0) (λ a. and_then (found_among texts px a (map (part_of texts) (exprs texts ys))) (by_polarity p)) x.1
    (λ a. then_most more (in_steps p) (found_among texts px a (map (part_of texts) (exprs texts ys))) (by_polarity p) (found_among_most texts px a ys) (polarity_most p)))
by_layer texts (TypedExpr-F.IsNull p x) = by_form texts (TypedExpr-F.IsNull p x.0) (then_most (most_steps x.0) 2 (lowered texts x.0) (null_test p) x.1 (null_test_most p))
by_layer texts (TypedExpr-F.Coalesce x ys) =
    let px = part_of texts x.0 in
    let parts = map (part_of texts) (exprs texts ys) in
    let to = most_scale px parts in
    let more = others_steps 2 (map most_steps (exprs texts ys)) in
    by_form texts (TypedExpr-F.Coalesce x.0 (exprs texts ys))
    (then_most (most_steps x.0) (1 + more) (lowered texts x.0) (λ a. and_then (times (raise to (counted px.scale)) a) (first_there to parts)) x.1
    (λ a. then_most 1 more (times (raise to (counted px.scale)) a) (first_there to parts) (times_most (raise to (counted px.scale)) a) (first_there_most texts to ys)))

pub form_law : FormLaw
form_law texts = ind-TypedExpr (Few texts) (λ x y is. subst (λ z. Few texts (roll-TypedExpr z)) is (by_layer texts y))

-- ---- four for each node

abbrev pub Within : TypedExpr → Type 0
Within e = most_steps e + 3 ≤ 4 * nodes e

abbrev pub nodes_in : List ((e : TypedExpr) × Within e) → List TypedExpr
nodes_in l = map (λ x. x.0) l

sum_more : (n : ℕ) (ys : List ℕ) → sum (n ∷ ys) ≡ n + sum ys
sum_more n ys = sum_by-cons (λ (k : ℕ). k) n ys

others_within : (each : ℕ) (ys : List ((e : TypedExpr) × Within e)) → each ≤ 3 → others_steps each (map most_steps (nodes_in ys)) ≤ 4 * sum (map nodes (nodes_in ys))
others_within each [] h = omega arith
others_within each (y ∷ ys) h =
    let more = others_within each ys h in
    let first = y.1 in
    let all = sum_more (nodes y.0) (map nodes (nodes_in ys)) in
    omega (arith, more, first, all, h)

within_by : (d : TypedExpr-F TypedExpr) → form_steps (map-TypedExpr TypedExpr ℕ most_steps d) + 3 ≤ 4 * form_nodes (map-TypedExpr TypedExpr ℕ nodes d) → Within (roll-TypedExpr d)
within_by d h = let a = steps_roll d in let b = nodes_roll d in omega (arith, a, b, h)

binary_few : (o : BinaryOp) → binary_steps o ≤ 3
binary_few op.Or = omega arith
binary_few op.And = omega arith
binary_few op.Equal = omega arith
binary_few op.Differs = omega arith
binary_few op.Less = omega arith
binary_few op.LessEqual = omega arith
binary_few op.Greater = omega arith
binary_few op.GreaterEqual = omega arith
binary_few op.Add = omega arith
binary_few op.Subtract = omega arith
binary_few op.Multiply = omega arith

between_few : (p : Polarity) → between_steps p ≤ 6
between_few Plain = omega arith
between_few Negated = omega arith

in_few : (p : Polarity) → in_steps p ≤ 1
in_few Plain = omega arith
in_few Negated = omega arith

alone_few : (ys : List ℕ) → alone_steps ys ≤ 1
alone_few [] = omega arith
alone_few (y ∷ ys) = omega arith

layer_within : (y : TypedExpr-F ((e : TypedExpr) × Within e)) → Within (roll-TypedExpr (map-TypedExpr ((e : TypedExpr) × Within e) TypedExpr (λ x. x.0) y))
layer_within (TypedExpr-F.Number n scale) = within_by (TypedExpr-F.Number n scale) (omega arith)
layer_within (TypedExpr-F.Text t) = within_by (TypedExpr-F.Text t) (omega arith)
layer_within (TypedExpr-F.Date day) = within_by (TypedExpr-F.Date day) (omega arith)
layer_within (TypedExpr-F.Column c type) = within_by (TypedExpr-F.Column c type) (omega arith)
layer_within (TypedExpr-F.Aggregate n scale) = within_by (TypedExpr-F.Aggregate n scale) (omega arith)
layer_within (TypedExpr-F.Signed s x) = let a = x.1 in within_by (TypedExpr-F.Signed s x.0) (omega (arith, a))
layer_within (TypedExpr-F.Not x) = let a = x.1 in within_by (TypedExpr-F.Not x.0) (omega (arith, a))
layer_within (TypedExpr-F.Binary o x y) = let a = x.1 in let b = y.1 in let c = binary_few o in within_by (TypedExpr-F.Binary o x.0 y.0) (omega (arith, a, b, c))
layer_within (TypedExpr-F.Divide x s n) = let a = x.1 in within_by (TypedExpr-F.Divide x.0 s n) (omega (arith, a))
layer_within (TypedExpr-F.Between p x y z) = let a = x.1 in let b = y.1 in let c = z.1 in let d = between_few p in within_by (TypedExpr-F.Between p x.0 y.0 z.0) (omega (arith, a, b, c, d))
layer_within (TypedExpr-F.In p x ys) = let a = x.1 in let b = others_within 3 ys (omega arith) in let c = in_few p in let d = alone_few (map most_steps (nodes_in ys)) in within_by (TypedExpr-F.In p x.0 (nodes_in ys)) (omega (arith, a, b, c, d))
layer_within (TypedExpr-F.IsNull p x) = let a = x.1 in within_by (TypedExpr-F.IsNull p x.0) (omega (arith, a))
layer_within (TypedExpr-F.Coalesce x ys) = let a = x.1 in let b = others_within 2 ys (omega arith) in within_by (TypedExpr-F.Coalesce x.0 (nodes_in ys)) (omega (arith, a, b))

pub node_law : NodeLaw
node_law = ind-TypedExpr Within (λ x y is. subst (λ z. Within (roll-TypedExpr z)) is (layer_within y))

-- ---- the whole

pub count_law : CountLaw
count_law texts e =
    let m = then_most (most_steps e) 1 (lowered texts e) (λ x. one pair.Fill x x) (form_law texts e) (λ x. one_most pair.Fill x x) 2 in
    let all = length-append constants (and_then (lowered texts e) (λ x. one pair.Fill x x) 2).steps in
    let few = node_law e in
    omega (arith, m, all, few)
