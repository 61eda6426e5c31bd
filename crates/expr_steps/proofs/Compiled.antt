-- The code that is appended for each form of an expression.
use Rattle.std.proofs.Common.{◌≡◌, ℕ, ◌+◌, ◌==◌, false, ◌<◌, ◌≤◌, List, [], ◌∷◌, map, drop, get_or, length, sym, ap, ◌∙◌, subst, refl, IfOk, Result}
use Rattle.typed_trees.specs.declared.typed.TypedExpr.{TypedExpr}
use Rattle.typed_trees.specs.Scales.{greatest, scale_of}
use Rattle.typed_values.specs.Narrow.{counted}
use Rattle.expr_steps.specs.declared.steps.Source.{Source}
use Rattle.expr_steps.specs.declared.steps.Step.{Step}
use Rattle.expr_steps.specs.Codes.{Code, from_source, and_then, Appends}
use Rattle.expr_steps.specs.Lowered.{Bytes, Part, part_of, lowered, zero, found_among, any_equal, or_equal, found_equal, first_there, filled, filled_from, most_scale}
use Rattle.expr_steps.proofs.Appending.{nothing_appended, appended, passed_on, then_appended}
use Rattle.std.proofs.lemmas.List.{drop_all}
use Rattle.expr_steps.proofs.Counted.{rest_from, greatest_counted}

pub as_source : (texts : List Bytes) (e : TypedExpr) (old : List Step) (x : Source) → lowered texts e ≡ from_source x → Appends (lowered texts e) old old x
as_source texts e old x is = subst (λ (m : Code). Appends m old old x) (sym is) (nothing_appended old x)

pub after_one : {E : Type 0} (texts : List Bytes) (e x y : TypedExpr) (f : Source → Code) (old mid new : List Step) (a : Source) (r : Result Source E) → lowered texts e ≡ and_then (lowered texts x) f → y ≡ x → Appends (lowered texts y) old mid a → IfOk r (Appends (f a) mid new) → IfOk r (Appends (lowered texts e) old new)
after_one texts e x y f old mid new a r is same at h =
    passed_on (and_then (lowered texts x) f) (lowered texts e) old new r is (then_appended (lowered texts x) f old mid new a r (subst (λ (z : TypedExpr). Appends (lowered texts z) old mid a) same at) h)

-- an operand between the first one and what reads it
pub after_next : {E : Type 0} (texts : List Bytes) (x y : TypedExpr) (f : Source → Code) (old mid new : List Step) (a : Source) (r : Result Source E) → y ≡ x → Appends (lowered texts y) old mid a → IfOk r (Appends (f a) mid new) → IfOk r (Appends (and_then (lowered texts x) f) old new)
after_next texts x y f old mid new a r same at h = then_appended (lowered texts x) f old mid new a r (subst (λ (z : TypedExpr). Appends (lowered texts z) old mid a) same at) h

-- ---- lists of operands, one by one

-- what is left of a list, behind what is found so far
abbrev pub Continues : (Source → Code) → List Step → Code → List Step → Source → Type 0
Continues rest old whole now found = (new : List Step) (x : Source) → Appends (rest found) now new x → Appends whole old new x

parts_from : (texts : List Bytes) (l : List TypedExpr) (i : ℕ) (y : TypedExpr) → i < length l → y ≡ get_or l i y → map (part_of texts) (drop i l) ≡ part_of texts y ∷ map (part_of texts) (drop (i + 1) l)
parts_from texts l i y h is = ap (λ (r : List TypedExpr). map (part_of texts) r) (rest_from l i y h is)

pub any_equal_continues : (texts : List Bytes) (x y : TypedExpr) (a found b next : Source) (l : List TypedExpr) (i : ℕ) (old now mid new : List Step) (whole : Code) → i < length l → y ≡ get_or l i y → Continues (any_equal texts (part_of texts x) a (map (part_of texts) (drop i l))) old whole now found → Appends (lowered texts y) now mid b → Appends (found_equal texts (part_of texts x) a (part_of texts y) found b) mid new next → Continues (any_equal texts (part_of texts x) a (map (part_of texts) (drop (i + 1) l))) old whole new next
any_equal_continues texts x y a found b next l i old now mid new whole h is so_far at step more z rest =
    let px = part_of texts x in let py = part_of texts y in
    let one_more : Appends (or_equal texts px a py found) now new next = appended (lowered texts y) (found_equal texts px a py found) now mid new b next at step in
    let joined : Appends (any_equal texts px a (py ∷ map (part_of texts) (drop (i + 1) l)) found) now more z = appended (or_equal texts px a py found) (any_equal texts px a (map (part_of texts) (drop (i + 1) l))) now new more next z one_more rest in
    so_far more z (subst (λ (ys : List Part). Appends (any_equal texts px a ys found) now more z) (sym (parts_from texts l i y h is)) joined)

pub first_there_continues : (texts : List Bytes) (to : ℕ) (y : TypedExpr) (found b next : Source) (l : List TypedExpr) (i : ℕ) (old now mid new : List Step) (whole : Code) → i < length l → y ≡ get_or l i y → Continues (first_there to (map (part_of texts) (drop i l))) old whole now found → Appends (lowered texts y) now mid b → Appends (filled_from to (scale_of y) found b) mid new next → Continues (first_there to (map (part_of texts) (drop (i + 1) l))) old whole new next
first_there_continues texts to y found b next l i old now mid new whole h is so_far at step more z rest =
    let py = part_of texts y in
    let one_more : Appends (filled to py found) now new next = appended (lowered texts y) (filled_from to (scale_of y) found) now mid new b next at step in
    let joined : Appends (first_there to (py ∷ map (part_of texts) (drop (i + 1) l)) found) now more z = appended (filled to py found) (first_there to (map (part_of texts) (drop (i + 1) l))) now new more next z one_more rest in
    so_far more z (subst (λ (ys : List Part). Appends (first_there to ys found) now more z) (sym (parts_from texts l i y h is)) joined)

-- where IN has some operands, each is compared
pub among_some : (texts : List Bytes) (x : TypedExpr) (a : Source) (l : List TypedExpr) → false ≡ (length l == 0) → found_among texts (part_of texts x) a (map (part_of texts) l) ≡ any_equal texts (part_of texts x) a (map (part_of texts) l) zero
among_some texts x a [] h = absurd cc
among_some texts x a (y ∷ ys) h = refl

pub finished : (l : List TypedExpr) (i : ℕ) → length l ≤ i → drop i l ≡ []
finished l i h = drop_all i l h

-- ---- the scale of a choice

scales_beside : (texts : List Bytes) (ys : List TypedExpr) → map (λ (y : Part). y.scale) (map (part_of texts) ys) ≡ map scale_of ys
scales_beside texts [] = refl
scales_beside texts (y ∷ ys) = ap (λ (more : List ℕ). scale_of y ∷ more) (scales_beside texts ys)

pub most_of_parts : (texts : List Bytes) (x : TypedExpr) (ys : List TypedExpr) (s to : ℕ) → s ≡ counted (scale_of x) → to ≡ counted (greatest s (map scale_of ys)) → to ≡ most_scale (part_of texts x) (map (part_of texts) ys)
most_of_parts texts x ys s to is most =
    most ∙ (ap (λ t. counted (greatest t (map scale_of ys))) is ∙ (sym (greatest_counted (scale_of x) (map scale_of ys)) ∙ sym (ap (λ (l : List ℕ). counted (greatest (scale_of x) l)) (scales_beside texts ys))))
