use Rattle.std.proofs.Common.{rules, w32, FitsSigned, ◌≡◌, ℕ, ℤ, List, map, sym, ap, ◌∙◌, subst, arith, IfOk}
use Rattle.std.proofs.lemmas.Int.{to_z-of_z}
use Rattle.typed_trees.specs.declared.typed.TypedExpr.{TypedExpr}
use Rattle.typed_trees.specs.Scales.{greatest, scale_of}
use Rattle.typed_values.specs.Narrow.{counted}
use Rattle.expr_steps.specs.declared.steps.Source.{Source}
use Rattle.expr_steps.specs.declared.steps.Source.TheVariants.{Column, Aggregate}
use Rattle.expr_steps.specs.Codes.{Code, and_then, Appends}
use Rattle.expr_steps.specs.Lowered as spec
use Rattle.expr_steps.proofs.Appending.{nothing_appended, passed_on, then_appended}
use Rattle.expr_steps.proofs.Compiled.{as_source, after_one, after_next, among_some, any_equal_continues, first_there_continues, finished, most_of_parts}
use Rattle.expr_steps.proofs.Forms.{lowered_Number, lowered_Text, lowered_Date, lowered_Column, lowered_Aggregate, lowered_Signed, lowered_Not, lowered_Binary, lowered_Divide, lowered_Between, lowered_In, lowered_IsNull, lowered_Coalesce}
use Rattle.expr_steps.proofs.lowering.+lowering.Goals as goal

pub lower-returns-in-Number : goal.lower-returns-in-Number
lower-returns-in-Number t c =
    let texts = c.args.dictionary.now in
    passed_on (spec.constant _) (spec.lowered texts c.args.e.now) c.args.steps.now.items c.number_constant.new.steps.items c.number_constant.result
    (ap (spec.lowered texts) c.in-Number.is ∙ lowered_Number texts c.in-Number.digits c.in-Number.field-1) c.number_constant.ensures

pub lower-returns-in-Text : goal.lower-returns-in-Text
lower-returns-in-Text t c =
    let texts = c.args.dictionary.now in
    passed_on (spec.constant (spec.text_number texts c.text.result.now)) (spec.lowered texts c.args.e.now) c.args.steps.now.items c.text_constant.new.steps.items c.text_constant.result
    (ap (spec.lowered texts) c.in-Text.is ∙ (lowered_Text texts c.in-Text.text ∙ ap (λ (w : List ℕ). spec.constant (spec.text_number texts w)) (sym c.text.ensures))) c.text_constant.ensures

pub lower-returns-in-Date : goal.lower-returns-in-Date
lower-returns-in-Date t c =
    let texts = c.args.dictionary.now in
    let fits : FitsSigned w32 c.in-Date.day = search rules in
    passed_on (spec.constant c.in-Date.day) (spec.lowered texts c.args.e.now) c.args.steps.now.items c.date_constant.new.steps.items c.date_constant.result
    (ap (spec.lowered texts) c.in-Date.is ∙ lowered_Date texts c.in-Date.day)
    (subst (λ (z : ℤ). IfOk c.date_constant.result (Appends (spec.constant z) c.args.steps.now.items c.date_constant.new.steps.items)) (to_z-of_z w32 c.in-Date.day fits) c.date_constant.ensures)

pub lower-returns-in-Column : goal.lower-returns-in-Column
lower-returns-in-Column t c =
    let texts = c.args.dictionary.now in
    as_source texts c.args.e.now c.args.steps.now.items (Column c.in-Column.column) (ap (spec.lowered texts) c.in-Column.is ∙ lowered_Column texts c.in-Column.column c.in-Column.field-1)

pub lower-returns-in-Aggregate : goal.lower-returns-in-Aggregate
lower-returns-in-Aggregate t c =
    let texts = c.args.dictionary.now in
    as_source texts c.args.e.now c.args.steps.now.items (Aggregate c.in-Aggregate.place) (ap (spec.lowered texts) c.in-Aggregate.is ∙ lowered_Aggregate texts c.in-Aggregate.place c.in-Aggregate.field-1)

pub lower-returns-in_ok-a-in-Signed : goal.lower-returns-in_ok-a-in-Signed
lower-returns-in_ok-a-in-Signed t c =
    let texts = c.args.dictionary.now in
    after_one texts c.args.e.now c.in-Signed.x c.get.result.now (spec.sign_step c.in-Signed.sign) c.args.steps.now.items c.lower.new.steps.items c.sign_step.new.steps.items c.in_ok-a-in-Signed.a c.sign_step.result
    (ap (spec.lowered texts) c.in-Signed.is ∙ lowered_Signed texts c.in-Signed.sign c.in-Signed.x) c.get.ensures c.in_ok-a-in-Signed.ensures c.sign_step.ensures

pub lower-returns-in_ok-a-in-Not : goal.lower-returns-in_ok-a-in-Not
lower-returns-in_ok-a-in-Not t c =
    let texts = c.args.dictionary.now in
    after_one texts c.args.e.now c.in-Not.x c.get-in-Not.result.now spec.opposite c.args.steps.now.items c.lower-in-Not.new.steps.items c.opposite.new.steps.items c.in_ok-a-in-Not.a c.opposite.result
    (ap (spec.lowered texts) c.in-Not.is ∙ lowered_Not texts c.in-Not.x) c.get-in-Not.ensures c.in_ok-a-in-Not.ensures c.opposite.ensures

pub lower-returns-in_ok-b-in-Binary : goal.lower-returns-in_ok-b-in-Binary
lower-returns-in_ok-b-in-Binary t c =
    let texts = c.args.dictionary.now in
    let px = spec.part_of texts c.in-Binary.x in
    let py = spec.part_of texts c.in-Binary.y in
    let f : Source → Source → Code = spec.binary texts c.in-Binary.op px py in
    after_one texts c.args.e.now c.in-Binary.x c.get-in-Binary.result.now (λ a. and_then (spec.lowered texts c.in-Binary.y) (λ b. f a b)) c.args.steps.now.items c.lower-in-Binary.new.steps.items c.binary.new.steps.items c.in_ok-a-in-Binary.a c.binary.result
    (ap (spec.lowered texts) c.in-Binary.is ∙ lowered_Binary texts c.in-Binary.op c.in-Binary.x c.in-Binary.y) c.get-in-Binary.ensures c.in_ok-a-in-Binary.ensures
    (after_next texts c.in-Binary.y c.get-in-Binary-2.result.now (λ b. f c.in_ok-a-in-Binary.a b) c.lower-in-Binary.new.steps.items c.lower-in-Binary-2.new.steps.items c.binary.new.steps.items c.in_ok-b-in-Binary.b c.binary.result
    c.get-in-Binary-2.ensures c.in_ok-b-in-Binary.ensures
    (subst (λ (x : TypedExpr). IfOk c.binary.result (Appends (spec.binary texts c.in-Binary.op (spec.part_of texts x) py c.in_ok-a-in-Binary.a c.in_ok-b-in-Binary.b) c.lower-in-Binary-2.new.steps.items c.binary.new.steps.items)) c.get-in-Binary-3.ensures
    (subst (λ (y : TypedExpr). IfOk c.binary.result (Appends (spec.binary texts c.in-Binary.op (spec.part_of texts c.get-in-Binary-3.result.now) (spec.part_of texts y) c.in_ok-a-in-Binary.a c.in_ok-b-in-Binary.b) c.lower-in-Binary-2.new.steps.items c.binary.new.steps.items)) c.get-in-Binary-4.ensures c.binary.ensures)))

pub lower-returns-in_ok-a-in-Divide : goal.lower-returns-in_ok-a-in-Divide
lower-returns-in_ok-a-in-Divide t c =
    let texts = c.args.dictionary.now in
    after_one texts c.args.e.now c.in-Divide.x c.get-in-Divide.result.now (spec.divided c.in-Divide.sign c.in-Divide.digits) c.args.steps.now.items c.lower-in-Divide.new.steps.items c.divided.new.steps.items c.in_ok-a-in-Divide.a c.divided.result
    (ap (spec.lowered texts) c.in-Divide.is ∙ lowered_Divide texts c.in-Divide.x c.in-Divide.sign c.in-Divide.digits) c.get-in-Divide.ensures c.in_ok-a-in-Divide.ensures c.divided.ensures

pub lower-returns-in_ok-c-in-Between : goal.lower-returns-in_ok-c-in-Between
lower-returns-in_ok-c-in-Between t c =
    let texts = c.args.dictionary.now in
    let part = spec.part_of texts in
    let a = c.in_ok-a-in-Between.a in
    let b = c.in_ok-b-in-Between.b in
    let d = c.in_ok-c-in-Between.c in
    let p = c.in-Between.polarity in
    let last = c.lower-in-Between-3.new.steps.items in
    let end = c.between.new.steps.items in
    after_one texts c.args.e.now c.in-Between.x c.get-in-Between.result.now (λ a. and_then (spec.lowered texts c.in-Between.least) (λ b. and_then (spec.lowered texts c.in-Between.most) (λ d. and_then (spec.outside texts (part c.in-Between.x) (part c.in-Between.least) (part c.in-Between.most) a b d) (spec.unless_negated p)))) c.args.steps.now.items c.lower-in-Between.new.steps.items end a c.between.result
    (ap (spec.lowered texts) c.in-Between.is ∙ lowered_Between texts p c.in-Between.x c.in-Between.least c.in-Between.most) c.get-in-Between.ensures c.in_ok-a-in-Between.ensures
    (after_next texts c.in-Between.least c.get-in-Between-2.result.now (λ b. and_then (spec.lowered texts c.in-Between.most) (λ d. and_then (spec.outside texts (part c.in-Between.x) (part c.in-Between.least) (part c.in-Between.most) a b d) (spec.unless_negated p))) c.lower-in-Between.new.steps.items c.lower-in-Between-2.new.steps.items end b c.between.result
    c.get-in-Between-2.ensures c.in_ok-b-in-Between.ensures
    (after_next texts c.in-Between.most c.get-in-Between-3.result.now (λ d. and_then (spec.outside texts (part c.in-Between.x) (part c.in-Between.least) (part c.in-Between.most) a b d) (spec.unless_negated p)) c.lower-in-Between-2.new.steps.items last end d c.between.result
    c.get-in-Between-3.ensures c.in_ok-c-in-Between.ensures
    (subst (λ (x : TypedExpr). IfOk c.between.result (Appends (and_then (spec.outside texts (part x) (part c.in-Between.least) (part c.in-Between.most) a b d) (spec.unless_negated p)) last end)) c.get-in-Between-4.ensures
    (subst (λ (y : TypedExpr). IfOk c.between.result (Appends (and_then (spec.outside texts (part c.get-in-Between-4.result.now) (part y) (part c.in-Between.most) a b d) (spec.unless_negated p)) last end)) c.get-in-Between-5.ensures
    (subst (λ (z : TypedExpr). IfOk c.between.result (Appends (and_then (spec.outside texts (part c.get-in-Between-4.result.now) (part c.get-in-Between-5.result.now) (part z) a b d) (spec.unless_negated p)) last end)) c.get-in-Between-6.ensures c.between.ensures)))))

pub lower-returns-in_ok-found-in-In : goal.lower-returns-in_ok-found-in-In
lower-returns-in_ok-found-in-In t c =
    let texts = c.args.dictionary.now in
    let part = spec.part_of texts in
    let a = c.in_ok-a-in-In.a in
    let mid = c.lower-in-In.new.steps.items in
    let last = c.lower_among.new.steps.items in
    let found = c.in_ok-found-in-In.found in
    after_one texts c.args.e.now c.in-In.x c.get-in-In.result.now (λ a. and_then (spec.found_among texts (part c.in-In.x) a (map part c.in-In.others)) (spec.by_polarity c.in-In.polarity)) c.args.steps.now.items mid c.by_polarity.new.steps.items a c.by_polarity.result
    (ap (spec.lowered texts) c.in-In.is ∙ lowered_In texts c.in-In.polarity c.in-In.x c.in-In.others) c.get-in-In.ensures c.in_ok-a-in-In.ensures
    (then_appended (spec.found_among texts (part c.in-In.x) a (map part c.in-In.others)) (spec.by_polarity c.in-In.polarity) mid last c.by_polarity.new.steps.items found c.by_polarity.result
    (subst (λ (x : TypedExpr). Appends (spec.found_among texts (part x) a (map part c.in-In.others)) mid last found) c.get-in-In-2.ensures
    (subst (λ (ys : List TypedExpr). Appends (spec.found_among texts (part c.get-in-In-2.result.now) a (map part ys)) mid last found) c.as_slice.ensures c.in_ok-found-in-In.ensures)) c.by_polarity.ensures)

pub lower-returns-in_ok-a-in-IsNull : goal.lower-returns-in_ok-a-in-IsNull
lower-returns-in_ok-a-in-IsNull t c =
    let texts = c.args.dictionary.now in
    after_one texts c.args.e.now c.in-IsNull.x c.get-in-IsNull.result.now (spec.null_test c.in-IsNull.polarity) c.args.steps.now.items c.lower-in-IsNull.new.steps.items c.null_test.new.steps.items c.in_ok-a-in-IsNull.a c.null_test.result
    (ap (spec.lowered texts) c.in-IsNull.is ∙ lowered_IsNull texts c.in-IsNull.polarity c.in-IsNull.x) c.get-in-IsNull.ensures c.in_ok-a-in-IsNull.ensures c.null_test.ensures

pub lower-returns-in_ok-first-in-Coalesce : goal.lower-returns-in_ok-first-in-Coalesce
lower-returns-in_ok-first-in-Coalesce t c =
    let texts = c.args.dictionary.now in
    let part = spec.part_of texts in
    let x = c.in-Coalesce.x in
    let ys = c.in-Coalesce.others in
    let a = c.in_ok-a-in-Coalesce.a in
    let first = c.in_ok-first-in-Coalesce.first in
    let to = c.greatest_scale-to.result in
    let mid = c.lower-in-Coalesce.new.steps.items in
    let last = c.at_scale.new.steps.items in
    let end = c.lower_first_there.new.steps.items in
    let most : to ≡ spec.most_scale (part x) (map part ys) =
    most_of_parts texts x ys c.scale.result to (c.scale.ensures ∙ ap (λ z. counted (scale_of z)) c.get-in-Coalesce.ensures)
    (subst (λ (l : List TypedExpr). to ≡ counted (greatest c.scale.result (map scale_of l))) c.as_slice-in-Coalesce.ensures c.greatest_scale-to.ensures) in
    after_one texts c.args.e.now x c.get-in-Coalesce-2.result.now (λ a. and_then (spec.times (spec.raise (spec.most_scale (part x) (map part ys)) (counted (scale_of x))) a) (spec.first_there (spec.most_scale (part x) (map part ys)) (map part ys))) c.args.steps.now.items mid end a c.lower_first_there.result
    (ap (spec.lowered texts) c.in-Coalesce.is ∙ lowered_Coalesce texts x ys) c.get-in-Coalesce-2.ensures c.in_ok-a-in-Coalesce.ensures
    (subst (λ (k : ℕ). IfOk c.lower_first_there.result (Appends (and_then (spec.times (spec.raise k (counted (scale_of x))) a) (spec.first_there k (map part ys))) mid end)) most
    (then_appended (spec.times (spec.raise to (counted (scale_of x))) a) (spec.first_there to (map part ys)) mid last end first c.lower_first_there.result
    (subst (λ (z : TypedExpr). Appends (spec.times (spec.raise to (counted (scale_of z))) a) mid last first) c.get-in-Coalesce-3.ensures c.in_ok-first-in-Coalesce.ensures)
    (subst (λ (l : List TypedExpr). IfOk c.lower_first_there.result (Appends (spec.first_there to (map part l) first) last end)) c.as_slice-in-Coalesce-2.ensures c.lower_first_there.ensures)))

pub lower_among-loop-y-init : goal.lower_among-loop-y-init
lower_among-loop-y-init t c new z rest =
    subst (λ (found : Source). Appends (spec.any_equal c.args.dictionary.now (spec.part_of c.args.dictionary.now c.args.x.now) c.args.a (map (spec.part_of c.args.dictionary.now) c.args.others.now) found) c.args.steps.now.items new z) c.truth_source-found.ensures rest

pub lower_among-loop-y-preserved : goal.lower_among-loop-y-preserved
lower_among-loop-y-preserved t c =
    let texts = c.args.dictionary.now in
    any_equal_continues texts c.args.x.now c.y-item.result c.args.a c.loop-y.found c.in_ok-b.b c.in_ok-found.found c.args.others.now c.loop-y.y-index c.args.steps.now.items c.loop-y.steps.items c.lower.new.steps.items c.or_equal.new.steps.items
    (spec.any_equal texts (spec.part_of texts c.args.x.now) c.args.a (map (spec.part_of texts) c.args.others.now) spec.zero) (omega (arith, c.loop-y-test.true)) c.y-item.is c.loop-y.invariant c.in_ok-b.ensures c.in_ok-found.ensures

pub lower_among-returns : goal.lower_among-returns
lower_among-returns t c =
    let texts = c.args.dictionary.now in
    subst (λ (m : Code). Appends m c.args.steps.now.items c.loop-y.steps.items c.loop-y.found) (sym (among_some texts c.args.x.now c.args.a c.args.others.now c.if-is_empty.ensures))
    (c.loop-y.invariant c.loop-y.steps.items c.loop-y.found
    (subst (λ (l : List TypedExpr). Appends (spec.any_equal texts (spec.part_of texts c.args.x.now) c.args.a (map (spec.part_of texts) l) c.loop-y.found) c.loop-y.steps.items c.loop-y.steps.items c.loop-y.found) (sym (finished c.args.others.now c.loop-y.y-index (omega (arith, c.loop-y-test.false))))
    (nothing_appended c.loop-y.steps.items c.loop-y.found)))

pub lower_first_there-loop-y-init : goal.lower_first_there-loop-y-init
lower_first_there-loop-y-init t c new z rest = rest

pub lower_first_there-loop-y-preserved : goal.lower_first_there-loop-y-preserved
lower_first_there-loop-y-preserved t c =
    let texts = c.args.dictionary.now in
    first_there_continues texts c.args.to c.y-item.result c.loop-y.found c.in_ok-b.b c.in_ok-found.found c.args.others.now c.loop-y.y-index c.args.steps.now.items c.loop-y.steps.items c.lower.new.steps.items c.filled.new.steps.items
    (spec.first_there c.args.to (map (spec.part_of texts) c.args.others.now) c.args.first) (omega (arith, c.loop-y-test.true)) c.y-item.is c.loop-y.invariant c.in_ok-b.ensures c.in_ok-found.ensures

pub lower_first_there-returns : goal.lower_first_there-returns
lower_first_there-returns t c =
    let texts = c.args.dictionary.now in
    c.loop-y.invariant c.loop-y.steps.items c.loop-y.found
    (subst (λ (l : List TypedExpr). Appends (spec.first_there c.args.to (map (spec.part_of texts) l) c.loop-y.found) c.loop-y.steps.items c.loop-y.steps.items c.loop-y.found) (sym (finished c.args.others.now c.loop-y.y-index (omega (arith, c.loop-y-test.false))))
    (nothing_appended c.loop-y.steps.items c.loop-y.found))
