use Rattle.std.proofs.Common.{rules, ◌≡◌, ◌∙◌, take, drop, Some, None, sym, refl}
use Rattle.number_fields.specs.Capped.{capped_after}
use Rattle.number_fields.proofs.CappedLaws.{parts_all, parts_no_back, parts_no_front}
use Rattle.number_fields.proofs.decimals.parts.Goals as goal

pub returns-in_err-value : goal.returns-in_err-value
returns-in_err-value c =
    let whole : capped_after 0 c.args.whole.now ≡ Some c.in_ok-value_after.field-0 = search rules in
    let front : capped_after c.in_ok-value_after.field-0 (take c.args.scale c.args.fraction.now) ≡ None = search rules in
    let none : c.from_residual-in_err-value.result ≡ None = search rules in
    none ∙ sym (parts_no_front c.args.scale c.args.whole.now c.args.fraction.now c.in_ok-value_after.field-0 whole front)

pub returns-in_err-rest : goal.returns-in_err-rest
returns-in_err-rest c =
    let whole : capped_after 0 c.args.whole.now ≡ Some c.in_ok-value_after.field-0 = search rules in
    let front : capped_after c.in_ok-value_after.field-0 (take c.args.scale c.args.fraction.now) ≡ Some c.in_ok-value.value = search rules in
    let back : capped_after 0 (drop c.args.scale c.args.fraction.now) ≡ None = search rules in
    let none : c.from_residual-in_err-rest.result ≡ None = search rules in
    none ∙ sym (parts_no_back c.args.scale c.args.whole.now c.args.fraction.now c.in_ok-value_after.field-0 c.in_ok-value.value whole front back)

pub returns : goal.returns
returns c =
    let whole : capped_after 0 c.args.whole.now ≡ Some c.in_ok-value_after.field-0 = search rules in
    let front : capped_after c.in_ok-value_after.field-0 (take c.args.scale c.args.fraction.now) ≡ Some c.in_ok-value.value = search rules in
    let back : capped_after 0 (drop c.args.scale c.args.fraction.now) ≡ Some c.in_ok-rest.rest = search rules in
    let parts = parts_all c.args.scale c.args.whole.now c.args.fraction.now c.in_ok-value_after.field-0 c.in_ok-value.value c.in_ok-rest.rest whole front back in
    rw (parts, c.scaled.ensures, c.saturating_sub-missing.ensures) refl
