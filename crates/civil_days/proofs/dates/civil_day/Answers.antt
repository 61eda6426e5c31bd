use Rattle.std.proofs.Common.{rules, arith, ◌≡◌, ◌≤◌, ◌∙◌, pos, ap, to_z, w8, w16, w32, FitsSigned, IsOk, Some}
use Rattle.std.proofs.lemmas.Int.{ints, to_z-of_z}
use Rattle.civil_days.proofs.DateFacts.{some-day}
use Rattle.civil_days.proofs.dates.civil_day.Goals as goal

pub returns-in-Ok : goal.returns-in-Ok
returns-in-Ok c =
    let ey : to_z w16 c.args.year ≡ pos c.args.year = omega (arith, ints) in
    let em : to_z w8 c.args.month ≡ pos c.args.month = omega (arith, ints) in
    let ed : to_z w8 c.args.day ≡ pos c.args.day = omega (arith, ints) in
    let ok : IsOk c.new.result = search rules in
    let date = rw (ey, em, ed) at (c.new.ensures.succeeds.0 ok) in
    let v = c.in-Ok.ensures.value in
    let fits : FitsSigned w32 c.to_unix_epoch_day.result = search rules in
    let low : 1 ≤ c.args.year = omega arith in
    ap Some (to_z-of_z w32 _ fits) ∙ some-day _ c.args.year c.args.month c.args.day c.in-Ok.date.year c.in-Ok.date.month c.in-Ok.date.day low date (v.0 ∙ ey) (v.1 ∙ em) (v.2 ∙ ed) c.to_unix_epoch_day.ensures.value
