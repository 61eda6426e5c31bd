use Rattle.std.proofs.Common.{◌≡◌, ◌+◌, ◌-◌, ◌∙◌, ap, arith, take}
use Rattle.std.proofs.lemmas.Str.Pattern.{rfind_char}
use Rattle.run_steps.proofs.Folders.{folder_of-bare, folder_of-slash}
use Rattle.run_steps.proofs.paths.folder_of.Goals as goal

pub returns-in-None : goal.returns-in-None
returns-in-None c = folder_of-bare c.args.path.now (rw c.in-None.is at (rfind_char 47 c.args.path.now c.rfind.result c.rfind.ensures.cases (omega arith)))

pub returns-in-Some : goal.returns-in-Some
returns-in-Some c =
    let path = c.args.path.now in
    let found = rw c.in-Some.is at (rfind_char 47 path c.rfind.result c.rfind.ensures.cases (omega arith)) in
    let whole : c.in-Some.slash + 1 - 0 ≡ c.in-Some.slash + 1 = omega arith in
    c.range.ensures.value ∙ ap (λ n. take n path) whole ∙ folder_of-slash path c.in-Some.slash found.0 found.1 found.2
