-- A check that passes refuses nothing.
use Rattle.std.proofs.Common.{◌≡◌, ◌∙◌, ℕ, Ok, Err, sym, subst}
use Rattle.std.specs.Prelude.{Result}
use Rattle.programs.specs.Check.{Fault, fault}
use Rattle.programs.specs.Refusals.{RefusesAt}
use Rattle.programs.specs.declared.check.ProgramRefusal.{ProgramRefusal}
use Rattle.programs.specs.declared.check.ProgramRefusal.TheVariants as program
use Rattle.programs.specs.declared.op.ProgramKind.{ProgramKind}

not_both : {B : Type 0} (x : B) (f : Fault) → ◌≡◌ {A = Result B Fault} (Ok x) (Err f) → ⊥
not_both x f e = cc

pub not_refused : {B : Type 0} (meant : Result B Fault) (x : B) (e : ProgramRefusal) (statement : ℕ) (kind : ProgramKind) → meant ≡ Ok x → e ≡ program.Bad statement kind → RefusesAt meant e → ⊥
not_refused meant x e statement kind passes is refused =
    let bad : meant ≡ Err (fault statement kind) = subst (RefusesAt meant) is refused in
    not_both x (fault statement kind) (sym passes ∙ bad)
