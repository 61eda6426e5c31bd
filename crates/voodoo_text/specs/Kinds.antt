-- When two kinds of token are one, and which refusal a token that cannot stand is.
use Rattle.std.specs.Prelude.{Bool}
use denote.Enum.Bare.{sameb}
use Rattle.voodoo_text.specs.contracts.kind.Kind.{the_type}
use Rattle.voodoo_text.specs.declared.kind.Kind.{Kind}
use Rattle.voodoo_text.specs.declared.kind.Kind.TheVariants.{Bad}
use Rattle.voodoo_text.specs.declared.refusal.TextKind.{TextKind}
use Rattle.voodoo_text.specs.declared.refusal.TextKind.TheVariants.{BadToken, Unexpected}

unfoldable pub same_kind : Kind → Kind → Bool
same_kind = sameb the_type

-- what is no token is refused as such, wherever it stands
abbrev pub fault_of : Kind → TextKind
fault_of Bad = BadToken
fault_of kind = Unexpected
