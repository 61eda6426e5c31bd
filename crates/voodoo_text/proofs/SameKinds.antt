-- Kinds that pass the test are one.
use Rattle.std.proofs.Common.{◌≡◌, true, subst}
use denote.Enum.Bare.{same_true}
use Rattle.voodoo_text.specs.contracts.kind.Kind.{the_type}
use Rattle.voodoo_text.specs.declared.kind.Kind.{Kind}
use Rattle.voodoo_text.specs.Kinds.{same_kind}
use Rattle.voodoo_text.specs.Values.{Bytes}
use Rattle.voodoo_text.specs.Tokens.{HasForm}

pub kinds_one : (a b : Kind) → same_kind a b ≡ true → a ≡ b
unfolding same_kind
kinds_one a b h = same_true the_type tt a b h

pub form_of : (a b : Kind) (word : Bytes) → same_kind a b ≡ true → HasForm a word → HasForm b word
form_of a b word h form = let P : Kind → Type 0 = λ kind. HasForm kind word in subst P (kinds_one a b h) form
