-- The tokens of a line.
use Rattle.std.specs.Prelude.{◌≡◌, IsTrue, ℕ, zero, suc, ◌-◌, ◌==◌, Bool, true, false, if◌then◌else◌, List, [], ◌∷◌, take}
use Rattle.key_paths.specs.Paths.{is_segment, IsPath}
use Rattle.voodoo_text.specs.declared.kind.Kind.{Kind}
use Rattle.voodoo_text.specs.declared.kind.Kind.TheVariants as k
use Rattle.voodoo_text.specs.Values.{Bytes}
use Rattle.voodoo_text.specs.Lexis.{is_blank, front}

-- what a token is, and its bytes
pub record Token : Type 0 where
  pub kind : Kind
  pub word : Bytes

abbrev pub token : Kind → Bytes → Token
token kind word = record { kind = kind; word = word }

abbrev pub is_name : Kind → Bool
is_name k.Name = true
is_name kind = false

-- The tokens from a byte on. The flag says that a name ends directly before it; the number counts the bytes that are left
-- of the token before. A `#` begins a comment to the line's end.
abbrev pub tokens_from : Bool → ℕ → Bytes → List Token
tokens_from after_name left [] = []
tokens_from after_name (suc left) (b ∷ z) = tokens_from after_name left z
tokens_from after_name zero (b ∷ z) =
    if is_blank b then tokens_from false zero z
    else if b == 35 then []
    else (let p = front after_name (b ∷ z) in token p.kind (take p.len (b ∷ z)) ∷ tokens_from (is_name p.kind) (p.len - 1) z)

abbrev pub tokens : Bytes → List Token
tokens line = tokens_from false 0 line

-- ---- what is known of every token of a line

abbrev pub HasForm : Kind → Bytes → Type 0
HasForm k.Name word = IsTrue (is_segment word)
HasForm k.Path word = IsPath word
HasForm k.Attached word = IsPath word
HasForm kind word = Unit {0}

-- the bytes are none, or a token stands at their front
abbrev pub BeginsToken : Bytes → Type 0
BeginsToken [] = Unit {0}
BeginsToken (b ∷ z) = (is_blank b ≡ false) × ((b == 35) ≡ false)
