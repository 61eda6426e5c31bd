-- A new name is no name below its number.
use Rattle.std.proofs.Common.{◌≡◌, ℕ, ◌+◌, true, false, refl, arith}
use Rattle.std.specs.Str.{bytes_eq}
use Rattle.std.proofs.lemmas.Slice.Eq.{bytes_eq-Decides}
use Rattle.programs.specs.Mentions.{Label}
use Rattle.program_writers.specs.Names.{is_word, IsBelow}
use Rattle.program_writers.specs.Writers.{numbered}
use Rattle.program_writers.proofs.Numbers.{differ, numbered_has, below_next}

pub name_same : (m : Label) → bytes_eq m m ≡ true
name_same m = (bytes_eq-Decides m m).1 refl

pub is_below : (word : Label) (k : ℕ) → is_word word ≡ true → IsBelow (k + 1) (numbered word k)
is_below word k h = below_next k (numbered word k) (numbered_has word k h)

pub is_new : (word : Label) (k : ℕ) (name : Label) → is_word word ≡ true → IsBelow k name → bytes_eq (numbered word k) name ≡ false
is_new word k name h b = differ k b.number (numbered word k) name (numbered_has word k h) b.has (λ e. omega (arith, b.less, e))
