-- Texts that are cut at their first line feed or comma.
use Rattle.std.proofs.Common.{◌≡◌, ◌≢◌, ℕ, ◌+◌, ◌-◌, ◌<◌, ◌≤◌, Bool, false, not, inr, [], ◌∷◌, length, take, drop, get_or, refl, ap, sym, ◌∙◌, arith}
use Rattle.std.specs.List.{All, position_or_len, slice_split}
use Rattle.std.proofs.lemmas.Bool.{not-true}
use Rattle.std.proofs.lemmas.List.{take_all, take_rest}
use Rattle.std.proofs.lemmas.List.Sums.{prefix_len_passes}
use Rattle.std.proofs.lemmas.List.Splits.{slice_split_none, slice_split_first, length-slice_split}
use Rattle.control_plan.specs.Lines.{Bytes, IsFirstLine, is_feed}

-- at the first byte that passes a test
pub cut_at : (p : ℕ → Bool) (bytes : Bytes) (len : ℕ) → len ≡ position_or_len p bytes → len < length bytes
    → slice_split p bytes ≡ take len bytes ∷ slice_split p (take (length bytes - (len + 1)) (drop (len + 1) bytes))
cut_at p bytes len is below =
    let within : position_or_len p bytes < length bytes = omega arith in
    let split : slice_split p bytes ≡ take len bytes ∷ slice_split p (drop (len + 1) bytes) = rw is (slice_split_first p bytes 0 within) in
    split ∙ ap (λ (z : Bytes). take len bytes ∷ slice_split p z) (sym (take_rest bytes (len + 1)))

-- where none passes
pub cut_none : (p : ℕ → Bool) (bytes : Bytes) (len : ℕ) → len ≡ position_or_len p bytes → length bytes ≤ len → slice_split p bytes ≡ bytes ∷ []
cut_none p bytes len is above = slice_split_none p bytes far
  where
    far : All (λ b. p b ≡ false) bytes
    far = λ k d below. not-true (p (get_or bytes k d)) (prefix_len_passes (λ b. not (p b)) bytes k d (omega arith))

pub last_line : (bytes : Bytes) (len : ℕ) → len ≡ position_or_len is_feed bytes → length bytes ≤ len → IsFirstLine bytes (take len bytes) []
last_line bytes len is above = inr (cut_none is_feed bytes len is above ∙ ap (λ (z : Bytes). z ∷ []) (sym (take_all len bytes above)), refl)

-- a text that is cut has a part
some_part : (p : ℕ → Bool) (bytes : Bytes) → 1 ≤ length (slice_split p bytes)
some_part p bytes = omega (arith, length-slice_split p bytes)

pub five_parts : (p : ℕ → Bool) (text a b c d e f g h : Bytes) → slice_split p text ≡ a ∷ slice_split p b → slice_split p b ≡ c ∷ slice_split p d → slice_split p d ≡ e ∷ slice_split p f
    → slice_split p f ≡ g ∷ slice_split p h → length (slice_split p text) ≢ 4
five_parts p text a b c d e f g h one two three four is =
    omega (arith, is, ap length one, ap length two, ap length three, ap length four, some_part p h)
