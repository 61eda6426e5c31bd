-- A text is read line by line.
use Rattle.std.proofs.Common.{◌≡◌, ℕ, ◌+◌, ◌<◌, ◌≤◌, Bool, true, false, not, List, [], ◌∷◌, ◌++◌, length, take, drop, get_or, refl, ap, sym, ◌∙◌, subst, arith}
use Rattle.std.specs.Prelude.{Result, Ok, Err, if◌then◌else◌}
use Rattle.std.specs.Str.{IsUtf8, is_utf8}
use Rattle.std.proofs.lemmas.Str.{is_utf8-from_IsUtf8, IsUtf8-from_is_utf8}
use Rattle.std.specs.List.{All, position_or_len}
use Rattle.std.proofs.lemmas.Bool.{not-true}
use Rattle.std.proofs.lemmas.List.{take_all}
use Rattle.std.proofs.lemmas.List.Sums.{prefix_len_passes}
use Rattle.std.proofs.lemmas.List.Splits.{slice_split_none, slice_split_first}
use Rattle.programs.specs.declared.op.Statement.{Statement}
use Rattle.voodoo_text.specs.declared.refusal.TextRefusal.{TextRefusal}
use Rattle.voodoo_text.specs.declared.refusal.TextRefusal.TheVariants.{Bad}
use Rattle.voodoo_text.specs.declared.refusal.TextKind.TheVariants.{NotText}
use Rattle.voodoo_text.specs.declared.read_text.ReadProgram.{ReadProgram}
use Rattle.voodoo_text.specs.Values.{Bytes}
use Rattle.voodoo_text.specs.Tokens.{tokens}
use Rattle.voodoo_text.specs.Spelled.{CanBeSpelled, StatementHasNames}
use Rattle.voodoo_text.specs.Reading.{is_feed, lines, read, with_line, read_lines, read_text, Gives}

-- ---- the first line

far : (bytes : Bytes) → length bytes ≤ position_or_len is_feed bytes → All (λ b. is_feed b ≡ false) bytes
far bytes h = λ k d below. not-true (is_feed (get_or bytes k d)) (prefix_len_passes (λ b. not (is_feed b)) bytes k d (omega arith))

pub cut_at : (bytes : Bytes) (len n : ℕ) → len ≡ position_or_len is_feed bytes → len < length bytes
    → read_lines n (lines bytes) ≡ with_line n (tokens (take len bytes)) (read_lines (n + 1) (lines (drop (len + 1) bytes)))
cut_at bytes len n is below =
    let within : position_or_len is_feed bytes < length bytes = omega arith in
    let split : lines bytes ≡ take len bytes ∷ lines (drop (len + 1) bytes) = rw is (slice_split_first is_feed bytes 0 within) in
    ap (read_lines n) split

pub cut_none : (bytes : Bytes) (len n : ℕ) → len ≡ position_or_len is_feed bytes → length bytes ≤ len
    → read_lines n (lines bytes) ≡ with_line n (tokens (take len bytes)) (read_lines (n + 1) (lines []))
cut_none bytes len n is above =
    let one : lines bytes ≡ bytes ∷ [] = slice_split_none is_feed bytes (far bytes (omega arith)) in
    ap (read_lines n) one ∙ ap (λ (z : Bytes). with_line n (tokens z) (Ok (read [] []))) (sym (take_all len bytes above))

-- ---- what a line appends

pub spelled_more : (ss : List Statement) (s : Statement) → StatementHasNames s → CanBeSpelled ss → CanBeSpelled (ss ++ s ∷ [])
spelled_more [] s h names = (h, tt)
spelled_more (x ∷ ss) s h names = (names.0, spelled_more ss s h names.1)

-- ---- the whole text

pub text_is : (bytes : Bytes) → IsUtf8 bytes → read_text bytes ≡ read_lines 1 (lines bytes)
unfolding read_text
text_is bytes h = rw (is_utf8-from_IsUtf8 bytes h) refl

pub no_text : (bytes : Bytes) → (IsUtf8 bytes → ⊥) → read_text bytes ≡ Err (Bad 1 NotText)
unfolding read_text
no_text bytes none = by_test (is_utf8 bytes) (λ h. none (IsUtf8-from_is_utf8 bytes h))
  where
    by_test : (t : Bool) → (t ≡ true → ⊥) → (if t then read_lines 1 (lines bytes) else Err (Bad 1 NotText)) ≡ Err (Bad 1 NotText)
    by_test true not = absurd (not refl)
    by_test false not = refl

pub gives_same : (a b : Result ReadProgram TextRefusal) (r : Result ReadProgram TextRefusal) → a ≡ b → Gives b r → Gives a r
gives_same a b r e h = let G : Result ReadProgram TextRefusal → Type 0 = λ x. Gives x r in subst G (sym e) h
