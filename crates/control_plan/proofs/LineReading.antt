-- A control file is read line by line.
use Rattle.std.proofs.Common.{◌≡◌, ℕ, ◌+◌, false, true, inl, inr, List, [], ◌∷◌, length, Some, ap, sym, ◌∙◌, Result, Ok, Err}
use Rattle.control_plan.specs.declared.fault.LineFault.{LineFault}
use Rattle.control_plan.specs.declared.fault.LineFault.TheVariants as fault
use Rattle.control_plan.specs.declared.refusal.ControlKind.{ControlKind}
use Rattle.control_plan.specs.declared.refusal.ControlRefusal.{ControlRefusal}
use Rattle.control_plan.specs.declared.refusal.ControlRefusal.TheVariants.{Bad}
use Rattle.control_plan.specs.LineFaults.{Sets}
use Rattle.std.specs.Prelude.{◌==◌}
use Rattle.std.specs.Char.{is_ascii}
use Rattle.std.specs.List.{list_all}
use Rattle.control_plan.specs.declared.words.Word.{Word}
use Rattle.control_plan.specs.Lines.{Bytes, IsFirstLine, lines, says_nothing, trimmed, value_in, word_in}
use Rattle.control_plan.specs.Words.{word_of}
use Rattle.control_plan.specs.Plans.{usual}
use Rattle.control_plan.specs.Reading.{Gives, none_given, on_line, read_lines, read_text, refused, with_line, with_word}
use Rattle.control_plan.specs.Settings.{SoFar, so_far, with_setting}

pub first_line : (rest line others : Bytes) (n : ℕ) (s : SoFar) → IsFirstLine rest line others
    → read_lines (lines rest) n s ≡ on_line n (with_line (trimmed line) s) (read_lines (lines others) (n + 1))
first_line rest line others n s (inl first) = ap (λ (l : List Bytes). read_lines l n s) first
first_line rest line others n s (inr (last, none)) =
    ap (λ (l : List Bytes). read_lines l n s) last
    ∙ ap (λ (z : Bytes). on_line n (with_line (trimmed line) s) (read_lines (lines z) (n + 1))) (sym none)

-- a line that is taken leaves the rest to be read
pub line_taken : (rest line others : Bytes) (n : ℕ) (s t : SoFar) → IsFirstLine rest line others → with_line (trimmed line) s ≡ Ok t
    → read_lines (lines others) (n + 1) t ≡ read_lines (lines rest) n s
line_taken rest line others n s t first e = sym (first_line rest line others n s first ∙ ap (λ (r : Result SoFar ControlKind). on_line n r (read_lines (lines others) (n + 1))) e)

-- and one that isn't is the answer
line_refused : (rest line others : Bytes) (n : ℕ) (s : SoFar) (kind : ControlKind) → IsFirstLine rest line others → with_line (trimmed line) s ≡ Err kind
    → read_lines (lines rest) n s ≡ Err (Bad n kind)
line_refused rest line others n s kind first e = first_line rest line others n s first ∙ ap (λ (r : Result SoFar ControlKind). on_line n r (read_lines (lines others) (n + 1))) e

pub text_refused : (bytes rest line others : Bytes) (n : ℕ) (s t : SoFar) (f : LineFault) (r : ControlRefusal) → read_lines (lines rest) n s ≡ read_lines (lines bytes) 1 (so_far usual none_given)
    → IsFirstLine rest line others → Sets (with_line (trimmed line) s) (Err f) t → r ≡ refused n f → Gives (read_text bytes) (Err r)
unfolding read_text
text_refused bytes rest line others n s t (fault.Bad kind) r before first e is = rw is (sym before ∙ line_refused rest line others n s kind first e)
text_refused bytes rest line others n s t fault.NoMemory r before first e is = rw is tt

pub text_read : (bytes rest : Bytes) (n : ℕ) (s : SoFar) → read_lines (lines rest) n s ≡ read_lines (lines bytes) 1 (so_far usual none_given) → rest ≡ [] → read_text bytes ≡ Ok s.plan
unfolding read_text
text_read bytes rest n s before none = sym before ∙ ap (λ (z : Bytes). read_lines (lines z) n s) none

-- a line that has a known word and a value sets what these say
pub line_says : (line value : Bytes) (w : Word) (s : SoFar) (r : Result (Unit {0}) LineFault) (new : SoFar) → says_nothing line ≡ false → list_all is_ascii line ≡ true → word_of (word_in line) ≡ Some w
    → value ≡ value_in line → (length value == 0) ≡ false → Sets (with_setting w value s) r new → Sets (with_line line s) r new
line_says line value w s r new says ascii word is some h = rw (says, ascii, word, ← is) (on_value value some h)
  where
    on_value : (v : Bytes) → (length v == 0) ≡ false → Sets (with_setting w v s) r new → Sets (with_word (Some w) v s) r new
    on_value [] e k = cc
    on_value (b ∷ v) e k = k
