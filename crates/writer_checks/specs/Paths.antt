-- The paths that parts give to attributes: a segment or two, and what a number tells apart.
use Rattle.std.specs.Prelude.{◌≡◌, ◌≢◌, ℕ, ◌<◌, ◌^◌, Bool, true, false, not, List, ◌∷◌, ◌++◌, length}
use Rattle.std.specs.List.{list_all}
use Rattle.std.specs.Fmt.{decimal}
use Rattle.key_paths.specs.Paths.{is_dot}
use Rattle.key_paths.specs.Substructures.{is_at_or_below}
use Rattle.programs.specs.Mentions.{Label}
use Rattle.programs.specs.Outlines.{Shapes}
use Rattle.program_writers.specs.Names.{is_word}
use Rattle.writer_checks.specs.Checks.{HasShape}
use Rattle.writer_checks.specs.Laws.{IsAttribute, NoneAbove}

-- no dot: the bytes of one segment
abbrev pub is_flat : Label → Bool
is_flat w = list_all (λ b. not (is_dot b)) w

-- a path of one segment, and of two
abbrev pub one : Label → Label
one w = 46 ∷ w

abbrev pub two : Label → Label → Label
two a b = 46 ∷ (a ++ (46 ∷ b))

pub record PathLaws : Type 0 where
  pub attribute_one : (w : Label) → is_flat w ≡ true → 0 < length w → IsAttribute (one w)
  pub attribute_two : (a b : Label) → is_flat a ≡ true → is_flat b ≡ true → IsAttribute (two a b)
  -- none of two stands at or below the other
  pub ones_apart : (v w : Label) → is_flat v ≡ true → 0 < length w → v ≢ w → is_at_or_below (one v) (one w) ≡ false
  pub one_apart : (w a b : Label) → is_flat w ≡ true → is_at_or_below (one w) (two a b) ≡ false
  pub two_apart : (a b w : Label) → is_flat a ≡ true → is_flat b ≡ true → is_flat w ≡ true → 0 < length w → a ≢ w → is_at_or_below (two a b) (one w) ≡ false
  pub twos_apart : (a b c : Label) → is_flat a ≡ true → is_flat b ≡ true → b ≢ c → is_at_or_below (two a b) (two a c) ≡ false
  -- a number behind a word
  pub numbered_flat : (word : Label) (k : ℕ) → is_flat word ≡ true → k < 2 ^ 64 → is_flat (word ++ decimal k) ≡ true
  pub numbers_differ : (word : Label) (j k : ℕ) → j < 2 ^ 64 → k < 2 ^ 64 → j ≢ k → word ++ decimal j ≢ word ++ decimal k
  pub words_differ : (v w : Label) (j k : ℕ) → is_word v ≡ true → is_word w ≡ true → j < 2 ^ 64 → k < 2 ^ 64 → v ≢ w → v ++ decimal j ≢ w ++ decimal k
  pub numbered_no_word : (v w : Label) (j : ℕ) → is_word w ≡ true → j < 2 ^ 64 → v ++ decimal j ≢ w
  -- beside a path that is known, nothing stands above
  pub none_above_one : (shapes : Shapes) (a w r : Label) (len : ℕ) (paths : List Label) → is_flat w ≡ true → HasShape shapes a len (one r ∷ paths) → NoneAbove shapes a (one w)
  pub none_above_two : (shapes : Shapes) (a s b c : Label) (len : ℕ) (paths : List Label) → is_flat s ≡ true → is_flat b ≡ true → HasShape shapes a len (two s c ∷ paths) → NoneAbove shapes a (two s b)
