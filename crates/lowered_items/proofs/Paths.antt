-- The paths of items and of keys are apart, and stand beside the mark.
use Rattle.std.proofs.Common.{◌≡◌, ◌≢◌, ℕ, ◌<◌, ◌^◌, true, false, ◌++◌, length, refl, sym, arith, codes, length-append}
use Rattle.std.specs.Fmt.{decimal}
use Rattle.key_paths.specs.Substructures.{is_at_or_below}
use Rattle.programs.specs.Mentions.{Label}
use Rattle.program_writers.specs.Statements.{mark}
use Rattle.plan_programs.specs.Items.{item_path, order_path}
use Rattle.writer_checks.specs.Laws.{IsAttribute}
use Rattle.writer_checks.specs.Paths.{is_flat}
use Rattle.writer_checks.proofs.Routes.{path_laws}

-- a word and a number
abbrev numbered : Label → ℕ → Label
numbered word j = word ++ decimal j

long : (word : Label) (j : ℕ) → 0 < length word → 0 < length (numbered word j)
long word j h = omega (arith, h, length-append word (decimal j))

pub mark_item : (j : ℕ) → j < 2 ^ 64 → is_at_or_below mark (item_path j) ≡ false
mark_item j h = path_laws.ones_apart (codes "mark") (numbered (codes "c") j) refl (long (codes "c") j (omega arith)) (λ e. path_laws.numbered_no_word (codes "c") (codes "mark") j refl h (sym e))

pub mark_key : (j : ℕ) → j < 2 ^ 64 → is_at_or_below mark (order_path j) ≡ false
mark_key j h = path_laws.ones_apart (codes "mark") (numbered (codes "key") j) refl (long (codes "key") j (omega arith)) (λ e. path_laws.numbered_no_word (codes "key") (codes "mark") j refl h (sym e))

pub item_flat : (j : ℕ) → j < 2 ^ 64 → is_flat (numbered (codes "c") j) ≡ true
item_flat j h = path_laws.numbered_flat (codes "c") j refl h

pub key_flat : (j : ℕ) → j < 2 ^ 64 → is_flat (numbered (codes "key") j) ≡ true
key_flat j h = path_laws.numbered_flat (codes "key") j refl h

pub item_apart : (i j : ℕ) → i < 2 ^ 64 → j < 2 ^ 64 → i ≢ j → is_at_or_below (item_path i) (item_path j) ≡ false
item_apart i j h g d = path_laws.ones_apart (numbered (codes "c") i) (numbered (codes "c") j) (item_flat i h) (long (codes "c") j (omega arith)) (path_laws.numbers_differ (codes "c") i j h g d)

pub key_apart : (i j : ℕ) → i < 2 ^ 64 → j < 2 ^ 64 → i ≢ j → is_at_or_below (order_path i) (order_path j) ≡ false
key_apart i j h g d = path_laws.ones_apart (numbered (codes "key") i) (numbered (codes "key") j) (key_flat i h) (long (codes "key") j (omega arith)) (path_laws.numbers_differ (codes "key") i j h g d)

pub item_attribute : (j : ℕ) → j < 2 ^ 64 → IsAttribute (item_path j)
item_attribute j h = path_laws.attribute_one (numbered (codes "c") j) (item_flat j h) (long (codes "c") j (omega arith))

pub key_attribute : (j : ℕ) → j < 2 ^ 64 → IsAttribute (order_path j)
key_attribute j h = path_laws.attribute_one (numbered (codes "key") j) (key_flat j h) (long (codes "key") j (omega arith))
