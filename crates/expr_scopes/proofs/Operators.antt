-- Operators with operands of several scales, and tests of several operands.
use Rattle.std.proofs.Common.{ℕ, ◌≤◌, List, Option, Some, None}
use Rattle.sql_values.specs.Texts.{by_bytes}
use Rattle.typed_values.specs.Values.{holds}
use Rattle.control_vectors.specs.declared.PairKind.TheVariants as pair
use Rattle.query_trees.specs.declared.expr.BinaryOp.{BinaryOp}
use Rattle.query_trees.specs.declared.expr.BinaryOp.TheVariants as op
use Rattle.query_trees.specs.declared.expr.Polarity.{Polarity}
use Rattle.typed_values.specs.Narrow.{counted}
use Rattle.expr_steps.specs.declared.steps.Factors.{Factors}
use Rattle.expr_steps.specs.declared.steps.Source.{Source}
use Rattle.expr_steps.specs.Codes.{one, and_then}
use Rattle.expr_steps.specs.Lowered.{Bytes, Part, times, raise, scale_factors, factors, comparing, compared_as, compared, binary, outside, unless_negated, found_equal, filled_from}
use Rattle.expr_scopes.specs.Scopes.{Names}
use Rattle.expr_scopes.specs.Laws.{Stands, IsSound}
use Rattle.expr_scopes.proofs.Sound.{stands_later, Reads, reads_first, reads_behind, sound_then}
use Rattle.expr_scopes.proofs.Pieces.{SoundOfTwo, ReadsFirst, ReadsSecond, two_later, then_sound, two_sound, two_first, two_second, times_sound, times_reads, together_sound, together_first, together_second, known_sound, known_first, known_second, comparing_sound, comparing_first, comparing_second, unless_sound, unless_reads}

-- ---- comparisons

compared_as_sound : (names : Names) (o : BinaryOp) (s t : Option Bytes) (f : Factors) → SoundOfTwo names (compared_as o s t f)
compared_as_sound names o (Some s) (Some t) f = known_sound names (holds o (by_bytes s t))
compared_as_sound names o (Some s) None f = together_sound names f (comparing o) (comparing_sound names o) (comparing_first o) (comparing_second o)
compared_as_sound names o None t f = together_sound names f (comparing o) (comparing_sound names o) (comparing_first o) (comparing_second o)

compared_as_first : (o : BinaryOp) (s t : Option Bytes) (f : Factors) → ReadsFirst (compared_as o s t f)
compared_as_first o (Some s) (Some t) f = known_first (holds o (by_bytes s t))
compared_as_first o (Some s) None f = together_first f (comparing o) (comparing_first o)
compared_as_first o None t f = together_first f (comparing o) (comparing_first o)

compared_as_second : (o : BinaryOp) (s t : Option Bytes) (f : Factors) → ReadsSecond (compared_as o s t f)
compared_as_second o (Some s) (Some t) f = known_second (holds o (by_bytes s t))
compared_as_second o (Some s) None f = together_second f (comparing o) (comparing_second o)
compared_as_second o None t f = together_second f (comparing o) (comparing_second o)

pub compared_sound : (names : Names) (texts : List Bytes) (o : BinaryOp) (x y : Part) → SoundOfTwo names (compared texts o x y)
compared_sound names texts o x y = compared_as_sound names o x.text y.text (factors texts x y)

pub compared_first : (texts : List Bytes) (o : BinaryOp) (x y : Part) → ReadsFirst (compared texts o x y)
compared_first texts o x y = compared_as_first o x.text y.text (factors texts x y)

pub compared_second : (texts : List Bytes) (o : BinaryOp) (x y : Part) → ReadsSecond (compared texts o x y)
compared_second texts o x y = compared_as_second o x.text y.text (factors texts x y)

-- ---- binary operators

pub binary_sound : (names : Names) (texts : List Bytes) (o : BinaryOp) (x y : Part) → SoundOfTwo names (binary texts o x y)
binary_sound names texts op.Or x y = two_sound names pair.LogicalOr
binary_sound names texts op.And x y = two_sound names pair.LogicalAnd
binary_sound names texts op.Add x y = together_sound names (scale_factors x.scale y.scale) (one pair.Add) (two_sound names pair.Add) (two_first pair.Add) (two_second pair.Add)
binary_sound names texts op.Subtract x y = together_sound names (scale_factors x.scale y.scale) (one pair.Subtract) (two_sound names pair.Subtract) (two_first pair.Subtract) (two_second pair.Subtract)
binary_sound names texts op.Multiply x y = two_sound names pair.Multiply
binary_sound names texts op.Equal x y = compared_sound names texts op.Equal x y
binary_sound names texts op.Differs x y = compared_sound names texts op.Differs x y
binary_sound names texts op.Less x y = compared_sound names texts op.Less x y
binary_sound names texts op.LessEqual x y = compared_sound names texts op.LessEqual x y
binary_sound names texts op.Greater x y = compared_sound names texts op.Greater x y
binary_sound names texts op.GreaterEqual x y = compared_sound names texts op.GreaterEqual x y

pub binary_first : (texts : List Bytes) (o : BinaryOp) (x y : Part) → ReadsFirst (binary texts o x y)
binary_first texts op.Or x y = two_first pair.LogicalOr
binary_first texts op.And x y = two_first pair.LogicalAnd
binary_first texts op.Add x y = together_first (scale_factors x.scale y.scale) (one pair.Add) (two_first pair.Add)
binary_first texts op.Subtract x y = together_first (scale_factors x.scale y.scale) (one pair.Subtract) (two_first pair.Subtract)
binary_first texts op.Multiply x y = two_first pair.Multiply
binary_first texts op.Equal x y = compared_first texts op.Equal x y
binary_first texts op.Differs x y = compared_first texts op.Differs x y
binary_first texts op.Less x y = compared_first texts op.Less x y
binary_first texts op.LessEqual x y = compared_first texts op.LessEqual x y
binary_first texts op.Greater x y = compared_first texts op.Greater x y
binary_first texts op.GreaterEqual x y = compared_first texts op.GreaterEqual x y

pub binary_second : (texts : List Bytes) (o : BinaryOp) (x y : Part) → ReadsSecond (binary texts o x y)
binary_second texts op.Or x y = two_second pair.LogicalOr
binary_second texts op.And x y = two_second pair.LogicalAnd
binary_second texts op.Add x y = together_second (scale_factors x.scale y.scale) (one pair.Add) (two_second pair.Add)
binary_second texts op.Subtract x y = together_second (scale_factors x.scale y.scale) (one pair.Subtract) (two_second pair.Subtract)
binary_second texts op.Multiply x y = two_second pair.Multiply
binary_second texts op.Equal x y = compared_second texts op.Equal x y
binary_second texts op.Differs x y = compared_second texts op.Differs x y
binary_second texts op.Less x y = compared_second texts op.Less x y
binary_second texts op.LessEqual x y = compared_second texts op.LessEqual x y
binary_second texts op.Greater x y = compared_second texts op.Greater x y
binary_second texts op.GreaterEqual x y = compared_second texts op.GreaterEqual x y

-- ---- BETWEEN

pub outside_sound : (names : Names) (texts : List Bytes) (x least most : Part) (a b c : Source) (k : ℕ) → 2 ≤ k → Stands names k a → Stands names k b → Stands names k c → IsSound names k (outside texts x least most a b c k)
outside_sound names texts x least most a b c k two sa sb sc =
    sound_then names k (compared texts op.Less x least a b k) (λ below. and_then (compared texts op.Greater x most a c) (one pair.LogicalOr below)) (compared_sound names texts op.Less x least a b k two sa sb)
    (λ below n l s. sound_then names n (compared texts op.Greater x most a c n) (one pair.LogicalOr below) (compared_sound names texts op.Greater x most a c n (two_later k n two l) (stands_later names k n a l sa) (stands_later names k n c l sc))
    (λ above m l2 s2. two_sound names pair.LogicalOr below above m (two_later n m (two_later k n two l) l2) (stands_later names n m below l2 s) s2) (two_second pair.LogicalOr below))
    (λ below n. reads_behind below (compared texts op.Greater x most a c n) (one pair.LogicalOr below) n (λ above m. two_first pair.LogicalOr below above m))

outside_rest : (texts : List Bytes) (x most : Part) (a c below : Source) (n : ℕ) → Reads c (and_then (compared texts op.Greater x most a c) (one pair.LogicalOr below) n)
outside_rest texts x most a c below n = reads_first c (compared texts op.Greater x most a c n) (one pair.LogicalOr below) n (compared_second texts op.Greater x most a c n) (two_second pair.LogicalOr below)

pub outside_first : (texts : List Bytes) (x least most : Part) (a b c : Source) (k : ℕ) → Reads a (outside texts x least most a b c k)
outside_first texts x least most a b c k =
    reads_first a (compared texts op.Less x least a b k) (λ below. and_then (compared texts op.Greater x most a c) (one pair.LogicalOr below)) k (compared_first texts op.Less x least a b k)
    (λ below n. reads_behind below (compared texts op.Greater x most a c n) (one pair.LogicalOr below) n (λ above m. two_first pair.LogicalOr below above m))

pub outside_second : (texts : List Bytes) (x least most : Part) (a b c : Source) (k : ℕ) → Reads b (outside texts x least most a b c k)
outside_second texts x least most a b c k =
    reads_first b (compared texts op.Less x least a b k) (λ below. and_then (compared texts op.Greater x most a c) (one pair.LogicalOr below)) k (compared_second texts op.Less x least a b k)
    (λ below n. reads_behind below (compared texts op.Greater x most a c n) (one pair.LogicalOr below) n (λ above m. two_first pair.LogicalOr below above m))

pub outside_third : (texts : List Bytes) (x least most : Part) (a b c : Source) (k : ℕ) → Reads c (outside texts x least most a b c k)
outside_third texts x least most a b c k = reads_behind c (compared texts op.Less x least a b k) (λ below. and_then (compared texts op.Greater x most a c) (one pair.LogicalOr below)) k (outside_rest texts x most a c)

-- and its opposite, or not
pub between_sound : (names : Names) (texts : List Bytes) (p : Polarity) (x least most : Part) (a b c : Source) (k : ℕ) → 2 ≤ k → Stands names k a → Stands names k b → Stands names k c → IsSound names k (and_then (outside texts x least most a b c) (unless_negated p) k)
between_sound names texts p x least most a b c k two sa sb sc = then_sound names (outside texts x least most a b c) (unless_negated p) k two (outside_sound names texts x least most a b c k two sa sb sc) (unless_sound names p) (unless_reads p)

pub between_reads : (texts : List Bytes) (p : Polarity) (x least most : Part) (a b c s : Source) (k : ℕ) → Reads s (outside texts x least most a b c k) → Reads s (and_then (outside texts x least most a b c) (unless_negated p) k)
between_reads texts p x least most a b c s k h = reads_first s (outside texts x least most a b c k) (unless_negated p) k h (unless_reads p)

-- ---- one more operand of IN, and of COALESCE

pub found_sound : (names : Names) (texts : List Bytes) (x : Part) (a : Source) (y : Part) (found b : Source) (k : ℕ) → 2 ≤ k → Stands names k a → Stands names k found → Stands names k b → IsSound names k (found_equal texts x a y found b k)
found_sound names texts x a y found b k two sa sf sb =
    sound_then names k (compared texts op.Equal x y a b k) (one pair.LogicalOr found) (compared_sound names texts op.Equal x y a b k two sa sb)
    (λ same n l s. two_sound names pair.LogicalOr found same n (two_later k n two l) (stands_later names k n found l sf) s) (two_second pair.LogicalOr found)

pub found_first : (texts : List Bytes) (x : Part) (a : Source) (y : Part) (found b : Source) (k : ℕ) → Reads a (found_equal texts x a y found b k)
found_first texts x a y found b k = reads_first a (compared texts op.Equal x y a b k) (one pair.LogicalOr found) k (compared_first texts op.Equal x y a b k) (two_second pair.LogicalOr found)

pub found_before : (texts : List Bytes) (x : Part) (a : Source) (y : Part) (found b : Source) (k : ℕ) → Reads found (found_equal texts x a y found b k)
found_before texts x a y found b k = reads_behind found (compared texts op.Equal x y a b k) (one pair.LogicalOr found) k (λ same n. two_first pair.LogicalOr found same n)

pub found_second : (texts : List Bytes) (x : Part) (a : Source) (y : Part) (found b : Source) (k : ℕ) → Reads b (found_equal texts x a y found b k)
found_second texts x a y found b k = reads_first b (compared texts op.Equal x y a b k) (one pair.LogicalOr found) k (compared_second texts op.Equal x y a b k) (two_second pair.LogicalOr found)

pub filled_sound : (names : Names) (to scale : ℕ) (found b : Source) (k : ℕ) → 2 ≤ k → Stands names k found → Stands names k b → IsSound names k (filled_from to scale found b k)
filled_sound names to scale found b k two sf sb =
    sound_then names k (times (raise to (counted scale)) b k) (one pair.Fill found) (times_sound names (raise to (counted scale)) b k two sb)
    (λ c n l s. two_sound names pair.Fill found c n (two_later k n two l) (stands_later names k n found l sf) s) (two_second pair.Fill found)

pub filled_before : (to scale : ℕ) (found b : Source) (k : ℕ) → Reads found (filled_from to scale found b k)
filled_before to scale found b k = reads_behind found (times (raise to (counted scale)) b k) (one pair.Fill found) k (λ c n. two_first pair.Fill found c n)

pub filled_second : (to scale : ℕ) (found b : Source) (k : ℕ) → Reads b (filled_from to scale found b k)
filled_second to scale found b k = reads_first b (times (raise to (counted scale)) b k) (one pair.Fill found) k (times_reads (raise to (counted scale)) b k) (two_second pair.Fill found)
