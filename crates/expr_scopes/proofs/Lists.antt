-- The operands of IN and of COALESCE, one by one.
use Rattle.std.proofs.Common.{ℕ, ◌≤◌, List, [], ◌∷◌, map}
use Rattle.control_vectors.specs.declared.PairKind.TheVariants as pair
use Rattle.typed_trees.specs.declared.typed.TypedExpr.{TypedExpr}
use Rattle.typed_trees.specs.Scales.{scale_of}
use Rattle.expr_steps.specs.declared.steps.Source.{Source}
use Rattle.expr_steps.specs.Lowered.{Bytes, Part, part_of, lowered, zero, found_among, any_equal, or_equal, found_equal, first_there, filled, filled_from}
use Rattle.expr_scopes.specs.Scopes.{Names}
use Rattle.expr_scopes.specs.Laws.{Stands, IsSound}
use Rattle.expr_scopes.proofs.Sound.{stands_later, Reads, reads_first, reads_behind, sound_source, reads_source, sound_then}
use Rattle.expr_scopes.proofs.Pieces.{two_later, zero_stands, two_sound, two_second}
use Rattle.expr_scopes.proofs.Operators.{found_sound, found_first, found_before, found_second, filled_sound, filled_before, filled_second}
use Rattle.expr_scopes.proofs.Naming.{Within, AllWithin}

-- an expression whose code is sound
abbrev pub SoundExpr : List Bytes → TypedExpr → Type 0
SoundExpr texts e = (names : Names) → Within names e → (k : ℕ) → 2 ≤ k → IsSound names k (lowered texts e k)

abbrev pub Operands : List Bytes → Type 0
Operands texts = List ((e : TypedExpr) × SoundExpr texts e)

abbrev pub exprs : (texts : List Bytes) → Operands texts → List TypedExpr
exprs texts l = map (λ x. x.0) l

abbrev pub parts : (texts : List Bytes) → Operands texts → List Part
parts texts l = map (part_of texts) (exprs texts l)

-- ---- IN

pub any_before : (texts : List Bytes) (x : Part) (a : Source) (ys : Operands texts) (found : Source) (k : ℕ) → Reads found (any_equal texts x a (parts texts ys) found k)
any_before texts x a [] found k = reads_source found k
any_before texts x a (y ∷ ys) found k =
    let py = part_of texts y.0 in
    reads_first found (or_equal texts x a py found k) (any_equal texts x a (parts texts ys)) k
    (reads_behind found (lowered texts y.0 k) (found_equal texts x a py found) k (λ b n. found_before texts x a py found b n))
    (any_before texts x a ys)

any_first : (texts : List Bytes) (x : Part) (a : Source) (y : (e : TypedExpr) × SoundExpr texts e) (ys : Operands texts) (found : Source) (k : ℕ) → Reads a (any_equal texts x a (parts texts (y ∷ ys)) found k)
any_first texts x a y ys found k =
    let py = part_of texts y.0 in
    reads_first a (or_equal texts x a py found k) (any_equal texts x a (parts texts ys)) k
    (reads_behind a (lowered texts y.0 k) (found_equal texts x a py found) k (λ b n. found_first texts x a py found b n))
    (any_before texts x a ys)

any_sound : (names : Names) (texts : List Bytes) (x : Part) (a : Source) (ys : Operands texts) (found : Source) (k : ℕ) → AllWithin names (exprs texts ys) → 2 ≤ k → Stands names k a → Stands names k found → IsSound names k (any_equal texts x a (parts texts ys) found k)
any_sound names texts x a [] found k w two sa sf = sound_source names k found sf
any_sound names texts x a (y ∷ ys) found k w two sa sf =
    let py = part_of texts y.0 in
    sound_then names k (or_equal texts x a py found k) (any_equal texts x a (parts texts ys))
    (sound_then names k (lowered texts y.0 k) (found_equal texts x a py found) (y.1 names w.0 k two)
    (λ b n l s. found_sound names texts x a py found b n (two_later k n two l) (stands_later names k n a l sa) (stands_later names k n found l sf) s)
    (λ b n. found_second texts x a py found b n))
    (λ next n l s. any_sound names texts x a ys next n w.1 (two_later k n two l) (stands_later names k n a l sa) s)
    (any_before texts x a ys)

pub among_sound : (names : Names) (texts : List Bytes) (x : Part) (ys : Operands texts) (a : Source) (k : ℕ) → AllWithin names (exprs texts ys) → 2 ≤ k → Stands names k a → IsSound names k (found_among texts x a (parts texts ys) k)
among_sound names texts x [] a k w two sa = two_sound names pair.Fill zero a k two (zero_stands names k two) sa
among_sound names texts x (y ∷ ys) a k w two sa = any_sound names texts x a (y ∷ ys) zero k w two sa (zero_stands names k two)

pub among_reads : (texts : List Bytes) (x : Part) (ys : Operands texts) (a : Source) (k : ℕ) → Reads a (found_among texts x a (parts texts ys) k)
among_reads texts x [] a k = two_second pair.Fill zero a k
among_reads texts x (y ∷ ys) a k = any_first texts x a y ys zero k

-- ---- COALESCE

pub there_before : (texts : List Bytes) (to : ℕ) (ys : Operands texts) (found : Source) (k : ℕ) → Reads found (first_there to (parts texts ys) found k)
there_before texts to [] found k = reads_source found k
there_before texts to (y ∷ ys) found k =
    let py = part_of texts y.0 in
    reads_first found (filled to py found k) (first_there to (parts texts ys)) k
    (reads_behind found (lowered texts y.0 k) (filled_from to (scale_of y.0) found) k (λ b n. filled_before to (scale_of y.0) found b n))
    (there_before texts to ys)

pub there_sound : (names : Names) (texts : List Bytes) (to : ℕ) (ys : Operands texts) (found : Source) (k : ℕ) → AllWithin names (exprs texts ys) → 2 ≤ k → Stands names k found → IsSound names k (first_there to (parts texts ys) found k)
there_sound names texts to [] found k w two sf = sound_source names k found sf
there_sound names texts to (y ∷ ys) found k w two sf =
    let py = part_of texts y.0 in
    sound_then names k (filled to py found k) (first_there to (parts texts ys))
    (sound_then names k (lowered texts y.0 k) (filled_from to (scale_of y.0) found) (y.1 names w.0 k two)
    (λ b n l s. filled_sound names to (scale_of y.0) found b n (two_later k n two l) (stands_later names k n found l sf) s)
    (λ b n. filled_second to (scale_of y.0) found b n))
    (λ next n l s. there_sound names texts to ys next n w.1 (two_later k n two l) s)
    (there_before texts to ys)
