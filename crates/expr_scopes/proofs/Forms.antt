-- The code of each form of an expression is sound where that of its operands is.
use Rattle.std.proofs.Common.{◌≡◌, ℕ, pos, ◌≤◌, ◌==◌, true, false, ◌||◌, ◌&&◌, List, map, refl, ap, ◌∙◌, sym, subst}
use Rattle.std.specs.List.{list_any}
use Rattle.std.proofs.lemmas.Bool.{or_left, or_right, eq-eqb}
use Rattle.typed_trees.specs.declared.typed.ColumnRef.{ColumnRef}
use Rattle.typed_trees.specs.declared.typed.TypedExpr.{TypedExpr, roll-TypedExpr}
use Rattle.typed_trees.specs.declared.typed.TypedExpr.TheOpen.{TypedExpr-F}
use Rattle.typed_trees.specs.declared.typed.TypedExpr.TheFolds.{map-TypedExpr, ind-TypedExpr}
use Rattle.typed_trees.specs.Names.{same_column, names_any}
use Rattle.typed_trees.proofs.NameForms.{names_roll}
use Rattle.typed_values.specs.Narrow.{counted}
use Rattle.query_trees.specs.declared.expr.BinaryOp.{BinaryOp}
use Rattle.query_trees.specs.declared.expr.Polarity.{Polarity}
use Rattle.expr_steps.specs.declared.steps.Source.{Source}
use Rattle.expr_steps.specs.declared.steps.Source.TheVariants.{Column, Aggregate}
use Rattle.expr_steps.specs.Codes.{Code, and_then}
use Rattle.expr_steps.specs.Lowered.{Bytes, Part, part_of, lowered, form_code, in_two, binary, between, among, choice, written, text_number, sign_step, opposite, divided, null_test, outside, unless_negated, found_among, by_polarity, most_scale, times, raise, first_there}
use Rattle.expr_steps.proofs.Forms.{lowered_roll}
use Rattle.expr_scopes.specs.Scopes.{Names}
use Rattle.expr_scopes.specs.Laws.{Stands, IsSound}
use Rattle.expr_scopes.proofs.Sound.{stands_later, reads_first, reads_behind, sound_source, sound_then}
use Rattle.expr_scopes.proofs.Pieces.{two_later, then_sound, constant_sound, sign_sound, sign_reads, opposite_sound, opposite_reads, divided_sound, divided_reads, null_test_sound, null_test_reads, polarity_sound, polarity_reads, times_sound, times_reads}
use Rattle.expr_scopes.proofs.Operators.{binary_sound, binary_first, binary_second, outside_first, outside_second, outside_third, between_sound, between_reads}
use Rattle.expr_scopes.proofs.Naming.{Within, AllWithin, part_within, list_within}
use Rattle.expr_scopes.proofs.Lists.{SoundExpr, Operands, exprs, parts, among_sound, among_reads, there_sound, there_before}

by_form : (texts : List Bytes) (d : TypedExpr-F TypedExpr) (names : Names) (k : ℕ) → IsSound names k (form_code texts (map-TypedExpr TypedExpr Part (part_of texts) d) k) → IsSound names k (lowered texts (roll-TypedExpr d) k)
by_form texts d names k h = subst (λ (m : Code). IsSound names k (m k)) (sym (lowered_roll texts d)) h

-- ---- operands

binary_code : (names : Names) (texts : List Bytes) (o : BinaryOp) (x y : TypedExpr) (k : ℕ) → SoundExpr texts x → SoundExpr texts y → Within names x → Within names y → 2 ≤ k → IsSound names k (in_two (part_of texts x) (part_of texts y) (binary texts o (part_of texts x) (part_of texts y)) k)
binary_code names texts o x y k hx hy wx wy two =
    let next : Source → Source → Code = binary texts o (part_of texts x) (part_of texts y) in
    sound_then names k (lowered texts x k) (λ a. and_then (lowered texts y) (λ b. next a b)) (hx names wx k two)
    (λ a n l s. sound_then names n (lowered texts y n) (λ b. next a b) (hy names wy n (two_later k n two l))
    (λ b m l2 s2. binary_sound names texts o (part_of texts x) (part_of texts y) a b m (two_later n m (two_later k n two l) l2) (stands_later names n m a l2 s) s2)
    (λ b m. binary_second texts o (part_of texts x) (part_of texts y) a b m))
    (λ a n. reads_behind a (lowered texts y n) (λ b. next a b) n (λ b m. binary_first texts o (part_of texts x) (part_of texts y) a b m))

-- the last operand of BETWEEN, behind the two that stand
between_last : (names : Names) (texts : List Bytes) (p : Polarity) (x y z : TypedExpr) (a b : Source) (k : ℕ) → SoundExpr texts z → Within names z → 2 ≤ k → Stands names k a → Stands names k b → IsSound names k (and_then (lowered texts z) (λ c. and_then (outside texts (part_of texts x) (part_of texts y) (part_of texts z) a b c) (unless_negated p)) k)
between_last names texts p x y z a b k hz wz two sa sb =
    let px = part_of texts x in let py = part_of texts y in let pz = part_of texts z in
    sound_then names k (lowered texts z k) (λ c. and_then (outside texts px py pz a b c) (unless_negated p)) (hz names wz k two)
    (λ c n l s. between_sound names texts p px py pz a b c n (two_later k n two l) (stands_later names k n a l sa) (stands_later names k n b l sb) s)
    (λ c n. between_reads texts p px py pz a b c c n (outside_third texts px py pz a b c n))

between_code : (names : Names) (texts : List Bytes) (p : Polarity) (x y z : TypedExpr) (k : ℕ) → SoundExpr texts x → SoundExpr texts y → SoundExpr texts z → Within names x → Within names y → Within names z → 2 ≤ k → IsSound names k (between texts p (part_of texts x) (part_of texts y) (part_of texts z) k)
between_code names texts p x y z k hx hy hz wx wy wz two =
    let px = part_of texts x in let py = part_of texts y in let pz = part_of texts z in
    sound_then names k (lowered texts x k) (λ a. and_then (lowered texts y) (λ b. and_then (lowered texts z) (λ c. and_then (outside texts px py pz a b c) (unless_negated p)))) (hx names wx k two)
    (λ a n l s. sound_then names n (lowered texts y n) (λ b. and_then (lowered texts z) (λ c. and_then (outside texts px py pz a b c) (unless_negated p))) (hy names wy n (two_later k n two l))
    (λ b m l2 s2. between_last names texts p x y z a b m hz wz (two_later n m (two_later k n two l) l2) (stands_later names n m a l2 s) s2)
    (λ b m. reads_behind b (lowered texts z m) (λ c. and_then (outside texts px py pz a b c) (unless_negated p)) m (λ c i. between_reads texts p px py pz a b c b i (outside_second texts px py pz a b c i))))
    (λ a n. reads_behind a (lowered texts y n) (λ b. and_then (lowered texts z) (λ c. and_then (outside texts px py pz a b c) (unless_negated p))) n
    (λ b m. reads_behind a (lowered texts z m) (λ c. and_then (outside texts px py pz a b c) (unless_negated p)) m (λ c i. between_reads texts p px py pz a b c a i (outside_first texts px py pz a b c i))))

in_code : (names : Names) (texts : List Bytes) (p : Polarity) (x : TypedExpr) (ys : Operands texts) (k : ℕ) → SoundExpr texts x → Within names x → AllWithin names (exprs texts ys) → 2 ≤ k → IsSound names k (among texts p (part_of texts x) (parts texts ys) k)
in_code names texts p x ys k hx wx wys two =
    let px = part_of texts x in
    sound_then names k (lowered texts x k) (λ a. and_then (found_among texts px a (parts texts ys)) (by_polarity p)) (hx names wx k two)
    (λ a n l s. then_sound names (found_among texts px a (parts texts ys)) (by_polarity p) n (two_later k n two l) (among_sound names texts px ys a n wys (two_later k n two l) s) (polarity_sound names p) (polarity_reads p))
    (λ a n. reads_first a (found_among texts px a (parts texts ys) n) (by_polarity p) n (among_reads texts px ys a n) (polarity_reads p))

choice_code : (names : Names) (texts : List Bytes) (x : TypedExpr) (ys : Operands texts) (k : ℕ) → SoundExpr texts x → Within names x → AllWithin names (exprs texts ys) → 2 ≤ k → IsSound names k (choice (part_of texts x) (parts texts ys) k)
choice_code names texts x ys k hx wx wys two =
    let px = part_of texts x in
    let to = most_scale px (parts texts ys) in
    let f = raise to (counted px.scale) in
    sound_then names k (lowered texts x k) (λ a. and_then (times f a) (first_there to (parts texts ys))) (hx names wx k two)
    (λ a n l s. then_sound names (times f a) (first_there to (parts texts ys)) n (two_later k n two l) (times_sound names f a n (two_later k n two l) s) (λ b m t sb. there_sound names texts to ys b m wys t sb) (there_before texts to ys))
    (λ a n. reads_first a (times f a n) (first_there to (parts texts ys)) n (times_reads f a n) (there_before texts to ys))

-- ---- the forms

same_itself : (c : ColumnRef) → same_column c c ≡ true
same_itself c = ap (λ b. b && (c.column == c.column)) (eq-eqb c.source c.source refl) ∙ eq-eqb c.column c.column refl

by_layer : (texts : List Bytes) (y : TypedExpr-F ((e : TypedExpr) × SoundExpr texts e)) → SoundExpr texts (roll-TypedExpr (map-TypedExpr ((e : TypedExpr) × SoundExpr texts e) TypedExpr (λ x. x.0) y))
by_layer texts (TypedExpr-F.Number n scale) names w k two = by_form texts (TypedExpr-F.Number n scale) names k (constant_sound names (pos (written n)) k two)
by_layer texts (TypedExpr-F.Text t) names w k two = by_form texts (TypedExpr-F.Text t) names k (constant_sound names (text_number texts t) k two)
by_layer texts (TypedExpr-F.Date day) names w k two = by_form texts (TypedExpr-F.Date day) names k (constant_sound names day k two)
by_layer texts (TypedExpr-F.Column c type) names w k two =
    by_form texts (TypedExpr-F.Column c type) names k (sound_source names k (Column c) (w.column c (names_roll (same_column c) (λ m. false) (TypedExpr-F.Column c type) ∙ same_itself c)))
by_layer texts (TypedExpr-F.Aggregate n scale) names w k two =
    by_form texts (TypedExpr-F.Aggregate n scale) names k (sound_source names k (Aggregate n) (w.aggregate n (names_roll (λ c. false) (λ m. n == m) (TypedExpr-F.Aggregate n scale) ∙ eq-eqb n n refl)))
by_layer texts (TypedExpr-F.Signed s x) names w k two =
    let d = TypedExpr-F.Signed s x.0 in
    by_form texts d names k (then_sound names (lowered texts x.0) (sign_step s) k two (x.1 names (part_within names d x.0 w (λ c a h. h)) k two) (sign_sound names s) (sign_reads s))
by_layer texts (TypedExpr-F.Not x) names w k two =
    let d = TypedExpr-F.Not x.0 in
    by_form texts d names k (then_sound names (lowered texts x.0) opposite k two (x.1 names (part_within names d x.0 w (λ c a h. h)) k two) (opposite_sound names) opposite_reads)
by_layer texts (TypedExpr-F.Binary o x y) names w k two =
    let d = TypedExpr-F.Binary o x.0 y.0 in
    by_form texts d names k
    (binary_code names texts o x.0 y.0 k x.1 y.1 (part_within names d x.0 w (λ c a h. or_left (names_any c a x.0) (names_any c a y.0) h)) (part_within names d y.0 w (λ c a h. or_right (names_any c a x.0) (names_any c a y.0) h)) two)
by_layer texts (TypedExpr-F.Divide x s n) names w k two =
    let d = TypedExpr-F.Divide x.0 s n in
    by_form texts d names k (then_sound names (lowered texts x.0) (divided s n) k two (x.1 names (part_within names d x.0 w (λ c a h. h)) k two) (divided_sound names s n) (divided_reads s n))
by_layer texts (TypedExpr-F.Between p x y z) names w k two =
    let d = TypedExpr-F.Between p x.0 y.0 z.0 in
    by_form texts d names k
    (between_code names texts p x.0 y.0 z.0 k x.1 y.1 z.1
    (part_within names d x.0 w (λ c a h. or_left (names_any c a x.0) (names_any c a y.0 || names_any c a z.0) h))
    (part_within names d y.0 w (λ c a h. or_right (names_any c a x.0) (names_any c a y.0 || names_any c a z.0) (or_left (names_any c a y.0) (names_any c a z.0) h)))
    (part_within names d z.0 w (λ c a h. or_right (names_any c a x.0) (names_any c a y.0 || names_any c a z.0) (or_right (names_any c a y.0) (names_any c a z.0) h))) two)
by_layer texts (TypedExpr-F.In p x ys) names w k two =
    let d = TypedExpr-F.In p x.0 (exprs texts ys) in
    by_form texts d names k
    (in_code names texts p x.0 ys k x.1
    (part_within names d x.0 w (λ c a h. or_left (names_any c a x.0) (list_any (λ b. b) (map (names_any c a) (exprs texts ys))) h))
    (list_within names d (exprs texts ys) w (λ c a h. or_right (names_any c a x.0) (list_any (λ b. b) (map (names_any c a) (exprs texts ys))) h)) two)
by_layer texts (TypedExpr-F.IsNull p x) names w k two =
    let d = TypedExpr-F.IsNull p x.0 in
    by_form texts d names k (then_sound names (lowered texts x.0) (null_test p) k two (x.1 names (part_within names d x.0 w (λ c a h. h)) k two) (null_test_sound names p) (null_test_reads p))
by_layer texts (TypedExpr-F.Coalesce x ys) names w k two =
    let d = TypedExpr-F.Coalesce x.0 (exprs texts ys) in
    by_form texts d names k
    (choice_code names texts x.0 ys k x.1
    (part_within names d x.0 w (λ c a h. or_left (names_any c a x.0) (list_any (λ b. b) (map (names_any c a) (exprs texts ys))) h))
    (list_within names d (exprs texts ys) w (λ c a h. or_right (names_any c a x.0) (list_any (λ b. b) (map (names_any c a) (exprs texts ys))) h)) two)

pub sound : (texts : List Bytes) (e : TypedExpr) → SoundExpr texts e
sound texts = ind-TypedExpr (SoundExpr texts) (λ x y is. subst (λ z. SoundExpr texts (roll-TypedExpr z)) is (by_layer texts y))
