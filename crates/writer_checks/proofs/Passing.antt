-- Each operator passes where the vectors that it reads have the paths that it reads.
use Rattle.std.proofs.Common.{◌≡◌, ℕ, ◌≤◌, ◌^◌, true, false, List, [], ◌∷◌, length, refl, sym, ◌∙◌, subst, Some}
use Rattle.std.specs.Prelude.{All}
use Rattle.control_vectors.specs.Controls.{Control}
use Rattle.control_vectors.specs.declared.PairKind.{PairKind}
use Rattle.key_paths.specs.Substructures.{is_at_or_below}
use Rattle.programs.specs.declared.family.FoldOperator.{FoldOperator}
use Rattle.programs.specs.declared.op.Op.TheVariants as op
use Rattle.programs.specs.declared.op.Operand.{Operand}
use Rattle.programs.specs.declared.op.Size.{Size}
use Rattle.programs.specs.declared.order_keys.OrderPath.{OrderPath}
use Rattle.programs.specs.Check.{Known}
use Rattle.programs.specs.Families.{Family}
use Rattle.programs.specs.Mentions.{Label, has_name}
use Rattle.programs.specs.Moves.{upserted}
use Rattle.programs.specs.Outlines.{Outline, outlined, Shapes}
use Rattle.program_writers.specs.Names.{is_word}
use Rattle.program_writers.specs.Statements.{out, val, run, pair, with_attribute, fold_of, fold_args}
use Rattle.program_writers.specs.Writers.{make, numbered}
use Rattle.writer_checks.specs.Checks.{IsFresh, HasShape, Passes}
use Rattle.writer_checks.specs.Laws.{IsAttribute, NoneAbove, HasOperand, HasLength, IsSizeOf, Shaped, OperatorLaws}
use Rattle.writer_checks.proofs.Making.{Fine, made_passes, shaped_passes, add_shape-same}
use Rattle.writer_checks.proofs.Outlined.{names_one}
use Rattle.writer_checks.proofs.Changes.{upsert_fine, project_fine}
use Rattle.writer_checks.proofs.Attributes.{upserted_names}
use Rattle.writer_checks.proofs.Operators.{load_fine, range_fine, gather_fine, fold_fine, fold_family, order_fine, pair_fine, pair_family}

load_passes : (tables : Shapes) (word t : Label) (o : Outline) (k : ℕ) (known : Known) → is_word word ≡ true → IsFresh k known.vectors → HasShape tables t o.len o.paths → tables t ≡ Some o → o.len ≤ 2 ^ 22
    → Passes tables (make word (op.Load t)) k known (Shaped o.len o.paths)
load_passes tables word t o k known w fresh h e small =
    let same : h.outline ≡ o = let q : Some h.outline ≡ Some o = sym h.known ∙ e in cc in
    shaped_passes tables word (op.Load t) o k known o.len o.paths w fresh (load_fine tables known.vectors t o o.paths e h) small refl
    (subst (λ (x : Outline). All (λ p. has_name x.paths p ≡ true) o.paths) same h.each)

range_passes : (tables : Shapes) (word : Label) (of : Size) (p : Label) (control : Control) (len : ℕ) (k : ℕ) (known : Known) → is_word word ≡ true → IsFresh k known.vectors → IsAttribute p → IsSizeOf known.vectors len of → len ≤ 2 ^ 22
    → Passes tables (make word (op.Range of p control)) k known (Shaped len (p ∷ []))
range_passes tables word of p control len k known w fresh at h small =
    shaped_passes tables word (op.Range of p control) (outlined len (p ∷ [])) k known len (p ∷ []) w fresh (range_fine tables known.vectors of p control len at h) small refl (names_one p)

gather_passes : (tables : Shapes) (word a b pos : Label) (len other : ℕ) (paths : List Label) (k : ℕ) (known : Known) → is_word word ≡ true → IsFresh k known.vectors → len ≤ 2 ^ 22
    → HasShape known.vectors a other paths → HasShape known.vectors b len (pos ∷ []) → Passes tables (make word (op.Gather a b pos)) k known (Shaped len paths)
gather_passes tables word a b pos len other paths k known w fresh small h g =
    shaped_passes tables word (op.Gather a b pos) (outlined len h.outline.paths) k known len paths w fresh (gather_fine tables known.vectors a b pos len other paths h g) small refl h.each

fold_passes : (tables : Shapes) (word a : Label) (kind : FoldOperator) (r : Label) (len : ℕ) (k : ℕ) (known : Known) → is_word word ≡ true → IsFresh k known.vectors → len ≤ 2 ^ 22 → is_at_or_below r run ≡ true
    → HasShape known.vectors a len (val ∷ r ∷ []) → Passes tables (make word (fold_of kind (fold_args a))) k known (Shaped len (out ∷ []))
fold_passes tables word a kind r len k known w fresh small below h =
    shaped_passes tables word (fold_of kind (fold_args a)) (outlined len (out ∷ [])) k known len (out ∷ []) w fresh
    (subst (λ (f : Family). Fine tables known.vectors f (outlined len (out ∷ []))) (sym (fold_family kind (fold_args a))) (fold_fine tables known.vectors a kind r len below h)) small refl (names_one out)

order_passes : (tables : Shapes) (word a m : Label) (keys : List OrderPath) (len : ℕ) (paths : List Label) (k : ℕ) (known : Known) → is_word word ≡ true → IsFresh k known.vectors → len ≤ 2 ^ 22
    → HasShape known.vectors a len (m ∷ paths) → All (λ (key : OrderPath). has_name paths key.path ≡ true) keys → length keys ≤ 16 → Passes tables (make word (op.Order a m out keys)) k known (Shaped len (out ∷ []))
order_passes tables word a m keys len paths k known w fresh small h each few =
    shaped_passes tables word (op.Order a m out keys) (outlined len (out ∷ [])) k known len (out ∷ []) w fresh (order_fine tables known.vectors a m keys len paths h each few) small refl (names_one out)

pair_passes : (tables : Shapes) (word : Label) (kind : PairKind) (x y : Operand) (len : ℕ) (k : ℕ) (known : Known) → is_word word ≡ true → IsFresh k known.vectors → len ≤ 2 ^ 22
    → HasOperand known.vectors len x → HasOperand known.vectors len y → HasLength x y → Passes tables (make word (pair kind x y)) k known (Shaped len (out ∷ []))
pair_passes tables word kind x y len k known w fresh small h g l =
    shaped_passes tables word (pair kind x y) (outlined len (out ∷ [])) k known len (out ∷ []) w fresh
    (subst (λ (f : Family). Fine tables known.vectors f (outlined len (out ∷ []))) (sym (pair_family kind (record { x = x; y = y; out = out }))) (pair_fine tables known.vectors kind x y len h g l)) small refl (names_one out)

upsert_passes : (tables : Shapes) (word a p b q : Label) (len : ℕ) (paths : List Label) (other : ℕ) (k : ℕ) (known : Known) → is_word word ≡ true → IsFresh k known.vectors → IsAttribute p → len ≤ 2 ^ 22
    → HasShape known.vectors a len paths → HasShape known.vectors b other (q ∷ []) → NoneAbove known.vectors a p → All (λ r. is_at_or_below r p ≡ false) paths
    → Passes tables (make word (with_attribute a p b q)) k known (Shaped len (p ∷ paths))
upsert_passes tables word a p b q len paths other k known w fresh at small h g above off =
    shaped_passes tables word (with_attribute a p b q) (outlined len (upserted p h.outline.paths)) k known len (p ∷ paths) w fresh
    (upsert_fine tables known.vectors a p b q len paths other at h g above) small refl (upserted_names p h.outline.paths paths h.each off)

project_passes : (tables : Shapes) (word a p q : Label) (len : ℕ) (k : ℕ) (known : Known) → is_word word ≡ true → IsFresh k known.vectors → IsAttribute p → IsAttribute q → len ≤ 2 ^ 22
    → HasShape known.vectors a len (p ∷ []) → Passes tables (make word (op.Project a p q)) k known (λ name shapes. shapes name ≡ Some (outlined len (q ∷ [])))
project_passes tables word a p q len k known w fresh from to small h =
    made_passes tables word (op.Project a p q) (outlined len (q ∷ [])) k known (λ name shapes. shapes name ≡ Some (outlined len (q ∷ []))) w fresh (project_fine tables known.vectors a p q len from to h) small
    (add_shape-same known.vectors (numbered word k) (outlined len (q ∷ [])))

pub operator_laws : OperatorLaws
operator_laws = record {
  load = load_passes;
  range = range_passes;
  upsert = upsert_passes;
  project = project_passes;
  gather = gather_passes;
  fold = fold_passes;
  order = order_passes;
  paired = pair_passes;
}
