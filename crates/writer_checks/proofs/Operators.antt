-- What each operator needs so that nothing is wrong with it: tables, ranges, places, folds, orders and pairs.
use Rattle.std.proofs.Common.{◌≡◌, ℕ, ◌≤◌, Bool, true, false, ◌||◌, List, [], ◌∷◌, length, refl, sym, ap, ◌∙◌, subst, arith, le-ltb, Some, is_none}
use Rattle.std.specs.Prelude.{All, min}
use Rattle.std.specs.List.{list_any}
use Rattle.std.proofs.lemmas.List.Elements.{All-head, All-tail}
use Rattle.control_vectors.specs.Controls.{Control}
use Rattle.control_vectors.specs.declared.PairKind.{PairKind}
use Rattle.control_vectors.specs.declared.PairKind.TheVariants as pair_kind
use Rattle.key_paths.specs.Substructures.{is_at_or_below}
use Rattle.programs.specs.declared.family.FoldOperator.{FoldOperator}
use Rattle.programs.specs.declared.family.FoldOperator.TheVariants as fold_kind
use Rattle.programs.specs.declared.op.FoldArgs.{FoldArgs}
use Rattle.programs.specs.declared.op.Operand.{Operand}
use Rattle.programs.specs.declared.op.Operand.TheVariants as operand
use Rattle.programs.specs.declared.op.PairArgs.{PairArgs}
use Rattle.programs.specs.declared.op.Size.{Size}
use Rattle.programs.specs.declared.op.Size.TheVariants as size
use Rattle.programs.specs.declared.order_keys.OrderPath.{OrderPath}
use Rattle.programs.specs.Families.{family, pair_of, Load, Range, Gather, Fold, Order, Pair}
use Rattle.programs.specs.Faults.{path_clash, too_deep, lacks_path}
use Rattle.programs.specs.Mentions.{Label, has_name}
use Rattle.programs.specs.Outlines.{Outline, outlined, known_outline, Shapes, len_in, paths_in}
use Rattle.program_writers.specs.Statements.{out, val, run, fold_of, fold_args}
use Rattle.writer_checks.specs.Checks.{HasShape}
use Rattle.writer_checks.specs.Laws.{IsAttribute, HasOperand, HasLength, IsSizeOf}
use Rattle.writer_checks.proofs.Making.{Fine}
use Rattle.writer_checks.proofs.Outlined.{one_clear, one_shallow, is_known, len_of, paths_of, lacks_none, lacks_none_below, first_name, later_name}

one_none : (a : Bool) → a ≡ false → (a || false) ≡ false
one_none a e = rw e refl

both_none : (a b : Bool) → a ≡ false → b ≡ false → (a || b) ≡ false
both_none a b e f = rw (e, f) refl

-- ---- tables

pub load_fine : (tables vectors : Shapes) (t : Label) (o : Outline) (paths : List Label) → tables t ≡ Some o → HasShape tables t o.len paths → Fine tables vectors (Load t) o
load_fine tables vectors t o paths e h =
    let same : h.outline ≡ o = ap known_outline (sym h.known ∙ e) in
    record {
      names = ap is_none e;
      paths = refl;
      long = refl;
      makes = ap known_outline e;
      clear = subst (λ (x : Outline). path_clash x ≡ false) same h.clear;
      shallow = subst (λ (x : Outline). too_deep x ≡ false) same h.shallow;
      keys = refl;
      shows = refl;
    }

-- ---- ranges

pub range_fine : (tables vectors : Shapes) (of : Size) (p : Label) (control : Control) (len : ℕ) → IsAttribute p → IsSizeOf vectors len of → Fine tables vectors (Range of p control) (outlined len (p ∷ []))
range_fine tables vectors (size.Of a) p control len at h = record {
  names = one_none _ (is_known vectors a len [] h);
  paths = refl;
  long = refl;
  makes = ap (λ (n : ℕ). outlined n (p ∷ [])) (len_of vectors a len [] h);
  clear = one_clear len p at.below_root;
  shallow = one_shallow len p at.shallow;
  keys = refl;
  shows = refl;
}
range_fine tables vectors (size.Number n) p control len at h = record {
  names = refl;
  paths = refl;
  long = refl;
  makes = ap (λ (k : ℕ). outlined k (p ∷ [])) h;
  clear = one_clear len p at.below_root;
  shallow = one_shallow len p at.shallow;
  keys = refl;
  shows = refl;
}

-- ---- places

pub gather_fine : (tables vectors : Shapes) (a b pos : Label) (len other : ℕ) (paths : List Label) (h : HasShape vectors a other paths) → HasShape vectors b len (pos ∷ []) → Fine tables vectors (Gather a b pos) (outlined len h.outline.paths)
gather_fine tables vectors a b pos len other paths h k = record {
  names = both_none _ _ (is_known vectors a other paths h) (one_none _ (is_known vectors b len (pos ∷ []) k));
  paths = lacks_none vectors b len (pos ∷ []) k pos (first_name pos []);
  long = refl;
  makes = ap (λ (n : ℕ). outlined n (paths_in vectors a)) (len_of vectors b len (pos ∷ []) k) ∙ ap (outlined len) (paths_of vectors a other paths h);
  clear = h.clear;
  shallow = h.shallow;
  keys = refl;
  shows = refl;
}

-- ---- folds

pub fold_family : (kind : FoldOperator) (f : FoldArgs) → family (fold_of kind f) ≡ Fold kind f
fold_family fold_kind.Sum f = refl
fold_family fold_kind.Min f = refl
fold_family fold_kind.Max f = refl
fold_family fold_kind.Select f = refl
fold_family fold_kind.Scan f = refl

pub fold_fine : (tables vectors : Shapes) (a : Label) (kind : FoldOperator) (r : Label) (len : ℕ) → is_at_or_below r run ≡ true → HasShape vectors a len (val ∷ r ∷ []) → Fine tables vectors (Fold kind (fold_args a)) (outlined len (out ∷ []))
fold_fine tables vectors a kind r len below h = record {
  names = one_none _ (is_known vectors a len (val ∷ r ∷ []) h);
  paths = both_none _ _ (lacks_none vectors a len (val ∷ r ∷ []) h val (first_name val (r ∷ []))) (lacks_none_below vectors a len (val ∷ r ∷ []) h r run (later_name val (r ∷ []) r (first_name r [])) below);
  long = refl;
  makes = ap (λ (n : ℕ). outlined n (out ∷ [])) (len_of vectors a len (val ∷ r ∷ []) h);
  clear = one_clear len out refl;
  shallow = one_shallow len out refl;
  keys = refl;
  shows = refl;
}

-- ---- orders

keys_there : (vectors : Shapes) (a m : Label) (len : ℕ) (paths : List Label) → HasShape vectors a len (m ∷ paths) → (keys : List OrderPath) → All (λ (key : OrderPath). has_name paths key.path ≡ true) keys → list_any (λ (k : OrderPath). lacks_path vectors a k.path) keys ≡ false
keys_there vectors a m len paths h [] each = refl
keys_there vectors a m len paths h (k ∷ keys) each =
    both_none _ _ (lacks_none vectors a len (m ∷ paths) h k.path (later_name m paths k.path (All-head (λ (key : OrderPath). has_name paths key.path ≡ true) k keys each)))
    (keys_there vectors a m len paths h keys (All-tail (λ (key : OrderPath). has_name paths key.path ≡ true) k keys each))

pub order_fine : (tables vectors : Shapes) (a m : Label) (keys : List OrderPath) (len : ℕ) (paths : List Label) → HasShape vectors a len (m ∷ paths) → All (λ (key : OrderPath). has_name paths key.path ≡ true) keys → length keys ≤ 16 → Fine tables vectors (Order a m out keys) (outlined len (out ∷ []))
order_fine tables vectors a m keys len paths h each few = record {
  names = one_none _ (is_known vectors a len (m ∷ paths) h);
  paths = both_none _ _ (lacks_none vectors a len (m ∷ paths) h m (first_name m paths)) (keys_there vectors a m len paths h keys each);
  long = refl;
  makes = ap (λ (n : ℕ). outlined n (out ∷ [])) (len_of vectors a len (m ∷ paths) h);
  clear = one_clear len out refl;
  shallow = one_shallow len out refl;
  keys = le-ltb 16 (length keys) few;
  shows = refl;
}

-- ---- pairs

pub pair_family : (kind : PairKind) (p : PairArgs) → family (pair_of kind p) ≡ Pair kind p
pair_family pair_kind.Add p = refl
pair_family pair_kind.Subtract p = refl
pair_family pair_kind.Multiply p = refl
pair_family pair_kind.Divide p = refl
pair_family pair_kind.Modulo p = refl
pair_family pair_kind.Greater p = refl
pair_family pair_kind.Equals p = refl
pair_family pair_kind.LogicalAnd p = refl
pair_family pair_kind.LogicalOr p = refl
pair_family pair_kind.Fill p = refl

min_same : (a b n : ℕ) → a ≡ n → b ≡ n → min a b ≡ n
min_same a b n e f = omega (arith, e, f)

pub pair_fine : (tables vectors : Shapes) (kind : PairKind) (x y : Operand) (len : ℕ) → HasOperand vectors len x → HasOperand vectors len y → HasLength x y → Fine tables vectors (Pair kind (record { x = x; y = y; out = out })) (outlined len (out ∷ []))
pair_fine tables vectors kind (operand.Column a p) (operand.Column b q) len h k l = record {
  names = both_none _ _ (is_known vectors a len (p ∷ []) h) (one_none _ (is_known vectors b len (q ∷ []) k));
  paths = both_none _ _ (lacks_none vectors a len (p ∷ []) h p (first_name p [])) (lacks_none vectors b len (q ∷ []) k q (first_name q []));
  long = refl;
  makes = ap (λ (n : ℕ). outlined n (out ∷ [])) (min_same (len_in vectors a) (len_in vectors b) len (len_of vectors a len (p ∷ []) h) (len_of vectors b len (q ∷ []) k));
  clear = one_clear len out refl;
  shallow = one_shallow len out refl;
  keys = refl;
  shows = refl;
}
pair_fine tables vectors kind (operand.Column a p) (operand.Number z) len h k l = record {
  names = one_none _ (is_known vectors a len (p ∷ []) h);
  paths = one_none _ (lacks_none vectors a len (p ∷ []) h p (first_name p []));
  long = refl;
  makes = ap (λ (n : ℕ). outlined n (out ∷ [])) (len_of vectors a len (p ∷ []) h);
  clear = one_clear len out refl;
  shallow = one_shallow len out refl;
  keys = refl;
  shows = refl;
}
pair_fine tables vectors kind (operand.Number z) (operand.Column b q) len h k l = record {
  names = one_none _ (is_known vectors b len (q ∷ []) k);
  paths = lacks_none vectors b len (q ∷ []) k q (first_name q []);
  long = refl;
  makes = ap (λ (n : ℕ). outlined n (out ∷ [])) (len_of vectors b len (q ∷ []) k);
  clear = one_clear len out refl;
  shallow = one_shallow len out refl;
  keys = refl;
  shows = refl;
}
pair_fine tables vectors kind (operand.Number z) (operand.Number w) len h k l = absurd l
