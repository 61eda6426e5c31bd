-- The laws of checks, part by part: parts compose, and each operator passes where the vectors that it reads have the paths that it reads.
use Rattle.std.specs.Prelude.{◌≡◌, ℕ, ◌≤◌, ◌^◌, true, false, List, [], ◌∷◌, All, length, ◌<◌, Some}
use Rattle.control_vectors.specs.Controls.{Control}
use Rattle.control_vectors.specs.declared.PairKind.{PairKind}
use Rattle.key_paths.specs.Substructures.{is_root, is_at_or_below}
use Rattle.programs.specs.declared.family.FoldOperator.{FoldOperator}
use Rattle.programs.specs.declared.op.Op.TheVariants as op
use Rattle.programs.specs.declared.op.Operand.{Operand}
use Rattle.programs.specs.declared.op.Operand.TheVariants as operand
use Rattle.programs.specs.declared.op.Size.{Size}
use Rattle.programs.specs.declared.op.Size.TheVariants as size
use Rattle.programs.specs.declared.order_keys.OrderPath.{OrderPath}
use Rattle.programs.specs.Check.{Known}
use Rattle.programs.specs.Mentions.{Label, has_name}
use Rattle.programs.specs.Moves.{is_deep}
use Rattle.programs.specs.Outlines.{Outline, Shapes}
use Rattle.program_writers.specs.Names.{IsBelow, is_word}
use Rattle.program_writers.specs.Statements.{out, val, run, pair, with_attribute, fold_args, fold_of}
use Rattle.program_writers.specs.Writers.{Writer, tell, ◌>>=◌, make}
use Rattle.writer_checks.specs.Checks.{IsFresh, HasShape, Passes}

-- ---- parts compose: a statement about all properties, which no contract can hold, so that proofs cite it

pub record ComposeLaws : Type 1 where
  pub tell : (A : Type 0) (tables : Shapes) (a : A) (k : ℕ) (known : Known) (P : A → Shapes → Type 0) → IsFresh k known.vectors → P a known.vectors → Passes tables (tell a) k known P
  pub bind : (A B : Type 0) (tables : Shapes) (m : Writer A) (f : A → Writer B) (k : ℕ) (known : Known) (P : A → Shapes → Type 0) (Q : B → Shapes → Type 0)
      → Passes tables m k known P
      → ((a : A) (next : ℕ) (between : Known) → k ≤ next → IsFresh next between.vectors → P a between.vectors → ((name : Label) → IsBelow k name → between.vectors name ≡ known.vectors name) → Passes tables (f a) next between Q)
      → Passes tables (m >>= f) k known Q

-- what a shape says stays true where its name is left alone
abbrev pub KeptLaw : Type 0
KeptLaw = (before after : Shapes) (name : Label) (len : ℕ) (paths : List Label) → after name ≡ before name → HasShape before name len paths → HasShape after name len paths

-- it also does where all names below some number are left alone
abbrev pub StillLaw : Type 0
StillLaw = (k : ℕ) (before after : Shapes) (name : Label) (len : ℕ) (paths : List Label) → IsFresh k before → ((n : Label) → IsBelow k n → after n ≡ before n) → HasShape before name len paths → HasShape after name len paths

-- ---- operators, each under a word without digits

-- the vector that is told has this length, and these paths among its own
abbrev pub Shaped : ℕ → List Label → Label → Shapes → Type 0
Shaped len paths name shapes = HasShape shapes name len paths

-- a path that may be an attribute by itself
pub record IsAttribute (p : Label) : Type 0 where
  pub some : 0 < length p
  pub below_root : is_root p ≡ false
  pub shallow : is_deep p ≡ false

-- no path of a vector lies above this one, so that it may be an attribute beside them
abbrev pub NoneAbove : Shapes → Label → Label → Type 0
NoneAbove shapes a p = (outline : Outline) → shapes a ≡ Some outline → All (λ q. is_at_or_below p q ≡ true → is_at_or_below q p ≡ true) outline.paths

-- an attribute, or a number
abbrev pub HasOperand : Shapes → ℕ → Operand → Type 0
HasOperand shapes len (operand.Column a p) = HasShape shapes a len (p ∷ [])
HasOperand shapes len (operand.Number z) = Unit {0}

-- one of two operands is an attribute
abbrev pub HasLength : Operand → Operand → Type 0
HasLength (operand.Number z) (operand.Number w) = ⊥
HasLength x y = Unit {0}

abbrev pub IsSizeOf : Shapes → ℕ → Size → Type 0
IsSizeOf shapes len (size.Of a) = HasShape shapes a len []
IsSizeOf shapes len (size.Number n) = n ≡ len

pub record OperatorLaws : Type 0 where
  pub load : (tables : Shapes) (word t : Label) (o : Outline) (k : ℕ) (known : Known) → is_word word ≡ true → IsFresh k known.vectors → HasShape tables t o.len o.paths → tables t ≡ Some o → o.len ≤ 2 ^ 22
      → Passes tables (make word (op.Load t)) k known (Shaped o.len o.paths)
  pub range : (tables : Shapes) (word : Label) (of : Size) (p : Label) (control : Control) (len : ℕ) (k : ℕ) (known : Known) → is_word word ≡ true → IsFresh k known.vectors → IsAttribute p → IsSizeOf known.vectors len of → len ≤ 2 ^ 22
      → Passes tables (make word (op.Range of p control)) k known (Shaped len (p ∷ []))
  -- an attribute more, beside those whose paths are not at or below its own
  pub upsert : (tables : Shapes) (word a p b q : Label) (len : ℕ) (paths : List Label) (other : ℕ) (k : ℕ) (known : Known) → is_word word ≡ true → IsFresh k known.vectors → IsAttribute p → len ≤ 2 ^ 22
      → HasShape known.vectors a len paths → HasShape known.vectors b other (q ∷ []) → NoneAbove known.vectors a p → All (λ r. is_at_or_below r p ≡ false) paths
      → Passes tables (make word (with_attribute a p b q)) k known (Shaped len (p ∷ paths))
  -- one attribute alone, under another path: where the paths of a vector are apart, nothing else stands below it
  pub project : (tables : Shapes) (word a p q : Label) (len : ℕ) (k : ℕ) (known : Known) → is_word word ≡ true → IsFresh k known.vectors → IsAttribute p → IsAttribute q → len ≤ 2 ^ 22
      → HasShape known.vectors a len (p ∷ []) → Passes tables (make word (op.Project a p q)) k known (λ name shapes. shapes name ≡ Some (record { len = len; paths = q ∷ [] }))
  pub gather : (tables : Shapes) (word a b pos : Label) (len other : ℕ) (paths : List Label) (k : ℕ) (known : Known) → is_word word ≡ true → IsFresh k known.vectors → len ≤ 2 ^ 22
      → HasShape known.vectors a other paths → HasShape known.vectors b len (pos ∷ []) → Passes tables (make word (op.Gather a b pos)) k known (Shaped len paths)
  -- a fold of `.val` in the runs of what stands below `.run`
  pub fold : (tables : Shapes) (word a : Label) (kind : FoldOperator) (r : Label) (len : ℕ) (k : ℕ) (known : Known) → is_word word ≡ true → IsFresh k known.vectors → len ≤ 2 ^ 22 → is_at_or_below r run ≡ true
      → HasShape known.vectors a len (val ∷ r ∷ []) → Passes tables (make word (fold_of kind (fold_args a))) k known (Shaped len (out ∷ []))
  pub order : (tables : Shapes) (word a m : Label) (keys : List OrderPath) (len : ℕ) (paths : List Label) (k : ℕ) (known : Known) → is_word word ≡ true → IsFresh k known.vectors → len ≤ 2 ^ 22
      → HasShape known.vectors a len (m ∷ paths) → All (λ key. has_name paths key.path ≡ true) keys → length keys ≤ 16 → Passes tables (make word (op.Order a m out keys)) k known (Shaped len (out ∷ []))
  pub paired : (tables : Shapes) (word : Label) (kind : PairKind) (x y : Operand) (len : ℕ) (k : ℕ) (known : Known) → is_word word ≡ true → IsFresh k known.vectors → len ≤ 2 ^ 22
      → HasOperand known.vectors len x → HasOperand known.vectors len y → HasLength x y → Passes tables (make word (pair kind x y)) k known (Shaped len (out ∷ []))
