-- What users of the laws need again and again: what stays known, weaker ends, loops, statements under names of their own, and results.
use Rattle.std.proofs.Common.{◌≡◌, ℕ, ◌+◌, Bool, true, false, ◌||◌, List, [], ◌∷◌, refl, sym, ap, ◌∙◌, subst, Ok, Option, Some, None, is_none}
use Rattle.std.specs.Str.{bytes_eq}
use Rattle.std.proofs.lemmas.Slice.Eq.{bytes_eq-Decides}
use Rattle.programs.specs.declared.op.Op.{Op}
use Rattle.programs.specs.declared.op.Op.TheVariants as op
use Rattle.programs.specs.declared.op.ProgramKind.{ProgramKind}
use Rattle.programs.specs.declared.op.ProgramKind.TheVariants.{UnknownName, NoSuchPath, NoLength, PathClash, TooDeep, TooManyKeys, NameTwice}
use Rattle.programs.specs.declared.op.Statement.{Statement}
use Rattle.programs.specs.Check.{Known, Checked, after_fault, then_check, with_result, with_vector, check_from}
use Rattle.programs.specs.Families.{family}
use Rattle.programs.specs.Faults.{first_fault}
use Rattle.programs.specs.Mentions.{Label}
use Rattle.programs.specs.Outlines.{Outline, Shapes, add_shape}
use Rattle.programs.proofs.CheckLemmas.{add_shape-other}
use Rattle.program_writers.specs.Names.{HasNumber, IsBelow}
use Rattle.program_writers.specs.Writers.{Writer, through, statement}
use Rattle.program_writers.proofs.Numbers.{below_next}
use Rattle.writer_checks.specs.Checks.{IsFresh, HasShape, Passes}
use Rattle.writer_checks.proofs.Composing.{tell_passes, behind_passes}
use Rattle.writer_checks.proofs.Making.{Fine, fine_checked}

-- ---- what stays known

pub known_below : (k : ℕ) (shapes : Shapes) (name : Label) (len : ℕ) (paths : List Label) → IsFresh k shapes → HasShape shapes name len paths → IsBelow k name
known_below k shapes name len paths fresh h = fresh name (λ n. let t : Some h.outline ≡ None = sym h.known ∙ n in absurd cc)

pub still_has : (k : ℕ) (before after : Shapes) (name : Label) (len : ℕ) (paths : List Label) → IsFresh k before → ((n : Label) → IsBelow k n → after n ≡ before n) → HasShape before name len paths → HasShape after name len paths
still_has k before after name len paths fresh kept h = record {
  outline = h.outline;
  known = kept name (known_below k before name len paths fresh h) ∙ h.known;
  len_is = h.len_is;
  clear = h.clear;
  shallow = h.shallow;
  each = h.each;
}

-- ---- ends

pub weaker : {A : Type 0} (tables : Shapes) (m : Writer A) (k : ℕ) (known : Known) (P Q : A → Shapes → Type 0) → ((a : A) (shapes : Shapes) → ((name : Label) → IsBelow k name → shapes name ≡ known.vectors name) → P a shapes → Q a shapes) → Passes tables m k known P → Passes tables m k known Q
weaker tables m k known P Q f g = record {
  after = g.after;
  passes = g.passes;
  holds = f (m k).told g.after.vectors g.kept g.holds;
  fresh = g.fresh;
  kept = g.kept;
  results = g.results;
  small = g.small;
  ascends = g.ascends;
}

-- ---- loops: what holds of what is told and of the things that are left

pub through_passes : {A B : Type 0} (tables : Shapes) (f : A → B → Writer A) (Holds : List B → A → Shapes → Type 0)
    → ((b : B) (rest : List B) (a : A) (k : ℕ) (known : Known) → IsFresh k known.vectors → Holds (b ∷ rest) a known.vectors → Passes tables (f a b) k known (Holds rest))
    → (bs : List B) (a : A) (k : ℕ) (known : Known) → IsFresh k known.vectors → Holds bs a known.vectors → Passes tables (through f a bs) k known (Holds [])
through_passes {A} {B} tables f Holds each [] a k known fresh h = tell_passes A tables a k known (Holds []) fresh h
through_passes {A} {B} tables f Holds each (b ∷ bs) a k known fresh h =
    let first : Passes tables (f a b) k known (Holds bs) = each b bs a k known fresh h in
    behind_passes A A tables (f a b) (λ next. through f next bs) k known (Holds bs) (Holds []) first
    (through_passes tables f Holds each bs (f a b k).told (f a b k).next first.after first.fresh first.holds)

-- ---- statements that have names already

pub named : (tables : Shapes) (known : Known) (n : Label) (op : Op) (o : Outline) (rest : List Statement) → Fine tables known.vectors (family op) o → known.vectors n ≡ None → check_from tables (statement n op ∷ rest) known ≡ check_from tables rest (with_vector known n o)
named tables known n op o rest h none = ap (λ (r : Checked). then_check r (check_from tables rest)) (fine_checked tables known n op o h none)

pub fresh_named : (k : ℕ) (n : Label) (shapes : Shapes) (o : Outline) → HasNumber k n → IsFresh (k + 1) shapes → IsFresh (k + 1) (add_shape shapes n o)
fresh_named k n shapes o has fresh name some = by (bytes_eq n name) refl
  where
    by : (b : Bool) → bytes_eq n name ≡ b → IsBelow (k + 1) name
    by true e = subst (IsBelow (k + 1)) ((bytes_eq-Decides n name).0 e) (below_next k n has)
    by false e = fresh name (λ t. some (add_shape-other shapes n name o e ∙ t))

-- ---- a result

no_fault : (a g : Bool) → a ≡ false → g ≡ false → first_fault (((a || false), UnknownName) ∷ (false, NoSuchPath) ∷ (false, NoLength) ∷ (false, PathClash) ∷ (false, TooDeep) ∷ (false, TooManyKeys) ∷ (g, NameTwice) ∷ []) ≡ None
no_fault a g ha hg = rw (ha, hg) refl

pub shown : (tables : Shapes) (known : Known) (n a : Label) (len : ℕ) (paths : List Label) → HasShape known.vectors a len paths → known.results n ≡ false → check_from tables (statement n (op.Persist a) ∷ []) known ≡ Ok (with_result known n)
shown tables known n a len paths h once =
    ap (λ (o : Option ProgramKind). then_check (after_fault known (with_result known n) o) (check_from tables [])) (no_fault (is_none (known.vectors a)) (known.results n) (ap is_none h.known) once)
