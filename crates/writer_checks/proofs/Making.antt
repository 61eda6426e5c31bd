-- One statement under a new name passes where nothing else is wrong with it.
use Rattle.std.proofs.Common.{◌≡◌, ℕ, ◌+◌, ◌≤◌, ◌^◌, Bool, true, false, List, [], ◌∷◌, refl, sym, ap, ◌∙◌, subst, arith, Ok, Option, Some, None, is_some, if◌then◌else◌}
use Rattle.std.specs.Prelude.{All}
use Rattle.std.specs.Str.{bytes_eq}
use Rattle.std.proofs.lemmas.Slice.Eq.{bytes_eq-Decides}
use Rattle.std.proofs.lemmas.List.Elements.{All-append, All-cons, All-nil}
use Rattle.programs.specs.declared.op.Op.{Op}
use Rattle.programs.specs.declared.op.ProgramKind.TheVariants.{UnknownName, NoSuchPath, NoLength, PathClash, TooDeep, TooManyKeys, NameTwice}
use Rattle.programs.specs.Check.{Known, Checked, fault_of, after_fault, then_check, with_result, with_vector, known_behind, learn, check_one, check_from}
use Rattle.programs.specs.Families.{Family, family}
use Rattle.programs.specs.Faults.{unknown_by, lacks_by, endless, path_clash, too_deep, has_many_keys, first_fault}
use Rattle.programs.specs.MadeOutlines.{made_by}
use Rattle.programs.specs.Mentions.{Label, has_name, is_persist, shows_result}
use Rattle.programs.specs.Outlines.{Outline, Shapes, add_shape}
use Rattle.programs.proofs.CheckLemmas.{add_shape-other}
use Rattle.program_writers.specs.Names.{is_word, IsBelow, IsFrom}
use Rattle.program_writers.specs.Writers.{make, numbered}
use Rattle.program_writers.proofs.Numbers.{one_number, numbered_has, below_more, below_next, from_differs}
use Rattle.writer_checks.specs.Checks.{IsFresh, HasShape, Passes}

-- nothing is wrong with an operator, and it makes this
pub record Fine (tables vectors : Shapes) (f : Family) (o : Outline) : Type 0 where
  pub names : unknown_by tables vectors f ≡ false
  pub paths : lacks_by vectors f ≡ false
  pub long : endless f ≡ false
  pub makes : made_by tables vectors f ≡ o
  pub clear : path_clash o ≡ false
  pub shallow : too_deep o ≡ false
  pub keys : has_many_keys f ≡ false
  pub shows : shows_result f ≡ false

-- ---- a new name

is_new : (word : Label) (k : ℕ) (shapes : Shapes) → is_word word ≡ true → IsFresh k shapes → (o : Option Outline) → shapes (numbered word k) ≡ o → o ≡ None
is_new word k shapes w fresh None e = refl
is_new word k shapes w fresh (Some outline) e =
    let b : IsBelow k (numbered word k) = fresh (numbered word k) (λ n. let t : Some outline ≡ None = sym e ∙ n in absurd cc) in
    let same : b.number ≡ k = one_number b.number k (numbered word k) b.has (numbered_has word k w) in
    absurd (omega (arith, b.less, same))

from_here : (word : Label) (k : ℕ) → is_word word ≡ true → IsFrom k (k + 1) (numbered word k)
from_here word k w = record { number = k; has = numbered_has word k w; least = omega arith; less = omega arith }

pub add_shape-same : (shapes : Shapes) (n : Label) (o : Outline) → add_shape shapes n o n ≡ Some o
add_shape-same shapes n o = ap (λ (b : Bool). if b then Some o else shapes n) ((bytes_eq-Decides n n).1 refl)

fresh_behind : (word : Label) (k : ℕ) (shapes : Shapes) (o : Outline) → is_word word ≡ true → IsFresh k shapes → IsFresh (k + 1) (add_shape shapes (numbered word k) o)
fresh_behind word k shapes o w fresh name some = by (bytes_eq (numbered word k) name) refl
  where
    by : (b : Bool) → bytes_eq (numbered word k) name ≡ b → IsBelow (k + 1) name
    by true e = subst (IsBelow (k + 1)) ((bytes_eq-Decides (numbered word k) name).0 e) (below_next k (numbered word k) (numbered_has word k w))
    by false e = below_more k (k + 1) name (omega arith) (fresh name (λ n. some (add_shape-other shapes (numbered word k) name o e ∙ n)))

-- ---- no fault

no_fault : (a b c d e f g : Bool) → a ≡ false → b ≡ false → c ≡ false → d ≡ false → e ≡ false → f ≡ false → g ≡ false → first_fault ((a, UnknownName) ∷ (b, NoSuchPath) ∷ (c, NoLength) ∷ (d, PathClash) ∷ (e, TooDeep) ∷ (f, TooManyKeys) ∷ (g, NameTwice) ∷ []) ≡ None
no_fault a b c d e f g ha hb hc hd he hf hg = rw (ha, hb, hc, hd, he, hf, hg) refl

not_twice : (known : Known) (n : Label) (b : Bool) → b ≡ false → known.vectors n ≡ None → (if b then known.results n else is_some (known.vectors n)) ≡ false
not_twice known n b e none = rw (e, none) refl

fine_fault : (tables : Shapes) (known : Known) (n : Label) (op : Op) (o : Outline) → Fine tables known.vectors (family op) o → known.vectors n ≡ None → fault_of tables known n op ≡ None
fine_fault tables known n op o h none =
    no_fault _ _ _ _ _ _ _ h.names h.paths h.long (ap path_clash h.makes ∙ h.clear) (ap too_deep h.makes ∙ h.shallow) h.keys (not_twice known n (is_persist op) h.shows none)

fine_learned : (tables : Shapes) (known : Known) (n : Label) (op : Op) (o : Outline) → Fine tables known.vectors (family op) o → learn tables known n op ≡ with_vector known n o
fine_learned tables known n op o h = ap (λ (m : Outline). known_behind known n op m) h.makes ∙ ap (λ (b : Bool). if b then with_result known n else with_vector known n o) h.shows

pub fine_checked : (tables : Shapes) (known : Known) (n : Label) (op : Op) (o : Outline) → Fine tables known.vectors (family op) o → known.vectors n ≡ None → check_one tables known n op ≡ Ok (with_vector known n o)
fine_checked tables known n op o h none = ap (after_fault known (learn tables known n op)) (fine_fault tables known n op o h none) ∙ ap (λ (k : Known). Ok k) (fine_learned tables known n op o h)

-- ---- it passes

pub made_passes : (tables : Shapes) (word : Label) (op : Op) (o : Outline) (k : ℕ) (known : Known) (P : Label → Shapes → Type 0) → is_word word ≡ true → IsFresh k known.vectors → Fine tables known.vectors (family op) o → o.len ≤ 2 ^ 22 → P (numbered word k) (add_shape known.vectors (numbered word k) o) → Passes tables (make word op) k known P
made_passes tables word op o k known P w fresh h small holds = record {
  after = with_vector known (numbered word k) o;
  passes = ap (λ (r : Checked). then_check r (check_from tables [])) (fine_checked tables known (numbered word k) op o h (is_new word k known.vectors w fresh (known.vectors (numbered word k)) refl));
  holds = holds;
  fresh = fresh_behind word k known.vectors o w fresh;
  kept = λ name b. add_shape-other known.vectors (numbered word k) name o (from_differs k (k + 1) name (numbered word k) b (from_here word k w));
  results = refl;
  small = λ s. All-append (λ (x : Outline). x.len ≤ 2 ^ 22) known.shape (o ∷ []) s (All-cons (λ (x : Outline). x.len ≤ 2 ^ 22) o [] small (All-nil (λ (x : Outline). x.len ≤ 2 ^ 22)));
  ascends = omega arith;
}

-- it has these of its paths
pub shaped_passes : (tables : Shapes) (word : Label) (op : Op) (o : Outline) (k : ℕ) (known : Known) (len : ℕ) (paths : List Label) → is_word word ≡ true → IsFresh k known.vectors → Fine tables known.vectors (family op) o → len ≤ 2 ^ 22 → o.len ≡ len → All (λ p. has_name o.paths p ≡ true) paths → Passes tables (make word op) k known (λ name shapes. HasShape shapes name len paths)
shaped_passes tables word op o k known len paths w fresh h small is each =
    made_passes tables word op o k known (λ name shapes. HasShape shapes name len paths) w fresh h (omega (arith, is))
    (record { outline = o; known = add_shape-same known.vectors (numbered word k) o; len_is = is; clear = h.clear; shallow = h.shallow; each = each })
