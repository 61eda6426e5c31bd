-- Shapes of vectors, and statements that pass behind them.
use Rattle.std.proofs.Common.{◌≡◌, ◌∙◌, ℕ, ◌≤◌, ◌^◌, Bool, true, false, ◌||◌, List, [], ◌∷◌, ◌++◌, map, refl, sym, ap, subst}
use Rattle.std.specs.Prelude.{All, if◌then◌else◌}
use Rattle.std.specs.List.{list_any}
use Rattle.std.specs.Str.{bytes_eq}
use Rattle.std.proofs.lemmas.Bool.{false≢true}
use Rattle.std.proofs.lemmas.List.Elements.{All-nil, All-cons, All-head, All-tail}
use Rattle.std.proofs.lemmas.Slice.Eq.{bytes_eq-Decides}
use Rattle.control_vectors.specs.declared.PairKind.{PairKind}
use Rattle.programs.specs.Check.{Known}
use Rattle.programs.specs.Mentions.{Label, has_name}
use Rattle.programs.specs.Outlines.{Shapes}
use Rattle.programs.proofs.Marks.{has_name-append}
use Rattle.typed_trees.specs.declared.typed.ColumnRef.{ColumnRef}
use Rattle.typed_trees.specs.Names.{same_column}
use Rattle.expr_lower.specs.declared.places.ColumnPlace.{ColumnPlace}
use Rattle.expr_lower.specs.Statements.{column_path}
use Rattle.program_writers.specs.Names.{IsBelow, is_word}
use Rattle.program_writers.specs.Statements.{out, mark, attribute}
use Rattle.program_writers.specs.Statements as statements
use Rattle.program_writers.specs.Writers.{Writer, tell, ◌>>=◌, make}
use Rattle.plan_programs.specs.Sites.{Base, path_in}
use Rattle.writer_checks.specs.Checks.{IsFresh, HasShape, Passes}
use Rattle.writer_checks.specs.Laws.{Shaped}
use Rattle.writer_checks.proofs.Composing.{compose_laws}
use Rattle.writer_checks.proofs.Going.{still_has}
use Rattle.writer_checks.proofs.Passing.{operator_laws}
use Rattle.lowered_stages.specs.Stages.{paths_of, IsShaped}
use Rattle.lowered_group_checks.proofs.Used.{here, there}

-- ---- fewer paths

-- what is so of some paths is so of one of them
among_all : (P : Label → Type 0) (names : List Label) (n : Label) → All P names → has_name names n ≡ true → P n
among_all P [] n h e = absurd (false≢true e)
among_all P (p ∷ names) n h e = by (bytes_eq p n) refl (λ g. among_all P names n (All-tail P p names h) g) e
  where
    by : (c : Bool) → bytes_eq p n ≡ c → (has_name names n ≡ true → P n) → (c || has_name names n) ≡ true → P n
    by true s rest g = subst P ((bytes_eq-Decides p n).0 s) (All-head P p names h)
    by false s rest g = rest g

abbrev pub with_paths : (shapes : Shapes) (a : Label) (len : ℕ) (paths others : List Label) (h : HasShape shapes a len paths) → All (λ p. has_name h.outline.paths p ≡ true) others → HasShape shapes a len others
with_paths shapes a len paths others h each = record { outline = h.outline; known = h.known; len_is = h.len_is; clear = h.clear; shallow = h.shallow; each = each }

pub one_path : (shapes : Shapes) (a : Label) (len : ℕ) (paths : List Label) (p : Label) → HasShape shapes a len paths → has_name paths p ≡ true → HasShape shapes a len (p ∷ [])
one_path shapes a len paths p h e =
    with_paths shapes a len paths (p ∷ []) h (All-cons (λ q. has_name h.outline.paths q ≡ true) p [] (among_all (λ q. has_name h.outline.paths q ≡ true) paths p h.each e) (All-nil (λ q. has_name h.outline.paths q ≡ true)))

pub no_path : (shapes : Shapes) (a : Label) (len : ℕ) (paths : List Label) → HasShape shapes a len paths → HasShape shapes a len []
no_path shapes a len paths h = with_paths shapes a len paths [] h (All-nil (λ q. has_name h.outline.paths q ≡ true))

-- ---- the paths of a base

pub mark_path : (shapes : Shapes) (b : Base) (len : ℕ) → IsShaped len b shapes → HasShape shapes b.vector len (mark ∷ [])
mark_path shapes b len h = one_path shapes b.vector len (paths_of b) mark h (here mark (map (λ p. p.path) b.columns ++ map (λ p. p.path) b.aggregates))

column_among : (c : ColumnRef) (places : List ColumnPlace) → list_any (λ p. same_column p.column c) places ≡ true → has_name (map (λ p. p.path) places) (column_path places c) ≡ true
column_among c [] h = absurd (false≢true h)
column_among c (p ∷ places) h = by (same_column p.column c) refl h (column_among c places)
  where
    by : (t : Bool) → same_column p.column c ≡ t → (same_column p.column c || list_any (λ p. same_column p.column c) places) ≡ true → (list_any (λ p. same_column p.column c) places ≡ true → has_name (map (λ p. p.path) places) (column_path places c) ≡ true)
        → has_name (p.path ∷ map (λ p. p.path) places) (if same_column p.column c then p.path else column_path places c) ≡ true
    by true e g further = subst (λ (t : Bool). has_name (p.path ∷ map (λ p. p.path) places) (if t then p.path else column_path places c) ≡ true) (sym e) (here p.path (map (λ p. p.path) places))
    by false e g further =
        subst (λ (t : Bool). has_name (p.path ∷ map (λ p. p.path) places) (if t then p.path else column_path places c) ≡ true) (sym e)
        (there p.path (column_path places c) (map (λ p. p.path) places) (further (sym (ap (λ (t : Bool). t || list_any (λ p. same_column p.column c) places) e) ∙ g)))

pub column_named : (b : Base) (c : ColumnRef) → list_any (λ p. same_column p.column c) b.columns ≡ true → has_name (map (λ p. p.path) b.columns ++ map (λ p. p.path) b.aggregates) (path_in b c) ≡ true
column_named b c h =
    has_name-append (map (λ p. p.path) b.columns) (map (λ p. p.path) b.aggregates) (path_in b c)
    ∙ ap (λ (t : Bool). t || has_name (map (λ p. p.path) b.aggregates) (path_in b c)) (column_among c b.columns h)

pub column_in : (shapes : Shapes) (b : Base) (len : ℕ) (c : ColumnRef) → list_any (λ p. same_column p.column c) b.columns ≡ true → IsShaped len b shapes → HasShape shapes b.vector len (path_in b c ∷ [])
column_in shapes b len c e h =
    one_path shapes b.vector len (paths_of b) (path_in b c) h (there mark (path_in b c) (map (λ p. p.path) b.columns ++ map (λ p. p.path) b.aggregates) (column_named b c e))

-- ---- parts

abbrev pub Stays : ℕ → Shapes → Shapes → Type 0
Stays k before after = (name : Label) → IsBelow k name → after name ≡ before name

-- what is known stays so behind a part
pub then_passes : {A B : Type 0} (tables : Shapes) (m : Writer A) (f : A → Writer B) (k : ℕ) (known : Known) (P : A → Shapes → Type 0) (Q : B → Shapes → Type 0) → Passes tables m k known P
    → ((a : A) (next : ℕ) (between : Known) → IsFresh next between.vectors → P a between.vectors → Stays k known.vectors between.vectors → Passes tables (f a) next between Q)
    → Passes tables (m >>= f) k known Q
then_passes {A} {B} tables m f k known P Q g more = compose_laws.bind A B tables m f k known P Q g (λ a next between on fresh holds kept. more a next between fresh holds kept)

pub tells : {A : Type 0} (tables : Shapes) (a : A) (k : ℕ) (known : Known) (P : A → Shapes → Type 0) → IsFresh k known.vectors → P a known.vectors → Passes tables (tell a) k known P
tells {A} tables a k known P fresh h = compose_laws.tell A tables a k known P fresh h

pub still : (k : ℕ) (before after : Shapes) (name : Label) (len : ℕ) (paths : List Label) → IsFresh k before → Stays k before after → HasShape before name len paths → HasShape after name len paths
still k before after name len paths fresh kept h = still_has k before after name len paths fresh kept h

-- two attributes, slot by slot
pub pair_passes : (tables : Shapes) (word : Label) (kind : PairKind) (a p b q : Label) (len : ℕ) (k : ℕ) (known : Known) → is_word word ≡ true → IsFresh k known.vectors → len ≤ 2 ^ 22
    → HasShape known.vectors a len (p ∷ []) → HasShape known.vectors b len (q ∷ []) → Passes tables (make word (statements.pair kind (attribute a p) (attribute b q))) k known (Shaped len (out ∷ []))
pair_passes tables word kind a p b q len k known w fresh small h g = operator_laws.paired tables word kind (attribute a p) (attribute b q) len k known w fresh small h g tt
