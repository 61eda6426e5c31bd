-- The rows sorted by the group columns: one Order, whose keys are those columns.
use Rattle.std.proofs.Common.{◌≡◌, ℕ, ◌<◌, ◌≤◌, Bool, true, ◌&&◌, ◌||◌, List, [], ◌∷◌, ◌++◌, map, length, get_or, refl, sym, ap, ◌∙◌, arith, codes, Option, Some}
use Rattle.std.specs.Prelude.{All, filter_map}
use Rattle.std.specs.List.{cons_option}
use Rattle.std.specs.List.{list_any, list_all}
use Rattle.std.proofs.lemmas.Bool.{and_parts}
use Rattle.std.proofs.lemmas.List.Elements.{All-head, All-tail}
use Rattle.std.proofs.lemmas.List.Folds.{list_any_at, list_all-map}
use Rattle.std.proofs.lemmas.List.Sums.{list_all-from_AllPass}
use Rattle.std.proofs.lemmas.Slice.Eq.{bytes_eq-Decides}
use Rattle.control_vectors.specs.Controls.{Control}
use Rattle.programs.specs.declared.op.Op.TheVariants as op
use Rattle.programs.specs.declared.op.Statement.{Statement}
use Rattle.programs.specs.declared.order_keys.OrderPath.{OrderPath}
use Rattle.programs.specs.Families.{family, Order}
use Rattle.programs.specs.Mentions.{Label}
use Rattle.programs.specs.Outlines.{Shapes}
use Rattle.typed_trees.specs.declared.typed.ColumnRef.{ColumnRef}
use Rattle.program_writers.specs.Statements.{out, mark}
use Rattle.program_writers.specs.Writers.{Writer, ◌>>=◌, make, numbered, statement}
use Rattle.plan_programs.specs.Groups.{ascending}
use Rattle.plan_programs.specs.Sites.{Base, path_in}
use Rattle.attribute_origins.specs.Traces.{Origin, Trace, Traced, Traces}
use Rattle.attribute_origins.specs.Origins.{traced, found, attribute_of}
use Rattle.plan_obeyed.specs.Columns.{same_origin, carries, carries_some, carry_all}
use Rattle.plan_obeyed.specs.Groups.{orders_group, orders_groups}
use Rattle.lowered_obeys.proofs.Traced.{Knows, order_traced}
use Rattle.lowered_obeys.proofs.Leaving.{Agrees, Leaves, knows_still, then_leaves, make_leaves, MakesIt}
use Rattle.lowered_obeys.proofs.Calm.{IsSettled, order_settled}
use Rattle.lowered_obeys.proofs.Standing.{HasPlace, Carries, StandsIn}

-- ---- some columns, and attributes that carry them

pub origin_same : (o : Origin) → same_origin o o ≡ true
origin_same o = rw ((bytes_eq-Decides o.vector o.vector).1 refl, (bytes_eq-Decides o.path o.path).1 refl) refl

pub any_map : {A B : Type 0} (f : B → Bool) (g : A → B) (xs : List A) → list_any f (map g xs) ≡ list_any (λ x. f (g x)) xs
any_map f g [] = refl
any_map f g (x ∷ xs) = ap (λ (b : Bool). f (g x) || b) (any_map f g xs)

all_same_tests : {A : Type 0} (f g : A → Bool) (xs : List A) → ((x : A) → f x ≡ g x) → list_all f xs ≡ list_all g xs
all_same_tests f g [] same = refl
all_same_tests f g (x ∷ xs) same = ap (λ (b : Bool). b && list_all f xs) (same x) ∙ ap (λ (b : Bool). g x && b) (all_same_tests f g xs same)

-- each of some origins is among them, whichever comes first
among : (os : List Origin) → list_all (λ r. list_any (λ o. same_origin r o) os) os ≡ true
among os = list_all-from_AllPass (λ r. list_any (λ o. same_origin r o) os) os (λ k d l. list_any_at (λ o. same_origin (get_or os k d) o) os k d l (origin_same (get_or os k d)))

among_them : (os : List Origin) → list_all (λ o. list_any (λ r. same_origin r o) os) os ≡ true
among_them os = list_all-from_AllPass (λ o. list_any (λ r. same_origin r o) os) os (λ k d l. list_any_at (λ r. same_origin r (get_or os k d)) os k d l (origin_same (get_or os k d)))

abbrev pub roots : List Trace → List Origin
roots ts = map (λ t. t.root) ts

pub all_carried : (os : List Origin) (ts : List Trace) → roots ts ≡ os → list_all (carries_some os) ts ≡ true
all_carried os ts e = sym (list_all-map (λ r. list_any (λ o. same_origin r o) os) (λ (t : Trace). t.root) ts) ∙ ap (list_all (λ r. list_any (λ o. same_origin r o) os)) e ∙ among os

pub carried_all : (os : List Origin) (ts : List Trace) → roots ts ≡ os → carry_all os ts ≡ true
carried_all os ts e =
    all_same_tests (λ o. list_any (carries o) ts) (λ o. list_any (λ r. same_origin r o) os) os (λ o. sym (any_map (λ r. same_origin r o) (λ (t : Trace). t.root) ts) ∙ ap (list_any (λ r. same_origin r o)) e) ∙ among_them os

some_carried : (os : List Origin) (ts : List Trace) → roots ts ≡ os → 0 < length os → list_any (carries_some os) ts ≡ true
some_carried os [] e some = let n : 0 ≡ length os = ap length e in absurd (omega (arith, n, some))
some_carried os (t ∷ ts) e some = ap (λ (b : Bool). b || list_any (carries_some os) ts) (and_parts (carries_some os t) (list_all (carries_some os) ts) (all_carried os (t ∷ ts) e)).0

-- ---- the keys of the Order

key_roots : (m : ℕ) (place : ColumnRef → Origin) (final : Traces) (b : Base) (v : Traced) → Knows final b.vector v → ((c : ColumnRef) → HasPlace b c → Carries v.traces (path_in b c) (place c)) → (columns : List ColumnRef) → All (HasPlace b) columns
    → roots (filter_map (λ (k : OrderPath). attribute_of final b.vector k.path) (map (λ c. ascending (path_in b c)) columns)) ≡ map place columns
key_roots m place final b v e carry [] can = refl
key_roots m place final b v e carry (c ∷ columns) can =
    let one = carry c (All-head (HasPlace b) c columns can) in
    let is : attribute_of final b.vector (path_in b c) ≡ Some one.one = ap (λ (o : Option Traced). found o (path_in b c)) e ∙ one.there in
    let rest = filter_map (λ (k : OrderPath). attribute_of final b.vector k.path) (map (λ d. ascending (path_in b d)) columns) in
    ap (λ (o : Option Trace). roots (cons_option o rest)) is ∙ ap (λ (r : Origin). r ∷ roots rest) one.root ∙ ap (λ (l : List Origin). place c ∷ l) (key_roots m place final b v e carry columns (All-tail (HasPlace b) c columns can))

-- an Order by the group columns
pub record Sorts (select : Control) (groups : List Origin) (final : Traces) (s : Statement) : Type 0 where
  pub settled : IsSettled select groups final (family s.op)
  pub all : orders_groups final groups s ≡ true
  pub some : orders_group final groups s ≡ true

order_sorts : (select : Control) (groups : List Origin) (m : ℕ) (place : ColumnRef → Origin) (final : Traces) (n : Label) (b : Base) (v : Traced) (columns : List ColumnRef) → Knows final b.vector v → ((c : ColumnRef) → HasPlace b c → Carries v.traces (path_in b c) (place c))
    → All (HasPlace b) columns → groups ≡ map place columns → 0 < length groups → Sorts select groups final (statement n (op.Order b.vector mark out (map (λ c. ascending (path_in b c)) columns)))
order_sorts select groups m place final n b v columns e carry can are some =
    let ts = filter_map (λ (k : OrderPath). attribute_of final b.vector k.path) (map (λ c. ascending (path_in b c)) columns) in
    let is : roots ts ≡ groups = key_roots m place final b v e carry columns can ∙ sym are in
    record {
      settled = order_settled select groups final (Order b.vector mark out (map (λ c. ascending (path_in b c)) columns)) refl;
      all = rw (all_carried groups ts is, carried_all groups ts is) refl;
      some = some_carried groups ts is some;
    }

-- ---- statements that begin with one

pub record BeginsSorted (select : Control) (groups : List Origin) (S : Traces → List Statement → Type 0) (final : Traces) (l : List Statement) : Type 0 where
  pub order : Statement
  pub rest : List Statement
  pub is : l ≡ order ∷ rest
  pub sorts : Sorts select groups final order
  pub behind : S final rest

IsOne : Control → List Origin → Traces → List Statement → Type 0
IsOne select groups final l = (s : Statement) × (l ≡ s ∷ []) × Sorts select groups final s

pub order_then : (T : Shapes) (select : Control) (groups : List Origin) (m : ℕ) (place : ColumnRef → Origin) (b : Base) (columns : List ColumnRef) {B : Type 0} (f : Label → Writer B) (k : ℕ) (made : Traces) (Q : B → ℕ → Traces → Type 0) (S : Traces → List Statement → Type 0)
    → (h : StandsIn m place b k made) → All (HasPlace b) columns → groups ≡ map place columns → 0 < length groups
    → ((order : Label) (next : ℕ) (between : Traces) (u : Traced) → k ≤ next → Knows between order u → u.len ≡ h.vector.len → Agrees k made between → Leaves T (f order) next between Q S)
    → Leaves T (make (codes "order") (op.Order b.vector mark out (map (λ c. ascending (path_in b c)) columns)) >>= f) k made Q (BeginsSorted select groups S)
unfolding IsOne
order_then T select groups m place b columns f k made Q S h can are some each =
    let keys = map (λ c. ascending (path_in b c)) columns in
    let o = op.Order b.vector mark out keys in
    then_leaves T (make (codes "order") o) f k made (MakesIt k (λ n. traced T made n o)) Q (BeginsSorted select groups S) (IsOne select groups) S
    (λ final a l x y. record { order = x.0; rest = l; is = ap (λ (t : List Statement). t ++ l) x.1; sorts = x.2; behind = y })
    (make_leaves T (codes "order") o k made (IsOne select groups) refl refl
    (λ final same there. (statement (numbered (codes "order") k) o, refl, order_sorts select groups m place final (numbered (codes "order") k) b h.vector columns (knows_still k made final b.vector h.vector same h.below h.known) h.columns can are some)))
    (λ order next between le p same.
    let is = order_traced T made order b.vector mark out keys h.vector h.known in
    each order next between _ le (p.known ∙ ap (λ (v : Traced). Some v) is) refl same)
