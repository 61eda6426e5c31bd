-- Groups that stand at a base, with an attribute more: a group column's, or an aggregate's.
use Rattle.std.proofs.Common.{◌≡◌, ◌≢◌, ◌∙◌, ℕ, ◌+◌, ◌<◌, ◌≤◌, ◌^◌, Bool, true, false, ◌||◌, List, [], ◌∷◌, ◌++◌, length, map, get_or, refl, sym, ap, subst, arith, codes, decimal}
use Rattle.std.specs.Prelude.{◌==◌}
use Rattle.std.specs.List.{All, list_any}
use Rattle.std.proofs.lemmas.Bool.Decides.{nat_tests}
use Rattle.std.proofs.lemmas.List.{map-append}
use Rattle.std.proofs.lemmas.List.Elements.{All-nil, All-cons, All-head, All-tail, All-append, All-map, All-contains, All-contains_itself, Contains-append_left, Contains-append_right}
use Rattle.std.proofs.lemmas.List.Folds.{list_any-append}
use Rattle.key_paths.specs.Substructures.{is_at_or_below}
use Rattle.programs.specs.Mentions.{Label}
use Rattle.programs.specs.Vectors.{Vector, Env, slots_of}
use Rattle.voodoo_ops.specs.Attributes.{upserted}
use Rattle.typed_trees.specs.Names.{same_column}
use Rattle.query_answers.specs.Answers.{Group}
use Rattle.query_answers.specs.Clauses.{Clauses}
use Rattle.expr_steps.specs.Lowered.{Bytes}
use Rattle.held_groups.specs.Overs.{group_on}
use Rattle.held_rows.specs.Held.{Held, Told, Holds, column, one}
use Rattle.held_rows.specs.Vectors.{IsBeside}
use Rattle.held_rows.proofs.Upserted.{upsert_holds}
use Rattle.program_writers.specs.Names.{IsBelow}
use Rattle.program_writers.specs.Statements.{out, mark}
use Rattle.program_writers.proofs.Numbers.{below_more}
use Rattle.plan_programs.specs.Groups.{key_path, aggregate_path}
use Rattle.plan_programs.specs.Sites.{Base, with_aggregate}
use Rattle.writer_checks.proofs.Routes.{path_laws}
use Rattle.lowered_stages.specs.Stages.{StandsAt, told_of, column_told, aggregate_told}
use Rattle.lowered_groups.proofs.Folds.{stands_later}
use Rattle.lowered_groups.proofs.Parts.{Has, Kept}

-- ---- all of some lists

module _ {X : Type 0} (P : X → Type 0) where
  pub all_left : (xs ys : List X) → All P (xs ++ ys) → All P xs
  all_left xs ys h = λ k d l. All-contains P (xs ++ ys) (get_or xs k d) h (Contains-append_left xs ys (get_or xs k d) (All-contains_itself xs k d l))

  pub all_right : (xs ys : List X) → All P (xs ++ ys) → All P ys
  all_right xs ys h = λ k d l. All-contains P (xs ++ ys) (get_or ys k d) h (Contains-append_right xs ys (get_or ys k d) (All-contains_itself ys k d l))

  pub all_last : (xs : List X) (x : X) → All P xs → P x → All P (xs ++ x ∷ [])
  all_last xs x h p = All-append P xs (x ∷ []) h (All-cons P x [] p (All-nil P))

  -- the first goes to the end of the second part, or of the third
  pub into_second : (x m : X) (xs ys : List X) → All P (x ∷ m ∷ (xs ++ ys)) → All P (m ∷ ((xs ++ x ∷ []) ++ ys))
  into_second x m xs ys h =
      let others = All-tail P x (m ∷ (xs ++ ys)) h in
      let rest = All-tail P m (xs ++ ys) others in
      All-cons P m ((xs ++ x ∷ []) ++ ys) (All-head P m (xs ++ ys) others)
      (All-append P (xs ++ x ∷ []) ys (all_last xs x (all_left xs ys rest) (All-head P x (m ∷ (xs ++ ys)) h)) (all_right xs ys rest))

  pub into_third : (x m : X) (xs ys : List X) → All P (x ∷ m ∷ (xs ++ ys)) → All P (m ∷ (xs ++ (ys ++ x ∷ [])))
  into_third x m xs ys h =
      let others = All-tail P x (m ∷ (xs ++ ys)) h in
      let rest = All-tail P m (xs ++ ys) others in
      All-cons P m (xs ++ (ys ++ x ∷ [])) (All-head P m (xs ++ ys) others)
      (All-append P xs (ys ++ x ∷ []) (all_left xs ys rest) (all_last ys x (all_right xs ys rest) (All-head P x (m ∷ (xs ++ ys)) h)))

pub all_weaker : {X : Type 0} (P Q : X → Type 0) (xs : List X) → ((x : X) → P x → Q x) → All P xs → All Q xs
all_weaker P Q xs f h = λ k d l. f (get_or xs k d) (h k d l)

-- ---- paths

-- the path of a group column, and of an aggregate whose number is below n
abbrev pub IsKeyPath : Label → Type 0
IsKeyPath p = (j : ℕ) × (j < 2 ^ 64) × (p ≡ key_path j)

abbrev pub IsKeyBelow : ℕ → Label → Type 0
IsKeyBelow n p = (j : ℕ) × (j < n) × (p ≡ key_path j)

abbrev pub IsAggregateBelow : ℕ → Label → Type 0
IsAggregateBelow n p = (j : ℕ) × (j < n) × (p ≡ aggregate_path j)

pub mark_beside_key : (n : ℕ) → is_at_or_below mark (key_path n) ≡ false
mark_beside_key n = refl

pub mark_beside_aggregate : (n : ℕ) → is_at_or_below mark (aggregate_path n) ≡ false
mark_beside_aggregate n = refl

pub key_beside_aggregate : (j n : ℕ) → is_at_or_below (key_path j) (aggregate_path n) ≡ false
key_beside_aggregate j n = refl

some_more : (word : Label) (n : ℕ) → 0 < length word → 0 < length (word ++ decimal n)
some_more [] n h = absurd (omega arith)
some_more (x ∷ word) n h = omega arith

pub keys_beside : (j n : ℕ) → j < n → n < 2 ^ 64 → is_at_or_below (key_path j) (key_path n) ≡ false
keys_beside j n less small =
    path_laws.ones_apart (codes "k" ++ decimal j) (codes "k" ++ decimal n) (path_laws.numbered_flat (codes "k") j refl (omega arith)) (some_more (codes "k") n (omega arith))
    (path_laws.numbers_differ (codes "k") j n (omega arith) small (omega arith))

pub aggregates_beside : (j n : ℕ) → j < n → n < 2 ^ 64 → is_at_or_below (aggregate_path j) (aggregate_path n) ≡ false
aggregates_beside j n less small =
    path_laws.ones_apart (codes "a" ++ decimal j) (codes "a" ++ decimal n) (path_laws.numbered_flat (codes "a") j refl (omega arith)) (some_more (codes "a") n (omega arith))
    (path_laws.numbers_differ (codes "a") j n (omega arith) small (omega arith))

-- ---- groups at a base

-- the groups stand there, with the columns and the aggregates of these numbers
pub record IsGroups (texts : List Bytes) (q : Clauses) (k : ℕ) (env : Env) (gs : Held Group) (b : Base) (n : ℕ) : Type 0 where
  pub stands : StandsAt texts env b (group_on q) gs
  pub below : IsBelow k b.vector
  pub keys : All (λ p. IsKeyPath p.path) b.columns
  pub numbers : All (λ p. IsAggregateBelow n p.path) b.aggregates
  pub found : (m : ℕ) → m < n → list_any (λ p. p.aggregate == m) b.aggregates ≡ true
  pub columns : All (λ g. list_any (λ p. same_column p.column g) b.columns ≡ true) q.groups

abbrev pub groups_later : (texts : List Bytes) (q : Clauses) (k next : ℕ) (before after : Env) (gs : Held Group) (b : Base) (n : ℕ) → k ≤ next → Kept k before after → IsGroups texts q k before gs b n → IsGroups texts q next after gs b n
groups_later texts q k next before after gs b n more kept g = record {
  stands = stands_later texts (group_on q) k before after b gs g.below kept g.stands;
  below = below_more k next b.vector more g.below;
  keys = g.keys;
  numbers = g.numbers;
  found = g.found;
  columns = g.columns;
}

abbrev pub SlotsAt : Vector → Held Group → Told Group → Type 0
SlotsAt v gs t = slots_of v.attributes t.0 ≡ column t.1 gs

-- an attribute more at an aggregate's path
pub aggregate_beside : (texts : List Bytes) (q : Clauses) (b : Base) (n : ℕ) → n < 2 ^ 64 → All (λ p. IsKeyPath p.path) b.columns → All (λ p. IsAggregateBelow n p.path) b.aggregates
    → All (IsBeside (aggregate_path n)) (told_of texts (group_on q) b)
aggregate_beside texts q b n small keys numbers =
    All-cons (IsBeside (aggregate_path n)) (mark, one) (map (column_told texts (group_on q)) b.columns ++ map (aggregate_told texts (group_on q)) b.aggregates) (mark_beside_aggregate n)
    (All-append (IsBeside (aggregate_path n)) (map (column_told texts (group_on q)) b.columns) (map (aggregate_told texts (group_on q)) b.aggregates)
    (All-map (IsBeside (aggregate_path n)) (column_told texts (group_on q)) b.columns
    (all_weaker (λ p. IsKeyPath p.path) (λ p. IsBeside (aggregate_path n) (column_told texts (group_on q) p)) b.columns
    (λ p i. subst (λ (l : Label). is_at_or_below l (aggregate_path n) ≡ false) (sym i.2) (key_beside_aggregate i.0 n)) keys))
    (All-map (IsBeside (aggregate_path n)) (aggregate_told texts (group_on q)) b.aggregates
    (all_weaker (λ p. IsAggregateBelow n p.path) (λ p. IsBeside (aggregate_path n) (aggregate_told texts (group_on q) p)) b.aggregates
    (λ p i. subst (λ (l : Label). is_at_or_below l (aggregate_path n) ≡ false) (sym i.2) (aggregates_beside i.0 n i.1 small)) numbers)))

or_true : (b : Bool) → (b || true) ≡ true
or_true true = refl
or_true false = refl

same_number : (n : ℕ) → (n == n) ≡ true
same_number n = grind (arith, nat_tests)

pub with_last : {X : Type 0} (f : X → Bool) (xs : List X) (x : X) → f x ≡ true → list_any f (xs ++ x ∷ []) ≡ true
with_last f xs x h = list_any-append f xs (x ∷ []) ∙ ap (λ (b : Bool). list_any f xs || (b || false)) h ∙ or_true (list_any f xs)

pub still_any : {X : Type 0} (f : X → Bool) (xs : List X) (x : X) → list_any f xs ≡ true → list_any f (xs ++ x ∷ []) ≡ true
still_any f xs x h = list_any-append f xs (x ∷ []) ∙ ap (λ (b : Bool). b || list_any f (x ∷ [])) h

module _ (texts : List Bytes) (q : Clauses) (gs : Held Group) (b : Base) (n : ℕ) where
  number_found : ((m : ℕ) → m < n → list_any (λ p. p.aggregate == m) b.aggregates ≡ true) → (m : ℕ) → m < n + 1 → list_any (λ p. p.aggregate == m) (b.aggregates ++ record { aggregate = n; path = aggregate_path n } ∷ []) ≡ true
  number_found h m less = by (n == m) refl
    where
      by : (t : Bool) → (n == m) ≡ t → list_any (λ p. p.aggregate == m) (b.aggregates ++ record { aggregate = n; path = aggregate_path n } ∷ []) ≡ true
      by true e = with_last (λ p. p.aggregate == m) b.aggregates (record { aggregate = n; path = aggregate_path n }) e
      by false e =
          let other : n ≢ m = λ s. let t : true ≡ false = sym (same_number n) ∙ ap (λ (l : ℕ). n == l) s ∙ e in absurd cc in
          still_any (λ p. p.aggregate == m) b.aggregates (record { aggregate = n; path = aggregate_path n }) (h m (omega arith))

  pub more_aggregate : (k next : ℕ) (before after : Env) (name : Label) (u : Vector) → n < 2 ^ 64 → (g : IsGroups texts q k before gs b n)
      → slots_of u.attributes out ≡ column ((aggregate_told texts (group_on q) (record { aggregate = n; path = aggregate_path n })).1) gs
      → Has next after name (upserted g.stands.vector (aggregate_path n) u out) → IsGroups texts q next after gs (with_aggregate name n (aggregate_path n) b) (n + 1)
  more_aggregate k next before after name u small g slots has =
      let on = group_on q in
      let told = aggregate_told texts on (record { aggregate = n; path = aggregate_path n }) in
      let columns = map (column_told texts on) b.columns in
      let aggregates = map (aggregate_told texts on) b.aggregates in
      let v = upserted g.stands.vector (aggregate_path n) u out in
      let holds : Holds v gs (told ∷ told_of texts on b) = upsert_holds g.stands.vector u (aggregate_path n) out gs told.1 (told_of texts on b) g.stands.holds slots (aggregate_beside texts q b n small g.keys g.numbers) in
      record {
        stands = record {
          vector = v;
          sees = has.sees;
          holds = record {
            len = holds.len;
            each = subst (λ (l : List (Told Group)). All (SlotsAt v gs) ((mark, one) ∷ (columns ++ l))) (sym (map-append (aggregate_told texts on) b.aggregates (record { aggregate = n; path = aggregate_path n } ∷ [])))
                (into_third (SlotsAt v gs) told (mark, one) columns aggregates holds.each);
          };
        };
        below = has.below;
        keys = g.keys;
        numbers =
            all_last (λ p. IsAggregateBelow (n + 1) p.path) b.aggregates (record { aggregate = n; path = aggregate_path n })
            (all_weaker (λ p. IsAggregateBelow n p.path) (λ p. IsAggregateBelow (n + 1) p.path) b.aggregates (λ p i. (i.0, omega (arith, i.1), i.2)) g.numbers) (n, omega arith, refl);
        found = number_found g.found;
        columns = g.columns;
      }
