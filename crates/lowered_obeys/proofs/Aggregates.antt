-- The folds of aggregates: the values of each pass a chain of its kind.
use Rattle.std.proofs.Common.{◌≡◌, ℕ, ◌+◌, ◌≤◌, Bool, true, false, List, [], ◌∷◌, ◌++◌, length, length-append, refl, ap, ◌∙◌, arith, if◌then◌else◌, codes, Option, Some, None}
use Rattle.std.specs.Prelude.{All, filter}
use Rattle.std.specs.List.{enumerate_from}
use Rattle.std.proofs.lemmas.List.Elements.{All-nil, All-cons, All-append, filter-append}
use Rattle.control_vectors.specs.Controls.{Control}
use Rattle.control_vectors.specs.declared.PairKind.TheVariants as pair
use Rattle.programs.specs.declared.family.FoldOperator.{FoldOperator}
use Rattle.programs.specs.declared.family.FoldOperator.TheVariants as fold
use Rattle.programs.specs.declared.op.FoldArgs.{FoldArgs}
use Rattle.programs.specs.declared.op.Statement.{Statement}
use Rattle.programs.specs.Families.{Fold}
use Rattle.programs.specs.Mentions.{Label, is_persist, shows_result}
use Rattle.programs.specs.Outlines.{Shapes}
use Rattle.typed_trees.specs.declared.typed.Aggregate.{Aggregate}
use Rattle.typed_trees.specs.declared.typed.AggregateKind.{AggregateKind}
use Rattle.typed_trees.specs.declared.typed.AggregateKind.TheVariants as of
use Rattle.typed_trees.specs.declared.typed.TypedExpr.{TypedExpr}
use Rattle.expr_steps.specs.Lowered.{Bytes}
use Rattle.program_writers.specs.Names.{is_word}
use Rattle.program_writers.specs.Statements.{out, val, attribute, fold_of, fold_args, with_attribute, at_places}
use Rattle.program_writers.specs.Statements as statements
use Rattle.program_writers.specs.Writers.{Writer, tell, ◌>>=◌, through, make, numbered, statement}
use Rattle.writer_checks.proofs.Operators.{fold_family}
use Rattle.plan_programs.specs.Groups.{Folding, collected, fold_in, folded, same_in, is_there, counted, mean, aggregated, argument, aggregate_path, aggregate_of}
use Rattle.plan_programs.specs.Sites.{Base, with_aggregate}
use Rattle.attribute_origins.specs.Traces.{Origin, Traced, Traces}
use Rattle.attribute_origins.specs.Origins.{traced}
use Rattle.plan_obeyed.specs.Chains.{same_fold}
use Rattle.plan_obeyed.specs.Obeyed.{selects_by}
use Rattle.lowered_obeys.proofs.Traced.{Knows, made_as, upsert_traced}
use Rattle.lowered_obeys.proofs.Leaving.{Leaves, knows_still, agrees_then, tell_leaves, then_leaves, less_leaves, Each, tells, then_each, make_leaves, MakesIt}
use Rattle.lowered_obeys.proofs.Calm.{is_order, Calm, HasOut, plain_leaves, pair_leaves, value_leaves}
use Rattle.lowered_obeys.proofs.Kept.{all_leave}
use Rattle.lowered_obeys.proofs.Folding.{HasRuns, runs_still, Brought, ends, ends_as, Chains, chains_both, calm_chains, fold_ends}

-- nothing more is said of what is told
abbrev pub Anything : {A : Type 0} → A → ℕ → Traces → Type 0
Anything a next after = Unit {0}

fold_shows : (kind : FoldOperator) (f : FoldArgs) → is_persist (fold_of kind f) ≡ false
fold_shows kind f = ap shows_result (fold_family kind f)

fold_selects : (final : Traces) (select : Control) (kind : FoldOperator) (f : FoldArgs) → same_fold kind kind ≡ true → selects_by final select (Fold kind f) ≡ true
fold_selects final select fold.Sum f e = refl
fold_selects final select fold.Min f e = refl
fold_selects final select fold.Max f e = refl
fold_selects final select fold.Select f e = absurd cc
fold_selects final select fold.Scan f e = absurd cc

-- ---- how many chains of which kind an aggregate asks for

abbrev pub asks_kind : AggregateKind → FoldOperator
asks_kind of.Count = fold.Sum
asks_kind of.Sum = fold.Sum
asks_kind of.Min = fold.Min
asks_kind of.Max = fold.Max
asks_kind of.Avg = fold.Sum

abbrev pub asks_count : AggregateKind → ℕ
asks_count of.Avg = 2
asks_count kind = 1

module _ (T : Shapes) (select : Control) (groups : List Origin) where
  -- calm statements between folds
  calm_part : {A : Type 0} (m : Writer A) (k : ℕ) (made : Traces) (P Q : A → ℕ → Traces → Type 0) (kind : FoldOperator) → ((a : A) (next : ℕ) (after : Traces) → P a next after → Q a next after) → Leaves T m k made P (Each (Calm select groups)) → Leaves T m k made Q (Chains select groups kind 0)
  calm_part m k made P Q kind f g = less_leaves T m k made P Q (Chains select groups kind 0) (Each (Calm select groups)) (λ a next after le same h. f a next after h) (λ final l h. calm_chains select groups kind final l h) g

  -- ---- one fold

  collected_leaves : (kind : FoldOperator) (first : Option Label) (folded : Label) (k : ℕ) (made : Traces) → Leaves T (collected first folded) k made Anything (Chains select groups kind 0)
  collected_leaves kind None folded k made = tell_leaves T folded k made Anything (Chains select groups kind 0) tt (λ final. calm_chains select groups kind final [] (All-nil (Calm select groups final)))
  collected_leaves kind (Some first) folded k made =
      let o = at_places folded first in
      calm_part (make (codes "one") o) k made (MakesIt k (λ n. traced T made n o)) Anything kind (λ a next after h. tt) (plain_leaves T select groups (codes "one") o k made refl refl refl)

  folded_leaves : (f : Folding) (kind : FoldOperator) (value : Label) (k : ℕ) (made : Traces) → same_fold kind kind ≡ true → HasRuns groups f.runs k made → HasOut value k made → Leaves T (folded f kind value) k made Anything (Chains select groups kind 1)
  folded_leaves f kind value k made fits h g =
      let upsert = with_attribute f.runs val value out in
      then_leaves T (make (codes "values") upsert) (fold_in f.first kind) k made (MakesIt k (λ n. traced T made n upsert)) Anything (Chains select groups kind 1) (Chains select groups kind 0) (Chains select groups kind 1)
      (λ final a b x y. chains_both select groups kind 0 1 1 final a b (omega arith) x y)
      (calm_part (make (codes "values") upsert) k made (MakesIt k (λ n. traced T made n upsert)) (MakesIt k (λ n. traced T made n upsert)) kind (λ a next after x. x) (plain_leaves T select groups (codes "values") upsert k made refl refl refl))
      (λ values next between le p same.
      let there : Knows between values (made_as upsert h.vector.len _) = p.known ∙ ap (λ (v : Traced). Some v) (upsert_traced T made values f.runs val value out h.vector g.vector g.value h.known g.known g.there) in
      let o = fold_of kind (fold_args values) in
      then_leaves T (make (codes "fold") o) (collected f.first) next between (MakesIt next (λ n. traced T between n o)) Anything (Chains select groups kind 1) (Chains select groups kind 1) (Chains select groups kind 0)
      (λ final a b x y. chains_both select groups kind 1 0 1 final a b (omega arith) x y)
      (make_leaves T (codes "fold") o next between (Chains select groups kind 1) refl (fold_shows kind (fold_args values))
      (λ final same2 there2.
      let name = numbered (codes "fold") next in
      let e = fold_ends final groups kind name values upsert h.vector.len g.value h.vector.traces fits h.inside h.beside h.whole (h.are final (agrees_then k next made between final le same same2)) (knows_still next between final values _ same2 p.below there) in
      one_chain final kind (statement name o) (record {
        selects = ap (selects_by final select) (fold_family kind (fold_args values)) ∙ fold_selects final select kind (fold_args values) fits;
        orders = ap is_order (fold_family kind (fold_args values));
        folds = λ x. ends e.0;
      }) e.1))
      (λ name next2 after le2 q same2. collected_leaves kind f.first name next2 after))
    where
      one_chain : (final : Traces) (kind : FoldOperator) (s : Statement) → Brought select groups final s → ends_as final groups kind s ≡ true → Chains select groups kind 1 final (s ∷ [])
      one_chain final kind s b e = record { each = All-cons (Brought select groups final) s [] b (All-nil (Brought select groups final)); chains = let n : length (filter (ends_as final groups kind) (s ∷ [])) ≡ 1 = ap (λ (t : Bool). length (if t then s ∷ [] else [])) e in omega (arith, n) }

  -- ---- aggregates of each kind

  there_leaves : (f : Folding) (value : Label) (k : ℕ) (made : Traces) → Leaves T (is_there f value) k made HasOut (Each (Calm select groups))
  there_leaves f value k made =
      then_each T (Calm select groups) (same_in value) (λ same. make (codes "there") (statements.pair pair.Fill (attribute same out) (attribute f.nought out))) k made HasOut HasOut
      (pair_leaves T select groups (codes "same") pair.Equals (attribute value out) (attribute value out) k made refl)
      (λ same next between le h still. pair_leaves T select groups (codes "there") pair.Fill (attribute same out) (attribute f.nought out) next between refl)

  counted_leaves : (f : Folding) (value : Label) (k : ℕ) (made : Traces) → HasRuns groups f.runs k made → Leaves T (counted f value) k made Anything (Chains select groups fold.Sum 1)
  counted_leaves f value k made h =
      then_leaves T (is_there f value) (folded f fold.Sum) k made HasOut Anything (Chains select groups fold.Sum 1) (Chains select groups fold.Sum 0) (Chains select groups fold.Sum 1)
      (λ final a b x y. chains_both select groups fold.Sum 0 1 1 final a b (omega arith) x y)
      (calm_part (is_there f value) k made HasOut HasOut fold.Sum (λ a next after x. x) (there_leaves f value k made))
      (λ there next between le g same. folded_leaves f fold.Sum there next between refl (runs_still groups f.runs k next made between le same h) g)

  -- a statement on two operands behind a fold
  then_pair : (m : Writer Label) (word : Label) (kind : _) (x : Label → _) (y : Label → _) (k n : ℕ) (made : Traces) → is_word word ≡ true → Leaves T m k made Anything (Chains select groups fold.Sum n) → Leaves T (m >>= λ a. make word (statements.pair kind (x a) (y a))) k made Anything (Chains select groups fold.Sum n)
  then_pair m word kind x y k n made w g =
      then_leaves T m (λ a. make word (statements.pair kind (x a) (y a))) k made Anything Anything (Chains select groups fold.Sum n) (Chains select groups fold.Sum n) (Chains select groups fold.Sum 0)
      (λ final a b u v. chains_both select groups fold.Sum n 0 n final a b (omega arith) u v) g
      (λ a next between le h same. calm_part (make word (statements.pair kind (x a) (y a))) next between HasOut Anything fold.Sum (λ b l after z. tt) (pair_leaves T select groups word kind (x a) (y a) next between w))

  mean_leaves : (f : Folding) (value : Label) (k : ℕ) (made : Traces) → HasRuns groups f.runs k made → HasOut value k made → Leaves T (mean f value) k made Anything (Chains select groups fold.Sum 2)
  mean_leaves f value k made h g =
      then_leaves T (folded f fold.Sum value) (λ total. counted f value >>= λ n. make (codes "mean") (statements.pair pair.Divide (attribute total out) (attribute n out))) k made Anything Anything (Chains select groups fold.Sum 2) (Chains select groups fold.Sum 1) (Chains select groups fold.Sum 1)
      (λ final a b x y. chains_both select groups fold.Sum 1 1 2 final a b (omega arith) x y)
      (folded_leaves f fold.Sum value k made refl h g)
      (λ total next between le x same.
      then_pair (counted f value) (codes "mean") pair.Divide (λ n. attribute total out) (λ n. attribute n out) next 1 between refl (counted_leaves f value next between (runs_still groups f.runs k next made between le same h)))

  aggregated_leaves : (f : Folding) (kind : AggregateKind) (value : Label) (k : ℕ) (made : Traces) → HasRuns groups f.runs k made → HasOut value k made → Leaves T (aggregated f kind value) k made Anything (Chains select groups (asks_kind kind) (asks_count kind))
  aggregated_leaves f of.Count value k made h g = then_pair (counted f value) (codes "count") pair.Fill (λ n. attribute n out) (λ n. attribute f.zero out) k 1 made refl (counted_leaves f value k made h)
  aggregated_leaves f of.Sum value k made h g = folded_leaves f fold.Sum value k made refl h g
  aggregated_leaves f of.Min value k made h g = folded_leaves f fold.Min value k made refl h g
  aggregated_leaves f of.Max value k made h g = folded_leaves f fold.Max value k made refl h g
  aggregated_leaves f of.Avg value k made h g = mean_leaves f value k made h g

  argument_leaves : (texts : List Bytes) (f : Folding) (e : Option TypedExpr) (k : ℕ) (made : Traces) → Leaves T (argument texts f e) k made HasOut (Each (Calm select groups))
  argument_leaves texts f None k made = all_leave T select groups f.rows k made
  argument_leaves texts f (Some e) k made = value_leaves T select groups texts (codes "argument") f.rows e k made refl

  aggregate_leaves : (texts : List Bytes) (f : Folding) (b : Base) (n : ℕ) (a : Aggregate) (k : ℕ) (made : Traces) → HasRuns groups f.runs k made → Leaves T (aggregate_of texts f b (n, a)) k made Anything (Chains select groups (asks_kind a.kind) (asks_count a.kind))
  aggregate_leaves texts f b n a k made h =
      let kind = asks_kind a.kind in
      let c = asks_count a.kind in
      then_leaves T (argument texts f a.argument) (λ value. aggregated f a.kind value >>= λ x. make (codes "groups") (with_attribute b.vector (aggregate_path n) x out) >>= λ vector. tell (with_aggregate vector n (aggregate_path n) b)) k made HasOut Anything
      (Chains select groups kind c) (Chains select groups kind 0) (Chains select groups kind c) (λ final l r x y. chains_both select groups kind 0 c c final l r (omega arith) x y)
      (calm_part (argument texts f a.argument) k made HasOut HasOut kind (λ v next after x. x) (argument_leaves texts f a.argument k made))
      (λ value next between le g same.
      then_leaves T (aggregated f a.kind value) (λ x. make (codes "groups") (with_attribute b.vector (aggregate_path n) x out) >>= λ vector. tell (with_aggregate vector n (aggregate_path n) b)) next between Anything Anything
      (Chains select groups kind c) (Chains select groups kind c) (Chains select groups kind 0) (λ final l r x y. chains_both select groups kind c 0 c final l r (omega arith) x y)
      (aggregated_leaves f a.kind value next between (runs_still groups f.runs k next made between le same h) g)
      (λ x last after le2 u same2.
      let o = with_attribute b.vector (aggregate_path n) x out in
      calm_part (make (codes "groups") o >>= λ vector. tell (with_aggregate vector n (aggregate_path n) b)) last after Anything Anything kind (λ v l m z. z)
      (then_each T (Calm select groups) (make (codes "groups") o) (λ vector. tell (with_aggregate vector n (aggregate_path n) b)) last after (MakesIt last (λ m. traced T after m o)) Anything (plain_leaves T select groups (codes "groups") o last after refl refl refl)
      (λ vector end now le3 z same3. tells T (Calm select groups) (with_aggregate vector n (aggregate_path n) b) end now Anything tt))))

-- the chains of each of some aggregates
pub record Passed (select : Control) (groups : List Origin) (aggregates : List Aggregate) (final : Traces) (l : List Statement) : Type 0 where
  pub each : All (Brought select groups final) l
  pub chains : All (λ a. asks_count a.kind ≤ length (filter (ends_as final groups (asks_kind a.kind)) l)) aggregates
  -- where there is none, nothing is written
  pub none : length aggregates ≡ 0 → l ≡ []

passed_both : (select : Control) (groups : List Origin) (a : Aggregate) (rest : List Aggregate) (final : Traces) (l m : List Statement) → Chains select groups (asks_kind a.kind) (asks_count a.kind) final l → Passed select groups rest final m → Passed select groups (a ∷ rest) final (l ++ m)
passed_both select groups a rest final l m g h = record {
  each = All-append (Brought select groups final) l m g.each h.each;
  chains = All-cons (λ b. asks_count b.kind ≤ length (filter (ends_as final groups (asks_kind b.kind)) (l ++ m))) a rest (more (asks_kind a.kind) (asks_count a.kind) g.chains) (λ i d less. behind (asks_kind _) (asks_count _) (h.chains i d less));
  none = λ e. absurd (omega (arith, e));
}
  where
    is : (kind : FoldOperator) → length (filter (ends_as final groups kind) (l ++ m)) ≡ length (filter (ends_as final groups kind) l) + length (filter (ends_as final groups kind) m)
    is kind = ap length (filter-append (ends_as final groups kind) l m) ∙ length-append (filter (ends_as final groups kind) l) (filter (ends_as final groups kind) m)

    more : (kind : FoldOperator) (n : ℕ) → n ≤ length (filter (ends_as final groups kind) l) → n ≤ length (filter (ends_as final groups kind) (l ++ m))
    more kind n h = let e = is kind in omega (arith, h, e)

    behind : (kind : FoldOperator) (n : ℕ) → n ≤ length (filter (ends_as final groups kind) m) → n ≤ length (filter (ends_as final groups kind) (l ++ m))
    behind kind n h = let e = is kind in omega (arith, h, e)

module _ (T : Shapes) (select : Control) (groups : List Origin) where
  pub aggregates_leave : (texts : List Bytes) (f : Folding) (aggregates : List Aggregate) (n : ℕ) (b : Base) (k : ℕ) (made : Traces) → HasRuns groups f.runs k made → Leaves T (through (aggregate_of texts f) b (enumerate_from n aggregates)) k made Anything (Passed select groups aggregates)
  aggregates_leave texts f [] n b k made h = tell_leaves T b k made Anything (Passed select groups []) tt (λ final. record { each = All-nil (Brought select groups final); chains = All-nil (λ (a : Aggregate). asks_count a.kind ≤ 0); none = λ e. refl })
  aggregates_leave texts f (a ∷ rest) n b k made h =
      then_leaves T (aggregate_of texts f b (n, a)) (λ next. through (aggregate_of texts f) next (enumerate_from (n + 1) rest)) k made Anything Anything (Passed select groups (a ∷ rest)) (Chains select groups (asks_kind a.kind) (asks_count a.kind)) (Passed select groups rest)
      (λ final l m g p. passed_both select groups a rest final l m g p)
      (aggregate_leaves T select groups texts f b n a k made h)
      (λ c next between le x same. aggregates_leave texts f rest (n + 1) c next between (runs_still groups f.runs k next made between le same h))
