-- A program whose statements lie so obeys its plan, point by point.
use Rattle.std.proofs.Common.{◌≡◌, ◌⊎◌, inl, inr, ℕ, ◌<◌, ◌≤◌, Bool, true, false, not, ◌&&◌, ◌||◌, List, [], ◌∷◌, ◌++◌, map, length, get_or, length-append, append-nil, refl, ap, ◌∙◌, arith, if◌then◌else◌, le-leb}
use Rattle.std.specs.Prelude.{All, filter}
use Rattle.std.specs.List.{list_any, list_all}
use Rattle.std.proofs.lemmas.List.Elements.{filter-append}
use Rattle.std.proofs.lemmas.List.Folds.{list_any_at, list_all-map}
use Rattle.std.proofs.lemmas.List.Sums.{list_all-from_AllPass}
use Rattle.std.proofs.lemmas.Slice.Eq.{bytes_eq-Decides}
use Rattle.control_vectors.specs.Controls.{Control}
use Rattle.programs.specs.declared.family.FoldOperator.{FoldOperator}
use Rattle.programs.specs.declared.family.FoldOperator.TheVariants as fold
use Rattle.programs.specs.declared.op.Statement.{Statement}
use Rattle.programs.specs.Families.{Family, family, Fold}
use Rattle.programs.specs.Mentions.{Label, has_name}
use Rattle.typed_trees.specs.declared.typed.Aggregate.{Aggregate}
use Rattle.typed_trees.specs.declared.typed.AggregateKind.{AggregateKind}
use Rattle.typed_trees.specs.declared.typed.AggregateKind.TheVariants as of
use Rattle.attribute_origins.specs.Traces.{Origin, Traces}
use Rattle.plan_obeyed.specs.Runs.{is_one, fold_by}
use Rattle.plan_obeyed.specs.Chains.{is_fold, folds_mark, ends_chain_at, folds_of, is_chained}
use Rattle.plan_obeyed.specs.Queries.{QueryParts}
use Rattle.plan_obeyed.specs.Obeyed.{Reading, selects_by, is_select, selects_in_runs, has_chains, passes_levels, folds_by}
use Rattle.lowered_obeys.proofs.Calm.{is_value_fold, Calm, Settled}
use Rattle.lowered_obeys.proofs.Folding.{Brings, ends, marks, is_extreme_by, Brought, ends_as, finds}
use Rattle.lowered_obeys.proofs.Aggregates.{asks_kind, asks_count}
use Rattle.lowered_obeys.proofs.Grouped.{filter_none, none_finds, fold_none}

-- ---- what holds of each statement of the program

pub record Fine (select : Control) (groups : List Origin) (final : Traces) (s : Statement) : Type 0 where
  pub selects : selects_by final select (family s.op) ≡ true
  pub folds : is_value_fold (family s.op) ≡ true → Brings groups final s

pub settled_fine : (select : Control) (groups : List Origin) (final : Traces) (l : List Statement) → All (Settled select groups final) l → All (Fine select groups final) l
settled_fine select groups final l h = λ i d less. record { selects = (h i d less).selects; folds = λ e. no (is_value_fold (family (get_or l i d).op)) (h i d less).folds e }
  where
    no : {s : Statement} (b : Bool) → b ≡ false → b ≡ true → Brings groups final s
    no b e f = absurd cc

pub brought_fine : (select : Control) (groups : List Origin) (final : Traces) (l : List Statement) → All (Brought select groups final) l → All (Fine select groups final) l
brought_fine select groups final l h = λ i d less. record { selects = (h i d less).selects; folds = (h i d less).folds }

-- ---- rows are selected in the right runs

abbrev pub reading : List Statement → Traces → List Origin → Reading
reading l final groups = record { program = l; made = final; groups = groups }

pub selects_law : (select : Control) (groups : List Origin) (final : Traces) (l : List Statement) (q : QueryParts) → All (Fine select groups final) l → (q.has_where ≡ true → list_any (λ s. is_select (family s.op)) l ≡ true) → selects_in_runs (reading l final groups) q select ≡ true
selects_law select groups final l q fine some =
    let all = list_all-from_AllPass (λ (s : Statement). selects_by final select (family s.op)) l (λ i d less. (fine i d less).selects) in
    rw (all, by q.has_where some) refl
  where
    by : (b : Bool) → (b ≡ true → list_any (λ s. is_select (family s.op)) l ≡ true) → (not b || list_any (λ s. is_select (family s.op)) l) ≡ true
    by true h = h refl
    by false h = refl

-- ---- no value is folded in another way

chained : (groups : List Origin) (final : Traces) (l : List Statement) (i : ℕ) (d : Statement) → i < length l → ends_chain_at final groups [] (get_or l i d) ≡ true → is_chained final groups [] l (get_or l i d).name ≡ true
chained groups final l i d less e =
    let s = get_or l i d in
    let name : has_name (s.name ∷ []) s.name ≡ true = ap (λ (b : Bool). b || false) ((bytes_eq-Decides s.name s.name).1 refl) in
    list_any_at (λ x. ends_chain_at final groups [] x && has_name (folds_of final [] x) s.name) l i d less (rw (e, name) refl)

either : (a b : Bool) → (a ≡ true) ⊎ (b ≡ true) → (a || b) ≡ true
either true b h = refl
either false b (inl e) = absurd cc
either false b (inr e) = e

fold_fine : (groups : List Origin) (final : Traces) (l : List Statement) (n : Label) (f : Family) → (is_value_fold f ≡ true → (is_chained final groups [] l n ≡ true) ⊎ ((is_extreme_by f && is_fold (folds_mark final groups) (fold_by final f)) ≡ true)) → folds_by (reading l final groups) [] n f ≡ true
fold_fine groups final l n (Fold fold.Select f) h = refl
fold_fine groups final l n (Fold fold.Sum f) h = either (is_chained final groups [] l n) _ (h refl)
fold_fine groups final l n (Fold fold.Min f) h = either (is_chained final groups [] l n) _ (h refl)
fold_fine groups final l n (Fold fold.Max f) h = either (is_chained final groups [] l n) _ (h refl)
fold_fine groups final l n (Fold fold.Scan f) h = either (is_chained final groups [] l n) _ (h refl)
fold_fine groups final l n f h = refl

pub folds_law : (select : Control) (groups : List Origin) (final : Traces) (l : List Statement) → All (Fine select groups final) l → list_all (λ s. folds_by (reading l final groups) [] s.name (family s.op)) l ≡ true
folds_law select groups final l fine =
    list_all-from_AllPass (λ (s : Statement). folds_by (reading l final groups) [] s.name (family s.op)) l
    (λ i d less. let s = get_or l i d in fold_fine groups final l s.name (family s.op) (λ e. brings i d less ((fine i d less).folds e)))
  where
    brings : (i : ℕ) (d : Statement) → i < length l → Brings groups final (get_or l i d) → (is_chained final groups [] l (get_or l i d).name ≡ true) ⊎ ((is_extreme_by (family (get_or l i d).op) && is_fold (folds_mark final groups) (fold_by final (family (get_or l i d).op))) ≡ true)
    brings i d less (ends e) = inl (chained groups final l i d less e)
    brings i d less (marks e f) = inr (rw (e, f) refl)

-- ---- each aggregate passes its chains

asks : (r : Reading) (kind : AggregateKind) → has_chains r [] (asks_kind kind) (asks_count kind) ≡ true → passes_levels r [] kind ≡ true
asks r of.Count e = e
asks r of.Sum e = e
asks r of.Min e = e
asks r of.Max e = e
asks r of.Avg e = e

pub chains_law : (groups : List Origin) (final : Traces) (a b c : List Statement) (aggregates : List Aggregate) → All (λ x. asks_count x.kind ≤ length (filter (ends_as final groups (asks_kind x.kind)) b)) aggregates
    → list_all (passes_levels (reading (a ++ (b ++ c)) final groups) []) (map (λ x. x.kind) aggregates) ≡ true
chains_law groups final a b c aggregates h =
    let r = reading (a ++ (b ++ c)) final groups in
    list_all-map (passes_levels r []) (λ (x : Aggregate). x.kind) aggregates
    ∙ list_all-from_AllPass (λ (x : Aggregate). passes_levels r [] x.kind) aggregates (λ i d less. asks r (get_or aggregates i d).kind (le-leb _ _ (more (asks_kind (get_or aggregates i d).kind) (asks_count (get_or aggregates i d).kind) (h i d less))))
  where
    more : (kind : FoldOperator) (n : ℕ) → n ≤ length (filter (ends_as final groups kind) b) → n ≤ length (filter (ends_as final groups kind) (a ++ (b ++ c)))
    more kind n le =
        let f = ends_as final groups kind in
        let e = ap length (filter-append f a (b ++ c)) ∙ length-append (filter f a) (filter f (b ++ c)) in
        let g = ap length (filter-append f b c) ∙ length-append (filter f b) (filter f c) in
        omega (arith, le, e, g)

-- ---- groups are found by one fold

pub found_law : (select : Control) (groups : List Origin) (final : Traces) (a b c : List Statement) (order : Statement) → 0 < length groups → All (Calm select groups final) a → finds final groups order ≡ false → All (Settled select groups final) c → is_one (finds final groups) (filter (finds final groups) b) ≡ true
    → is_one (finds final groups) (filter (finds final groups) (a ++ ((order ∷ b) ++ c))) ≡ true
found_law select groups final a b c order some calm none settled found =
    let f = finds final groups in
    let first : filter f a ≡ [] = none_finds select groups final a some calm in
    let last : filter f c ≡ [] = filter_none f c (λ i d less. fold_none final groups (fold_by final (family (get_or c i d).op)) ((settled i d less).groupless some)) in
    let all : filter f (a ++ ((order ∷ b) ++ c)) ≡ filter f b =
    filter-append f a ((order ∷ b) ++ c) ∙ ap (λ (l : List Statement). l ++ filter f ((order ∷ b) ++ c)) first ∙ ap (λ (t : Bool). if t then order ∷ filter f (b ++ c) else filter f (b ++ c)) none
    ∙ filter-append f b c ∙ ap (λ (l : List Statement). filter f b ++ l) last ∙ append-nil (filter f b) in
    ap (is_one f) all ∙ found
