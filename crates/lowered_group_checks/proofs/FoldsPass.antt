-- Folds of a value pass the check.
use Rattle.std.proofs.Common.{◌≡◌, ℕ, ◌≤◌, ◌^◌, true, false, [], ◌∷◌, refl, subst, arith, codes, Option, Some, None}
use Rattle.std.proofs.lemmas.List.Elements.{All-nil, All-cons}
use Rattle.control_vectors.specs.declared.PairKind.TheVariants as pair
use Rattle.key_paths.specs.Substructures.{is_at_or_below}
use Rattle.programs.specs.declared.family.FoldOperator.{FoldOperator}
use Rattle.programs.specs.declared.family.FoldOperator.TheVariants as fold
use Rattle.programs.specs.Check.{Known}
use Rattle.programs.specs.Mentions.{Label}
use Rattle.programs.specs.Outlines.{Shapes}
use Rattle.typed_trees.specs.declared.typed.AggregateKind.{AggregateKind}
use Rattle.typed_trees.specs.declared.typed.AggregateKind.TheVariants as of
use Rattle.program_writers.specs.Statements.{out, val, run, attribute, with_attribute, fold_args, fold_of, at_places}
use Rattle.program_writers.specs.Statements as statements
use Rattle.program_writers.specs.Writers.{◌>>=◌, make}
use Rattle.plan_programs.specs.Groups.{Folding, collected, folded, is_there, counted, count as count_of, mean, aggregated}
use Rattle.writer_checks.specs.Checks.{IsFresh, HasShape, Passes}
use Rattle.writer_checks.specs.Laws.{IsAttribute, Shaped}
use Rattle.writer_checks.proofs.Passing.{operator_laws}
use Rattle.writer_checks.proofs.Routes.{path_laws}
use Rattle.lowered_stages.specs.Stages.{paths_of, IsShaped}
use Rattle.lowered_group_checks.proofs.Shaped.{Stays, still, then_passes, tells, pair_passes}

-- a vector whose one attribute is an operator's
abbrev pub IsColumn : ℕ → Label → Shapes → Type 0
IsColumn len name shapes = HasShape shapes name len (out ∷ [])

-- where folds are gathered from
abbrev pub FirstShaped : ℕ → ℕ → Option Label → Shapes → Type 0
FirstShaped len count None shapes = len ≡ count
FirstShaped len count (Some first) shapes = IsColumn count first shapes

-- the vectors of a folding are known: those of the rows and those of the groups
pub record FoldingShaped (len count : ℕ) (f : Folding) (shapes : Shapes) : Type 0 where
  pub rows : IsShaped len f.rows shapes
  pub nought : IsColumn len f.nought shapes
  pub path : Label
  pub below : is_at_or_below (46 ∷ path) run ≡ true
  pub beside : is_at_or_below (46 ∷ path) val ≡ false
  pub runs : HasShape shapes f.runs len ((46 ∷ path) ∷ [])
  pub first : FirstShaped len count f.first shapes
  pub zero : IsColumn count f.zero shapes
  pub few : len ≤ 2 ^ 22
  pub small : count ≤ 2 ^ 22

first_still : (len count : ℕ) (first : Option Label) (k : ℕ) (before after : Shapes) → IsFresh k before → Stays k before after → FirstShaped len count first before → FirstShaped len count first after
first_still len count None k before after fresh stays h = h
first_still len count (Some first) k before after fresh stays h = still k before after first count (out ∷ []) fresh stays h

pub folding_still : (len count : ℕ) (f : Folding) (k : ℕ) (before after : Shapes) → IsFresh k before → Stays k before after → FoldingShaped len count f before → FoldingShaped len count f after
folding_still len count f k before after fresh stays h = record {
  rows = still k before after f.rows.vector len (paths_of f.rows) fresh stays h.rows;
  nought = still k before after f.nought len (out ∷ []) fresh stays h.nought;
  path = h.path;
  below = h.below;
  beside = h.beside;
  runs = still k before after f.runs len ((46 ∷ h.path) ∷ []) fresh stays h.runs;
  first = first_still len count f.first k before after fresh stays h.first;
  zero = still k before after f.zero count (out ∷ []) fresh stays h.zero;
  few = h.few;
  small = h.small;
}

val_attribute : IsAttribute val
val_attribute = path_laws.attribute_one (codes "val") refl (omega arith)

collected_passes : (tables : Shapes) (len count : ℕ) (first : Option Label) (fold : Label) (k : ℕ) (known : Known) → count ≤ 2 ^ 22 → IsFresh k known.vectors → FirstShaped len count first known.vectors → IsColumn len fold known.vectors → Passes tables (collected first fold) k known (IsColumn count)
collected_passes tables len count None fold k known small fresh h g = tells tables fold k known (IsColumn count) fresh (subst (λ (n : ℕ). IsColumn n fold known.vectors) h g)
collected_passes tables len count (Some first) fold k known small fresh h g = operator_laws.gather tables (codes "one") fold first out count len (out ∷ []) k known refl fresh small g h

module _ (tables : Shapes) (len count : ℕ) (f : Folding) where
  pub folded_passes : (kind : FoldOperator) (value : Label) (k : ℕ) (known : Known) → IsFresh k known.vectors → FoldingShaped len count f known.vectors → IsColumn len value known.vectors → Passes tables (folded f kind value) k known (IsColumn count)
  folded_passes kind value k known fresh h v =
      then_passes tables (make (codes "values") (with_attribute f.runs val value out)) (λ values. make (codes "fold") (fold_of kind (fold_args values)) >>= collected f.first) k known (Shaped len (val ∷ (46 ∷ h.path) ∷ [])) (IsColumn count)
      (operator_laws.upsert tables (codes "values") f.runs val value out len ((46 ∷ h.path) ∷ []) len k known refl fresh val_attribute h.few h.runs v
      (path_laws.none_above_one known.vectors f.runs (codes "val") h.path len [] refl h.runs)
      (All-cons (λ r. is_at_or_below r val ≡ false) (46 ∷ h.path) [] h.beside (All-nil (λ r. is_at_or_below r val ≡ false))))
      (λ values next between new shape stays.
      let later = folding_still len count f k known.vectors between.vectors fresh stays h in
      then_passes tables (make (codes "fold") (fold_of kind (fold_args values))) (collected f.first) next between (IsColumn len) (IsColumn count)
      (operator_laws.fold tables (codes "fold") values kind (46 ∷ h.path) len next between refl new h.few h.below shape)
      (λ fold last after fresher column stay. collected_passes tables len count f.first fold last after h.small fresher (first_still len count f.first next between.vectors after.vectors new stay later.first) column))

  is_there_passes : (value : Label) (k : ℕ) (known : Known) → IsFresh k known.vectors → FoldingShaped len count f known.vectors → IsColumn len value known.vectors → Passes tables (is_there f value) k known (IsColumn len)
  is_there_passes value k known fresh h v =
      then_passes tables (make (codes "same") (statements.pair pair.Equals (attribute value out) (attribute value out))) (λ same. make (codes "there") (statements.pair pair.Fill (attribute same out) (attribute f.nought out))) k known (IsColumn len) (IsColumn len)
      (pair_passes tables (codes "same") pair.Equals value out value out len k known refl fresh h.few v v)
      (λ same next between new shape stays.
      pair_passes tables (codes "there") pair.Fill same out f.nought out len next between refl new h.few shape (still k known.vectors between.vectors f.nought len (out ∷ []) fresh stays h.nought))

  counted_passes : (value : Label) (k : ℕ) (known : Known) → IsFresh k known.vectors → FoldingShaped len count f known.vectors → IsColumn len value known.vectors → Passes tables (counted f value) k known (IsColumn count)
  counted_passes value k known fresh h v =
      then_passes tables (is_there f value) (folded f fold.Sum) k known (IsColumn len) (IsColumn count) (is_there_passes value k known fresh h v)
      (λ there next between new shape stays. folded_passes fold.Sum there next between new (folding_still len count f k known.vectors between.vectors fresh stays h) shape)

  count_passes : (value : Label) (k : ℕ) (known : Known) → IsFresh k known.vectors → FoldingShaped len count f known.vectors → IsColumn len value known.vectors → Passes tables (count_of f value) k known (IsColumn count)
  count_passes value k known fresh h v =
      then_passes tables (counted f value) (λ n. make (codes "count") (statements.pair pair.Fill (attribute n out) (attribute f.zero out))) k known (IsColumn count) (IsColumn count) (counted_passes value k known fresh h v)
      (λ n next between new shape stays.
      pair_passes tables (codes "count") pair.Fill n out f.zero out count next between refl new h.small shape (still k known.vectors between.vectors f.zero count (out ∷ []) fresh stays h.zero))

  mean_passes : (value : Label) (k : ℕ) (known : Known) → IsFresh k known.vectors → FoldingShaped len count f known.vectors → IsColumn len value known.vectors → Passes tables (mean f value) k known (IsColumn count)
  mean_passes value k known fresh h v =
      then_passes tables (folded f fold.Sum value) (λ total. counted f value >>= λ n. make (codes "mean") (statements.pair pair.Divide (attribute total out) (attribute n out))) k known (IsColumn count) (IsColumn count) (folded_passes fold.Sum value k known fresh h v)
      (λ total next between new shape stays.
      then_passes tables (counted f value) (λ n. make (codes "mean") (statements.pair pair.Divide (attribute total out) (attribute n out))) next between (IsColumn count) (IsColumn count)
      (counted_passes value next between new (folding_still len count f k known.vectors between.vectors fresh stays h) (still k known.vectors between.vectors value len (out ∷ []) fresh stays v))
      (λ n last after fresher column stay.
      pair_passes tables (codes "mean") pair.Divide total out n out count last after refl fresher h.small (still next between.vectors after.vectors total count (out ∷ []) new stay shape) column))

  pub aggregated_passes : (kind : AggregateKind) (value : Label) (k : ℕ) (known : Known) → IsFresh k known.vectors → FoldingShaped len count f known.vectors → IsColumn len value known.vectors → Passes tables (aggregated f kind value) k known (IsColumn count)
  aggregated_passes of.Count value k known fresh h v = count_passes value k known fresh h v
  aggregated_passes of.Sum value k known fresh h v = folded_passes fold.Sum value k known fresh h v
  aggregated_passes of.Min value k known fresh h v = folded_passes fold.Min value k known fresh h v
  aggregated_passes of.Max value k known fresh h v = folded_passes fold.Max value k known fresh h v
  aggregated_passes of.Avg value k known fresh h v = mean_passes value k known fresh h v
