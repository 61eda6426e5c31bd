-- The value of an expression over a base passes the check, and so do the rows for which conditions are true.
use Rattle.std.proofs.Common.{◌≡◌, ℕ, ◌≤◌, ◌^◌, Bool, true, false, ◌||◌, ◌==◌, List, [], ◌∷◌, ◌++◌, map, refl, arith, if◌then◌else◌, Option, codes}
use Rattle.std.specs.Prelude.{All}
use Rattle.std.specs.List.{list_any}
use Rattle.std.proofs.lemmas.List.Elements.{All-nil, All-cons, All-head, All-tail}
use Rattle.control_vectors.specs.Controls.{Control}
use Rattle.control_vectors.specs.declared.PairKind.TheVariants as pair_kind
use Rattle.programs.specs.declared.family.FoldOperator.TheVariants as fold
use Rattle.programs.specs.declared.op.Op.TheVariants as op
use Rattle.programs.specs.declared.op.Size.TheVariants as size
use Rattle.key_paths.specs.Substructures.{is_at_or_below}
use Rattle.programs.specs.Check.{Known}
use Rattle.programs.specs.Mentions.{Label, has_name}
use Rattle.programs.specs.Outlines.{Shapes}
use Rattle.typed_trees.specs.declared.typed.ColumnRef.{ColumnRef}
use Rattle.typed_trees.specs.declared.typed.TypedExpr.{TypedExpr}
use Rattle.typed_trees.specs.Names.{same_column}
use Rattle.typed_trees.specs.Types.{DataType}
use Rattle.expr_steps.specs.Lowered.{Bytes}
use Rattle.expr_lower.specs.declared.places.ColumnPlace.{ColumnPlace}
use Rattle.expr_lower.specs.declared.places.AggregatePlace.{AggregatePlace}
use Rattle.expr_lower.specs.Statements.{column_path, aggregate_path}
use Rattle.expr_counts.specs.Counts.{CountLaw}
use Rattle.expr_scopes.specs.Scopes.{names_in}
use Rattle.expr_programs.specs.Values.{HasPlaces}
use Rattle.program_writers.specs.Statements.{out, mark, val, run, pair, attribute, with_attribute, fold_args, fold_of, at_places}
use Rattle.program_writers.specs.Writers.{Writer, ◌>>=◌, make, tell, through}
use Rattle.plan_programs.specs.Sites.{Base, moved_to, value_of}
use Rattle.plan_programs.specs.Rows.{everywhere, and_true, places_of, selected}
use Rattle.plan_programs.specs.Rows as lowered
use Rattle.writer_checks.specs.Checks.{IsFresh, HasShape, Passes}
use Rattle.writer_checks.specs.Laws.{IsAttribute, NoneAbove}
use Rattle.writer_checks.proofs.Above.{none_above_one}
use Rattle.writer_checks.proofs.Composing.{compose_laws}
use Rattle.writer_checks.proofs.Going.{still_has}
use Rattle.writer_checks.proofs.Passing.{operator_laws}
use Rattle.lowered_stages.specs.Stages.{Covers, IsShaped, paths_of}
use Rattle.lowered_stages.specs.Parts.{CanValue, SamePlaces, KeptPasses}
use Rattle.lowered_kept.specs.Values.{ValuePasses}
use Rattle.lowered_kept.proofs.Stated.{bare, statements_pass}
use Rattle.lowered_kept.proofs.Valued.{all_first, all_behind}

-- ---- some of a vector's paths

one_path : (shapes : Shapes) (name : Label) (len : ℕ) (paths : List Label) (h : HasShape shapes name len paths) (p : Label) → has_name h.outline.paths p ≡ true → HasShape shapes name len (p ∷ [])
one_path shapes name len paths h p has = record {
  outline = h.outline;
  known = h.known;
  len_is = h.len_is;
  clear = h.clear;
  shallow = h.shallow;
  each = All-cons (λ q. has_name h.outline.paths q ≡ true) p [] has (All-nil (λ q. has_name h.outline.paths q ≡ true));
}

-- ---- the paths that an expression names

module _ (P : Label → Type 0) where
  column_there : (places : List ColumnPlace) (c : ColumnRef) → All P (map (λ p. p.path) places) → list_any (λ p. same_column p.column c) places ≡ true → P (column_path places c)
  column_there [] c h found = absurd cc
  column_there (p ∷ places) c h found =
      by (same_column p.column c) (All-head P p.path (map (λ q. q.path) places) h) (λ f. column_there places c (All-tail P p.path (map (λ q. q.path) places) h) f) found
    where
      by : (t : Bool) → P p.path → (list_any (λ q. same_column q.column c) places ≡ true → P (column_path places c)) → (t || list_any (λ q. same_column q.column c) places) ≡ true → P (if t then p.path else column_path places c)
      by true first rest f = first
      by false first rest f = rest f

  aggregate_there : (places : List AggregatePlace) (n : ℕ) → All P (map (λ p. p.path) places) → list_any (λ p. p.aggregate == n) places ≡ true → P (aggregate_path places n)
  aggregate_there [] n h found = absurd cc
  aggregate_there (p ∷ places) n h found =
      by (p.aggregate == n) (All-head P p.path (map (λ q. q.path) places) h) (λ f. aggregate_there places n (All-tail P p.path (map (λ q. q.path) places) h) f) found
    where
      by : (t : Bool) → P p.path → (list_any (λ q. q.aggregate == n) places ≡ true → P (aggregate_path places n)) → (t || list_any (λ q. q.aggregate == n) places) ≡ true → P (if t then p.path else aggregate_path places n)
      by true first rest f = first
      by false first rest f = rest f

mark_shape : (len : ℕ) (b : Base) (shapes : Shapes) → IsShaped len b shapes → HasShape shapes b.vector len (mark ∷ [])
mark_shape len b shapes h =
    one_path shapes b.vector len (paths_of b) h mark (All-head (λ q. has_name h.outline.paths q ≡ true) mark (map (λ p. p.path) b.columns ++ map (λ p. p.path) b.aggregates) h.each)

named_there : (len : ℕ) (b : Base) (e : TypedExpr) (shapes : Shapes) → Covers b e → IsShaped len b shapes → HasPlaces (names_in e) shapes (bare b) len
named_there len b e shapes covers h =
    let P : Label → Type 0 = λ q. has_name h.outline.paths q ≡ true in
    let cs = map (λ (p : ColumnPlace). p.path) b.columns in
    let gs = map (λ (p : AggregatePlace). p.path) b.aggregates in
    let others = All-tail P mark (cs ++ gs) h.each in
    record {
      marked = mark_shape len b shapes h;
      columns = λ c n. one_path shapes b.vector len (paths_of b) h (column_path b.columns c) (column_there P b.columns c (all_first P cs gs others) (covers.columns c n));
      aggregates = λ m n. one_path shapes b.vector len (paths_of b) h (aggregate_path b.aggregates m) (aggregate_there P b.aggregates m (all_behind P cs gs others) (covers.aggregates m n));
    }

pub value_passes : CountLaw → ValuePasses
value_passes counts tables texts at word len b e w small can k known fresh h =
    statements_pass counts tables texts word len b e can.few w small k known fresh (named_there len b e known.vectors can.covers h)

-- ---- the conditions

attribute_run : IsAttribute run
attribute_run = record { some = omega arith; below_root = refl; shallow = refl }

attribute_val : IsAttribute val
attribute_val = record { some = omega arith; below_root = refl; shallow = refl }

module _ (tables : Shapes) (len : ℕ) (b : Base) (small : len ≤ 2 ^ 22) where
  everywhere_passes : (k : ℕ) (known : Known) → IsFresh k known.vectors → IsShaped len b known.vectors → Passes tables (everywhere b) k known (λ all shapes. HasShape shapes all len (out ∷ []))
  everywhere_passes k known fresh h =
      let m = mark_shape len b known.vectors h in
      operator_laws.paired tables (codes "all") pair_kind.Equals (attribute b.vector mark) (attribute b.vector mark) len k known refl fresh small m m tt

  and_passes : ValuePasses → (texts : List Bytes) (at : ℕ → Option DataType) (all : Label) (e : TypedExpr) (k : ℕ) (known : Known) → IsFresh k known.vectors → IsShaped len b known.vectors → HasShape known.vectors all len (out ∷ []) → CanValue at b e
      → Passes tables (and_true texts b all e) k known (λ next shapes. HasShape shapes next len (out ∷ []))
  and_passes values texts at all e k known fresh h ready can =
      let Made : Label → Shapes → Type 0 = λ name shapes. HasShape shapes name len (out ∷ []) in
      compose_laws.bind Label Label tables (value_of texts (codes "where") b e) (λ x. make (codes "all") (pair pair_kind.LogicalAnd (attribute all out) (attribute x out))) k known Made Made
      (values tables texts at (codes "where") len b e refl small can k known fresh h)
      (λ x next between up new made kept.
      operator_laws.paired tables (codes "all") pair_kind.LogicalAnd (attribute all out) (attribute x out) len next between refl new small (still_has k known.vectors between.vectors all len (out ∷ []) fresh kept ready) made tt)

  truths_pass : ValuePasses → (texts : List Bytes) (at : ℕ → Option DataType) (es : List TypedExpr) (all : Label) (k : ℕ) (known : Known) → IsFresh k known.vectors → IsShaped len b known.vectors → HasShape known.vectors all len (out ∷ []) → All (CanValue at b) es
      → Passes tables (through (and_true texts b) all es) k known (λ next shapes. HasShape shapes next len (out ∷ []))
  truths_pass values texts at [] all k known fresh h ready can = compose_laws.tell Label tables all k known (λ next shapes. HasShape shapes next len (out ∷ [])) fresh ready
  truths_pass values texts at (e ∷ es) all k known fresh h ready can =
      let Made : Label → Shapes → Type 0 = λ name shapes. HasShape shapes name len (out ∷ []) in
      compose_laws.bind Label Label tables (and_true texts b all e) (λ next. through (and_true texts b) next es) k known Made Made
      (and_passes values texts at all e k known fresh h ready (All-head (CanValue at b) e es can))
      (λ next n between up new made kept.
      truths_pass values texts at es next n between new (still_has k known.vectors between.vectors b.vector len (paths_of b) fresh kept h) made (All-tail (CanValue at b) e es can))

  -- ---- the rows for which they are true

  pick_passes : (all runs : Label) (k : ℕ) (known : Known) → IsFresh k known.vectors → HasShape known.vectors all len (out ∷ []) → HasShape known.vectors runs len (run ∷ []) → Passes tables (make (codes "pick") (with_attribute runs val all out)) k known (λ pick shapes. HasShape shapes pick len (val ∷ run ∷ []))
  pick_passes all runs k known fresh ready long =
      let above : NoneAbove known.vectors runs val = none_above_one known.vectors runs (codes "val") (codes "run") len [] refl long in
      operator_laws.upsert tables (codes "pick") runs val all out len (run ∷ []) len k known refl fresh attribute_val small long ready above (All-cons (λ r. is_at_or_below r val ≡ false) run [] refl (All-nil (λ r. is_at_or_below r val ≡ false)))

  places_pass : (select : Control) (all : Label) (k : ℕ) (known : Known) → IsFresh k known.vectors → HasShape known.vectors b.vector len [] → HasShape known.vectors all len (out ∷ []) → Passes tables (places_of select b.vector all) k known (λ places shapes. HasShape shapes places len (out ∷ []))
  places_pass select all k known fresh h ready =
      let Long : Label → Shapes → Type 0 = λ name shapes. HasShape shapes name len (run ∷ []) in
      let Picked : Label → Shapes → Type 0 = λ name shapes. HasShape shapes name len (val ∷ run ∷ []) in
      let Made : Label → Shapes → Type 0 = λ name shapes. HasShape shapes name len (out ∷ []) in
      let select_op : Label → Writer Label = λ pick. make (codes "places") (fold_of fold.Select (fold_args pick)) in
      let pick_op : Label → Writer Label = λ runs. make (codes "pick") (with_attribute runs val all out) in
      compose_laws.bind Label Label tables (make (codes "runs") (op.Range (size.Of b.vector) run select)) (λ runs. pick_op runs >>= select_op) k known Long Made
      (operator_laws.range tables (codes "runs") (size.Of b.vector) run select len k known refl fresh attribute_run h small)
      (λ runs n between up new long kept.
      compose_laws.bind Label Label tables (pick_op runs) select_op n between Picked Made
      (pick_passes all runs n between new (still_has k known.vectors between.vectors all len (out ∷ []) fresh kept ready) long)
      (λ pick m after more newer picked still.
      operator_laws.fold tables (codes "places") pick fold.Select run len m after refl newer small refl picked))

  abbrev Kept : Base → Shapes → Type 0
  Kept c shapes = IsShaped len c shapes × SamePlaces b c

  selected_passes : (select : Control) (all : Label) (k : ℕ) (known : Known) → IsFresh k known.vectors → IsShaped len b known.vectors → HasShape known.vectors all len (out ∷ []) → Passes tables (selected select b all) k known Kept
  selected_passes select all k known fresh h ready =
      let Made : Label → Shapes → Type 0 = λ name shapes. HasShape shapes name len (out ∷ []) in
      let Rows : Label → Shapes → Type 0 = λ name shapes. HasShape shapes name len (paths_of b) in
      let bare : HasShape known.vectors b.vector len [] = record { outline = h.outline; known = h.known; len_is = h.len_is; clear = h.clear; shallow = h.shallow; each = All-nil (λ q. has_name h.outline.paths q ≡ true) } in
      let rows_op : Label → Writer Label = λ places. make (codes "rows") (at_places b.vector places) in
      compose_laws.bind Label Base tables (places_of select b.vector all) (λ places. rows_op places >>= λ rows. tell (moved_to rows b)) k known Made Kept (places_pass select all k known fresh bare ready)
      (λ places n between up new made kept.
      compose_laws.bind Label Base tables (rows_op places) (λ rows. tell (moved_to rows b)) n between Rows Kept
      (operator_laws.gather tables (codes "rows") b.vector places out len len (paths_of b) n between refl new small (still_has k known.vectors between.vectors b.vector len (paths_of b) fresh kept h) made)
      (λ rows m after more newer shaped still. compose_laws.tell Base tables (moved_to rows b) m after Kept newer (shaped, record { columns = refl; aggregates = refl })))

  kept_pass : ValuePasses → (select : Control) (texts : List Bytes) (at : ℕ → Option DataType) (es : List TypedExpr) (k : ℕ) (known : Known) → All (CanValue at b) es → IsFresh k known.vectors → IsShaped len b known.vectors → Passes tables (lowered.kept select texts b es) k known Kept
  kept_pass values select texts at [] k known can fresh h = compose_laws.tell Base tables b k known Kept fresh (h, record { columns = refl; aggregates = refl })
  kept_pass values select texts at (e ∷ es) k known can fresh h =
      let Made : Label → Shapes → Type 0 = λ name shapes. HasShape shapes name len (out ∷ []) in
      compose_laws.bind Label Base tables (everywhere b) (λ all. through (and_true texts b) all (e ∷ es) >>= selected select b) k known Made Kept (everywhere_passes k known fresh h)
      (λ all n between up new made kept.
      let here = still_has k known.vectors between.vectors b.vector len (paths_of b) fresh kept h in
      compose_laws.bind Label Base tables (through (and_true texts b) all (e ∷ es)) (selected select b) n between Made Kept (truths_pass values texts at (e ∷ es) all n between new here made can)
      (λ truth m after more newer holds still.
      selected_passes select truth m after newer (still_has n between.vectors after.vectors b.vector len (paths_of b) new still here) holds))

pub kept_passes : ValuePasses → KeptPasses
kept_passes values tables select texts at len b es small can k known fresh h = kept_pass tables len b small values select texts at es k known can fresh h
