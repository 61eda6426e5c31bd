-- Without group columns all rows are one run, that of a Range whose values are all 0.
use Rattle.std.proofs.Common.{◌≡◌, ℕ, ◌/◌, pos, ◌+ℤ◌, Bool, true, false, ◌&&◌, List, [], ◌∷◌, map, refl, ap, ◌∙◌, if◌then◌else◌, codes, Some, None, mul-zero}
use Rattle.std.specs.Prelude.{option_and_then}
use Rattle.std.specs.List.{list_all, range_with_len}
use Rattle.std.specs.Ordering.{int_eq}
use Rattle.std.proofs.lemmas.Bool.{eq-eqb}
use Rattle.std.proofs.lemmas.List.Elements.{All-nil, All-cons}
use Rattle.control_vectors.specs.Controls.{Control, control_at}
use Rattle.control_vectors.specs.declared.PairKind.TheVariants as pair
use Rattle.key_paths.specs.Substructures.{is_at_or_below}
use Rattle.programs.specs.declared.op.Op.TheVariants as op
use Rattle.programs.specs.declared.op.Size.TheVariants as size
use Rattle.programs.specs.Families.{family}
use Rattle.programs.specs.Mentions.{Label}
use Rattle.programs.specs.Outlines.{Shapes}
use Rattle.program_writers.specs.Names.{is_word}
use Rattle.program_writers.specs.Statements.{out, mark, val, run, zeros, ones, attribute}
use Rattle.program_writers.specs.Writers.{tell, ◌>>=◌, make}
use Rattle.plan_programs.specs.Groups.{nought_at, one_place, one_run, one_group, as_one}
use Rattle.plan_programs.specs.Sites.{Base, marked_alone}
use Rattle.attribute_origins.specs.Traces.{Origin, Trace, Traced, Traces}
use Rattle.attribute_origins.specs.Origins.{traced}
use Rattle.plan_obeyed.specs.Runs.{numbers_by, all_same, are_groups}
use Rattle.lowered_obeys.proofs.Traced.{Knows, made_as, range_trace, range_traced}
use Rattle.lowered_obeys.proofs.Leaving.{Leaves, knows_still, less_leaves, Each, tells, then_each, MakesIt}
use Rattle.lowered_obeys.proofs.Calm.{Calm, HasOut, plain_leaves, pair_leaves}
use Rattle.lowered_obeys.proofs.Standing.{StandsIn, stands_still}
use Rattle.lowered_obeys.proofs.Folding.{HasRuns, runs_still}

-- ---- a Range of zeros

zero_at : (i : ℕ) → control_at zeros i ≡ pos 0
zero_at i = ap (λ (n : ℕ). pos 0 +ℤ pos (n / 1)) (mul-zero i)

all_of_map : {A B : Type 0} (f : B → Bool) (g : A → B) (xs : List A) → ((x : A) → f (g x) ≡ true) → list_all f (map g xs) ≡ true
all_of_map f g [] each = refl
all_of_map f g (x ∷ xs) each = ap (λ (b : Bool). b && list_all f (map g xs)) (each x) ∙ all_of_map f g xs each

zeros_same : (n : ℕ) → all_same n (Some zeros) ≡ true
zeros_same n = all_of_map (int_eq (pos 0)) (control_at zeros) (range_with_len 0 n) (λ i. ap (int_eq (pos 0)) (zero_at i))

are_one : (final : Traces) (n a : Label) (len : ℕ) (traces : List Trace) → Knows final n (made_as (op.Range (size.Of a) run zeros) len traces) → are_groups final [] len (range_trace n run len zeros ∷ []) ≡ true
are_one final n a len traces e =
    ap (all_same len) (ap (λ (b : Bool). if b then option_and_then (λ v. numbers_by (family v.op)) (final n) else None) (eq-eqb len len refl) ∙ ap (option_and_then (λ v. numbers_by (family v.op))) e) ∙ zeros_same len

module _ (T : Shapes) (select : Control) where
  run_leaves : (vector : Label) (v : Traced) (k : ℕ) (made : Traces) → Knows made vector v → Leaves T (one_run vector) k made (HasRuns []) (Each (Calm select []))
  run_leaves vector v k made e =
      let range = op.Range (size.Of vector) run zeros in
      less_leaves T (make (codes "runs") range) k made (MakesIt k (λ n. traced T made n range)) (HasRuns []) (Each (Calm select [])) (Each (Calm select []))
      (λ name next after le same p.
      let there = p.known ∙ ap (λ (u : Traced). Some u) (range_traced T made name vector run zeros v e) in
      record {
        vector = _;
        known = there;
        below = p.below;
        inside = All-cons (λ t. is_at_or_below t.path run ≡ true) (range_trace name run v.len zeros) [] refl (All-nil (λ t. is_at_or_below t.path run ≡ true));
        beside = All-cons (λ t. is_at_or_below t.path val ≡ false) (range_trace name run v.len zeros) [] refl (All-nil (λ t. is_at_or_below t.path val ≡ false));
        whole = All-cons (λ t. t.reach ≡ v.len) (range_trace name run v.len zeros) [] refl (All-nil (λ t. t.reach ≡ v.len));
        are = λ final again. are_one final name vector v.len _ (knows_still next after final name _ again p.below there);
      }) (λ final l x. x)
      (plain_leaves T select [] (codes "runs") range k made refl refl refl)

  place_leaves : (word p : Label) (c : Control) (k : ℕ) (made : Traces) → is_word word ≡ true → Leaves T (one_place word p c) k made (λ n next after. Unit {0}) (Each (Calm select []))
  place_leaves word p c k made w =
      let range = op.Range (size.Number 1) p c in
      less_leaves T (make word range) k made (MakesIt k (λ n. traced T made n range)) (λ n next after. Unit {0}) (Each (Calm select [])) (Each (Calm select [])) (λ n next after le same h. tt) (λ final l x. x) (plain_leaves T select [] word range k made w refl refl)

  group_leaves : (b : Base) (nought runs : Label) (k : ℕ) (made : Traces) → HasRuns [] runs k made → Leaves T (one_group b nought runs) k made (λ f. HasRuns [] f.runs) (Each (Calm select []))
  group_leaves b nought runs k made h =
      then_each T (Calm select []) (one_place (codes "first") out zeros) (λ first. one_place (codes "groups") mark ones >>= λ groups. nought_at groups >>= λ zero. tell (record { rows = b; nought = nought; runs = runs; first = Some first; groups = marked_alone groups; zero = zero })) k made
      (λ n next after. Unit {0}) (λ f. HasRuns [] f.runs) (place_leaves (codes "first") out zeros k made refl)
      (λ first next between le x same.
      then_each T (Calm select []) (one_place (codes "groups") mark ones) (λ groups. nought_at groups >>= λ zero. tell (record { rows = b; nought = nought; runs = runs; first = Some first; groups = marked_alone groups; zero = zero })) next between
      (λ n next after. Unit {0}) (λ f. HasRuns [] f.runs) (place_leaves (codes "groups") mark ones next between refl)
      (λ groups last after le2 y same2.
      then_each T (Calm select []) (nought_at groups) (λ zero. tell (record { rows = b; nought = nought; runs = runs; first = Some first; groups = marked_alone groups; zero = zero })) last after
      HasOut (λ f. HasRuns [] f.runs) (pair_leaves T select [] (codes "nought") pair.Greater (attribute groups mark) (attribute groups mark) last after refl)
      (λ zero end now le3 z same3.
      tells T (Calm select []) _ end now (λ f. HasRuns [] f.runs) (runs_still [] runs last end after now le3 same3 (runs_still [] runs next last between after le2 same2 (runs_still [] runs k next made between le same h))))))

  pub one_leaves : (m : ℕ) (place : _ → Origin) (b : Base) (k : ℕ) (made : Traces) → StandsIn m place b k made → Leaves T (as_one b) k made (λ f. HasRuns [] f.runs) (Each (Calm select []))
  one_leaves m place b k made h =
      then_each T (Calm select []) (nought_at b.vector) (λ nought. one_run b.vector >>= λ runs. one_group b nought runs) k made HasOut (λ f. HasRuns [] f.runs)
      (pair_leaves T select [] (codes "nought") pair.Greater (attribute b.vector mark) (attribute b.vector mark) k made refl)
      (λ nought next between le x same.
      let g = stands_still m place b k next made between le same h in
      then_each T (Calm select []) (one_run b.vector) (λ runs. one_group b nought runs) next between (HasRuns []) (λ f. HasRuns [] f.runs) (run_leaves b.vector g.vector next between g.known)
      (λ runs last after le2 y same2. group_leaves b nought runs last after y))
