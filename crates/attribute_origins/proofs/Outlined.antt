-- In a program that passes its check the vectors have the lengths and the paths that the check finds.
use Rattle.std.proofs.Common.{◌≡◌, ℕ, Bool, true, false, not, ◌||◌, List, [], ◌∷◌, map, refl, sym, ap, ◌∙◌, if◌then◌else◌, Option, Some, None, is_some, Ok, Err}
use Rattle.std.specs.Prelude.{filter, option_map}
use Rattle.std.specs.Str.{bytes_eq}
use Rattle.std.proofs.Math.Path.{fun_ext}
use Rattle.std.proofs.lemmas.Bool.{false≢true}
use Rattle.key_paths.specs.Substructures.{is_at_or_below, is_before}
use Rattle.programs.specs.declared.op.Op.{Op}
use Rattle.programs.specs.declared.op.Statement.{Statement}
use Rattle.programs.specs.declared.op.ProgramKind.{ProgramKind}
use Rattle.programs.specs.Families.{Family, family, Zip, Project, Upsert}
use Rattle.programs.specs.Check.{Known, Checked, with_result, with_vector, fault_of, after_fault, then_check, learn, check_one, check_from, at_start}
use Rattle.programs.specs.Faults.{lacks_by, no_such_path}
use Rattle.programs.specs.MadeOutlines.{made_by, made_outline}
use Rattle.programs.specs.Mentions.{Label, is_persist, has_name}
use Rattle.programs.specs.Merges.{merged}
use Rattle.programs.specs.Moves.{moved, others, projected}
use Rattle.programs.specs.Outlines.{Outline, outlined, known_outline, Shapes, add_shape, paths_in}
use Rattle.programs.proofs.CheckSteps.{Sound, sound_of}
use Rattle.attribute_origins.specs.Traces as spec
use Rattle.attribute_origins.specs.Traces.{Trace, Traced, Traces, no_traces, add_traced, known_traces, traces_in, outline_of, shapes_of, trace_at, traces_below, handed, all_handed, upserted, zipped}
use Rattle.attribute_origins.specs.Origins.{own_trace, traces_by, traced, trace_one, traces_from, traces_of, found, attribute_of}
use Rattle.attribute_origins.proofs.Listed.{merged_map, filter_map, map_twice, map_itself}

-- ---- the paths of traces

abbrev pub paths_of : List Trace → List Label
paths_of traces = map (λ t. t.path) traces

-- those of a vector by name are the paths of its outline
pub known_paths : (v : Option Traced) → paths_of (known_traces v) ≡ (known_outline (option_map outline_of v)).paths
known_paths None = refl
known_paths (Some v) = refl

pub paths_known : (made : Traces) (a : Label) → paths_of (traces_in made a) ≡ paths_in (shapes_of made) a
paths_known made a = known_paths (made a)

pub own_paths : (made : Traces) (n : Label) (f : Family) (o : Outline) → paths_of (map (own_trace made n f o.len) o.paths) ≡ o.paths
own_paths made n f o = map_twice (λ (t : Trace). t.path) (own_trace made n f o.len) o.paths ∙ map_itself o.paths

-- an attribute that is there has a trace
pub named_traced : (traces : List Trace) (p : Label) → has_name (paths_of traces) p ≡ true → is_some (trace_at traces p) ≡ true
named_traced [] p e = absurd (false≢true e)
named_traced (t ∷ rest) p e = by (bytes_eq t.path p) e (λ h. named_traced rest p h)
  where
    by : (b : Bool) → (b || has_name (paths_of rest) p) ≡ true → (has_name (paths_of rest) p ≡ true → is_some (trace_at rest p) ≡ true) → is_some (if b then Some t else trace_at rest p) ≡ true
    by true h more = refl
    by false h more = more h

-- ---- the outline of what a statement makes

upserted_paths : (len : ℕ) (p : Label) (traces : List Trace) (t : Trace) → paths_of (upserted len p traces (Some t)) ≡ merged is_before (p ∷ []) (others p (paths_of traces))
upserted_paths len p traces t =
    merged_map (λ (t : Trace). t.path) is_before (handed len p t ∷ []) (all_handed len (filter (λ t. not (is_at_or_below t.path p)) traces))
    ∙ ap (merged is_before (p ∷ [])) (map_twice (λ (t : Trace). t.path) (λ t. handed len t.path t) (filter (λ t. not (is_at_or_below t.path p)) traces) ∙ filter_map (λ (t : Trace). t.path) (λ x. not (is_at_or_below x p)) traces)

upserted_known : (len : ℕ) (p : Label) (traces : List Trace) (new : Option Trace) → is_some new ≡ true → paths_of (upserted len p traces new) ≡ merged is_before (p ∷ []) (others p (paths_of traces))
upserted_known len p traces None e = absurd (false≢true e)
upserted_known len p traces (Some t) e = upserted_paths len p traces t

not_false : (b : Bool) → not b ≡ false → b ≡ true
not_false true e = refl
not_false false e = absurd cc

zipped_paths : (len : ℕ) (xs ys : List Trace) → paths_of (zipped len xs ys) ≡ merged is_before (paths_of xs) (paths_of ys)
zipped_paths len xs ys =
    merged_map (λ (t : Trace). t.path) is_before (all_handed len xs) (all_handed len ys)
    ∙ ap (λ l. merged is_before l (paths_of (all_handed len ys))) (map_twice (λ (t : Trace). t.path) (λ t. handed len t.path t) xs)
    ∙ ap (merged is_before (paths_of xs)) (map_twice (λ (t : Trace). t.path) (λ t. handed len t.path t) ys)

projected_paths : (len : ℕ) (p q : Label) (traces : List Trace) → paths_of (spec.projected len p q traces) ≡ projected p q (paths_of traces)
projected_paths len p q traces =
    map_twice (λ (t : Trace). t.path) (λ t. handed len (moved p q t.path) t) (traces_below traces p)
    ∙ sym (map_twice (moved p q) (λ (t : Trace). t.path) (traces_below traces p))
    ∙ ap (map (moved p q)) (filter_map (λ (t : Trace). t.path) (λ x. is_at_or_below x p) traces)

by_paths : (tables : Shapes) (made : Traces) (n : Label) (f : Family) → lacks_by (shapes_of made) f ≡ false → paths_of (traces_by made n f (made_by tables (shapes_of made) f)) ≡ (made_by tables (shapes_of made) f).paths
by_paths tables made n (Zip a b) e =
    zipped_paths _ (traces_in made a) (traces_in made b) ∙ ap (λ l. merged is_before l (paths_of (traces_in made b))) (paths_known made a) ∙ ap (merged is_before (paths_in (shapes_of made) a)) (paths_known made b)
by_paths tables made n (Project a p q) e = projected_paths _ p q (traces_in made a) ∙ ap (projected p q) (paths_known made a)
by_paths tables made n (Upsert a p b q) e =
    let named : has_name (paths_of (traces_in made b)) q ≡ true = ap (λ l. has_name l q) (paths_known made b) ∙ not_false (has_name (paths_in (shapes_of made) b) q) e in
    upserted_known _ p (traces_in made a) (trace_at (traces_in made b) q) (named_traced (traces_in made b) q named) ∙ ap (λ l. merged is_before (p ∷ []) (others p l)) (paths_known made a)
by_paths tables made n f e = own_paths made n f (made_by tables (shapes_of made) f)

pub traced_outline : (tables : Shapes) (made : Traces) (n : Label) (op : Op) → no_such_path (shapes_of made) op ≡ false → outline_of (traced tables made n op) ≡ made_outline tables (shapes_of made) op
traced_outline tables made n op e = ap (outlined (made_outline tables (shapes_of made) op).len) (by_paths tables made n (family op) e)

-- ---- statement by statement

shapes_added : (made : Traces) (n : Label) (v : Traced) → shapes_of (add_traced made n v) ≡ add_shape (shapes_of made) n (outline_of v)
shapes_added made n v = fun_ext (λ m. by m (bytes_eq n m))
  where
    by : (m : Label) (b : Bool) → option_map outline_of (if b then Some v else made m) ≡ (if b then Some (outline_of v) else option_map outline_of (made m))
    by m true = refl
    by m false = refl

-- behind a statement that is no fault
one_outline : (tables : Shapes) (made : Traces) (known : Known) (n : Label) (op : Op) → shapes_of made ≡ known.vectors → no_such_path known.vectors op ≡ false → shapes_of (trace_one tables made n op) ≡ (learn tables known n op).vectors
one_outline tables made known n op same paths = by (is_persist op)
  where
    outline : outline_of (traced tables made n op) ≡ made_outline tables known.vectors op
    outline = traced_outline tables made n op (ap (λ (s : Shapes). no_such_path s op) same ∙ paths) ∙ ap (λ (s : Shapes). made_outline tables s op) same

    by : (b : Bool) → shapes_of (if b then made else add_traced made n (traced tables made n op)) ≡ (if b then with_result known n else with_vector known n (made_outline tables known.vectors op)).vectors
    by true = same
    by false = shapes_added made n (traced tables made n op) ∙ ap (λ (s : Shapes). add_shape s n (outline_of (traced tables made n op))) same ∙ ap (add_shape known.vectors n) outline

-- a check that passes one statement has found no fault in it
pub record Passed (tables : Shapes) (known next : Known) (n : Label) (op : Op) : Type 0 where
  pub sound : Sound tables known n op
  pub is : next ≡ learn tables known n op

pub passed : (tables : Shapes) (known next : Known) (n : Label) (op : Op) → check_one tables known n op ≡ Ok next → Passed tables known next n op
passed tables known next n op e = by (fault_of tables known n op) refl e
  where
    by : (o : Option ProgramKind) → fault_of tables known n op ≡ o → after_fault known (learn tables known n op) o ≡ Ok next → Passed tables known next n op
    by None is h = record { sound = sound_of tables known n op is; is = cc }
    by (Some kind) is h = absurd cc

-- a check that passes some statements has passed the first of them
pub record Goes (tables : Shapes) (known after : Known) (n : Label) (op : Op) (rest : List Statement) : Type 0 where
  pub next : Known
  pub one : Passed tables known next n op
  pub more : check_from tables rest next ≡ Ok after

pub goes : (tables : Shapes) (known after : Known) (s : Statement) (rest : List Statement) → check_from tables (s ∷ rest) known ≡ Ok after → Goes tables known after s.name s.op rest
goes tables known after s rest e = by (check_one tables known s.name s.op) refl e
  where
    by : (r : Checked) → check_one tables known s.name s.op ≡ r → then_check r (check_from tables rest) ≡ Ok after → Goes tables known after s.name s.op rest
    by (Err o) is h = absurd cc
    by (Ok next) is h = record { next = next; one = passed tables known next s.name s.op is; more = h }

pub one_known : (tables : Shapes) (made : Traces) (known next : Known) (n : Label) (op : Op) → shapes_of made ≡ known.vectors → Passed tables known next n op → shapes_of (trace_one tables made n op) ≡ next.vectors
one_known tables made known next n op same p = one_outline tables made known n op same p.sound.paths ∙ ap (λ (k : Known). k.vectors) (sym p.is)

outlines_from : (tables : Shapes) (a : List Statement) (made : Traces) (known after : Known) → shapes_of made ≡ known.vectors → check_from tables a known ≡ Ok after → shapes_of (traces_from tables a made) ≡ after.vectors
outlines_from tables [] made known after same e = let is : known ≡ after = cc in same ∙ ap (λ (k : Known). k.vectors) is
outlines_from tables (s ∷ a) made known after same e =
    let g = goes tables known after s a e in
    outlines_from tables a (trace_one tables made s.name s.op) g.next after (one_known tables made known g.next s.name s.op same g.one) g.more

pub outlines : (tables : Shapes) (program : List Statement) (known : Known) → check_from tables program at_start ≡ Ok known → shapes_of (traces_of tables program) ≡ known.vectors
outlines tables program known e = outlines_from tables program no_traces at_start known refl e

-- ---- each attribute has a trace

found_known : (v : Option Traced) (p : Label) → has_name (known_outline (option_map outline_of v)).paths p ≡ true → is_some (found v p) ≡ true
found_known None p e = absurd (false≢true e)
found_known (Some v) p e = named_traced v.traces p e

pub has_trace : (tables : Shapes) (program : List Statement) (known : Known) (a p : Label) → check_from tables program at_start ≡ Ok known → has_name (paths_in known.vectors a) p ≡ true → is_some (attribute_of (traces_of tables program) a p) ≡ true
has_trace tables program known a p e h = found_known (traces_of tables program a) p (ap (λ (s : Shapes). has_name (paths_in s a) p) (outlines tables program known e) ∙ h)
