-- In a program that passes its check each trace leads back to where its attribute was made.
use Rattle.std.proofs.Common.{◌≡◌, ℕ, Bool, true, false, not, List, [], ◌∷◌, map, get_or, refl, sym, ap, ◌∙◌, subst, arith, if◌then◌else◌, Option, Some, None, is_some, Ok, option_to_list}
use Rattle.std.specs.Prelude.{All, filter, option_map}
use Rattle.std.specs.Str.{bytes_eq}
use Rattle.std.proofs.lemmas.List.Elements.{All-nil, All-cons, All-head, All-tail, All-filter}
use Rattle.std.proofs.lemmas.Slice.Eq.{bytes_eq-Decides}
use Rattle.key_paths.specs.Substructures.{is_at_or_below}
use Rattle.programs.specs.declared.op.Op.{Op}
use Rattle.programs.specs.declared.op.Statement.{Statement}
use Rattle.programs.specs.Families.{Family, family, Zip, Project, Upsert}
use Rattle.programs.specs.Check.{Known, name_twice, check_from, at_start}
use Rattle.programs.specs.Mentions.{Label, is_persist}
use Rattle.programs.specs.Moves.{moved}
use Rattle.programs.specs.MadeOutlines.{made_outline}
use Rattle.programs.specs.Outlines.{Outline, Shapes}
use Rattle.attribute_origins.specs.Traces.{Trace, Traced, Traces, no_traces, add_traced, known_traces, traces_in, outline_of, shapes_of, trace_at, traces_below, handed, comes_before}
use Rattle.attribute_origins.specs.Origins.{own_trace, own_traces, traces_by, traced_as, traced, trace_one, traces_from, traces_of}
use Rattle.attribute_origins.specs.Laws.{hands_on, LeadsBack}
use Rattle.attribute_origins.proofs.Listed.{merged_all}
use Rattle.attribute_origins.proofs.Composing.{add_traced-other}
use Rattle.attribute_origins.proofs.Outlined.{goes, one_known}

-- ---- what is handed on leads back where it did before

pub handed_leads : (made : Traces) (len : ℕ) (p : Label) (t : Trace) → LeadsBack made t → LeadsBack made (handed len p t)
handed_leads made len p t h = record { vector = h.vector; known = h.known; makes = h.makes; own = h.own; there = h.there; itself = h.itself; control = h.control; root = h.root; whole = h.whole; reach = let r = h.reach in omega arith }

all_handed_lead : (made : Traces) (len : ℕ) (under : Trace → Label) (traces : List Trace) → All (LeadsBack made) traces → All (LeadsBack made) (map (λ t. handed len (under t) t) traces)
all_handed_lead made len under [] each = All-nil (LeadsBack made)
all_handed_lead made len under (t ∷ traces) each =
    All-cons (LeadsBack made) (handed len (under t) t) _ (handed_leads made len (under t) t (All-head (LeadsBack made) t traces each)) (all_handed_lead made len under traces (All-tail (LeadsBack made) t traces each))

found_all : (P : Trace → Type 0) (traces : List Trace) (p : Label) → All P traces → All P (option_to_list (trace_at traces p))
found_all P [] p each = All-nil P
found_all P (t ∷ traces) p each = by (bytes_eq t.path p) (found_all P traces p (All-tail P t traces each))
  where
    by : (b : Bool) → All P (option_to_list (trace_at traces p)) → All P (option_to_list (if b then Some t else trace_at traces p))
    by true h = All-cons P t [] (All-head P t traces each) (All-nil P)
    by false h = h

-- ---- what a statement makes leads to itself

own_found : (own : Label → Trace) → ((p : Label) → (own p).path ≡ p) → (x : Label) (paths : List Label) (p : Label) → trace_at (map own paths) p ≡ Some (own p) → trace_at (map own (x ∷ paths)) p ≡ Some (own p)
own_found own same x paths p h = by (bytes_eq (own x).path p) refl
  where
    by : (b : Bool) → bytes_eq (own x).path p ≡ b → (if b then Some (own x) else trace_at (map own paths) p) ≡ Some (own p)
    by true e = ap (λ q. Some (own q)) (sym (same x) ∙ (bytes_eq-Decides (own x).path p).0 e)
    by false e = h

own_first : (own : Label → Trace) → ((p : Label) → (own p).path ≡ p) → (p : Label) (paths : List Label) → trace_at (map own (p ∷ paths)) p ≡ Some (own p)
own_first own same p paths = ap (λ (b : Bool). if b then Some (own p) else trace_at (map own paths) p) ((bytes_eq-Decides (own p).path p).1 (same p))

pub all_found : (own : Label → Trace) → ((p : Label) → (own p).path ≡ p) → (paths : List Label) → All (λ p. trace_at (map own paths) p ≡ Some (own p)) paths
all_found own same [] = All-nil (λ p. trace_at (map own []) p ≡ Some (own p))
all_found own same (x ∷ paths) =
    All-cons (λ p. trace_at (map own (x ∷ paths)) p ≡ Some (own p)) x paths (own_first own same x paths) (λ i d l. own_found own same x paths _ (all_found own same paths i d l))

all_own : (P : Trace → Type 0) (own : Label → Trace) (paths : List Label) → All (λ p. P (own p)) paths → All P (map own paths)
all_own P own [] each = All-nil P
all_own P own (p ∷ paths) each = All-cons P (own p) (map own paths) (All-head (λ p. P (own p)) p paths each) (all_own P own paths (All-tail (λ p. P (own p)) p paths each))

pub add_traced-same : (made : Traces) (n : Label) (v : Traced) → add_traced made n v n ≡ Some v
add_traced-same made n v = ap (λ (b : Bool). if b then Some v else made n) ((bytes_eq-Decides n n).1 refl)

module _ (made : Traces) (n : Label) (op : Op) (o : Outline) where
  behind : Traces
  behind = add_traced made n (traced_as made n op o)

  own : Label → Trace
  own = own_trace made n (family op) o.len

  own_leads : hands_on (family op) ≡ false → traces_by made n (family op) o ≡ own_traces made n (family op) o → All (LeadsBack behind) (own_traces made n (family op) o)
  unfolding behind own
  own_leads makes is =
      all_own (LeadsBack behind) own o.paths (λ i d l. record {
        vector = traced_as made n op o;
        known = add_traced-same made n (traced_as made n op o);
        makes = makes;
        own = own (get_or o.paths i d);
        there = ap (λ (traces : List Trace). trace_at traces (get_or o.paths i d)) is ∙ all_found own (λ p. refl) o.paths i d l;
        itself = refl;
        control = refl;
        root = refl;
        whole = refl;
        reach = omega arith;
      })

  handed_on : All (LeadsBack made) (traces_by made n (family op) o) → ((t : Trace) → LeadsBack made t → LeadsBack behind t) → All (LeadsBack behind) (traces_by made n (family op) o)
  handed_on each later i d l = later (get_or (traces_by made n (family op) o) i d) (each i d l)

-- ---- statement by statement

AreLeading : Traces → Type 0
AreLeading made = (m : Label) (v : Traced) → made m ≡ Some v → All (LeadsBack made) v.traces

known_lead : (P : Trace → Type 0) (v : Option Traced) → ((u : Traced) → v ≡ Some u → All P u.traces) → All P (known_traces v)
known_lead P None each = All-nil P
known_lead P (Some u) each = each u refl

traces_lead : (made : Traces) (a : Label) → AreLeading made → All (LeadsBack made) (traces_in made a)
unfolding AreLeading
traces_lead made a h = known_lead (LeadsBack made) (made a) (λ u e. h a u e)

later_leads : (made : Traces) (n : Label) (v : Traced) → made n ≡ None → (t : Trace) → LeadsBack made t → LeadsBack (add_traced made n v) t
later_leads made n v new t h = record { vector = h.vector; known = add_traced-other made n t.origin.vector v (other (bytes_eq n t.origin.vector) refl) ∙ h.known; makes = h.makes; own = h.own; there = h.there; itself = h.itself; control = h.control; root = h.root; whole = h.whole; reach = h.reach }
  where
    other : (b : Bool) → bytes_eq n t.origin.vector ≡ b → bytes_eq n t.origin.vector ≡ false
    other false e = e
    other true e = let same : made n ≡ Some h.vector = ap made ((bytes_eq-Decides n t.origin.vector).0 e) ∙ h.known in absurd cc

-- what an operator makes is its own, or what it hands on leads back
own_by : (made : Traces) (n : Label) (f : Family) (o : Outline) → hands_on f ≡ false → traces_by made n f o ≡ own_traces made n f o
own_by made n (Zip a b) o e = absurd cc
own_by made n (Project a p q) o e = absurd cc
own_by made n (Upsert a p b q) o e = absurd cc
own_by made n f o e = refl

handed_by : (made : Traces) (n : Label) (f : Family) (o : Outline) → hands_on f ≡ true → AreLeading made → All (LeadsBack made) (traces_by made n f o)
handed_by made n (Zip a b) o e h =
    merged_all (LeadsBack made) comes_before _ _ (all_handed_lead made o.len (λ t. t.path) (traces_in made a) (traces_lead made a h)) (all_handed_lead made o.len (λ t. t.path) (traces_in made b) (traces_lead made b h))
handed_by made n (Project a p q) o e h =
    all_handed_lead made o.len (λ t. moved p q t.path) (traces_below (traces_in made a) p) (All-filter (λ (t : Trace). is_at_or_below t.path p) (LeadsBack made) (traces_in made a) (traces_lead made a h))
handed_by made n (Upsert a p b q) o e h =
    merged_all (LeadsBack made) comes_before _ _ (all_handed_lead made o.len (λ t. p) (option_to_list (trace_at (traces_in made b) q)) (found_all (LeadsBack made) (traces_in made b) q (traces_lead made b h)))
    (all_handed_lead made o.len (λ t. t.path) (filter (λ t. not (is_at_or_below t.path p)) (traces_in made a)) (All-filter (λ (t : Trace). not (is_at_or_below t.path p)) (LeadsBack made) (traces_in made a) (traces_lead made a h)))
handed_by made n f o e h = absurd cc

op_leads : (made : Traces) (n : Label) (op : Op) (o : Outline) → made n ≡ None → AreLeading made → All (LeadsBack (add_traced made n (traced_as made n op o))) (traces_by made n (family op) o)
unfolding behind
op_leads made n op o new h = by (hands_on (family op)) refl
  where
    by : (b : Bool) → hands_on (family op) ≡ b → All (LeadsBack (add_traced made n (traced_as made n op o))) (traces_by made n (family op) o)
    by true e = handed_on made n op o (handed_by made n (family op) o e h) (later_leads made n (traced_as made n op o) new)
    by false e = subst (All (LeadsBack (add_traced made n (traced_as made n op o)))) (sym (own_by made n (family op) o e)) (own_leads made n op o e (own_by made n (family op) o e))

-- a statement that makes a vector of a new name
add_leads : (made : Traces) (n : Label) (v : Traced) → made n ≡ None → AreLeading made → All (LeadsBack (add_traced made n v)) v.traces → AreLeading (add_traced made n v)
unfolding AreLeading
add_leads made n v new h here m u e = by (bytes_eq n m) e
  where
    by : (b : Bool) → (if b then Some v else made m) ≡ Some u → All (LeadsBack (add_traced made n v)) u.traces
    by true g = let same : v ≡ u = cc in subst (λ (w : Traced). All (LeadsBack (add_traced made n v)) w.traces) same here
    by false g = λ i d l. later_leads made n v new (get_or u.traces i d) (h m u g i d l)

one_leads : (tables : Shapes) (made : Traces) (n : Label) (op : Op) → (is_persist op ≡ false → made n ≡ None) → AreLeading made → AreLeading (trace_one tables made n op)
one_leads tables made n op new h = by (is_persist op) refl
  where
    by : (b : Bool) → is_persist op ≡ b → AreLeading (if b then made else add_traced made n (traced tables made n op))
    by true e = h
    by false e = add_leads made n (traced tables made n op) (new e) h (op_leads made n op (made_outline tables (shapes_of made) op) (new e) h)

-- a new name, by the check
no_outline : (v : Option Traced) → is_some (option_map outline_of v) ≡ false → v ≡ None
no_outline None e = refl
no_outline (Some v) e = absurd cc

is_new : (made : Traces) (known : Known) (n : Label) (op : Op) → shapes_of made ≡ known.vectors → name_twice known n op ≡ false → is_persist op ≡ false → made n ≡ None
is_new made known n op same once shows =
    no_outline (made n) (ap (λ (s : Shapes). is_some (s n)) same ∙ sym (ap (λ (b : Bool). if b then known.results n else is_some (known.vectors n)) shows) ∙ once)

leads_from : (tables : Shapes) (a : List Statement) (made : Traces) (known after : Known) → shapes_of made ≡ known.vectors → check_from tables a known ≡ Ok after → AreLeading made → AreLeading (traces_from tables a made)
leads_from tables [] made known after same e h = h
leads_from tables (s ∷ a) made known after same e h =
    let g = goes tables known after s a e in
    leads_from tables a (trace_one tables made s.name s.op) g.next after (one_known tables made known g.next s.name s.op same g.one) g.more (one_leads tables made s.name s.op (is_new made known s.name s.op same g.one.sound.once) h)

pub origins : (tables : Shapes) (program : List Statement) (known : Known) (n : Label) (v : Traced) → check_from tables program at_start ≡ Ok known → traces_of tables program n ≡ Some v → All (LeadsBack (traces_of tables program)) v.traces
unfolding AreLeading
origins tables program known n v e is = leads_from tables program no_traces at_start known refl e (λ m u h. absurd cc) n v is
