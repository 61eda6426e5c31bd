-- One attribute more in a vector: it is found there, and so are those that are not at or below its path.
use Rattle.std.proofs.Common.{◌≡◌, ℕ, Bool, true, false, not, ◌||◌, List, [], ◌∷◌, refl, sym, ap, ◌∙◌, if◌then◌else◌, Option, Some, None}
use Rattle.std.specs.Prelude.{filter}
use Rattle.std.specs.List.{list_any}
use Rattle.std.specs.Str.{bytes_eq}
use Rattle.std.proofs.lemmas.Bool.{false≢true}
use Rattle.std.proofs.lemmas.Slice.Eq.{bytes_eq-Decides}
use Rattle.key_paths.specs.Substructures.{is_at_or_below}
use Rattle.key_paths.proofs.Orders.{at_or_below_itself}
use Rattle.programs.specs.Mentions.{Label}
use Rattle.programs.specs.Merges.{merged}
use Rattle.attribute_origins.specs.Traces.{Trace, trace_at, traces_below, handed, all_handed, comes_before, upserted}
use Rattle.attribute_origins.proofs.Listed.{filter_map}

-- ---- an item entered among others

pub entered_filter : {A : Type 0} (f : A → Bool) (before : A → A → Bool) (x : A) (ys : List A) → f x ≡ false → filter f (merged before (x ∷ []) ys) ≡ filter f ys
entered_filter f before x [] e = ap (λ (b : Bool). if b then x ∷ [] else []) e
entered_filter f before x (y ∷ ys) e = by (before y x) (entered_filter f before x ys e)
  where
    by : (b : Bool) → filter f (merged before (x ∷ []) ys) ≡ filter f ys → filter f (if b then y ∷ merged before (x ∷ []) ys else x ∷ y ∷ ys) ≡ filter f (y ∷ ys)
    by true h = ap (λ (l : List _). if f y then y ∷ l else l) h
    by false h = ap (λ (b : Bool). if b then x ∷ filter f (y ∷ ys) else filter f (y ∷ ys)) e

or_swap : (a b c : Bool) → (a || (b || c)) ≡ (b || (a || c))
or_swap true true c = refl
or_swap true false c = refl
or_swap false b c = refl

pub entered_any : {A : Type 0} (f : A → Bool) (before : A → A → Bool) (x : A) (ys : List A) → list_any f (merged before (x ∷ []) ys) ≡ (f x || list_any f ys)
entered_any f before x [] = refl
entered_any f before x (y ∷ ys) = by (before y x) (entered_any f before x ys)
  where
    by : (b : Bool) → list_any f (merged before (x ∷ []) ys) ≡ (f x || list_any f ys) → list_any f (if b then y ∷ merged before (x ∷ []) ys else x ∷ y ∷ ys) ≡ (f x || (f y || list_any f ys))
    by true h = ap (λ (b : Bool). f y || b) h ∙ or_swap (f y) (f x) (list_any f ys)
    by false h = refl

-- ---- an attribute that is found

entered_other : (before : Trace → Trace → Bool) (x : Trace) (ys : List Trace) (q : Label) → bytes_eq x.path q ≡ false → trace_at (merged before (x ∷ []) ys) q ≡ trace_at ys q
entered_other before x [] q e = ap (λ (b : Bool). if b then Some x else None) e
entered_other before x (y ∷ ys) q e = by (before y x) (entered_other before x ys q e)
  where
    by : (b : Bool) → trace_at (merged before (x ∷ []) ys) q ≡ trace_at ys q → trace_at (if b then y ∷ merged before (x ∷ []) ys else x ∷ y ∷ ys) q ≡ trace_at (y ∷ ys) q
    by true h = ap (λ (o : Option Trace). if bytes_eq y.path q then Some y else o) h
    by false h = ap (λ (b : Bool). if b then Some x else trace_at (y ∷ ys) q) e

if_none : (b : Bool) (t : Trace) (o : Option Trace) → (if b then Some t else o) ≡ None → (b ≡ false) × (o ≡ None)
if_none true t o e = absurd cc
if_none false t o e = (refl, e)

entered_itself : (before : Trace → Trace → Bool) (x : Trace) (ys : List Trace) → trace_at ys x.path ≡ None → trace_at (merged before (x ∷ []) ys) x.path ≡ Some x
entered_itself before x [] e = ap (λ (b : Bool). if b then Some x else None) ((bytes_eq-Decides x.path x.path).1 refl)
entered_itself before x (y ∷ ys) e = by (before y x) (if_none (bytes_eq y.path x.path) y (trace_at ys x.path) e).0 (entered_itself before x ys (if_none (bytes_eq y.path x.path) y (trace_at ys x.path) e).1)
  where
    by : (b : Bool) → bytes_eq y.path x.path ≡ false → trace_at (merged before (x ∷ []) ys) x.path ≡ Some x → trace_at (if b then y ∷ merged before (x ∷ []) ys else x ∷ y ∷ ys) x.path ≡ Some x
    by true f h = ap (λ (b : Bool). if b then Some y else trace_at (merged before (x ∷ []) ys) x.path) f ∙ h
    by false f h = ap (λ (b : Bool). if b then Some x else trace_at (y ∷ ys) x.path) ((bytes_eq-Decides x.path x.path).1 refl)

handed_found : (len : ℕ) (traces : List Trace) (q : Label) (t : Trace) → trace_at traces q ≡ Some t → trace_at (all_handed len traces) q ≡ Some (handed len t.path t)
handed_found len [] q t h = absurd cc
handed_found len (u ∷ traces) q t h = by (bytes_eq u.path q) h (λ g. handed_found len traces q t g)
  where
    by : (b : Bool) → (if b then Some u else trace_at traces q) ≡ Some t → (trace_at traces q ≡ Some t → trace_at (all_handed len traces) q ≡ Some (handed len t.path t)) → (if b then Some (handed len u.path u) else trace_at (all_handed len traces) q) ≡ Some (handed len t.path t)
    by true g more = let same : u ≡ t = cc in ap (λ (x : Trace). Some (handed len x.path x)) same
    by false g more = more g

handed_none : (len : ℕ) (traces : List Trace) (q : Label) → trace_at traces q ≡ None → trace_at (all_handed len traces) q ≡ None
handed_none len [] q h = refl
handed_none len (u ∷ traces) q h =
    ap (λ (b : Bool). if b then Some (handed len u.path u) else trace_at (all_handed len traces) q) (if_none (bytes_eq u.path q) u (trace_at traces q) h).0 ∙ handed_none len traces q (if_none (bytes_eq u.path q) u (trace_at traces q) h).1

-- those of other paths are left
left : Label → List Trace → List Trace
left p traces = filter (λ t. not (is_at_or_below t.path p)) traces

left_found : (p q : Label) (traces : List Trace) → is_at_or_below q p ≡ false → trace_at (left p traces) q ≡ trace_at traces q
unfolding left
left_found p q [] e = refl
left_found p q (u ∷ traces) e = by (is_at_or_below u.path p) (bytes_eq u.path q) refl refl (left_found p q traces e)
  where
    by : (b c : Bool) → is_at_or_below u.path p ≡ b → bytes_eq u.path q ≡ c → trace_at (left p traces) q ≡ trace_at traces q → trace_at (if not b then u ∷ left p traces else left p traces) q ≡ (if c then Some u else trace_at traces q)
    by false c f g h = ap (λ (o : Option Trace). if bytes_eq u.path q then Some u else o) h ∙ ap (λ (b : Bool). if b then Some u else trace_at traces q) g
    by true false f g h = h
    by true true f g h = absurd (false≢true (sym e ∙ ap (λ (x : Label). is_at_or_below x p) (sym ((bytes_eq-Decides u.path q).0 g)) ∙ f))

left_none : (p : Label) (traces : List Trace) → trace_at (left p traces) p ≡ None
unfolding left
left_none p [] = refl
left_none p (u ∷ traces) = by (is_at_or_below u.path p) refl (bytes_eq u.path p) refl (left_none p traces)
  where
    by : (b : Bool) → is_at_or_below u.path p ≡ b → (c : Bool) → bytes_eq u.path p ≡ c → trace_at (left p traces) p ≡ None → trace_at (if not b then u ∷ left p traces else left p traces) p ≡ None
    by true f c g h = h
    by false f false g h = ap (λ (b : Bool). if b then Some u else trace_at (left p traces) p) g ∙ h
    by false f true g h = absurd (false≢true (sym f ∙ ap (λ (x : Label). is_at_or_below x p) ((bytes_eq-Decides u.path p).0 g) ∙ at_or_below_itself p))

-- ---- an attribute more

pub upserted_new : (len : ℕ) (p : Label) (traces : List Trace) (new : Trace) → trace_at (upserted len p traces (Some new)) p ≡ Some (handed len p new)
unfolding left
upserted_new len p traces new = entered_itself comes_before (handed len p new) (all_handed len (left p traces)) (handed_none len (left p traces) p (left_none p traces))

not_same : (p q : Label) → is_at_or_below q p ≡ false → bytes_eq p q ≡ false
not_same p q e = by (bytes_eq p q) refl
  where
    by : (b : Bool) → bytes_eq p q ≡ b → bytes_eq p q ≡ false
    by false f = f
    by true f = absurd (false≢true (sym e ∙ ap (λ (x : Label). is_at_or_below x p) (sym ((bytes_eq-Decides p q).0 f)) ∙ at_or_below_itself p))

pub upserted_other : (len : ℕ) (p q : Label) (traces : List Trace) (new t : Trace) → is_at_or_below q p ≡ false → trace_at traces q ≡ Some t → trace_at (upserted len p traces (Some new)) q ≡ Some (handed len t.path t)
unfolding left
upserted_other len p q traces new t e h =
    entered_other comes_before (handed len p new) (all_handed len (left p traces)) q (not_same p q e)
    ∙ handed_found len (left p traces) q t (left_found p q traces e ∙ h)

-- ---- what stands at or below another path

filter_swap : {A : Type 0} (f g : A → Bool) (xs : List A) → filter f (filter g xs) ≡ filter g (filter f xs)
filter_swap f g [] = refl
filter_swap f g (x ∷ xs) = by (f x) (g x) refl refl (filter_swap f g xs)
  where
    by : (a b : Bool) → f x ≡ a → g x ≡ b → filter f (filter g xs) ≡ filter g (filter f xs) → filter f (if b then x ∷ filter g xs else filter g xs) ≡ filter g (if a then x ∷ filter f xs else filter f xs)
    by true true e h same = ap (λ (b : Bool). if b then x ∷ filter f (filter g xs) else filter f (filter g xs)) e ∙ ap (λ (l : List _). x ∷ l) same ∙ sym (ap (λ (b : Bool). if b then x ∷ filter g (filter f xs) else filter g (filter f xs)) h)
    by true false e h same = same ∙ sym (ap (λ (b : Bool). if b then x ∷ filter g (filter f xs) else filter g (filter f xs)) h)
    by false true e h same = ap (λ (b : Bool). if b then x ∷ filter f (filter g xs) else filter f (filter g xs)) e ∙ same
    by false false e h same = same

-- where the new path is not at or below it
pub upserted_below : (len : ℕ) (p q : Label) (traces : List Trace) (new : Trace) → is_at_or_below p q ≡ false → traces_below (upserted len p traces (Some new)) q ≡ all_handed len (filter (λ t. not (is_at_or_below t.path p)) (traces_below traces q))
upserted_below len p q traces new e =
    entered_filter (λ (t : Trace). is_at_or_below t.path q) comes_before (handed len p new) (all_handed len (filter (λ t. not (is_at_or_below t.path p)) traces)) e
    ∙ handed_filter (filter (λ t. not (is_at_or_below t.path p)) traces)
    ∙ ap (all_handed len) (filter_swap (λ (t : Trace). is_at_or_below t.path q) (λ t. not (is_at_or_below t.path p)) traces)
  where
    handed_filter : (ts : List Trace) → filter (λ t. is_at_or_below t.path q) (all_handed len ts) ≡ all_handed len (filter (λ t. is_at_or_below t.path q) ts)
    handed_filter ts = sym (filter_map (λ (t : Trace). handed len t.path t) (λ t. is_at_or_below t.path q) ts)
