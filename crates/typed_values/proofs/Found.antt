-- The interval that is found from those of the operands is the interval of the rule, where all parts are narrow, and else none.
use Rattle.std.proofs.Common.{◌≡◌, ℕ, ◌-◌, ◌≤◌, Bool, true, false, ◌&&◌, if◌then◌else◌, Option, Some, None, refl, sym, ap, ◌∙◌, subst, arith}
use Rattle.std.specs.Option.{option_map}
use Rattle.std.proofs.lemmas.Bool.Decides.{nat_tests}
use Rattle.typed_values.specs.declared.intervals.Interval.{Interval}
use Rattle.typed_values.specs.Intervals.{raised_interval}
use Rattle.typed_values.specs.Narrow as n
use Rattle.typed_values.specs.Narrow.{Bounds, limited, truth_if, at_scale, counted}
use Rattle.typed_values.specs.Bounds.{lies_within, has_scale}
use Rattle.typed_values.proofs.Kept.{keep, raised_kept}

abbrev pub bounded : ℕ → Interval → Bounds
bounded scale i = Some (record { interval = i; scale = scale })

-- what is found of an expression: nothing where a part is not narrow, and else its interval and scale
pub data Found : Bounds → Bool → ℕ → Option Interval → Type 0 where
  wide : (scale : ℕ) (p : Option Interval) → Found None false scale p
  narrow : (scale : ℕ) (i : Interval) → has_scale scale ≡ true → lies_within (Some i) ≡ true → Found (bounded scale i) true scale (Some i)

-- the same of an operand that is rescaled
pub data Chosen : Option Interval → Bool → Option Interval → Type 0 where
  some_wide : (p : Option Interval) → Chosen None false p
  all_narrow : (i : Interval) → lies_within (Some i) ≡ true → Chosen (Some i) true (Some i)

-- ---- an expression, by whether the parts below it are narrow

abbrev pub kept : Option Interval → Option Interval
kept (Some i) = keep i
kept None = None

abbrev pub guarded : Bool → ℕ → Option Interval → Bounds
guarded below scale p = if below then limited scale (kept p) else None

abbrev pub whole_narrow : ℕ → Option Interval → Bool
whole_narrow scale p = has_scale scale && lies_within p

and_false : (b : Bool) → (b && false) ≡ false
and_false true = refl
and_false false = refl

same_found : (b c : Bounds) (v w : Bool) (scale : ℕ) (p : Option Interval) → b ≡ c → v ≡ w → Found c w scale p → Found b v scale p
same_found b c v w scale p e f h = subst (λ x. Found x v scale p) (sym e) (subst (λ x. Found c x scale p) (sym f) h)

pub found_from : (b : Bounds) (below : Bool) (scale : ℕ) (p : Option Interval) → b ≡ guarded below scale p → Found b (below && whole_narrow scale p) scale p
found_from b false scale p e = same_found b None false false scale p e refl (wide scale p)
found_from b true scale None e = same_found b None (has_scale scale && false) false scale None e (and_false (has_scale scale)) (wide scale None)
found_from b true scale (Some i) e = by (has_scale scale) (lies_within (Some i)) refl refl
  where
    chosen : Bool → Bool → Bounds
    chosen s t = if t then (if s then bounded scale i else None) else None

    kept_chosen : (s t : Bool) → limited scale (if t then Some i else None) ≡ (if t then (if has_scale scale then bounded scale i else None) else None)
    kept_chosen s true = refl
    kept_chosen s false = refl

    by : (s t : Bool) → has_scale scale ≡ s → lies_within (Some i) ≡ t → Found b (has_scale scale && lies_within (Some i)) scale (Some i)
    by true true f g =
        same_found b (bounded scale i) (has_scale scale && lies_within (Some i)) true scale (Some i)
        (e ∙ (ap (λ t. limited scale (if t then Some i else None)) g ∙ ap (λ s. if s then bounded scale i else None) f)) (λ j. f j && g j) (narrow scale i f g)
    by true false f g =
        same_found b None (has_scale scale && lies_within (Some i)) false scale (Some i)
        (e ∙ ap (λ t. limited scale (if t then Some i else None)) g) (λ j. f j && g j) (wide scale (Some i))
    by false t f g =
        same_found b None (has_scale scale && lies_within (Some i)) false scale (Some i)
        (e ∙ (kept_chosen true (lies_within (Some i)) ∙ ap (λ s. if lies_within (Some i) then (if s then bounded scale i else None) else None) f ∙ none (lies_within (Some i)))) (ap (λ s. s && lies_within (Some i)) f) (wide scale (Some i))
      where
        none : (t : Bool) → (if t then (if false then bounded scale i else None) else None) ≡ None
        none true = refl
        none false = refl

-- ---- operands that are rescaled

pub up_to_36 : (scale : ℕ) → has_scale scale ≡ true → scale ≤ 36
up_to_36 scale e = grind (arith, nat_tests)

abbrev pub part_narrow : ℕ → ℕ → Option Interval → Bool
part_narrow scale by p = has_scale scale && lies_within (option_map (raised_interval by) p)

same_chosen : (x y : Option Interval) (v w : Bool) (p : Option Interval) → x ≡ y → v ≡ w → Chosen y w p → Chosen x v p
same_chosen x y v w p e f h = subst (λ z. Chosen z v p) (sym e) (subst (λ z. Chosen y z p) (sym f) h)

kept_chosen : (s : Bool) (i : Interval) → s ≡ true → Chosen (keep i) (s && lies_within (Some i)) (Some i)
kept_chosen s i e = by (lies_within (Some i)) refl
  where
    by : (t : Bool) → lies_within (Some i) ≡ t → Chosen (keep i) (s && lies_within (Some i)) (Some i)
    by true f = same_chosen (keep i) (Some i) (s && lies_within (Some i)) true (Some i) (ap (λ t. if t then Some i else None) f) (λ j. e j && f j) (all_narrow i f)
    by false f = same_chosen (keep i) None (s && lies_within (Some i)) false (Some i) (ap (λ t. if t then Some i else None) f) (λ j. e j && f j) (some_wide (Some i))

-- an operand at a scale that a query can have
pub rescaled_chosen : (to : ℕ) (b : Bounds) (v : Bool) (scale : ℕ) (p : Option Interval) → to ≤ 36 → Found b v scale p → Chosen (at_scale to b) (v && part_narrow scale (to - scale) p) (option_map (raised_interval (to - scale)) p)
rescaled_chosen to b v t q h (wide scale p) = some_wide (option_map (raised_interval (to - scale)) p)
rescaled_chosen to b v t q h (narrow scale i e f) =
    let ri = raised_interval (to - scale) i in
    same_chosen (n.raised (to - scale) i) (keep ri) (has_scale scale && lies_within (Some ri)) (has_scale scale && lies_within (Some ri)) (Some ri)
    (raised_kept (to - scale) i (omega arith)) refl (kept_chosen (has_scale scale) ri e)
