-- When the results of a program hold the answer of a query, so that it can be printed.
use Rattle.std.specs.Prelude.{◌≡◌, ℕ, ◌+◌, ◌<◌, ◌≤◌, ℤ, true, All, ⊤, ◌∷◌, [], codes, length, map, is_some, slice_get, Option, Some, None}
use Rattle.std.specs.List.{range_with_len}
use Rattle.std.specs.Map.{lookup}
use Rattle.std.specs.Str.{bytes_eq}
use Rattle.civil_days.specs.Dates.{in_range}
use Rattle.programs.specs.Mentions.{Label}
use Rattle.programs.specs.Vectors.{Vector, Named}
use Rattle.typed_trees.specs.declared.kinds.Kind.{Kind}
use Rattle.typed_trees.specs.declared.kinds.Kind.TheVariants.{Date}
use Rattle.typed_trees.specs.declared.typed.TypedQuery.{TypedQuery}
use Rattle.typed_trees.specs.Scales.{scale_of}
use Rattle.typed_trees.specs.Typed.{IsItem}
use Rattle.typed_trees.specs.Types.{DataType, types_of}
use Rattle.answer_print.specs.Held.{ItemColumn, answer_in, mark_path, item_path, marked_in, columns_in}

abbrev pub HasPath : Vector → Label → Type 0
HasPath v p = is_some (lookup (bytes_eq p) v.attributes) ≡ true

-- a number of this kind is a date's day, where the kind is that of dates
abbrev pub IsOfKind : Kind → ℤ → Type 0
IsOfKind Date z = in_range z ≡ true
IsOfKind kind z = ⊤

abbrev pub IsOfType : Option DataType → ℤ → Type 0
IsOfType (Some type) z = IsOfKind type.kind z
IsOfType None z = ⊤

-- at a place
abbrev pub HoldsAt : ℕ → ItemColumn → Type 0
HoldsAt i c = (z : ℤ) → slice_get c.slots i ≡ Some (Some z) → IsOfType c.type z

-- at the first n places
abbrev pub HoldsValues : ℕ → ItemColumn → Type 0
HoldsValues n c = (i : ℕ) → i < n → HoldsAt i c

-- a vector with an attribute for each item and the mark, which marks its first places
pub record HoldsItems (q : TypedQuery) (v : Vector) : Type 0 where
  pub items : (k : ℕ) → k < length q.items → HasPath v (item_path (k + 1))
  pub mark : HasPath v mark_path
  pub first : marked_in v ≡ range_with_len 0 (length (marked_in v))
  pub values : All (HoldsValues (length (marked_in v))) (columns_in q v)

-- items that are typed, none with more than 36 digits behind the point
pub record AreItems (q : TypedQuery) : Type 0 where
  pub typed : All (IsItem (types_of q.aggregates)) q.items
  pub scales : All (λ e. scale_of e ≤ 36) q.items

-- there is one result, `answer`
abbrev pub IsAnswerAlone : Named → Type 0
IsAnswerAlone named = map (λ e. e.0) named ≡ codes "answer" ∷ []

-- and it holds the items
pub record HoldsAnswer (q : TypedQuery) (named : Named) : Type 0 where
  pub one : IsAnswerAlone named
  pub items : AreItems q
  pub held : HoldsItems q (answer_in named)
