-- What a fold reads, and the runs that a plan asks for (Voodoo, PVLDB 9(14), 2016, section 2.2: runs are those of control vectors, and of other attributes too).
use Rattle.std.specs.Prelude.{ℕ, ◌==◌, Bool, false, ◌&&◌, List, [], ◌∷◌, map, is_none, if◌then◌else◌, Option, Some, None, option_and_then}
use Rattle.std.specs.List.{list_any, list_all}
use Rattle.std.specs.Ordering.{int_eq}
use Rattle.control_vectors.specs.Controls.{Control, control_list}
use Rattle.programs.specs.declared.family.FoldOperator.{FoldOperator}
use Rattle.programs.specs.declared.op.FoldArgs.{FoldArgs}
use Rattle.programs.specs.Families.{Family, family, Range, Fold}
use Rattle.programs.specs.Mentions.{Label}
use Rattle.attribute_origins.specs.Traces.{Origin, Trace, Traced, Traces, trace_at, traces_below}
use Rattle.attribute_origins.specs.ControlStatements.{control_of}
use Rattle.plan_obeyed.specs.Columns.{carry_all, carry_none}

-- ---- what a fold reads

pub record FoldRead : Type 0 where
  pub kind : FoldOperator
  pub value : Trace
  -- its run attributes
  pub runs : List Trace
  -- the length of the vector
  pub len : ℕ

abbrev pub read_value : FoldOperator → FoldArgs → Traced → Option Trace → Option FoldRead
read_value kind f v None = None
read_value kind f v (Some t) = Some (record { kind = kind; value = t; runs = traces_below v.traces f.run; len = v.len })

abbrev pub read_vector : FoldOperator → FoldArgs → Option Traced → Option FoldRead
read_vector kind f None = None
read_vector kind f (Some v) = read_value kind f v (trace_at v.traces f.val)

abbrev pub fold_by : Traces → Family → Option FoldRead
fold_by made (Fold kind f) = read_vector kind f (made f.a)
fold_by made f = None

-- the fold that makes the vector of a name
abbrev pub fold_at : Traces → Label → Option FoldRead
fold_at made n = option_and_then (λ v. fold_by made (family v.op)) (made n)

-- ---- Ranges

abbrev pub same_control : Control → Control → Bool
same_control c d = int_eq c.start d.start && (c.step == d.step && (c.modulus == d.modulus && c.divisor == d.divisor))

abbrev pub numbers_by : Family → Option Control
numbers_by (Range size p control) = Some control
numbers_by f = None

-- the four numbers of the Range that made an attribute, where its slots are those of the Range at all places of a vector of this length
abbrev pub range_numbers : Traces → ℕ → Trace → Option Control
range_numbers made len t = if t.reach == len then option_and_then (λ v. numbers_by (family v.op)) (made t.origin.vector) else None

abbrev pub has_numbers : Control → Option Control → Bool
has_numbers c None = false
has_numbers c (Some d) = same_control c d

-- a Range with these four numbers
abbrev pub is_range : Traces → Control → ℕ → Trace → Bool
is_range made c len t = has_numbers c (range_numbers made len t)

-- a Range whose values are all the same
abbrev pub all_same : ℕ → Option Control → Bool
all_same len None = false
all_same len (Some c) = list_all (int_eq c.start) (control_list c len)

abbrev pub is_constant : Traces → ℕ → Trace → Bool
is_constant made len t = all_same len (range_numbers made len t)

-- ---- runs

-- one item alone, which passes a test
abbrev pub is_one : {A : Type 0} → (A → Bool) → List A → Bool
is_one test (x ∷ []) = test x
is_one test xs = false

-- each item with the others
abbrev pub each_apart : {A : Type 0} → List A → List (A × List A)
each_apart [] = []
each_apart (x ∷ xs) = (x, xs) ∷ map (λ p. (p.0, x ∷ p.1)) (each_apart xs)

-- no control attribute
abbrev pub is_mark : ℕ → Trace → Bool
is_mark len t = is_none (control_of len t)

-- the runs of groups: those of the group columns and of the mark, which is the one run attribute that carries no group column and is no control attribute;
-- without group columns, those of one constant Range
abbrev pub are_groups : Traces → List Origin → ℕ → List Trace → Bool
are_groups made [] len runs = is_one (is_constant made len) runs
are_groups made (c ∷ cs) len runs = carry_all (c ∷ cs) runs && is_one (is_mark len) (carry_none (c ∷ cs) runs)

-- within those, the runs of a level: one attribute more, which is a Range with the level's numbers
abbrev pub are_level : Traces → List Origin → Control → ℕ → List Trace → Bool
are_level made groups level len runs = list_any (λ p. is_range made level len p.0 && are_groups made groups len p.1) (each_apart runs)
