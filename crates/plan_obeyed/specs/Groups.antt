-- How the rows of a group are brought together: by one Order, or by a Partition and a Scatter for each group column
-- (Voodoo, PVLDB 9(14), 2016, table 2: Partition and Scatter; which of the two a plan takes is this project's own).
use Rattle.std.specs.Prelude.{ℕ, ℤ, ◌==◌, Bool, true, false, ◌&&◌, ◌||◌, not, int_lt, List, [], ◌∷◌, ◌++◌, filter, filter_map, if◌then◌else◌, Option, Some, None}
use Rattle.std.specs.Str.{bytes_eq}
use Rattle.std.specs.List.{list_any, list_all}
use Rattle.control_vectors.specs.Slots.{Slot}
use Rattle.control_vectors.specs.declared.PairKind.TheVariants as pair
use Rattle.programs.specs.declared.family.RankOperator.TheVariants as rank
use Rattle.programs.specs.declared.op.Operand.{Operand}
use Rattle.programs.specs.declared.op.Operand.TheVariants as operand
use Rattle.programs.specs.declared.op.Statement.{Statement}
use Rattle.programs.specs.Families.{Family, family, Scatter, Rank, Order, Pair}
use Rattle.programs.specs.Mentions.{Label}
use Rattle.programs.specs.Vectors.{Env, known, slots_of}
use Rattle.attribute_origins.specs.Traces.{Origin, Trace, Traced, Traces, trace_at}
use Rattle.attribute_origins.specs.Origins.{attribute_of}
use Rattle.plan_obeyed.specs.Columns.{SourceColumn, loaded_at, same_origin, is_there, carries, carries_some, carry_all}
use Rattle.plan_obeyed.specs.Runs.{is_one}

-- ---- what stands before a statement

abbrev pub with_before : List Statement → List Statement → List (List Statement × Statement)
with_before before [] = []
with_before before (s ∷ rest) = (before, s) ∷ with_before (before ++ s ∷ []) rest

-- each statement of a program that passes a test, with those before it, passes another
abbrev pub each_behind : (Statement → Bool) → (List Statement → Bool) → List Statement → Bool
each_behind test holds program = list_all (λ p. not (test p.1) || holds p.0) (with_before [] program)

-- ---- by sorting

-- the keys of an Order
abbrev pub order_keys : Traces → Family → List Trace
order_keys made (Order a mark out keys) = filter_map (λ k. attribute_of made a k.path) keys
order_keys made f = []

-- an Order with a group column among its keys
abbrev pub orders_group : Traces → List Origin → Statement → Bool
orders_group made groups s = list_any (carries_some groups) (order_keys made (family s.op))

-- an Order whose keys are the group columns
abbrev pub orders_groups : Traces → List Origin → Statement → Bool
orders_groups made groups s = list_all (carries_some groups) (order_keys made (family s.op)) && carry_all groups (order_keys made (family s.op))

-- one of some statements is an Order by a group column, and it is one by the group columns
abbrev pub are_sorted : Traces → List Origin → List Statement → Bool
are_sorted made groups before = is_one (orders_groups made groups) (filter (orders_group made groups) before)

-- ---- by Partitions

-- the keys of a Partition, and the length of their vector
pub record KeyRead : Type 0 where
  pub key : Trace
  pub len : ℕ

abbrev pub is_keyed : (KeyRead → Bool) → Option KeyRead → Bool
is_keyed test None = false
is_keyed test (Some k) = test k

-- the same attribute
abbrev pub same_attribute : Trace → Trace → Bool
same_attribute t u = same_origin t.origin u.origin && t.reach == u.reach

abbrev pub if_own : ℕ → Trace → Option Trace → Option KeyRead
if_own len t None = None
if_own len t (Some u) = if same_attribute t u then Some (record { key = t; len = len }) else None

abbrev pub key_beside : ℕ → Option Trace → Option Trace → Option KeyRead
key_beside len None pivot = None
key_beside len (Some t) pivot = if_own len t pivot

abbrev pub key_in : Option Traced → Label → Option Trace → Option KeyRead
key_in None p pivot = None
key_in (Some v) p pivot = key_beside v.len (trace_at v.traces p) pivot

-- those of a Partition whose pivots are its keys
abbrev pub own_pivots : Traces → Family → Option KeyRead
own_pivots made (Rank rank.Partition r) = key_in (made r.a) r.key (attribute_of made r.b r.pivot)
own_pivots made f = None

abbrev pub is_slot_above : ℤ → Slot → Bool
is_slot_above z None = true
is_slot_above z (Some v) = int_lt z v

-- all values of a table's column are greater
abbrev pub is_below : Env → SourceColumn → ℤ → Bool
is_below tables c z = list_all (is_slot_above z) (slots_of (known (tables c.table)).attributes c.path)

-- the Fill of a column by a number below all its values
abbrev pub fills : Traces → Env → SourceColumn → Origin → Operand → Operand → Bool
fills made tables c at (operand.Column a p) (operand.Number z) = is_there (carries at) (attribute_of made a p) && is_below tables c z
fills made tables c at x y = false

abbrev pub fills_by : Traces → Env → SourceColumn → Origin → Family → Bool
fills_by made tables c at (Pair pair.Fill p) = fills made tables c at p.x p.y
fills_by made tables c at f = false

abbrev pub is_filled : Traces → Env → SourceColumn → Origin → Option Traced → Bool
is_filled made tables c at None = false
is_filled made tables c at (Some v) = fills_by made tables c at (family v.op)

-- a column, or its Fill
abbrev pub is_key : Traces → Env → SourceColumn → Origin → Trace → Bool
is_key made tables c at t = carries at t || is_filled made tables c at (made t.origin.vector)

-- a Scatter to the places that the vector of a name holds
abbrev pub scatters_by : Traces → Label → Family → Bool
scatters_by made n (Scatter a size b pos) = is_there (λ t. bytes_eq t.origin.vector n) (attribute_of made b pos)
scatters_by made n f = false

abbrev pub scatters_to : Traces → Label → Statement → Bool
scatters_to made n s = scatters_by made n (family s.op)

-- a group column is the key of a Partition, to whose places a Scatter goes
abbrev pub is_partitioned : Traces → Env → List Statement → List Label → SourceColumn → Bool
is_partitioned made tables program loads c = list_any (λ s. is_keyed (λ k. is_key made tables c (loaded_at loads c) k.key) (own_pivots made (family s.op)) && list_any (scatters_to made s.name) program) program

-- ---- either way

abbrev pub none_sorts : Traces → List Origin → List Statement → Bool
none_sorts made groups before = not (list_any (orders_group made groups) before)
