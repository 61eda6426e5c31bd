-- Vectors that move slots to other places, and places in an order (Voodoo, PVLDB 9(14), 2016, table 2; empties are this project's own).
use Rattle.std.specs.Prelude.{ℕ, List, map}
use Rattle.control_vectors.specs.Slots.{Slot, numbers}
use Rattle.slot_moves.specs.Moves.{gathered, writers, bucketed}
use Rattle.sort_order.specs.Buckets.{partitioned}
use Rattle.sort_order.specs.Keys.{SortKey}
use Rattle.sort_order.specs.Orders.{ordered}
use Rattle.programs.specs.declared.family.RankOperator.{RankOperator}
use Rattle.programs.specs.declared.family.RankOperator.TheVariants.{Bucket, Partition}
use Rattle.programs.specs.declared.op.RankArgs.{RankArgs}
use Rattle.programs.specs.declared.order_keys.OrderPath.{OrderPath}
use Rattle.programs.specs.Mentions.{Label}
use Rattle.programs.specs.Vectors.{Attribute, Vector, slots_of, column}

-- the slots of each attribute at some places
abbrev pub moved_to : List Slot → List Attribute → List Attribute
moved_to places attributes = map (λ t. (t.0, gathered t.1 places)) attributes

-- Gather: a's attributes at b's positions
abbrev pub gather : Vector → Vector → Label → Vector
gather a b pos = record { len = b.len; attributes = moved_to (slots_of b.attributes pos) a.attributes }

-- Scatter: a's attributes, each slot at its position; of several there the last
abbrev pub scatter : Vector → ℕ → Vector → Label → Vector
scatter a n b pos = record { len = n; attributes = moved_to (writers n a.len (slots_of b.attributes pos)) a.attributes }

-- Bucket: how many pivots are not above the key
abbrev pub bucket : Vector → Vector → RankArgs → Vector
bucket a b r = column r.out a.len (bucketed (slots_of a.attributes r.key) (slots_of b.attributes r.pivot))

-- Partition: the place of each key among the keys by their buckets
abbrev pub partition : Vector → Vector → RankArgs → Vector
partition a b r = column r.out a.len (partitioned (numbers (slots_of b.attributes r.pivot)) (slots_of a.attributes r.key))

abbrev pub ranked : RankOperator → Vector → Vector → RankArgs → Vector
ranked Bucket a b r = bucket a b r
ranked Partition a b r = partition a b r

-- Order: the marked places, sorted by the keys
abbrev pub sort_key : Vector → OrderPath → SortKey
sort_key a k = record { descending = k.descending; slots = slots_of a.attributes k.path }

abbrev pub order : Vector → Label → Label → List OrderPath → Vector
order a mark out keys = column out a.len (ordered (slots_of a.attributes mark) (map (sort_key a) keys))
