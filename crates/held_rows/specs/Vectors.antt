-- What vectors that hold rows hold behind an operator (Voodoo, PVLDB 9(14), 2016, table 2).
use Rattle.std.specs.Prelude.{◌≡◌, ◌<◌, ℤ, true, false, List, [], ◌∷◌, length, map, is_some, Option, Some, None, Ok}
use Rattle.std.specs.List.{All}
use Rattle.std.specs.Map.{lookup}
use Rattle.std.specs.Str.{bytes_eq}
use Rattle.control_vectors.specs.Slots.{Slot, Cell}
use Rattle.control_vectors.specs.declared.PairKind.{PairKind}
use Rattle.key_paths.specs.Substructures.{is_at_or_below}
use Rattle.programs.specs.declared.op.Operand.TheVariants.{Column, Number}
use Rattle.programs.specs.Mentions.{Label}
use Rattle.programs.specs.Vectors.{Vector, slots_of, Env, known}
use Rattle.programs.specs.Vectors as vectors
use Rattle.voodoo_ops.specs.Attributes.{upserted, projected}
use Rattle.voodoo_ops.specs.Moves.{gather}
use Rattle.voodoo_ops.specs.Ranges.{ranged}
use Rattle.voodoo_ops.specs.Slotwise.{pair_cells, paired}
use Rattle.program_writers.specs.Statements.{ones}
use Rattle.slot_moves.specs.Moves.{gathered}
use Rattle.slot_wise.specs.Pairs.{pair_slot}
use Rattle.held_rows.specs.Held.{Held, at, column, one, Told, Holds}
use Rattle.held_rows.specs.Laws.{both_at}

-- an attribute is not at or below a path
abbrev pub IsBeside : {A : Type 0} → Label → Told A → Type 0
IsBeside p t = is_at_or_below t.0 p ≡ false

-- a vector has an attribute, which it may have without any place
abbrev pub IsOf : {A : Type 0} → Vector → Told A → Type 0
IsOf v t = is_some (lookup (bytes_eq t.0) v.attributes) ≡ true

-- a path that is not the root: behind the dot stands a name
abbrev pub IsNamed : Label → Type 0
IsNamed p = 1 < length p

pub record VectorLaws (A : Type 0) : Type 0 where
  -- a Range of ones marks as many rows as it is long
  pub marked : (rows : List A) (p : Label) → Holds (ranged (length rows) p ones) (map (λ a. Some a) rows) ((p, one) ∷ [])
  -- an attribute more
  pub upsert : (a b : Vector) (p q : Label) (held : Held A) (f : A → Slot) (attributes : List (Told A))
      → Holds a held attributes → slots_of b.attributes q ≡ column f held → All (IsBeside p) attributes → Holds (upserted a p b q) held ((p, f) ∷ attributes)
  -- one attribute by itself, under another path
  pub project : (a : Vector) (p q : Label) (held : Held A) (f : A → Slot)
      → IsNamed p → IsNamed q → a.len ≡ length held → slots_of a.attributes p ≡ column f held → Holds (projected a p q) held ((q, f) ∷ [])
  -- all attributes at as many other places
  pub at_places : (a b : Vector) (pos : Label) (held kept : Held A) (attributes : List (Told A))
      → Holds a held attributes → b.len ≡ length kept → length kept ≡ length held → ((f : A → Slot) → gathered (column f held) (slots_of b.attributes pos) ≡ column f kept) → Holds (gather a b pos) kept attributes
  -- at any number of places: an attribute that is not there would have no empty slots either
  pub at_any_places : (a b : Vector) (pos : Label) (held kept : Held A) (attributes : List (Told A))
      → Holds a held attributes → All (IsOf a) attributes → b.len ≡ length kept → ((f : A → Slot) → gathered (column f held) (slots_of b.attributes pos) ≡ column f kept) → Holds (gather a b pos) kept attributes

-- ---- slot by slot

-- an attribute of a vector that was made tells this of rows
pub record Tells {A : Type 0} (env : Env) (n p : Label) (f : A → Slot) (held : Held A) : Type 0 where
  pub len : (known (env n)).len ≡ length held
  pub slots : slots_of (known (env n)).attributes p ≡ column f held

-- beside a number, which stands at each place
abbrev pub number_at : {A : Type 0} → PairKind → (A → Slot) → ℤ → Option A → Cell
number_at kind f z None = pair_slot kind None (Some z)
number_at kind f z (Some a) = pair_slot kind (f a) (Some z)

-- at each place the slot that is asked of the row there
abbrev pub AreSlots : {A : Type 0} → (Option A → Cell) → (A → Slot) → Held A → Type 0
AreSlots cell h held = All (λ r. cell r ≡ Ok (at h r)) held

pub record PairLaws (A : Type 0) : Type 0 where
  pub cells : (kind : PairKind) (env : Env) (n p m q : Label) (held : Held A) (f g : A → Slot)
      → Tells env n p f held → Tells env m q g held → pair_cells kind env (Column n p) (Column m q) ≡ map (both_at kind f g) held
  pub number : (kind : PairKind) (env : Env) (n p : Label) (z : ℤ) (held : Held A) (f : A → Slot)
      → Tells env n p f held → pair_cells kind env (Column n p) (Number z) ≡ map (number_at kind f z) held
  -- where no place is Over
  pub made : (kind : PairKind) (env : Env) (n p m q out : Label) (held : Held A) (f g h : A → Slot)
      → Tells env n p f held → Tells env m q g held → AreSlots (both_at kind f g) h held
      → paired kind env (record { x = Column n p; y = Column m q; out = out }) ≡ Ok (vectors.column out (length held) (column h held))
  pub made_number : (kind : PairKind) (env : Env) (n p out : Label) (z : ℤ) (held : Held A) (f h : A → Slot)
      → Tells env n p f held → AreSlots (number_at kind f z) h held
      → paired kind env (record { x = Column n p; y = Number z; out = out }) ≡ Ok (vectors.column out (length held) (column h held))
