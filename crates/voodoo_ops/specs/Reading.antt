-- What operators read: attributes that are there, and what the operands of a slot-wise operator give.
use Rattle.std.specs.Prelude.{◌≡◌, ℕ, true, false, length, List, All, is_some}
use Rattle.std.specs.Map.{lookup}
use Rattle.std.specs.Str.{bytes_eq}
use Rattle.key_paths.specs.Substructures.{is_root}
use Rattle.slot_wise.specs.declared.source.Source.{Source}
use Rattle.slot_wise.specs.declared.source.Source.TheVariants.{Column, Number}
use Rattle.slot_wise.specs.Sources.{source_at}
use Rattle.programs.specs.declared.op.Operand.{Operand}
use Rattle.programs.specs.declared.op.Operand.TheVariants as operand
use Rattle.programs.specs.declared.op.PairArgs.{PairArgs}
use Rattle.programs.specs.declared.op.FoldArgs.{FoldArgs}
use Rattle.programs.specs.declared.op.RankArgs.{RankArgs}
use Rattle.programs.specs.declared.order_keys.OrderPath.{OrderPath}
use Rattle.programs.specs.Mentions.{Label}
use Rattle.programs.specs.Vectors.{Env, known}
use Rattle.voodoo_ops.specs.Slotwise.{operand_at}

-- the vector of a name has an attribute at a path
abbrev pub HasAttribute : Env → Label → Label → Type 0
HasAttribute env a p = (is_some (env a) ≡ true) × (is_some (lookup (bytes_eq p) (known (env a)).attributes) ≡ true)

abbrev pub HasOperand : Env → Operand → Type 0
HasOperand env (operand.Column a p) = HasAttribute env a p
HasOperand env (operand.Number z) = Unit {0}

-- and each key of an order
abbrev pub HasKeys : Env → Label → List OrderPath → Type 0
HasKeys env a keys = All (λ k. HasAttribute env a k.path) keys

-- an attribute that is not at the root
abbrev pub IsNamed : Label → Type 0
IsNamed out = is_root out ≡ false

-- what a slot-wise operator, a fold, and a Bucket or Partition may read and make
pub record CanPair (env : Env) (p : PairArgs) : Type 0 where
  pub x : HasOperand env p.x
  pub y : HasOperand env p.y
  pub named : IsNamed p.out

pub record CanFold (env : Env) (f : FoldArgs) : Type 0 where
  pub value : HasAttribute env f.a f.val
  pub named : IsNamed f.out

pub record CanRank (env : Env) (r : RankArgs) : Type 0 where
  pub key : HasAttribute env r.a r.key
  pub pivot : HasAttribute env r.b r.pivot
  pub named : IsNamed r.out

-- a source of an operand: it gives the operand's slots, at the operand's length
abbrev pub SameLength : Env → Operand → Source → Type 0
SameLength env (operand.Column a p) (Column c) = length c.now.slots ≡ (known (env a)).len
SameLength env (operand.Column a p) (Number z) = ⊥
SameLength env (operand.Number z) (Column c) = ⊥
SameLength env (operand.Number z) (Number w) = Unit {0}

pub record Reads (env : Env) (x : Operand) (s : Source) : Type 0 where
  pub slots : (i : ℕ) → source_at s i ≡ operand_at env x i
  pub len : SameLength env x s
