use Rattle.control_vectors.specs.declared.PairKind.TheVariants.{Add, Subtract, Multiply, Divide, Modulo, Greater, Equals, LogicalAnd, LogicalOr, Fill}
use Rattle.slot_wise.specs.Pairs.{pair_slot}
use Rattle.slot_wise.proofs.pairing.pairs.Goals as goal

pub returns-in-Add : goal.returns-in-Add
returns-in-Add c = rw c.in-Add.is (c.pairs_by.ensures (pair_slot Add) (λ a b r e. e.2))

pub returns-in-Subtract : goal.returns-in-Subtract
returns-in-Subtract c = rw c.in-Subtract.is (c.pairs_by-in-Subtract.ensures (pair_slot Subtract) (λ a b r e. e.2))

pub returns-in-Multiply : goal.returns-in-Multiply
returns-in-Multiply c = rw c.in-Multiply.is (c.pairs_by-in-Multiply.ensures (pair_slot Multiply) (λ a b r e. e.2))

pub returns-in-Divide : goal.returns-in-Divide
returns-in-Divide c = rw c.in-Divide.is (c.pairs_by-in-Divide.ensures (pair_slot Divide) (λ a b r e. e.2))

pub returns-in-Modulo : goal.returns-in-Modulo
returns-in-Modulo c = rw c.in-Modulo.is (c.pairs_by-in-Modulo.ensures (pair_slot Modulo) (λ a b r e. e.2))

pub returns-in-Greater : goal.returns-in-Greater
returns-in-Greater c = rw c.in-Greater.is (c.pairs_by-in-Greater.ensures (pair_slot Greater) (λ a b r e. e.2))

pub returns-in-Equals : goal.returns-in-Equals
returns-in-Equals c = rw c.in-Equals.is (c.pairs_by-in-Equals.ensures (pair_slot Equals) (λ a b r e. e.2))

pub returns-in-LogicalAnd : goal.returns-in-LogicalAnd
returns-in-LogicalAnd c = rw c.in-LogicalAnd.is (c.pairs_by-in-LogicalAnd.ensures (pair_slot LogicalAnd) (λ a b r e. e.2))

pub returns-in-LogicalOr : goal.returns-in-LogicalOr
returns-in-LogicalOr c = rw c.in-LogicalOr.is (c.pairs_by-in-LogicalOr.ensures (pair_slot LogicalOr) (λ a b r e. e.2))

pub returns-in-Fill : goal.returns-in-Fill
returns-in-Fill c = rw c.in-Fill.is (c.pairs_by-in-Fill.ensures (pair_slot Fill) (λ a b r e. e.2))
