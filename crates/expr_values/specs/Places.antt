-- What the steps of an expression make at one place of a vector, in order: each a slot, or Over.
-- After SQL-92 (ISO/IEC 9075:1992), 6.11 <value expression>; the operators are those of Voodoo, PVLDB 9(14), 2016, table 2.
use Rattle.std.specs.Prelude.{ℕ, ◌-◌, List, [], ◌∷◌, ◌++◌, length, slice_index_or, Some, None, Result, Ok, Err}
use Rattle.control_vectors.specs.Slots.{Slot, Cell}
use Rattle.control_vectors.specs.declared.Over.{Over}
use Rattle.slot_wise.specs.Pairs.{pair_slot}
use Rattle.typed_trees.specs.declared.typed.ColumnRef.{ColumnRef}
use Rattle.expr_steps.specs.declared.steps.Source.{Source}
use Rattle.expr_steps.specs.declared.steps.Source.TheVariants.{Mark, Column, Aggregate, Made, Number}
use Rattle.expr_steps.specs.declared.steps.Step.{Step}

-- what stands at a place before any step
pub record Place : Type 0 where
  pub mark : Slot
  pub column : ColumnRef → Slot
  pub aggregate : ℕ → Slot

-- behind some steps
abbrev pub slot_from : Place → List Slot → Source → Slot
slot_from p made Mark = p.mark
slot_from p made (Column c) = p.column c
slot_from p made (Aggregate n) = p.aggregate n
slot_from p made (Made k) = slice_index_or made k None
slot_from p made (Number z) = Some z

abbrev pub step_cell : Place → List Slot → Step → Cell
step_cell p made step = pair_slot step.kind (slot_from p made step.x) (slot_from p made step.y)

-- what is made with one cell more, and then with what follows
abbrev pub with_cell : List Slot → Cell → (List Slot → Result (List Slot) Over) → Result (List Slot) Over
with_cell made (Err e) next = Err e
with_cell made (Ok x) next = next (made ++ x ∷ [])

-- all that is made, or Over where one step is
abbrev pub made_by : Place → List Step → List Slot → Result (List Slot) Over
made_by p [] made = Ok made
made_by p (step ∷ rest) made = with_cell made (step_cell p made step) (made_by p rest)

-- what the last step makes
abbrev pub last_cell : Result (List Slot) Over → Cell
last_cell (Err e) = Err e
last_cell (Ok made) = Ok (slice_index_or made (length made - 1) None)

abbrev pub steps_cell : Place → List Step → Cell
steps_cell p steps = last_cell (made_by p steps [])
