-- Chains of folds: values pass one fold for each level of a plan, in order, and a last one over whole groups
-- (Voodoo, PVLDB 9(14), 2016, section 2.2: hierarchical folds).
use Rattle.std.specs.Prelude.{Bool, true, false, ◌&&◌, List, [], ◌∷◌, reverse, Option, Some, None}
use Rattle.std.specs.List.{list_any}
use Rattle.control_vectors.specs.Controls.{Control}
use Rattle.programs.specs.declared.family.FoldOperator.{FoldOperator}
use Rattle.programs.specs.declared.family.FoldOperator.TheVariants as fold
use Rattle.programs.specs.declared.op.Statement.{Statement}
use Rattle.programs.specs.Families.{family}
use Rattle.programs.specs.Mentions.{Label, has_name}
use Rattle.attribute_origins.specs.Traces.{Origin, Traces}
use Rattle.plan_obeyed.specs.Columns.{same_origin, carry_none}
use Rattle.plan_obeyed.specs.Runs.{FoldRead, fold_by, fold_at, is_one, are_groups, are_level}

-- both sums, both least numbers, or both greatest ones
abbrev pub same_fold : FoldOperator → FoldOperator → Bool
same_fold fold.Sum fold.Sum = true
same_fold fold.Min fold.Min = true
same_fold fold.Max fold.Max = true
same_fold a b = false

-- a fold that is there and passes a test
abbrev pub is_fold : (FoldRead → Bool) → Option FoldRead → Bool
is_fold test None = false
is_fold test (Some f) = test f

-- whether what stands at an attribute has passed a fold of this kind for each of some levels, the last of them first: each fold's value is what the one before it made,
-- which Gathers and Scatters alone may have moved
abbrev pub has_passed : Traces → List Origin → FoldOperator → List Control → Origin → Bool
has_passed made groups kind [] at = true
has_passed made groups kind (level ∷ levels) at =
    is_fold (λ f. same_fold kind f.kind && (are_level made groups level f.len f.runs && has_passed made groups kind levels f.value.root)) (fold_at made at.vector)

-- a last fold: its runs are groups, and its value has passed all levels
abbrev pub ends_chain : Traces → List Origin → List Control → FoldRead → Bool
ends_chain made groups levels f = same_fold f.kind f.kind && (are_groups made groups f.len f.runs && has_passed made groups f.kind (reverse levels) f.value.root)

abbrev pub ends_chain_at : Traces → List Origin → List Control → Statement → Bool
ends_chain_at made groups levels s = is_fold (ends_chain made groups levels) (fold_by made (family s.op))

-- ---- the folds of a chain, from its last one back

abbrev pub folds_before : Traces → List Control → Option FoldRead → List Label
folds_before made [] f = []
folds_before made (level ∷ levels) None = []
folds_before made (level ∷ levels) (Some f) = f.value.root.vector ∷ folds_before made levels (fold_at made f.value.root.vector)

abbrev pub folds_of : Traces → List Control → Statement → List Label
folds_of made levels s = s.name ∷ folds_before made levels (fold_by made (family s.op))

-- the first of them
abbrev pub first_fold : Traces → List Control → Option FoldRead → Option FoldRead
first_fold made [] f = f
first_fold made (level ∷ levels) None = None
first_fold made (level ∷ levels) (Some f) = first_fold made levels (fold_at made f.value.root.vector)

-- a fold that stands in some chain of a program
abbrev pub is_chained : Traces → List Origin → List Control → List Statement → Label → Bool
is_chained made groups levels program n = list_any (λ s. ends_chain_at made groups levels s && has_name (folds_of made levels s) n) program

-- ---- the fold of the mark, which finds where groups are

-- its value is its mark
abbrev pub folds_mark : Traces → List Origin → FoldRead → Bool
folds_mark made groups f = are_groups made groups f.len f.runs && is_one (λ t. same_origin t.origin f.value.origin) (carry_none groups f.runs)
