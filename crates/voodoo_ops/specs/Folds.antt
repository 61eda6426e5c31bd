-- Folds over the runs of the tuples at or below a path (Voodoo, PVLDB 9(14), 2016, section 2.2 and table 2).
use Rattle.std.specs.Prelude.{Result, Ok}
use Rattle.control_vectors.specs.Slots.{all_slots}
use Rattle.control_vectors.specs.declared.FoldKind.{FoldKind}
use Rattle.control_vectors.specs.declared.FoldKind.TheVariants as number
use Rattle.control_vectors.specs.declared.Over.{Over}
use Rattle.slot_folds.specs.Folds.{folded, selected, scanned}
use Rattle.programs.specs.declared.family.FoldOperator.{FoldOperator}
use Rattle.programs.specs.declared.family.FoldOperator.TheVariants.{Sum, Min, Max, Select, Scan}
use Rattle.programs.specs.declared.op.FoldArgs.{FoldArgs}
use Rattle.programs.specs.Vectors.{Vector, slots_of, column, column_of}
use Rattle.voodoo_ops.specs.Runs.{run_marks}

-- FoldSum, FoldMin and FoldMax
abbrev pub fold : FoldKind → Vector → FoldArgs → Result Vector Over
fold kind v f = column_of f.out v.len (all_slots (folded kind (run_marks v f.run) (slots_of v.attributes f.val)))

-- FoldSelect
abbrev pub fold_select : Vector → FoldArgs → Vector
fold_select v f = column f.out v.len (selected (run_marks v f.run) (slots_of v.attributes f.val))

-- FoldScan
abbrev pub fold_scan : Vector → FoldArgs → Result Vector Over
fold_scan v f = column_of f.out v.len (all_slots (scanned (run_marks v f.run) (slots_of v.attributes f.val)))

abbrev pub folded_by : FoldOperator → Vector → FoldArgs → Result Vector Over
folded_by Sum v f = fold number.Sum v f
folded_by Min v f = fold number.Min v f
folded_by Max v f = fold number.Max v f
folded_by Select v f = Ok (fold_select v f)
folded_by Scan v f = fold_scan v f
