-- The laws of well-formed plans.
use Rattle.value_laws.specs.Laws.{NamesLaw}
use Rattle.typing_laws.specs.Laws.{TypedLaw, ColumnLaw, GroupLaw}
use Rattle.query_shapes.specs.Laws.{ShapeLaw}
use Rattle.plan_laws.specs.WellFormed.{WellFormedLaws}
use Rattle.plan_laws.proofs.KeptForm.{pushed_is, pruned_is}
use Rattle.plan_laws.proofs.Planned.{planned, answered}

pub well_formed_laws : NamesLaw → TypedLaw → ColumnLaw → GroupLaw → ShapeLaw → WellFormedLaws
well_formed_laws names_law typed_law column_law group_law shape_law = record {
  planned = planned typed_law column_law group_law shape_law;
  pushed_is = pushed_is;
  pruned_is = pruned_is;
  answered = λ defs tables p fit h. answered defs tables p fit h names_law;
}
