use Rattle.std.proofs.Common.{◌≡◌, List, [], ◌∷◌, length, Result, IfOk, refl}
use Rattle.program_writers.specs.declared.writer.Writer.{Writer as Text}
use Rattle.program_writers.specs.Codes.{Adds}
use Rattle.typed_trees.specs.declared.typed.ColumnRef.{ColumnRef}
use Rattle.plan_programs.specs.Sites.{Base}
use Rattle.plan_programs.specs.Groups.{Folding}
use Rattle.plan_programs.specs.Groups as spec
use Rattle.group_lower.proofs.groups.folding_of.Goals as goal

-- some column at least
by_some : {E : Type 0} (b : Base) (columns : List ColumnRef) (old new : Text) (r : Result Folding E) → (length columns ≡ 0 → ⊥) → IfOk r (λ f. Adds (spec.by_columns b columns) old new f) → IfOk r (λ f. Adds (spec.folding b columns) old new f)
by_some b [] old new r h done = elim (h refl) [ ]
by_some b (c ∷ cs) old new r h done = done

pub returns-else-columns-eq0 : goal.returns-else-columns-eq0
returns-else-columns-eq0 c = by_some c.args.b c.args.columns.now c.args.w.now c.by_columns.new.w c.by_columns.result c.if-columns-eq0.false c.by_columns.ensures
