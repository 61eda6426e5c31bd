use Rattle.std.proofs.Common.{◌∙◌, ◌++◌, ◌∷◌, [], ap, sym}
use Rattle.table_load.proofs.ColumnLaws.{empty_more}
use Rattle.table_load.proofs.columns.empty_columns.Goals as goal

pub loop-preserved : goal.loop-preserved
loop-preserved c =
    c.in_ok-push.ensures.items
    ∙ ap (λ l. c.loop.columns.items ++ l ∷ []) c.new.ensures
    ∙ ap (λ l. l ++ [] ∷ []) c.loop.invariant
    ∙ sym (empty_more c.loop.counter)
