-- The statements that load rows are never Over.
use Rattle.std.proofs.Common.{◌≡◌, ℕ, ◌+◌, true, List, [], ◌∷◌, refl}
use Rattle.programs.specs.declared.op.Statement.{Statement}
use Rattle.programs.specs.Mentions.{Label}
use Rattle.sql_read.specs.declared.definition.TableDef.{TableDef}
use Rattle.program_writers.specs.Writers.{through}
use Rattle.plan_programs.specs.Rows.{column_in, rows_of}
use Rattle.plan_programs.specs.Sites.{Base}
use Rattle.writer_runs.specs.Uses.{never_over, Uses}
use Rattle.writer_runs.proofs.Used.{idle, append, more}
use Rattle.lowered_stages.specs.Parts.{RowsUses, told_at}

abbrev NeverOver : List Statement → Type 0
NeverOver [] = Unit {0}
NeverOver (s ∷ rest) = (never_over s.op ≡ true) × NeverOver rest

calm_used : (wanted : List Label) (a : List Statement) → NeverOver a → Uses wanted wanted a
calm_used wanted [] h = record { used = tt; reaches = λ n m. m }
calm_used wanted (s ∷ a) h = append wanted wanted wanted (s ∷ []) a (idle wanted s h.0) (calm_used wanted a h.1)

columns_calm : (def : TableDef) (source : ℕ) (table : Label) (columns : List ℕ) (b : Base) (k : ℕ) → NeverOver (through (column_in def source table) b columns k).statements
columns_calm def source table [] b k = tt
columns_calm def source table (c ∷ columns) b k = (refl, columns_calm def source table columns _ (k + 1))

rows_calm : (def : TableDef) (source : ℕ) (columns : List ℕ) (k : ℕ) → NeverOver (rows_of def source columns k).statements
rows_calm def source columns k = (refl, (refl, columns_calm def source _ columns _ (k + 1 + 1)))

pub rows_uses : RowsUses
rows_uses def source columns k =
    let wanted = (told_at (rows_of def source columns) k).vector ∷ [] in
    more wanted wanted wanted [] (rows_of def source columns k).statements (λ n m. m) (λ n none. absurd cc) (calm_used wanted (rows_of def source columns k).statements (rows_calm def source columns k))
