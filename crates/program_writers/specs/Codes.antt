-- What a call of the code adds to a program, and loops over parts.
use Rattle.program_writers.specs.declared.writer.Writer.{Writer as Text}
use Rattle.program_writers.specs.Writers.{Writer, Writes}

-- what is written before and behind a call, and what it tells
abbrev pub Adds : {A : Type 0} → Writer A → Text → Text → A → Type 0
Adds m old new told = Writes m old.statements.items old.next new.statements.items new.next told
