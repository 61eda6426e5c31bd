-- What is left of the vectors by name, behind a statement: those that a later one reads.
use Rattle.std.specs.Prelude.{◌≡◌, Bool, true, false, Result, Ok, Err}
use Rattle.std.specs.Str.{bytes_eq}
use Rattle.slot_columns.specs.declared.stop.Stop.{Stop}
use Rattle.slot_columns.specs.Stops.{StopsAt}
use Rattle.last_readers.specs.Readers.{is_read}
use Rattle.programs.specs.Mentions.{Label}
use Rattle.programs.specs.Vectors.{Env}
use Rattle.voodoo_ops.specs.Meaning.{Run}
use Rattle.voodoo_ops.specs.declared.later.Later.{Later}

-- whether a reached statement behind reads a name
abbrev pub reads : Later → Label → Bool
reads later n = is_read later.readers.now later.from n

-- each vector that is read later is as it was
abbrev pub Keeps : Later → Env → Env → Type 0
Keeps later env now = (m : Label) → reads later m ≡ true → now m ≡ env m

-- all vectors but that of one name are as they were
abbrev pub LeavesOthers : Label → Env → Env → Type 0
LeavesOthers n env now = (m : Label) → bytes_eq n m ≡ false → now m ≡ env m

-- a statement that was run, where it was meant to make these vectors
abbrev pub Advances : {A : Type 0} → Later → Result A Stop → Run → Env → Type 0
Advances later (Ok x) (Ok env) now = Keeps later env now
Advances later (Ok x) (Err e) now = ⊥
Advances later (Err stop) meant now = StopsAt stop meant
