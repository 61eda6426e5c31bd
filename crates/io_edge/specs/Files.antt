-- Files in memory: a list of named byte strings, of which one may be open.
use Rattle.std.specs.Prelude.{ℕ, nat_eq, List, [], ◌∷◌, Option, Some, None, if◌then◌else◌, slice_index_or}
use Rattle.std.specs.Cmp.Lexicographic.{pointwise}
use Rattle.std.specs.Global.{Vec}

-- a named file as its name and its bytes
abbrev pub NamedFile : Type 0
NamedFile = List ℕ × List ℕ

-- the bytes of the first file of a name
abbrev pub file_of : List NamedFile → List ℕ → Option (List ℕ)
file_of [] name = None
file_of (file ∷ files) name = if pointwise nat_eq file.0 name then Some file.1 else file_of files name

-- the bytes of the file at a place, and none past the end
abbrev pub bytes_at : List NamedFile → ℕ → List ℕ
bytes_at files i = (slice_index_or files i ([], [])).1

-- a stored file as contracts see it
abbrev pub named_file : List ℕ × Vec ℕ → NamedFile
named_file file = (file.0, file.1.items)

-- a shelf's files, and what is left of the one that is open
pub record OpenFiles : Type 0 where
  pub files : List NamedFile
  pub left : List ℕ

-- a shelf in memory whose calls can be made to fail: the numbers of the calls that fail, how many calls and how many faults there were
pub record Memory : Type 0 where
  pub files : List NamedFile
  pub left : List ℕ
  pub fails : List ℕ
  pub calls : ℕ
  pub faults : ℕ
