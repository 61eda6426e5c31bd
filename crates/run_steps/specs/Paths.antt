-- Where a table's file lies: beside the schema's.
use Rattle.std.specs.Prelude.{ℕ, ◌-◌, ◌==◌, Bool, not, List, ◌++◌, length, take, codes}
use Rattle.std.specs.List.{suffix_len}

abbrev pub is_no_slash : ℕ → Bool
is_no_slash byte = not (byte == 47)

-- a path up to and with its last `/`: without the longest end that has no slash
abbrev pub folder_of : List ℕ → List ℕ
folder_of path = take (length path - suffix_len is_no_slash path) path

-- the schema's folder, then the table's name, then `.csv`
abbrev pub table_file : List ℕ → List ℕ → List ℕ
table_file schema table = folder_of schema ++ table ++ codes ".csv"
