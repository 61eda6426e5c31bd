-- How a table is held: its columns as slots, with a list of its distinct texts, of which a slot of a column of texts has the place. An empty
-- slot is a null.
use Rattle.std.specs.Prelude.{◌≡◌, ℕ, zero, suc, ◌<◌, ◌≤◌, ◌^◌, ℤ, pos, negsuc, Bool, true, false, List, [], ◌∷◌, ◌++◌, length, map, fold, if◌then◌else◌, slice_index_or, Some, None, ⊤}
use Rattle.std.specs.List.{All, list_any}
use Rattle.std.specs.Str.{bytes_eq}
use Rattle.control_vectors.specs.Slots.{Slot}
use Rattle.sql_read.specs.declared.definition.ColumnDef.{ColumnDef}
use Rattle.sql_types.specs.Catalog.{is_text}
use Rattle.sql_values.specs.Values.{Value, number, text, null}
use Rattle.struct_vectors.specs.Columns.{marked_slot}
use Rattle.table_load.specs.Databases.{rows_texts}

-- ---- slots, as numbers with marks

-- numbers with the marks of the first of them: a number without a mark is a slot that is not empty
abbrev pub slots_of : List ℤ → List Bool → List Slot
slots_of [] marks = []
slots_of (x ∷ xs) [] = Some x ∷ slots_of xs []
slots_of (x ∷ xs) (mark ∷ marks) = marked_slot x mark ∷ slots_of xs marks

-- ---- texts, each once, in the order of their first places

abbrev pub note : List (List ℕ) → List ℕ → List (List ℕ)
note texts t = if list_any (bytes_eq t) texts then texts else texts ++ t ∷ []

unfoldable pub noted : List (List ℕ) → List (List ℕ) → List (List ℕ)
noted texts more = fold note texts more

-- ---- cells: the slots of a row

-- the place that a number in a column of texts names
abbrev pub code_of : ℤ → ℕ
code_of (pos n) = n
code_of (negsuc n) = 0

-- the value of a number in a column of texts, or of numbers
abbrev pub value_in : List (List ℕ) → Bool → ℤ → Value
value_in texts true z = text (slice_index_or texts (code_of z) [])
value_in texts false z = number z

-- the value of a cell
abbrev pub value_of : List (List ℕ) → Bool → Slot → Value
value_of texts k None = null
value_of texts k (Some z) = value_in texts k z

abbrev pub IsCode : ℕ → ℤ → Type 0
IsCode count (pos n) = n < count
IsCode count (negsuc n) = ⊥

-- a cell of a column of texts names one of so many, unless it is empty
abbrev pub IsCell : ℕ → Bool → Slot → Type 0
IsCell count true (Some z) = IsCode count z
IsCell count true None = ⊤
IsCell count false cell = ⊤

-- the values of the first cells of a row
abbrev pub values_of : List (List ℕ) → List Bool → List Slot → List Value
values_of texts [] cells = []
values_of texts (k ∷ ks) [] = []
values_of texts (k ∷ ks) (z ∷ zs) = value_of texts k z ∷ values_of texts ks zs

abbrev pub AreCells : ℕ → List Bool → List Slot → Type 0
AreCells count ks [] = ⊤
AreCells count [] (z ∷ zs) = ⊥
AreCells count (k ∷ ks) (z ∷ zs) = IsCell count k z × AreCells count ks zs

-- which columns are of texts
abbrev pub is_text_column : ColumnDef → Bool
is_text_column c = is_text c.kind

abbrev pub text_columns : List ColumnDef → List Bool
text_columns columns = map is_text_column columns

-- ---- columns

-- so many columns without a cell
abbrev pub empty_columns : ℕ → List (List Slot)
empty_columns zero = []
empty_columns (suc n) = [] ∷ empty_columns n

-- a row more: a cell at the end of each column
abbrev pub with_cells : List (List Slot) → List Slot → List (List Slot)
with_cells [] cells = []
with_cells (c ∷ cs) [] = c ∷ cs
with_cells (c ∷ cs) (z ∷ zs) = (c ++ z ∷ []) ∷ with_cells cs zs

-- the cells of a row
abbrev pub cells_at : ℕ → List (List Slot) → List Slot
cells_at i columns = map (λ c. slice_index_or c i None) columns

abbrev pub row_at : List (List ℕ) → List Bool → List (List Slot) → ℕ → List Value
row_at texts ks columns i = values_of texts ks (cells_at i columns)

-- the first rows, by a row's place
unfoldable pub rows_to : (ℕ → List Value) → ℕ → List (List Value)
rows_to row zero = []
rows_to row (suc n) = rows_to row n ++ row n ∷ []

abbrev pub rows_held : List (List ℕ) → List Bool → List (List Slot) → ℕ → List (List Value)
rows_held texts ks columns n = rows_to (row_at texts ks columns) n

-- each column has n cells
abbrev pub AreColumns : ℕ → ℕ → List Bool → List (List Slot) → Type 0
AreColumns count n [] [] = ⊤
AreColumns count n [] (c ∷ cs) = ⊥
AreColumns count n (k ∷ ks) [] = ⊥
AreColumns count n (k ∷ ks) (c ∷ cs) = (length c ≡ n) × All (IsCell count k) c × AreColumns count n ks cs

-- what holds of every table: the columns are whole, and the texts are those of the rows
pub record IsHeld (texts : List (List ℕ)) (ks : List Bool) (columns : List (List Slot)) (n : ℕ) : Type 0 where
  pub columns_whole : AreColumns (length texts) n ks columns
  pub few : n ≤ 2 ^ 20
  pub texts_are : texts ≡ noted [] (rows_texts (rows_held texts ks columns n))
