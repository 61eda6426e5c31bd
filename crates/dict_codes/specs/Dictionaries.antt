-- Dictionaries: the distinct texts of a list, ascending by bytes. The code of a text is the number of texts below it.
-- Texts are in the order of their bytes, so codes compare as their texts do.
use Rattle.std.specs.Prelude.{◌≡◌, ℕ, Bool, true, List}
use Rattle.std.specs.List.{AllPairs, count_by, list_any}
use Rattle.std.specs.Str.{bytes_eq}
use Rattle.sql_values.specs.Texts.{by_bytes, is_below}
use Rattle.dict_codes.specs.Ascending.{ascending}

-- each text is below those behind it
abbrev pub IsAscending : List (List ℕ) → Type 0
IsAscending texts = AllPairs (λ a b. is_below a b ≡ true) texts

-- the distinct texts, ascending
abbrev pub dictionary_of : List (List ℕ) → List (List ℕ)
dictionary_of texts = ascending by_bytes texts

-- how many texts of a dictionary are below a text: where it is one of them, its code
abbrev pub rank_in : List (List ℕ) → List ℕ → ℕ
rank_in texts text = count_by (λ t. is_below t text) texts

abbrev pub is_among : List (List ℕ) → List ℕ → Bool
is_among texts text = list_any (bytes_eq text) texts
