-- Worked comparisons: two texts or values, and how the first compares with the second.
use Rattle.std.specs.Prelude.{◌≡◌, ℕ, pos, negsuc, true, false, List, [], ◌∷◌, map}
use Rattle.std.specs.declared.cmp.Ordering.{Ordering}
use Rattle.std.specs.declared.cmp.Ordering.TheVariants.{Less, Equal, Greater}
use Rattle.sql_values.specs.Texts.{by_bytes}
use Rattle.sql_values.specs.Values.{Value, number, text, truth, null, by_value}

-- each row of a table holds
abbrev pub Holds : {V : Type 0} → (V → V → Ordering) → List (V × V × Ordering) → Type 0
Holds cmp table = map (λ r. cmp r.0 r.1) table ≡ map (λ r. r.2) table

-- 'a' is 97, 'b' 98, 'B' 66, a blank 32, and 'é' the two bytes 195, 169
abbrev pub texts : List (List ℕ × List ℕ × Ordering)
texts =
    ([], [], Equal)
    ∷ ([], 97 ∷ [], Less)
    ∷ (97 ∷ [], [], Greater)
    ∷ (97 ∷ [], 97 ∷ [], Equal)
    ∷ (97 ∷ [], 98 ∷ [], Less)
    ∷ (98 ∷ [], 97 ∷ 97 ∷ [], Greater)
    ∷ (97 ∷ [], 97 ∷ 98 ∷ [], Less)
    ∷ (97 ∷ 98 ∷ [], 97 ∷ [], Greater)
    ∷ (97 ∷ [], 97 ∷ 32 ∷ [], Less)
    ∷ (66 ∷ [], 97 ∷ [], Less)
    ∷ (122 ∷ [], 195 ∷ 169 ∷ [], Less)
    ∷ (195 ∷ 169 ∷ [], 122 ∷ 122 ∷ [], Greater)
    ∷ (255 ∷ [], 0 ∷ 255 ∷ [], Greater)
    ∷ []

abbrev pub TextExamples : Type 0
TextExamples = Holds by_bytes texts

-- `negsuc n` is -(n + 1)
abbrev pub values : List (Value × Value × Ordering)
values =
    (null, null, Equal)
    ∷ (null, number (negsuc 9), Less)
    ∷ (number (negsuc 9), null, Greater)
    ∷ (null, text [], Less)
    ∷ (null, truth false, Less)
    ∷ (number (negsuc 1), number (negsuc 0), Less)
    ∷ (number (negsuc 0), number (pos 0), Less)
    ∷ (number (pos 2), number (pos 10), Less)
    ∷ (number (pos 10), number (pos 2), Greater)
    ∷ (number (pos 7), number (pos 7), Equal)
    ∷ (number (pos 7), text [], Less)
    ∷ (text (49 ∷ 48 ∷ []), text (50 ∷ []), Less)
    ∷ (text (97 ∷ []), text (97 ∷ []), Equal)
    ∷ (text (255 ∷ []), truth false, Less)
    ∷ (truth false, truth true, Less)
    ∷ (truth true, truth true, Equal)
    ∷ []

abbrev pub ValueExamples : Type 0
ValueExamples = Holds by_value values
