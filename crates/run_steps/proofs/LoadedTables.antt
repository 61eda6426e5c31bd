-- Tables that are loaded one after the other, by the definitions in their places.
use Rattle.std.proofs.Common.{◌≡◌, ℕ, ◌+◌, ◌<◌, List, [], ◌∷◌, ◌++◌, length, take, get_or, ap, sym, ◌∙◌, subst}
use Rattle.std.proofs.lemmas.List.{take_more}
use Rattle.sql_read.specs.declared.definition.TableDef.{TableDef}
use Rattle.table_load.specs.Values.{Table as TableValue}
use Rattle.loaded_plans.specs.Laws.{AreLoaded, IsLoaded}

loaded_last : (defs : List TableDef) (ts : List TableValue) (def : TableDef) (t : TableValue) → AreLoaded defs ts → IsLoaded def t → AreLoaded (defs ++ def ∷ []) (ts ++ t ∷ [])
loaded_last [] [] def t h here = (here, tt)
loaded_last [] (u ∷ ts) def t h here = absurd h
loaded_last (d ∷ defs) [] def t h here = absurd h
loaded_last (d ∷ defs) (u ∷ ts) def t h here = (h.0, loaded_last defs ts def t h.1 here)

-- one more
pub loaded_more : (defs : List TableDef) (i : ℕ) (def : TableDef) (ts : List TableValue) (t : TableValue) → i < length defs → def ≡ get_or defs i def → AreLoaded (take i defs) ts → IsLoaded def t
    → AreLoaded (take (i + 1) defs) (ts ++ t ∷ [])
loaded_more defs i def ts t within at h here =
    let more : take (i + 1) defs ≡ take i defs ++ def ∷ [] = take_more defs i def within ∙ ap (λ d. take i defs ++ d ∷ []) (sym at) in
    subst (λ l. AreLoaded l (ts ++ t ∷ [])) (sym more) (loaded_last (take i defs) ts def t h here)

-- none
pub loaded_none : (ts : List TableValue) → ts ≡ [] → AreLoaded [] ts
loaded_none [] h = tt
loaded_none (t ∷ ts) h = absurd cc
