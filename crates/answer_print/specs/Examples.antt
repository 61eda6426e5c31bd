-- Worked texts of vectors that hold an answer, worked out by hand.
use Rattle.std.specs.Prelude.{◌≡◌, ℕ, pos, negsuc, List, [], ◌∷◌, codes, Some, None}
use Rattle.programs.specs.Vectors.{Named}
use Rattle.typed_trees.specs.declared.typed.TypedQuery.{TypedQuery}
use Rattle.query_answers.specs.Examples.{amount, select, texts}
use Rattle.answer_texts.specs.Examples.{date, under}
use Rattle.answer_print.specs.Held.{held_text}

-- SELECT amt, w, d FROM t, where amt is a DECIMAL(10, 2), w a VARCHAR and d a DATE
abbrev pub three_items : TypedQuery
three_items = under (codes "amt" ∷ codes "w" ∷ codes "d" ∷ []) (select (amount ∷ texts 1 ∷ date 2 ∷ []))

abbrev pub two_texts : List (List ℕ)
two_texts = codes "AIR" ∷ codes "a,b" ∷ []

-- three places, of which the first two are marked
abbrev pub three_places : Named
three_places = (
  codes "answer",
  record {
    len = 3;
    attributes =
        (codes ".c1", Some (pos 1250) ∷ Some (negsuc 4) ∷ Some (pos 7) ∷ [])
        ∷ (codes ".c2", Some (pos 1) ∷ None ∷ Some (pos 0) ∷ [])
        ∷ (codes ".c3", Some (pos 10471) ∷ Some (negsuc 0) ∷ None ∷ [])
        ∷ (codes ".mark", Some (pos 0) ∷ Some (pos 0) ∷ None ∷ [])
        ∷ [];
  },
)
    ∷ []

abbrev pub HeldTexts : Type 0
HeldTexts = held_text two_texts three_items three_places ≡ codes "amt,w,d\n12.50,\"a,b\",1998-09-02\n-0.05,,1969-12-31\n"
