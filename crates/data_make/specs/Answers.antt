-- The answer of the generated job, and a worked one.
use Rattle.std.specs.Prelude.{◌≡◌, ℕ, List, [], ◌∷◌, codes, Result, Ok}
use Rattle.control_vectors.specs.declared.Over.{Over}
use Rattle.answer_texts.specs.Texts.{answer_text}
use Rattle.data_make.specs.Loading.{made_rows}
use Rattle.data_make.specs.Query.{made_typed}

-- the text of the answer of the job of a seed and a number of rows, or Over where it is
abbrev pub made_answer : ℕ → ℕ → Result (List ℕ) Over
made_answer seed rows = answer_text (made_rows seed rows ∷ []) made_typed

-- of the two rows of seed 1 the first was shipped from March 1992 on
abbrev pub WorkedAnswer : Type 0
WorkedAnswer = made_answer 1 2 ≡ Ok (codes "kind,n,total,mean\nRAIL,1,-387349,-387349\n")
