-- Worked examples of origins, of how far they reach, and of which attributes are control attributes.
use Rattle.std.specs.Prelude.{◌≡◌, ℕ, ◌+◌, ◌^◌, ℤ, pos, neg_ℤ, List, [], ◌∷◌, codes, if◌then◌else◌, Option, Some, None, option_map}
use Rattle.std.specs.Str.{bytes_eq}
use Rattle.control_vectors.specs.Controls.{Control, control_of}
use Rattle.programs.specs.declared.op.Op.{Op}
use Rattle.programs.specs.declared.op.Op.TheVariants as op
use Rattle.programs.specs.declared.op.Operand.{Operand}
use Rattle.programs.specs.declared.op.Operand.TheVariants as operand
use Rattle.programs.specs.declared.op.PairArgs.{PairArgs}
use Rattle.programs.specs.declared.op.Size.TheVariants as size
use Rattle.programs.specs.declared.op.Statement.{Statement}
use Rattle.programs.specs.Mentions.{Label}
use Rattle.programs.specs.Outlines.{outlined, Shapes}
use Rattle.attribute_origins.specs.Traces.{Origin, origin, Traces}
use Rattle.attribute_origins.specs.ControlStatements.{control_at}
use Rattle.attribute_origins.specs.Origins.{traces_of, attribute_of}

abbrev pub statement : Label → Op → Statement
statement name op = record { name = name; op = op }

-- a table `t` of ten rows, with the columns `a` and `b`
abbrev pub one_table : Shapes
one_table = λ n. if bytes_eq n (codes "t") then Some (outlined 10 (codes ".a" ∷ codes ".b" ∷ [])) else None

abbrev pub in_order : List Statement → Traces
in_order program = traces_of one_table program

-- where an attribute comes from, and how far it reaches
abbrev pub from_of : Traces → Label → Label → Option (Origin × ℕ)
from_of made a p = option_map (λ t. (t.origin, t.reach)) (attribute_of made a p)

-- ---- origins

abbrev pub some_program : Traces
some_program = in_order (
    statement (codes "rows") (op.Load (codes "t"))
    ∷ statement (codes "ids") (op.Range (size.Number 6) (codes ".i") (control_of (pos 0) 1 0 1))
    ∷ statement (codes "both") (op.Zip (codes "rows") (codes "ids"))
    ∷ statement (codes "part") (op.Project (codes "both") (codes ".a") (codes ".c.d"))
    ∷ statement (codes "more") (op.Upsert (codes "rows") (codes ".b") (codes "ids") (codes ".i"))
    ∷ statement (codes "less") (op.Zip (codes "part") (codes "more"))
    ∷ statement (codes "there") (op.Gather (codes "more") (codes "ids") (codes ".i"))
    ∷ statement (codes "again") (op.Gather (codes "there") (codes "rows") (codes ".a"))
    ∷ statement (codes "kept") (op.Materialize (codes "more"))
    ∷ statement (codes "answer") (op.Persist (codes "again"))
    ∷ []
    )

pub record OriginExamples : Type 0 where
  -- what a statement makes begins with it
  pub loaded : from_of some_program (codes "rows") (codes ".a") ≡ Some (origin (codes "rows") (codes ".a"), 10)
  pub counted : from_of some_program (codes "ids") (codes ".i") ≡ Some (origin (codes "ids") (codes ".i"), 6)
  -- Zip hands on what both have, up to the shorter length
  pub zipped : from_of some_program (codes "both") (codes ".a") ≡ Some (origin (codes "rows") (codes ".a"), 6)
  pub beside : from_of some_program (codes "both") (codes ".i") ≡ Some (origin (codes "ids") (codes ".i"), 6)
  -- Project hands on under another path
  pub projected : from_of some_program (codes "part") (codes ".c.d") ≡ Some (origin (codes "rows") (codes ".a"), 6)
  pub left_out : from_of some_program (codes "part") (codes ".i") ≡ None
  -- Upsert hands on one attribute more, which may end before its vector does
  pub upserted : from_of some_program (codes "more") (codes ".b") ≡ Some (origin (codes "ids") (codes ".i"), 6)
  pub as_before : from_of some_program (codes "more") (codes ".a") ≡ Some (origin (codes "rows") (codes ".a"), 10)
  -- a Gather and a Materialize make their own attributes, of their own length
  pub moved : from_of some_program (codes "there") (codes ".b") ≡ Some (origin (codes "there") (codes ".b"), 6)
  pub made_anew : from_of some_program (codes "kept") (codes ".b") ≡ Some (origin (codes "kept") (codes ".b"), 10)
  -- behind two Gathers the root is what the first of them moved
  pub root : option_map (λ t. t.root) (attribute_of some_program (codes "again") (codes ".a")) ≡ Some (origin (codes "rows") (codes ".a"))
  pub another_root : option_map (λ t. t.root) (attribute_of some_program (codes "again") (codes ".b")) ≡ Some (origin (codes "ids") (codes ".i"))
  -- a result is no vector
  pub result : from_of some_program (codes "answer") (codes ".a") ≡ None

-- ---- control attributes

-- 0, 1, 2, .. over ten places, and behind it one statement of it and a number
abbrev pub numbers : Control
numbers = control_of (pos 0) 1 0 1

abbrev pub range : Control → Statement
range c = statement (codes "r") (op.Range (size.Number 10) (codes ".p") c)

abbrev pub column : Label → Label → Operand
column a p = operand.Column a p

abbrev pub args : Operand → Operand → PairArgs
args x y = record { x = x; y = y; out = codes ".q" }

abbrev pub by_number : ℤ → PairArgs
by_number z = args (column (codes "r") (codes ".p")) (operand.Number z)

-- the four numbers of what one statement more makes
abbrev pub behind : Control → Op → Option Control
behind c o = control_at (in_order (range c ∷ statement (codes "s") o ∷ [])) (codes "s") (codes ".q")

pub record ControlExamples : Type 0 where
  pub is_range : control_at (in_order (range numbers ∷ [])) (codes "r") (codes ".p") ≡ Some numbers
  pub added : behind numbers (op.Add (by_number (pos 5))) ≡ Some (control_of (pos 5) 1 0 1)
  pub subtracted : behind numbers (op.Subtract (by_number (pos 5))) ≡ Some (control_of (neg_ℤ (pos 5)) 1 0 1)
  pub multiplied : behind numbers (op.Multiply (by_number (pos 5))) ≡ Some (control_of (pos 0) 5 0 1)
  pub divided : behind numbers (op.Divide (by_number (pos 5))) ≡ Some (control_of (pos 0) 1 0 5)
  pub rest : behind numbers (op.Modulo (by_number (pos 5))) ≡ Some (control_of (pos 0) 1 5 1)
  -- the closed operation gives none: a sum whose start is too far, a product of quotients, a quotient of a start that is no multiple, a rest from another start than 0
  pub too_far : behind numbers (op.Add (by_number (pos (2 ^ 62 + 1)))) ≡ None
  pub of_quotients : behind (control_of (pos 0) 1 0 2) (op.Multiply (by_number (pos 5))) ≡ None
  pub no_multiple : behind (control_of (pos 3) 1 0 1) (op.Divide (by_number (pos 2))) ≡ None
  pub from_three : behind (control_of (pos 3) 1 0 1) (op.Modulo (by_number (pos 2))) ≡ None
  -- the number does not fit the operation: 2^63 has no 64 bits with a sign, -1 and 2^32 are no 32 bits without one
  pub wide_sum : behind (control_of (neg_ℤ (pos (2 ^ 62))) 1 0 1) (op.Add (by_number (pos (2 ^ 63)))) ≡ None
  pub wide_difference : behind (control_of (neg_ℤ (pos (2 ^ 62))) 1 0 1) (op.Subtract (by_number (neg_ℤ (pos (2 ^ 63))))) ≡ None
  pub below : behind numbers (op.Multiply (by_number (neg_ℤ (pos 1)))) ≡ None
  pub wide_factor : behind (control_of (pos 0) 0 0 1) (op.Multiply (by_number (pos (2 ^ 32)))) ≡ None
  -- a number before the attribute, two attributes, and an operator that is none of the five
  pub number_first : behind numbers (op.Add (args (operand.Number (pos 5)) (column (codes "r") (codes ".p")))) ≡ None
  pub two_attributes : behind numbers (op.Add (args (column (codes "r") (codes ".p")) (column (codes "r") (codes ".p")))) ≡ None
  pub another : behind numbers (op.Greater (by_number (pos 5))) ≡ None
  pub of_no_control : control_at (in_order (statement (codes "r") (op.Load (codes "t")) ∷ statement (codes "s") (op.Add (args (column (codes "r") (codes ".a")) (operand.Number (pos 5)))) ∷ [])) (codes "s") (codes ".q") ≡ None

-- control attributes that are handed on: over four places, into a vector of ten, and from there into one of four again
abbrev pub handed_on : Traces
handed_on = in_order (
    range numbers
    ∷ statement (codes "few") (op.Range (size.Number 4) (codes ".q") numbers)
    ∷ statement (codes "named") (op.Project (codes "r") (codes ".p") (codes ".a.b"))
    ∷ statement (codes "shorter") (op.Zip (codes "r") (codes "few"))
    ∷ statement (codes "longer") (op.Upsert (codes "r") (codes ".q") (codes "few") (codes ".q"))
    ∷ statement (codes "of_longer") (op.Add (args (column (codes "longer") (codes ".q")) (operand.Number (pos 1))))
    ∷ statement (codes "few_more") (op.Project (codes "few") (codes ".q") (codes ".more"))
    ∷ statement (codes "shorter_again") (op.Zip (codes "longer") (codes "few_more"))
    ∷ statement (codes "made_anew") (op.Materialize (codes "r"))
    ∷ statement (codes "moved") (op.Gather (codes "r") (codes "r") (codes ".p"))
    ∷ []
    )

pub record HandedExamples : Type 0 where
  pub named : control_at handed_on (codes "named") (codes ".a.b") ≡ Some numbers
  -- as long as the vector that they are cut to
  pub shorter : control_at handed_on (codes "shorter") (codes ".p") ≡ Some numbers
  pub shortest : control_at handed_on (codes "shorter") (codes ".q") ≡ Some numbers
  -- six slots are empty, so that it is none, and neither is what a number is added to; its vector's other attribute is one
  pub longer : control_at handed_on (codes "longer") (codes ".q") ≡ None
  pub of_longer : control_at handed_on (codes "of_longer") (codes ".q") ≡ None
  pub beside : control_at handed_on (codes "longer") (codes ".p") ≡ Some numbers
  -- where those six are cut off, it is one again
  pub again : control_at handed_on (codes "shorter_again") (codes ".q") ≡ Some numbers
  -- no other statement makes one
  pub made_anew : control_at handed_on (codes "made_anew") (codes ".p") ≡ None
  pub moved : control_at handed_on (codes "moved") (codes ".p") ≡ None
  -- no such attribute
  pub nowhere : control_at handed_on (codes "named") (codes ".p") ≡ None
