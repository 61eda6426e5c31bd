-- The vectors that a statement mentions by name.
use Rattle.std.specs.Prelude.{ℕ, Bool, true, false, List, [], ◌∷◌, ◌++◌}
use Rattle.std.specs.List.{list_any}
use Rattle.std.specs.Str.{bytes_eq}
use Rattle.programs.specs.declared.op.Size.{Size}
use Rattle.programs.specs.declared.op.Size.TheVariants.{Number, Of}
use Rattle.programs.specs.declared.op.Operand.{Operand}
use Rattle.programs.specs.declared.op.Operand.TheVariants as operand
use Rattle.programs.specs.declared.op.Op.{Op}
use Rattle.programs.specs.Families.{Family, family, Load, Persist, Range, Cross, Zip, Project, Upsert, Gather, Scatter, Rank, Materialize, Break, Fold, Order, Pair, BitShift}

-- a name or a path is its bytes
abbrev pub Label : Type 0
Label = List ℕ

abbrev pub size_names : Size → List Label
size_names (Number n) = []
size_names (Of a) = a ∷ []

abbrev pub operand_names : Operand → List Label
operand_names (operand.Column a p) = a ∷ []
operand_names (operand.Number z) = []

-- the vectors that a statement mentions
abbrev pub mentioned_by : Family → List Label
mentioned_by (Load t) = []
mentioned_by (Persist a) = a ∷ []
mentioned_by (Range size p control) = size_names size
mentioned_by (Cross a p b q) = a ∷ b ∷ []
mentioned_by (Zip a b) = a ∷ b ∷ []
mentioned_by (Project a p q) = a ∷ []
mentioned_by (Upsert a p b q) = a ∷ b ∷ []
mentioned_by (Gather a b pos) = a ∷ b ∷ []
mentioned_by (Scatter a size b pos) = a ∷ size_names size ++ b ∷ []
mentioned_by (Rank kind r) = r.a ∷ r.b ∷ []
mentioned_by (Materialize a) = a ∷ []
mentioned_by (Break a) = a ∷ []
mentioned_by (Fold kind f) = f.a ∷ []
mentioned_by (Order a mark out keys) = a ∷ []
mentioned_by (Pair kind p) = operand_names p.x ++ operand_names p.y
mentioned_by (BitShift x by out) = operand_names x

abbrev pub mentioned : Op → List Label
mentioned op = mentioned_by (family op)

abbrev pub shows_result : Family → Bool
shows_result (Persist a) = true
shows_result _ = false

abbrev pub is_persist : Op → Bool
is_persist op = shows_result (family op)

abbrev pub has_name : List Label → Label → Bool
has_name names n = list_any (λ m. bytes_eq m n) names
