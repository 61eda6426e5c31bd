-- What the parts of a typed expression have, by what the whole has.
use Rattle.std.proofs.Common.{◌≡◌, Bool, true, false, List, ◌∷◌, Option, Some, None, refl}
use Rattle.std.specs.Bool.{then_some}
use Rattle.std.specs.Option.{option_and_then}
use Rattle.typed_trees.specs.Types.{DataType, more_types, all_types}

pub some_same : {A : Type 0} (a b : A) → Some a ≡ Some b → a ≡ b
some_same a b e = cc

-- what passes a test
pub passed : {A : Type 0} (b : Bool) (x y : A) → then_some b x ≡ Some y → (b ≡ true) × (x ≡ y)
passed true x y e = (refl, some_same x y e)
passed false x y e = absurd (cc)

-- what an operator's operand, or the list of its operands, has
pub chosen : {A B : Type 0} (a : Option A) (f : A → Option B) (t : B) → option_and_then f a ≡ Some t → (s : A) × (a ≡ Some s) × (f s ≡ Some t)
chosen (Some s) f t e = (s, refl, e)
chosen None f t e = absurd (cc)

more_typed : (s : DataType) (o : Option (List DataType)) (ts : List DataType) → more_types s o ≡ Some ts → (rest : List DataType) × (o ≡ Some rest) × (s ∷ rest ≡ ts)
more_typed s (Some rest) ts e = (rest, refl, some_same (s ∷ rest) ts e)
more_typed s None ts e = absurd (cc)

-- the first of some operands, and the others
pub first_typed : (a : Option DataType) (more : List (Option DataType)) (ts : List DataType) → all_types (a ∷ more) ≡ Some ts → (s : DataType) × (rest : List DataType) × (a ≡ Some s) × (all_types more ≡ Some rest) × (s ∷ rest ≡ ts)
first_typed (Some s) more ts e = let r = more_typed s (all_types more) ts e in (s, r.0, refl, r.1, r.2)
first_typed None more ts e = absurd (cc)
