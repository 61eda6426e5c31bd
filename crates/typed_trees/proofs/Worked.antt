-- Worked types and names, by computation.
use Rattle.std.proofs.Common.{refl}
use Rattle.typed_trees.specs.Examples.{TypeTable, FoldedTable, SideTable, NameTable}
use Rattle.typed_trees.proofs.TypeForms.{type_Number, type_Text, type_Column, type_Aggregate, type_Signed, type_Not, type_Binary, type_Divide, type_Between, type_In, type_IsNull, type_Coalesce}
use Rattle.typed_trees.proofs.SideForms.{stands_Text, stands_Column, stands_Binary, stands_In, stands_Coalesce}
use Rattle.typed_trees.proofs.NameForms.{names_Column, names_Aggregate, names_In, names_Coalesce}

pub types : TypeTable
types = simp (type_Number, type_Text, type_Column, type_Aggregate, type_Signed, type_Not, type_Binary, type_Divide, type_Between, type_In, type_IsNull, type_Coalesce) refl

pub folded : FoldedTable
folded = simp (type_Number, type_Column, type_Aggregate, type_Binary) refl

pub sides : SideTable
sides = simp (stands_Text, stands_Column, stands_Binary, stands_In, stands_Coalesce) refl

pub named : NameTable
named = simp (names_Column, names_Aggregate, names_In, names_Coalesce) refl
