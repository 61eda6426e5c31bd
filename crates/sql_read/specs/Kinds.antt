-- When two kinds of token are one.
use Rattle.std.specs.Prelude.{Bool}
use denote.Enum.Bare.{sameb}
use Rattle.sql_read.specs.contracts.kind.Kind.{the_type}
use Rattle.sql_read.specs.declared.kind.Kind.{Kind}

unfoldable pub same_kind : Kind → Kind → Bool
same_kind = sameb the_type
