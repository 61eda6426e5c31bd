-- Kinds of tokens that stand in one place of the grammar.
use Rattle.std.specs.Prelude.{Bool, true, false}
use Rattle.sql_read.specs.declared.kind.Kind.{Kind}
use Rattle.sql_read.specs.declared.kind.Kind.TheVariants as k
use Rattle.query_read.specs.declared.expecting.Class.{Class}
use Rattle.query_read.specs.declared.expecting.Class.TheVariants as class
use Rattle.query_read.specs.Nodes.{signs, steps, compares, numerals, aggregates}

-- * and /
abbrev pub multiplies : Kind → Bool
multiplies k.Star = true
multiplies k.Slash = true
multiplies kind = false

-- BETWEEN and IN
abbrev pub ranges : Kind → Bool
ranges k.Between = true
ranges k.In = true
ranges kind = false

-- what begins a table that is added
abbrev pub joins : Kind → Bool
joins k.Comma = true
joins k.Cross = true
joins k.Inner = true
joins k.Join = true
joins kind = false

abbrev pub kinds : Class → Kind → Bool
kinds class.Sign = signs
kinds class.Step = steps
kinds class.Factor = multiplies
kinds class.Comparison = compares
kinds class.Range = ranges
kinds class.Numeral = numerals
kinds class.Aggregate = aggregates
kinds class.Join = joins
