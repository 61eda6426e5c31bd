use Rattle.std.proofs.Common.{◌≡◌, ◌-◌}
use Rattle.phrases.specs.Parsers.{turns}
use Rattle.voodoo_text.specs.declared.kind.Kind.TheVariants as k
use Rattle.voodoo_text.specs.Places.{is, keys, another_key}
use Rattle.voodoo_text.proofs.places.keys.Given as goal

abbrev pub invariant-loop-turn : goal.invariant-loop-turn
invariant-loop-turn l = keys l.fn.line ≡ turns (is k.Comma) another_key (l._turn-end - l._turn) l.keys.items l.line
