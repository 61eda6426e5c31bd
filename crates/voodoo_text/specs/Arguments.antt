-- What each argument is printed as.
use Rattle.std.specs.Prelude.{◌++◌}
use Rattle.std.specs.Fmt.{signed_decimal}
use Rattle.voodoo_text.specs.declared.argument.Argument.{Argument}
use Rattle.voodoo_text.specs.declared.argument.Argument.TheVariants.{Word, Attribute, Number}
use Rattle.voodoo_text.specs.Values.{Bytes}

abbrev pub argument_text : Argument → Bytes
argument_text (Word word) = word.now
argument_text (Attribute vector path) = vector.now ++ path.now
argument_text (Number z) = signed_decimal z
