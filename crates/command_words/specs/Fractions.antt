-- How many bits stand behind the point in rounded numbers.
use Rattle.std.specs.Prelude.{ℕ}
use Rattle.command_words.specs.declared.command.FractionBits.{FractionBits}
use Rattle.command_words.specs.declared.command.FractionBits.TheVariants.{F40, F48, F52}

abbrev pub fraction_bits : FractionBits → ℕ
fraction_bits F40 = 40
fraction_bits F48 = 48
fraction_bits F52 = 52
