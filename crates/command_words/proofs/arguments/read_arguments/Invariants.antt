use Rattle.std.proofs.Common.{length}
use Rattle.command_words.specs.Views.{given_of}
use Rattle.command_words.proofs.Scanned.{IsScanned}
use Rattle.command_words.proofs.arguments.read_arguments.Given as goal

abbrev pub invariant-arguments : goal.invariant-arguments
invariant-arguments l = IsScanned l.name l.words (given_of l.given) l.rest

abbrev pub decreases-arguments : goal.decreases-arguments
decreases-arguments l = length l.rest
