use Rattle.command_words.specs.declared.command.Command.TheVariants as command
use Rattle.command_words.specs.Fractions.{fraction_bits}
use Rattle.boltz.proofs.Complete.{outcome-of}
use Rattle.boltz.proofs.laws.what_a_number_draws_is_told.Goals as goal

pub returns : goal.returns
returns c = record { told = λ w n F base turns ending status text ticks p memory h. c.a_run_that_ends_is_told.ensures.told n (fraction_bits F) base p.has_base turns ending p.ends status text ticks memory (outcome-of w (command.Bulk n F) p.named status text ticks memory h) }
