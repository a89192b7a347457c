use Rattle.bulk_command.proofs.OneBulk.{bulk-only}
use Rattle.bulk_command.proofs.laws.no_specification_of_a_number_is_refused.Goals as goal

pub returns : goal.returns
returns c = record { goes_on = λ n F status text ticks memory h. bulk-only n F (c.the_text_stands_for_the_tables.ensures.accepted n) (c.the_text_stands_for_the_tables.ensures.well_founded n) status text ticks memory h }
