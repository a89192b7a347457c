use Rattle.bulk_command.proofs.OneBulk.{drawn-only}
use Rattle.bulk_command.proofs.laws.a_run_that_ends_is_told.Goals as goal

pub returns : goal.returns
returns c = record { told = λ n F base has turns ending at status text ticks memory h. drawn-only n F (c.the_text_stands_for_the_tables.ensures.accepted n) (c.the_text_stands_for_the_tables.ensures.well_founded n) base has turns ending at status text ticks memory h }
