use Rattle.rank_commands.proofs.Complete.{ranked, too_large}
use Rattle.rank_commands.proofs.laws.what_is_read_is_ranked.Goals as goal

pub returns : goal.returns
returns c = record {
  ranked = λ f file object s body count r o belongs status text ticks fit can is text_in few counted is_rank memory h. ranked f file object s body o belongs status text ticks fit can.unlabelled can.plain is text_in (c.what_was_printed_is_read.ensures.unlabelled s) memory h can.small few count r counted is_rank;
  too_large = λ f file object s body o belongs status text ticks fit mode plain is text_in large memory h. too_large f file object s body o belongs status text ticks fit mode plain is text_in (c.what_was_printed_is_read.ensures.unlabelled s) memory h large;
}
