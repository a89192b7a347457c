use Rattle.boltz.proofs.Calls.{CommandLaws, one-carried}
use Rattle.boltz.proofs.laws.each_command_has_one_outcome.Goals as goal

-- the laws of the crates of commands, which are numbered in the order of their calls
pub returns : goal.returns
returns c =
    let laws : CommandLaws =
    record {
      pool = c.the_command_has_one_outcome.ensures.one;
      verify = c.the_command_has_one_outcome-2.ensures.verify;
      migrate = c.the_command_has_one_outcome-2.ensures.migrate;
      bulk = c.the_command_has_one_outcome-3.ensures.one;
      point = c.the_command_has_one_outcome-4.ensures.one;
      chance = c.the_command_has_one_outcome-5.ensures.one;
      count = c.each_command_has_one_outcome.ensures.count;
      unrank = c.each_command_has_one_outcome.ensures.unrank;
      rank = c.each_command_has_one_outcome.ensures.rank;
    } in
    record { one = one-carried laws }
