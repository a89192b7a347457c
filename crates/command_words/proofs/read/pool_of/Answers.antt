use Rattle.std.proofs.Common.{sym, ◌∙◌}
use Rattle.command_words.specs.Views.{given_of}
use Rattle.command_words.proofs.Made.{made-pool}
use Rattle.command_words.proofs.read.pool_of.Goals as goal

pub returns : goal.returns
returns c = made-pool (given_of c.args.given) c.args.values c.take_first-file.result c.take_first-x.result c.take_first-schedule.result c.take_first-file.new.self c.take_first-x.new.self c.take_first-schedule.new.self c.unwrap.result c.requires.values (sym c.into_places-places.ensures ∙ c.take_first-file.ensures.first) c.take_first-x.ensures.first c.take_first-schedule.ensures.first c.unwrap.ensures
