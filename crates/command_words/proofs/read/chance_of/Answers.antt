use Rattle.std.proofs.Common.{sym, ◌∙◌}
use Rattle.command_words.specs.Views.{given_of}
use Rattle.command_words.proofs.Made.{made-chance}
use Rattle.command_words.proofs.read.chance_of.Goals as goal

pub returns : goal.returns
returns c = made-chance (given_of c.args.given) c.args.values c.take_first-file.result c.take_first-x.result c.take_first-object.result c.take_first-file.new.self c.take_first-x.new.self c.take_first-object.new.self c.unwrap.result c.requires.taken c.requires.values (sym c.into_places-places.ensures ∙ c.take_first-file.ensures.first) c.take_first-x.ensures.first c.take_first-object.ensures.first c.unwrap.ensures
