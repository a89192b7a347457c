use Rattle.std.proofs.Common.{sym, ◌∙◌}
use Rattle.command_words.specs.Views.{given_of}
use Rattle.command_words.proofs.Made.{made-point}
use Rattle.command_words.proofs.read.point_of.Goals as goal

pub returns : goal.returns
returns c = made-point (given_of c.args.given) c.take_first.result c.take_first.new.self c.requires.taken (sym c.into_places-places.ensures ∙ c.take_first.ensures.first)
