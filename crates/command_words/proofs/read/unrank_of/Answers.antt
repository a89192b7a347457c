use Rattle.std.proofs.Common.{sym, ◌∙◌}
use Rattle.command_words.specs.Views.{given_of}
use Rattle.command_words.proofs.Made.{made-unrank}
use Rattle.command_words.proofs.read.unrank_of.Goals as goal

pub returns : goal.returns
returns c = made-unrank (given_of c.args.given) c.args.values c.take_first.result c.take_first.new.self c.requires.taken c.requires.values (sym c.into_places-places.ensures ∙ c.take_first.ensures.first)
