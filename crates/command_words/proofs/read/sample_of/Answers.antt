use Rattle.std.proofs.Common.{sym, ◌∙◌}
use Rattle.command_words.specs.Views.{given_of}
use Rattle.command_words.proofs.Made.{made-sample}
use Rattle.command_words.proofs.read.sample_of.Goals as goal

pub returns : goal.returns
returns c = made-sample (given_of c.args.given) c.args.values c.take_first.result c.take_first.new.self c.unwrap.result c.in_ok-tape.tape c.fast-fast.result c.requires.taken c.requires.values (sym c.into_places-places.ensures ∙ c.take_first.ensures.first) c.unwrap.ensures c.in_ok-tape.ensures (record { is = c.fast-fast.ensures })
