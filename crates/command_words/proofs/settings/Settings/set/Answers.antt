use Rattle.command_words.proofs.Options.{kept-set}
use Rattle.command_words.proofs.settings.Settings.set.Goals as goal

pub returns : goal.returns
returns c = record { set = kept-set c.args.self.now.values c.args.option c.place.result c.args.value c.args.self.now.one_per_option c.place.ensures c.requires.unset }
