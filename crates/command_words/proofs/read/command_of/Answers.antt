use Rattle.command_words.specs.Views.{given_of}
use Rattle.command_words.proofs.Made.{made-bulk}
use Rattle.command_words.proofs.read.command_of.Goals as goal

pub returns-in-Bulk : goal.returns-in-Bulk
returns-in-Bulk c = made-bulk (given_of c.args.form.given) c.args.form.name c.args.values c.in-Bulk.is c.requires.taken c.requires.values
