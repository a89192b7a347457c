-- A word is in front or not.
use Rattle.certificate.proofs.WordFronts.{word-found, word-missing}
use Rattle.certificate.proofs.fields.behind_word.Goals as goal

pub returns-clause-found : goal.returns-clause-found
returns-clause-found c = word-found c.args.word.now c.args.text.now c.strip_prefix.result c.strip_prefix.ensures.cases

pub returns-clause-none : goal.returns-clause-none
returns-clause-none c = word-missing c.args.word.now c.args.text.now c.strip_prefix.result c.strip_prefix.ensures.cases
