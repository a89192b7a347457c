use Rattle.spec_reader.proofs.Parsing.{misplaced}
use Rattle.spec_reader.proofs.read_spec.syntax_at.Goals as goal

pub returns : goal.returns
returns c = misplaced c.args.tokens.now c.args.place c.index-tokens-place.result c.requires c.index-tokens-place.is
