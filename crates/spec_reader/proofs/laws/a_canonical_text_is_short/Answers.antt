use Rattle.spec_reader.proofs.Lengths.{canonical_few}
use Rattle.spec_reader.proofs.laws.a_canonical_text_is_short.Goals as goal

pub returns : goal.returns
returns c = record { few = canonical_few }
